pub mod BehindLaws
pub mod TrackLaws
pub mod OrderLaws
pub mod PlaceLaws
