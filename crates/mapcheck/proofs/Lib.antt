pub mod DifferenceLaws
pub mod TrackLaws
pub mod StepLaws
