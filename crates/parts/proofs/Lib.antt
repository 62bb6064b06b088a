pub mod PartLaws
pub mod EqualLaws
pub mod NumberLaws
pub mod OverwriteLaws
