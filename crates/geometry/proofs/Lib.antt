pub mod Every
pub mod TableLaws
pub mod LentTableLaws
pub mod MapPlaceLaws
