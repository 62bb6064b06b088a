pub mod Texts
pub mod Sleeves
