pub mod PaddingLaws
pub mod NameLaws
