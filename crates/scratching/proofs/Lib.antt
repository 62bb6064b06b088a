pub mod ClearingLaws
pub mod WrittenLaws
pub mod ReplyLaws
pub mod FoundLaws
