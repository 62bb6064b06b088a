pub mod ChainStepLaws
pub mod CopyLaws
pub mod FileLaws
pub mod ReplyLaws
pub mod FoundLaws
