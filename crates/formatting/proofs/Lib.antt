pub mod MapSectorLaws
pub mod FreshLaws
pub mod ReplyLaws
