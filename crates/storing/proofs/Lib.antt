pub mod ReplyLaws
pub mod RoomLaws
pub mod DecisionLaws
pub mod SectorWriteLaws
pub mod ChainWriteLaws
pub mod EntryWriteLaws
pub mod WriteReadyLaws
pub mod FileWriteLaws
