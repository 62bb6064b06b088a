pub mod ChainReads
pub mod FileSlots
pub mod Replies
