pub mod Plans
pub mod Decisions
pub mod Writes
