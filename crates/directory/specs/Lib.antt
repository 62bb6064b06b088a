pub mod Directories
pub mod NameWords
pub mod Walks
