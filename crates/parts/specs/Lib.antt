pub mod Numbers
pub mod Overwrites
