pub mod OwnerTable
pub mod Masks
