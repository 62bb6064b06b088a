pub mod Scratches
