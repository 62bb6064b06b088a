pub mod HostLaws
pub mod TellLaws
pub mod RunServed
pub mod HostTable
