pub mod HostForms
pub mod HostCalls
pub mod Runs
