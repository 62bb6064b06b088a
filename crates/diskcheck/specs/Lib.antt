pub mod Chains
pub mod EndTable
pub mod SlotChecks
pub mod ImageChecks
