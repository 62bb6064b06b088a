pub mod WordLaws
pub mod FindLaws
pub mod CheckedSlotLaws
pub mod EmptyLaws
