pub mod FileSlots
