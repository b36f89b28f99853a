pub mod Kept
pub mod Members
pub mod Slots
pub mod Whole
