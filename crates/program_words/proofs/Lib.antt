pub mod Idle
pub mod Whole
