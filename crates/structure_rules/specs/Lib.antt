pub mod Blocks
pub mod Checking
