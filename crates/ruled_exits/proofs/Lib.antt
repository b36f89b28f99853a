pub mod Arms
pub mod Chosen
pub mod Chunks
pub mod Loops
pub mod Switches
pub mod Tested
pub mod Wants
pub mod Whole
