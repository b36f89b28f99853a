pub mod Lines
pub mod Rows
pub mod Placed
pub mod Whole
