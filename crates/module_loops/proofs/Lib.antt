pub mod Lower
pub mod Tree
pub mod Wiring
pub mod Sums
pub mod Whole
