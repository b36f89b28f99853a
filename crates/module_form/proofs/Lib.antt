pub mod Gathered
pub mod Integers
pub mod Whole
