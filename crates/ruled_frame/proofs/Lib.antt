pub mod Early
pub mod Marks
pub mod Whole
