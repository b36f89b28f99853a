pub mod Finding
pub mod Marked
pub mod Whole
