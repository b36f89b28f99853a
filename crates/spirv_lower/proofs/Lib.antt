pub mod Adding
pub mod Counts
pub mod Written
