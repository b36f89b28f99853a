pub mod Waiting
pub mod Rows
