pub mod Uniqueness
pub mod Answering
