pub mod Shown
pub mod Answering
pub mod Leaving
