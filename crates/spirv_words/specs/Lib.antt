pub mod FileWords
pub mod Reading
pub mod Written
