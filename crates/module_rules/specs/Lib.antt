pub mod Entry
pub mod Rules
pub mod Answers
