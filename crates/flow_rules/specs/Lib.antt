pub mod Answers
pub mod Blocks
pub mod Flow
pub mod Kept
pub mod Lists
pub mod Rules
