pub mod Answers
pub mod Defining
pub mod Entering
pub mod Given
pub mod Kinds
pub mod Naming
pub mod Places
pub mod Steps
