pub mod Asked
pub mod Rules
pub mod Helping
pub mod Seen
pub mod Checking
