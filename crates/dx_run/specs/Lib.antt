pub mod Commands
pub mod CommandLine
pub mod Answers
pub mod Runs
pub mod Outputs
