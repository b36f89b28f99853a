pub mod Edges
pub mod Ends
pub mod Groups
pub mod Leaving
pub mod Starts
pub mod Targets
pub mod Whole
