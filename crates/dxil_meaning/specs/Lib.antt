pub mod Arithmetic
pub mod Launches
pub mod Source
pub mod Fits
pub mod Rows
pub mod Edges
pub mod Steps
