pub mod Barriers
pub mod Lines
pub mod Loads
pub mod Sources
pub mod Stores
pub mod Whole
