pub mod Trees
pub mod Needed
pub mod Types
pub mod Counted
pub mod Whole
