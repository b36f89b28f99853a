pub mod Defined
pub mod Types
pub mod Interfaces
pub mod Whole
