pub mod Fitting
pub mod Standing
pub mod Types
pub mod Whole
