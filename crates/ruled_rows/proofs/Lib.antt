pub mod Pieces
pub mod Readiness
pub mod Regions
pub mod Exits
pub mod Rows
pub mod Leaves
pub mod Wiring
pub mod Whole
