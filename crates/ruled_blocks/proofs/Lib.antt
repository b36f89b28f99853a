pub mod Phis
pub mod Edges
pub mod Whole
