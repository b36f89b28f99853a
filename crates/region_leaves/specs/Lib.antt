pub mod Leaves
pub mod Edges
