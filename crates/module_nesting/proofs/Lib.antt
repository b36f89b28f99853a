pub mod Leaves
pub mod Nested
pub mod Counted
pub mod Flat
pub mod Reachable
pub mod Whole
