pub mod Roots
pub mod Paths
pub mod Laws
pub mod Standing
