pub mod Layers
pub mod Reading
pub mod Laws
