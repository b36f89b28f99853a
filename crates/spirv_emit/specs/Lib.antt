pub mod InstCode
pub mod Scenes
