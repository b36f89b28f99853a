pub mod Shader
pub mod Laws
