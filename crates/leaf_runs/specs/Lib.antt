pub mod Begun
pub mod Between
pub mod BlockReady
pub mod Laws
