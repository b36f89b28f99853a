pub mod Accesses
pub mod Instructions
pub mod Stated
