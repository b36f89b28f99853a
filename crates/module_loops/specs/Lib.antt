pub mod Heads
pub mod Structured
pub mod Laws
