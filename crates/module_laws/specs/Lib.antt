pub mod Rules
pub mod Loops
pub mod Laws
