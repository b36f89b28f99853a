pub mod Declared
pub mod Done
pub mod Exits
pub mod Held
pub mod Ready
