pub mod Pool
pub mod Calls
pub mod Setters
pub mod Values
