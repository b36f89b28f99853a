pub mod Held
pub mod Shapes
pub mod Operands
pub mod Formed
pub mod Versions
pub mod Words
pub mod WordRules
