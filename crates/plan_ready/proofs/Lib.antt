pub mod Among
pub mod Base
pub mod Following
pub mod Lines
pub mod Operands
pub mod Parts
pub mod Tables
pub mod Whole
