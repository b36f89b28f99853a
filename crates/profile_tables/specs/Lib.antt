pub mod EntryBody
pub mod Kinds
pub mod Places
pub mod Resources
pub mod Parts
pub mod Operands
pub mod Read
pub mod Tables
