pub mod Arrays
pub mod EntryLaws
pub mod FormLaws
pub mod Operands
pub mod Parts
pub mod Records
pub mod Taking
pub mod Written
