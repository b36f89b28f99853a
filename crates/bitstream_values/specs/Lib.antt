pub mod Definitions
pub mod Entries
pub mod Forms
pub mod Numbers
pub mod Operands
pub mod Records
pub mod Rows
