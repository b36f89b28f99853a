pub mod Bits
pub mod Cursor
pub mod First
pub mod Sentences
pub mod WordBytes
