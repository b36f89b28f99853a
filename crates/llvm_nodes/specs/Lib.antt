pub mod Metadata
pub mod Reading
pub mod Rules
