pub mod Blocks
pub mod Numbered
pub mod Passes
