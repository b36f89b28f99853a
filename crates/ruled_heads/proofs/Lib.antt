pub mod Table
pub mod Reach
pub mod Declared
pub mod Heads
pub mod Sites
pub mod Whole
