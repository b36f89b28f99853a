pub mod Basics
pub mod Seq
pub mod Arms
pub mod Select
pub mod Cycle
pub mod Words
pub mod Whole
