pub mod Links
pub mod Changes
pub mod Shapes
pub mod Given
pub mod Walked
pub mod Rows
