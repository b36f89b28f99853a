pub mod Steps
pub mod Ends
pub mod Standing
pub mod Pieces
pub mod Rows
pub mod Function
