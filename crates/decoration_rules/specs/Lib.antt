pub mod Decorations
pub mod Variables
pub mod ReadOnly
