pub mod Branching
pub mod Marking
pub mod Reaching
pub mod Placing
pub mod Rooted
