pub mod Entry
pub mod Law
