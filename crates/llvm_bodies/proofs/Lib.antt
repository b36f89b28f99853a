pub mod ListLaws
pub mod KnownLaws
pub mod Keeping
pub mod Within
pub mod Reaching
