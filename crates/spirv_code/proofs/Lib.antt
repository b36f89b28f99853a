pub mod Follows
pub mod SmallModules
pub mod TreeLaws
