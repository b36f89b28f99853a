pub mod Small
pub mod Ways
