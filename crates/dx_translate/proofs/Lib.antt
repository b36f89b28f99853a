pub mod VerdictLaws
pub mod Unique
