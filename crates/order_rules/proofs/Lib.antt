pub mod OrderLaws
pub mod MergeLaws
