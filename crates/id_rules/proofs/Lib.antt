pub mod BlockLaws
pub mod UseLaws
pub mod KeyLaws
pub mod AgainLaws
