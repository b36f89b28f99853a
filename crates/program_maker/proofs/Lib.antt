pub mod ListLaws
pub mod BlockLaws
pub mod MarkLaws
pub mod OrderLaws
pub mod RankLaws
pub mod Fits
pub mod TableLaws
