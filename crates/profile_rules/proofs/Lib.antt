pub mod ListLaws
pub mod SetLaws
pub mod PhiLaws
pub mod FromLaws
pub mod Totals
pub mod SeenLaws
pub mod CheckLaws
