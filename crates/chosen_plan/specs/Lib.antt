pub mod Chosen
pub mod IsPlan
