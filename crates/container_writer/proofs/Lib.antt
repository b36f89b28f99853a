pub mod Laid
pub mod Parts
pub mod Places
pub mod Stands
pub mod Written
