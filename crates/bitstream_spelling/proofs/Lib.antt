pub mod Forward
pub mod FramedLaws
pub mod Fronts
pub mod Unique
