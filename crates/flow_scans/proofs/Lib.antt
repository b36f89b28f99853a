pub mod Tables
pub mod Chunks
pub mod Places
