pub mod Roles
pub mod Ids
pub mod Places
