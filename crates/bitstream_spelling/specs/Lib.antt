pub mod Framed
pub mod Laws
pub mod Layout
pub mod Rules
pub mod Spelling
