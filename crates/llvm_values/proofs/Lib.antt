pub mod Checking
pub mod Listing
pub mod RuleLaws
pub mod Symbols
