pub mod SameByMatching
pub mod Numbers
mod Searching
pub mod Texts
pub mod Sites
mod BindingsFit
mod SmallRuns
