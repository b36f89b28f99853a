pub mod Dispatching
