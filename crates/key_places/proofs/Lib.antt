pub mod Searching
pub mod Sorting
pub mod PlaceLaws
