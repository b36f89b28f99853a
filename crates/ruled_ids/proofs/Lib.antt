pub mod Lists
pub mod Seats
pub mod SeatedParts
pub mod SeatedLines
pub mod SeatedRows
pub mod Declared
pub mod Whole
