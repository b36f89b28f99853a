pub mod MarkLaws
pub mod SeatLaws
pub mod ReadOnlyLaws
