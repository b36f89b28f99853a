pub mod IdLaws
pub mod PlaceLaws
