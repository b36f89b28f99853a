pub mod Lists
pub mod Bodies
pub mod Rules
pub mod Reading
