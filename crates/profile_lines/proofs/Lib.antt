pub mod Operations
pub mod SetterLaws
