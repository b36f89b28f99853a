pub mod FactLaws
pub mod FewLaws
pub mod FirstOfBoth
