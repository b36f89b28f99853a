pub mod FileWordLaws
pub mod HeaderLaws
pub mod InstLaws
pub mod ModuleLaws
pub mod OperandLaws
pub mod RoundTrip
pub mod WrittenLaws
