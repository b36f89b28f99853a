pub mod BitLaws
pub mod FirstLaws
pub mod SentenceLaws
pub mod VbrLaws
