pub mod FewBlocks
pub mod Made
pub mod Numbered
pub mod Passing
pub mod Rising
pub mod Seconds
pub mod Steps
pub mod TableLaws
