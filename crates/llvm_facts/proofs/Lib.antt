pub mod FaultLaws
pub mod NumberLaws
pub mod Numbers
pub mod RootLaws
pub mod RowLaws
pub mod TagLaws
