pub mod RuleLaws
pub mod ModuleLaws
