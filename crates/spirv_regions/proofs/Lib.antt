pub mod ArmLabels
pub mod Arms
pub mod Nodes
pub mod Places
pub mod Selections
pub mod Written
