pub mod Simulation
pub mod Budget
pub mod SmallRuns
pub mod EdgeRuns
