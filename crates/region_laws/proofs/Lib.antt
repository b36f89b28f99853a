pub mod Places
pub mod Growing
pub mod Closing
pub mod Walking
pub mod Runs
pub mod Turning
pub mod Standing
pub mod Going
