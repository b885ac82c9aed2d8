pub mod Workers
pub mod Standing
pub mod Runs
