pub mod Parts
pub mod Sums
pub mod Phases
pub mod States
pub mod Runs
pub mod Counts
