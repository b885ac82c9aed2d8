pub mod Events
pub mod Runs
pub mod Finished
pub mod Shown
