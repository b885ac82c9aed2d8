pub mod Report
pub mod Parsing
pub mod Runs
