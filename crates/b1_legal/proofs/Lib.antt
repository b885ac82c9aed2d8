pub mod Reached
pub mod Promises
