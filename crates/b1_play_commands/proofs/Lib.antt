pub mod Calls
pub mod Steps
pub mod Plays
pub mod Recorded
