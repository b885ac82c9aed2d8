pub mod Keeps
pub mod Plays
