pub mod Steps
pub mod Moves
pub mod Rests
pub mod Rounds
pub mod Drains
pub mod Scripts
pub mod Plays
