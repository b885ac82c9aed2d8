pub mod Lemmas
pub mod Plays
pub mod Complete
pub mod Inputs
