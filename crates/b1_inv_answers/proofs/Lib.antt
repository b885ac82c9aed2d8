pub mod Phases
pub mod Starts
pub mod Answered
