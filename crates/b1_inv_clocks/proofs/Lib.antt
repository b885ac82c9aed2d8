pub mod Counts
pub mod ClockTurns
pub mod ClockEvents
pub mod ClocksLaw
pub mod ClocksBegin
