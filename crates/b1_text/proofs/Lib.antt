pub mod Texts
pub mod Sends
pub mod Records
pub mod Entries
pub mod Lengths
pub mod Judging
pub mod Runs
pub mod Made
pub mod Fitting
pub mod Follow
pub mod Faults
pub mod Answers
pub mod Cuts
pub mod Firsts
pub mod Begins
pub mod Parts
pub mod Wires
pub mod Loads
pub mod CommandLines
pub mod SpecLines
pub mod NextLines
pub mod Injective
pub mod Breaks
mod Short
mod Somewhere
