pub mod Counts
pub mod Given
