pub mod Records
pub mod Left
pub mod Given
pub mod Visited
