pub mod After
pub mod Once
pub mod Visits
