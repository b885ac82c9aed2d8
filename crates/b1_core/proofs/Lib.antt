pub mod Attempts
pub mod Turning
pub mod Buses
pub mod Wiring
pub mod Giving
pub mod Openings
