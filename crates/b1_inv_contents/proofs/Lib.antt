pub mod Removed
pub mod Order
pub mod Lateness
pub mod Judged
pub mod References
pub mod Arrive
