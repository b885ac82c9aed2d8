pub mod Lens
pub mod Calls
pub mod Turns
pub mod Parts
pub mod Steps
pub mod Kept
pub mod Used
