pub mod Places
pub mod Backward
pub mod Turns
pub mod Bits
pub mod Steps
pub mod States
pub mod Moves
pub mod Ends
