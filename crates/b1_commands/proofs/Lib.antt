pub mod Refusals
pub mod Under
pub mod Ended
