pub mod Begun
pub mod Grown
pub mod Quiet
pub mod Attaches
pub mod Counted
pub mod Adds
pub mod Bounded
pub mod Opened
