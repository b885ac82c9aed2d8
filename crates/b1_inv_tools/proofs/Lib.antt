pub mod Leaves
pub mod Received
pub mod Grows
pub mod Comes
pub mod Openings
pub mod Facts
