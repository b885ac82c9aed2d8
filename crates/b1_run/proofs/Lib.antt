pub mod Following
pub mod Ends
pub mod Left
