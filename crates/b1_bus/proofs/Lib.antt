pub mod Crews
pub mod States
pub mod Joined
