pub mod Generated
pub mod Counted
