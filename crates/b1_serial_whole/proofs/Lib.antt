pub mod Whole
pub mod Told
pub mod Quiet
pub mod Counted
pub mod Determined
