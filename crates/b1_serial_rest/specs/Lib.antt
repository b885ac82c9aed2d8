pub mod Standing
pub mod Rest
pub mod Alone
pub mod Unheld
pub mod Whole
