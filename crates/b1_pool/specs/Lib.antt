pub mod Slices
pub mod Bytes
pub mod Places
