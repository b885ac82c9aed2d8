pub mod Words
pub mod Fits
pub mod Found
pub mod Laws
pub mod Kept
pub mod Bytes
pub mod Holding
pub mod Filling
