pub mod Lists
pub mod Drops
pub mod Fitting
pub mod Took
mod Listing
