pub mod Texts
pub mod LineRuns
pub mod Gathering
pub mod Faults
pub mod Places
pub mod Fits
