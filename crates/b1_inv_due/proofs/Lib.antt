pub mod Totals
pub mod Notified
pub mod Stays
pub mod Comes
pub mod Fronts
pub mod Goes
pub mod Due
