pub mod WiresLoop
pub mod Entries
pub mod PeersLoop
pub mod Scripts
pub mod Laws
mod Stops
mod Found
