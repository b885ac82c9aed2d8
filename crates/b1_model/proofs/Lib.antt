mod Rows
mod StableSort
mod BusOrder
mod PeerLemmas
pub mod HeldLemmas
