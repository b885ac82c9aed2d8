pub mod Needs
pub mod PeerOk
pub mod Changes
