pub mod Sifts
pub mod InOrder
pub mod Places
pub mod Moves
pub mod Changes
pub mod Edits
