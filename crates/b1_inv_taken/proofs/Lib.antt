pub mod FlushTurns
pub mod Old
pub mod Clears
pub mod DeadHeld
pub mod Receipts
pub mod OwnSlots
