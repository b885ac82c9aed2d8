pub mod Shapes
pub mod Quiet
pub mod Counts
pub mod Left
pub mod Settled
pub mod Rounded
pub mod Emptied
pub mod Opened
pub mod Ends
mod RowClientServer
mod RowThreePlaces
mod RowFullPool
mod RowQuotaOfBytes
mod RowDropBringsClock
mod RowNoticeTakenBack
mod RowRefusals
mod RowDeadHandle
mod RowLeastFree
mod RowResetDisconnect
mod RowStall
mod RowClockLimit
mod RowClockAtDestination
