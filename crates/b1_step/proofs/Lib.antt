pub mod RowWords
pub mod Steps
pub mod Lists
pub mod Queues
pub mod Records
pub mod Orders
pub mod Lookups
pub mod Changed
pub mod Memory
pub mod Clocks
pub mod Kept
pub mod Drivers
pub mod Growth
pub mod Rises
pub mod Locality
pub mod Numbers
pub mod InOrder
mod RowAnswerAfter
mod RowAttachAfter
mod RowAttachExchanged
mod RowAttachWhileDying
mod RowClientServer
mod RowClockAtDestination
mod RowClockLimit
mod RowDeadHandle
mod RowDestroyedFirst
mod RowDisconnect
mod RowDropBringsClock
mod RowDropOnItsWay
mod RowFullPool
mod RowLeastFree
mod RowNotYetSynced
mod RowNoticeTakenBack
mod RowOneMessage
mod RowQuotaOfBytes
mod RowRefusals
mod RowReleaseNotice
mod RowResetCancels
mod RowSecondPass
mod RowSentFirst
mod RowStagedFront
mod RowSyncedFirst
mod RowThreePlaces
mod RowTwoMulticasts
