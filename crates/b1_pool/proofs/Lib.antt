pub mod PlaceLemmas
pub mod SliceLemmas
pub mod FitLemmas
pub mod PoolLemmas
pub mod UsedLemmas
pub mod OrderLemmas
pub mod FreeLemmas
