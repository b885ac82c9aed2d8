pub mod AccountLemmas
pub mod QuotaLemmas
