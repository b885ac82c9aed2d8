pub mod ListLemmas
pub mod RowLemmas
pub mod NameLemmas
pub mod TiedLemmas
pub mod CommitLemmas
pub mod NoticeLemmas
pub mod MailLemmas
pub mod ChargeLemmas
