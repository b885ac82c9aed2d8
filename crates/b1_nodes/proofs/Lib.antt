pub mod CountLemmas
pub mod NodeLemmas
pub mod IndexLemmas
pub mod Doomed
pub mod Words
