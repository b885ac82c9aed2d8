pub mod KeptLemmas
pub mod OrderLemmas
pub mod CandidateLemmas
pub mod ContentsLemmas
pub mod WalkLemmas
pub mod JudgedLemmas
pub mod Behind
