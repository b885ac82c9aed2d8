pub mod SizeLemmas
pub mod ChangeLemmas
