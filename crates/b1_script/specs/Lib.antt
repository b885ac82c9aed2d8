pub mod Spelling
pub mod Reading
pub mod Resolving
pub mod Pieces
pub use Rattle.b1_model.specs.Script
