pub mod Held
pub use Rattle.b1_script.specs.Spelling
pub use Rattle.b1_script.specs.Reading
