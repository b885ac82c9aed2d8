pub mod Done
pub use Rattle.b1_model.specs.MachineParts
pub use Rattle.b1_model.specs.Opening
