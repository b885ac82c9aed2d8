pub mod Events
pub mod Borne
pub use Rattle.b1_model.specs.MachineDriver
pub use Rattle.b1_model.specs.MachineParts
pub use Rattle.b1_model.specs.MachineStep
pub use Rattle.b1_model.specs.Opening
