pub mod Stages
pub mod Parts
pub mod Kept
pub use Rattle.b1_model.specs.MachineDriver
pub use Rattle.b1_model.specs.MachineEvents
pub use Rattle.b1_model.specs.MachineStep
pub use Rattle.b1_model.specs.MachineTook
