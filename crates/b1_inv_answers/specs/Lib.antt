pub mod Answers
pub use Rattle.b1_inv.specs.Sound
pub use Rattle.b1_model.specs.MachineParts
pub use Rattle.b1_model.specs.MachineStep
pub use Rattle.b1_model.specs.Opening
