pub mod Work
pub mod Level
pub use Rattle.b1_inv.specs.Sound
pub use Rattle.b1_inv.specs.Words
pub use Rattle.b1_model.specs.MachineParts
pub use Rattle.b1_model.specs.MachineStep
