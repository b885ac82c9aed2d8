pub mod Promises
pub use Rattle.b1_inv.specs.Sound
pub use Rattle.b1_inv_record.specs.Right
pub use Rattle.b1_model.specs.Legal
pub use Rattle.b1_model.specs.MachineOrder
pub use Rattle.b1_model.specs.MachineParts
pub use Rattle.b1_model.specs.MachineStep
pub use Rattle.b1_model.specs.Opening
