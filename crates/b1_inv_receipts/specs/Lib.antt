pub use Rattle.b1_inv.specs.Kept
pub use Rattle.b1_inv.specs.Receipts
pub use Rattle.b1_model.specs.MachineStep
