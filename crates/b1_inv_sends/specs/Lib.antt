pub use Rattle.b1_inv.specs.Kept
pub use Rattle.b1_inv.specs.References
pub use Rattle.b1_inv.specs.Sends
pub use Rattle.b1_inv.specs.Stages
