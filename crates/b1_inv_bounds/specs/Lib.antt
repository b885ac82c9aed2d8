pub use Rattle.b1_inv.specs.Bounds
pub use Rattle.b1_inv.specs.Kept
