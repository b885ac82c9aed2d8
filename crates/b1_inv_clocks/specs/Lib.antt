pub use Rattle.b1_inv.specs.Clocks
pub use Rattle.b1_inv.specs.Kept
