pub use Rattle.b1_inv.specs.Kept
pub use Rattle.b1_inv.specs.Numbers
pub use Rattle.b1_inv.specs.References
