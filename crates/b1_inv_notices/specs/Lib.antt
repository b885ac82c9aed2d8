pub use Rattle.b1_inv.specs.Kept
pub use Rattle.b1_inv.specs.Notices
pub use Rattle.b1_inv.specs.Stamps
