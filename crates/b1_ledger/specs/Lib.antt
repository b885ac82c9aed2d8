pub mod Growth
pub mod Ends
pub use Rattle.b1_model.specs.Keys
pub use Rattle.b1_model.specs.Ledger
pub use Rattle.b1_model.specs.Legal
pub use Rattle.b1_model.specs.Names
