pub mod Accounts
pub mod Charges
pub use Rattle.b1_model.specs.MachineTables
