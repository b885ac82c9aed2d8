pub mod Handles
pub mod Kept
pub mod Numbers
pub mod Records
pub use Rattle.b1_model.specs.MachineDestroy
pub use Rattle.b1_model.specs.MachineParts
pub use Rattle.b1_model.specs.MachineTables
