pub mod Counts
pub mod Doom
pub mod Index
pub mod Nodes
pub use Rattle.b1_model.specs.MachineDestroy
pub use Rattle.b1_model.specs.MachineParts
pub use Rattle.b1_model.specs.MachineTables
pub use Rattle.b1_model.specs.Names
