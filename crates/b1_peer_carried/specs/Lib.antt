pub mod Carry
pub use Rattle.b1_model.specs.MachineDestroy
pub use Rattle.b1_model.specs.MachineParts
pub use Rattle.b1_model.specs.MachineReceive
pub use Rattle.b1_model.specs.MachineTables
