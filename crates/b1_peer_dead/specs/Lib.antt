pub mod Buffers
pub mod Dead
pub use Rattle.b1_model.specs.MachineReceive
