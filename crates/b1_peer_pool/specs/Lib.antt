pub mod Words
pub mod Slices
pub mod Content
pub mod Stored
pub use Rattle.b1_model.specs.MachinePool
pub use Rattle.b1_pool.specs.Bytes
