pub mod Rights
pub mod Fixed
pub mod Ordered
pub mod Laws
pub use Rattle.b1_model.specs.MachineParts
pub use Rattle.b1_model.specs.MachineStep
pub use Rattle.b1_model.specs.MachineTook
