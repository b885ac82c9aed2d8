pub use Rattle.b1_model.specs.MachineParts
pub use Rattle.b1_model.specs.MachineStep
pub use Rattle.b1_model.specs.Opening
pub use Rattle.b1_serial_bus.specs.Commands
pub use Rattle.b1_serial_rest.specs.Rest
pub use Rattle.b1_serial_rest.specs.Whole
