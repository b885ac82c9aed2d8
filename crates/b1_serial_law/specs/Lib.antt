pub mod Ample
pub use Rattle.b1_model.specs.Opening
pub use Rattle.b1_schedule.specs.Schedule
pub use Rattle.b1_schedule.specs.Shortage
pub use Rattle.b1_serial_bus.specs.Report
