pub mod Course
pub use Rattle.b1_model.specs.MachineOrder
pub use Rattle.b1_model.specs.Opening
pub use Rattle.b1_schedule.specs.Schedule
