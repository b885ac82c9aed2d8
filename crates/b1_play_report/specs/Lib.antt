pub mod Limits
pub use Rattle.b1_model.specs.MachineParts
pub use Rattle.b1_model.specs.MachineStep
pub use Rattle.b1_model.specs.Opening
pub use Rattle.b1_play_commands.specs.Following
pub use Rattle.b1_report.specs.Report
pub use Rattle.b1_schedule.specs.Schedule
