pub use Rattle.b1_model.specs.Legal
pub use Rattle.b1_model.specs.Opening
pub use Rattle.b1_schedule.specs.Schedule
