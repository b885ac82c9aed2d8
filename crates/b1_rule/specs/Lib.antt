pub mod Known
pub mod Rule
pub mod Plays
pub use Rattle.b1_event.specs.Borne
pub use Rattle.b1_event.specs.Events
pub use Rattle.b1_model.specs.MachineStep
pub use Rattle.b1_model.specs.Opening
