pub mod Keeps
pub use Rattle.b1_event.specs.Borne
pub use Rattle.b1_event.specs.Events
pub use Rattle.b1_model.specs.MachineStep
pub use Rattle.b1_model.specs.Opening
pub use Rattle.b1_rule.specs.Plays
pub use Rattle.b1_rule.specs.Rule
