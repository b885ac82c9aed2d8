pub mod Seated
pub use Rattle.b1_locks.specs.Faces
pub use Rattle.b1_event.specs.Borne
pub use Rattle.b1_model.specs.Legal
pub use Rattle.b1_model.specs.MachineParts
pub use Rattle.b1_model.specs.MachineStep
pub use Rattle.b1_model.specs.Opening
pub use Rattle.b1_rule.specs.Rule
