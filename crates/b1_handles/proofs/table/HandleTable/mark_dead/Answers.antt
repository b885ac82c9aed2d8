use Rattle.std.proofs.Common.{refl}
use Rattle.b1_model.specs.MachineTables.{made_dead}
use Rattle.b1_handles.proofs.Kept.{kept-quiet}
use Rattle.b1_handles.proofs.table.HandleTable.mark_dead.Goals as goal

pub invariant_of-self : goal.invariant_of-self
invariant_of-self c =
    rw c.mark_dead.ensures
    (kept-quiet c.args.node c.self.inside.records c.self.inside.numbers.names c.self.inside.flights c.self.inside.numbers.spare c.self.invariant made_dead (λ h. refl) (λ h. refl) (λ h. refl) (λ h. refl))
