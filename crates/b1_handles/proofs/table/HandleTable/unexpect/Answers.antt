use Rattle.std.proofs.Common.{◌<◌, subst, sym}
use Rattle.b1_model.specs.MachineParts.{record_or_none}
use Rattle.b1_handles.specs.Handles.{Handles}
use Rattle.b1_handles.proofs.Kept.{kept-carried, some_flights}
use Rattle.b1_handles.proofs.table.HandleTable.unexpect.Goals as goal

pub overflow_sub-self : goal.overflow_sub-self
overflow_sub-self c = some_flights c.args.node c.self.inside.records c.self.inside.numbers.names c.self.inside.flights c.self.inside.numbers.spare c.self.invariant (subst (λ (t : Handles). 0 < (record_or_none c.args.node t.records).flight) (sym c.self.view_is) c.requires)

pub invariant_of-self : goal.invariant_of-self
invariant_of-self c = rw c.unexpect.ensures (kept-carried c.args.node c.self.inside.records c.self.inside.numbers.names c.self.inside.flights c.self.inside.numbers.spare c.self.invariant (subst (λ (t : Handles). 0 < (record_or_none c.args.node t.records).flight) (sym c.self.view_is) c.requires))
