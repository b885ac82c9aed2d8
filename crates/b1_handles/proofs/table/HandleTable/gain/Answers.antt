use Rattle.std.proofs.Common.{◌<◌, ◌≤◌, ap, arith, subst, sym}
use Rattle.b1_model.specs.MachineParts.{record_or_none}
use Rattle.b1_handles.specs.Handles.{Handles}
use Rattle.b1_model.specs.MachineTables.{next_number}
use Rattle.b1_handles.proofs.Kept.{kept-gained, some_flights}
use Rattle.b1_handles.proofs.table.HandleTable.gain.Goals as goal

pub overflow_sub-self : goal.overflow_sub-self
overflow_sub-self c = some_flights c.args.node c.self.inside.records c.self.inside.numbers.names c.self.inside.flights c.self.inside.numbers.spare c.self.invariant (subst (λ (t : Handles). 0 < (record_or_none c.args.node t.records).flight) (sym c.self.view_is) c.requires.carried)

pub count-requires-clause-room : goal.count-requires-clause-room
count-requires-clause-room c = λ new.
    let some : 1 ≤ c.self.inside.flights = some_flights c.args.node c.self.inside.records c.self.inside.numbers.names c.self.inside.flights c.self.inside.numbers.spare c.self.invariant (subst (λ (t : Handles). 0 < (record_or_none c.args.node t.records).flight) (sym c.self.view_is) c.requires.carried) in
    let room = c.self.invariant.room in
    omega (arith, some, room)

pub invariant_of-self : goal.invariant_of-self
invariant_of-self c =
    rw (c.gain-held.ensures.records, c.count.ensures.names, c.count.ensures.spare)
    (kept-gained c.args.node c.self.inside.records c.self.inside.numbers.names c.self.inside.flights c.self.inside.numbers.spare c.self.invariant c.gain-held.result.is_new _ (ap next_number c.len.ensures.len) c.gain-held.ensures.is_new (subst (λ (t : Handles). 0 < (record_or_none c.args.node t.records).flight) (sym c.self.view_is) c.requires.carried))
