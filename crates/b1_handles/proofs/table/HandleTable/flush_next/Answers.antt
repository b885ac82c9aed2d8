use Rattle.std.proofs.Common.{◌≤◌, ℕ, List, [], ◌∷◌, length, ap, sym, subst, ◌∙◌}
use Rattle.b1_model.specs.MachineParts.{HandleRecord, record_of}
use Rattle.b1_model.specs.MachineDestroy.{held_items}
use Rattle.b1_handles.specs.Handles.{Handles, without_node}
use Rattle.b1_handles.proofs.Flush.{fewer, kept-some, next_is, one_is, under}
use Rattle.b1_handles.proofs.table.HandleTable.flush_next.Goals as goal

pub unreachable-requires : goal.unreachable-requires
unreachable-requires c = let e = sym c.in_default-remove.is ∙ c.remove.ensures.record ∙ (under c.self.inside.records c.self.inside.numbers.names c.end_first.new.self.names c.self.inside.flights c.self.inside.numbers.spare c.end_first.new.self.spare c.self.invariant c.in-Some.first c.in-Some.ensures.first).found in cc

pub overflow_sub-self : goal.overflow_sub-self
overflow_sub-self c =
    let one = one_is (under c.self.inside.records c.self.inside.numbers.names c.end_first.new.self.names c.self.inside.flights c.self.inside.numbers.spare c.end_first.new.self.spare c.self.invariant c.in-Some.first c.in-Some.ensures.first).one c.in-Some-remove.handle (record_of c.in-Some.first.node c.self.inside.records) (under c.self.inside.records c.self.inside.numbers.names c.end_first.new.self.names c.self.inside.flights c.self.inside.numbers.spare c.end_first.new.self.spare c.self.invariant c.in-Some.first c.in-Some.ensures.first).found (sym c.remove.ensures.record ∙ c.in-Some-remove.is) in
    subst (λ (n : ℕ). n ≤ c.self.inside.flights) (ap (λ (h : HandleRecord). h.flight) one ∙ sym c.flight.ensures) (fewer c.self.inside.records c.self.inside.numbers.names c.end_first.new.self.names c.self.inside.flights c.self.inside.numbers.spare c.end_first.new.self.spare c.self.invariant c.in-Some.first c.in-Some.ensures.first)

pub invariant_of-self-2 : goal.invariant_of-self-2
invariant_of-self-2 c =
    let one = one_is (under c.self.inside.records c.self.inside.numbers.names c.end_first.new.self.names c.self.inside.flights c.self.inside.numbers.spare c.end_first.new.self.spare c.self.invariant c.in-Some.first c.in-Some.ensures.first).one c.in-Some-remove.handle (record_of c.in-Some.first.node c.self.inside.records) (under c.self.inside.records c.self.inside.numbers.names c.end_first.new.self.names c.self.inside.flights c.self.inside.numbers.spare c.end_first.new.self.spare c.self.invariant c.in-Some.first c.in-Some.ensures.first).found (sym c.remove.ensures.record ∙ c.in-Some-remove.is) in
    rw (c.remove.ensures.records, c.flight.ensures, ← (ap (λ (h : HandleRecord). h.flight) one)) (kept-some c.self.inside.records c.self.inside.numbers.names c.end_first.new.self.names c.self.inside.flights c.self.inside.numbers.spare c.end_first.new.self.spare c.self.invariant c.in-Some.first c.in-Some.ensures.first c.end_first.ensures.more)

pub returns-clause-next : goal.returns-clause-next
returns-clause-next c =
    let one = one_is (under c.self.inside.records c.self.inside.numbers.names c.end_first.new.self.names c.self.inside.flights c.self.inside.numbers.spare c.end_first.new.self.spare c.self.invariant c.in-Some.first c.in-Some.ensures.first).one c.in-Some-remove.handle (record_of c.in-Some.first.node c.self.inside.records) (under c.self.inside.records c.self.inside.numbers.names c.end_first.new.self.names c.self.inside.flights c.self.inside.numbers.spare c.end_first.new.self.spare c.self.invariant c.in-Some.first c.in-Some.ensures.first).found (sym c.remove.ensures.record ∙ c.in-Some-remove.is) in
    ap (λ (t : Handles). held_items t.given t.records) (sym c.self.view_is)
    ∙ next_is c.self.inside.records c.self.inside.numbers.names c.end_first.new.self.names c.self.inside.flights c.self.inside.numbers.spare c.end_first.new.self.spare c.self.invariant c.in-Some.first c.in-Some.ensures.first
    ∙ ap (λ (n : ℕ). ((c.in-Some.first.node, n) ∷ []) ∷ held_items (length c.end_first.new.self.names) (without_node c.in-Some.first.node c.self.inside.records)) (ap (λ (h : HandleRecord). h.held) one ∙ sym c.held.ensures)
    ∙ ap (λ (hs : List HandleRecord). ((c.in-Some.first.node, c.held.result) ∷ []) ∷ held_items (length c.end_first.new.self.names) hs) (sym c.remove.ensures.records)
