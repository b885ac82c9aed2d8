use Rattle.std.proofs.Common.{ap, sym, ◌∙◌}
use Rattle.b1_model.specs.MachineTables.{held_node}
use Rattle.b1_handles.specs.Handles.{Handles}
use Rattle.b1_handles.proofs.Kept.{kept-released, released_held, under_is}
use Rattle.b1_handles.proofs.table.HandleTable.give_up.Goals as goal

pub returns-in_default-clause-answer : goal.returns-in_default-clause-answer
returns-in_default-clause-answer c =
    sym (ap (λ (t : Handles). held_node c.args.number t.records) c.self.view_is)
    ∙ sym (under_is (record { owner = 0; serial = 0 }) c.self.inside.records c.self.inside.numbers.names c.self.inside.flights c.self.inside.numbers.spare c.self.invariant c.args.number)
    ∙ sym c.node_in.ensures
    ∙ c.in_default.is

pub release-ended-requires : goal.release-ended-requires
release-ended-requires c = released_held c.in-Some.node c.self.inside.records c.self.inside.numbers.names c.self.inside.flights c.self.inside.numbers.spare c.self.invariant c.args.number (sym c.node_in.ensures ∙ c.in-Some.is)

pub invariant_of-self : goal.invariant_of-self
invariant_of-self c =
    rw (c.release-ended.ensures.records, c.end_if.ensures.names)
    (kept-released c.in-Some.node c.self.inside.records c.self.inside.numbers.names c.self.inside.flights c.self.inside.numbers.spare c.self.invariant c.args.number (sym c.node_in.ensures ∙ c.in-Some.is) c.release-ended.result c.end_if.new.numbers.spare c.release-ended.ensures.ended c.end_if.ensures.spare)
