use Rattle.std.proofs.Common.{List, ap, length, ◌∙◌, Option}
use Rattle.b1_model.specs.declared.naming.NodeRef.{NodeRef}
use Rattle.b1_model.specs.MachineTables.{next_number}
use Rattle.b1_handles.proofs.Kept.{kept-wired}
use Rattle.b1_handles.proofs.table.HandleTable.wire.Goals as goal

pub invariant_of-self-2 : goal.invariant_of-self-2
invariant_of-self-2 c =
    rw (c.in_ok-held.ensures.records, c.count.ensures.names, c.count.ensures.spare, c.reserve_one.ensures.names)
    (kept-wired c.args.node c.self.inside.records c.self.inside.numbers.names c.self.inside.flights c.self.inside.numbers.spare c.self.invariant c.in_ok-held.held.is_new _ c.reserve_one.new.numbers.spare (ap next_number c.len.ensures.len ∙ ap (λ (ns : List (Option NodeRef)). next_number (length ns)) c.reserve_one.ensures.names) c.in_ok-held.ensures.is_new c.in_ok-reserve_one.ensures.room)
