use Rattle.std.proofs.Common.{ap, ◌∙◌}
use Rattle.b1_model.specs.MachineTables.{held_node}
use Rattle.b1_handles.specs.Handles.{Handles}
use Rattle.b1_handles.proofs.Kept.{under_is}
use Rattle.b1_handles.proofs.table.HandleTable.node_of.Goals as goal

pub returns : goal.returns
returns c =
    c.node_in.ensures
    ∙ under_is (record { owner = 0; serial = 0 }) c.self.inside.records c.self.inside.numbers.names c.self.inside.flights c.self.inside.numbers.spare c.self.invariant c.args.number
    ∙ ap (λ (t : Handles). held_node c.args.number t.records) c.self.view_is
