use Rattle.std.proofs.Common.{◌≡◌, drop}
use Rattle.std.specs.Prelude.{nat_lt}
use Rattle.std.specs.List.{list_any}
use Rattle.b1_model.specs.MachineTables.{count_of}
use Rattle.b1_nodes.specs.Nodes.{node_in}
use Rattle.b1_nodes.proofs.serials.has_reference.Given as goal

abbrev pub invariant-loop-serial : goal.invariant-loop-serial
invariant-loop-serial l =
    list_any (λ s. nat_lt 0 (count_of (node_in l.nodes s) l.peer)) (drop l.serial-index l.serials) ≡ list_any (λ s. nat_lt 0 (count_of (node_in l.nodes s) l.peer)) l.serials
