use Rattle.std.proofs.Common.{◌∙◌, sym, true, false}
use Rattle.std.specs.Prelude.{nat_lt}
use Rattle.std.specs.List.{list_any}
use Rattle.b1_model.specs.MachineTables.{count_of}
use Rattle.b1_nodes.specs.Nodes.{node_in}
use Rattle.b1_nodes.proofs.NodeLemmas.{holders_more}
use Rattle.b1_nodes.proofs.serials.holders_of.Goals.{then-has_reference, else-has_reference}
use Rattle.b1_nodes.proofs.serials.holders_of.Goals as goal

pub loop-peer-preserved : goal.loop-peer-preserved
loop-peer-preserved c =
    elim c.if-has_reference.branch [
      | then-has_reference w ↦
          holders_more (λ peer. list_any (λ serial. nat_lt 0 (count_of (node_in c.args.nodes.now serial) peer)) c.args.serials.now) c.loop-peer.peer c.loop-peer.holders c.if-has_reference.holders true c.loop-peer.invariant
          (sym w.if-has_reference.true ∙ c.has_reference.ensures) (w.holders-is ∙ w.insert.ensures.peers)
      | else-has_reference w ↦
          holders_more (λ peer. list_any (λ serial. nat_lt 0 (count_of (node_in c.args.nodes.now serial) peer)) c.args.serials.now) c.loop-peer.peer c.loop-peer.holders c.if-has_reference.holders false c.loop-peer.invariant
          (sym w.if-has_reference.false ∙ c.has_reference.ensures) w.holders-is
    ]
