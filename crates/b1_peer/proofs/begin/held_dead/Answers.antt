use Rattle.std.proofs.Common.{sym, ◌∙◌}
use Rattle.b1_peer.proofs.KeptBegins.{held_gone, held_still}
use Rattle.b1_peer.proofs.begin.held_dead.Goals as goal

pub returns-then-is_dead : goal.returns-then-is_dead
returns-then-is_dead c = held_gone c.args.number c.args.handles.now.records c.in_ok-node.node c.is_dead.result c.requires (sym c.node_of.ensures ∙ c.in_ok-node.was) c.is_dead.ensures c.if-is_dead.true

pub returns-else-is_dead : goal.returns-else-is_dead
returns-else-is_dead c = held_still c.args.number c.args.handles.now.records c.in_ok-node.node c.is_dead.result c.requires (sym c.node_of.ensures ∙ c.in_ok-node.was) c.is_dead.ensures c.if-is_dead.false
