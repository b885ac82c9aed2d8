use Rattle.std.proofs.Common.{length, ap, arith}
use Rattle.b1_model.specs.declared.parts.NodeState.TheVariants.{Dying}
use Rattle.b1_model.specs.MachineTables.{in_state}
use Rattle.b1_nodes.proofs.IndexLemmas.{IsIndex-alike}
use Rattle.b1_nodes.proofs.NodeLemmas.{length-with_nodes}
use Rattle.b1_nodes.proofs.table.NodeTable.dying.Goals as goal

pub invariant_of-self : goal.invariant_of-self
invariant_of-self c = record {
  few_peers = c.self.invariant.few_peers;
  few_nodes = omega (arith, ap length c.doom_all.ensures.nodes, length-with_nodes c.args.serials.now (in_state Dying) c.self.inside.nodes.items, c.self.invariant.few_nodes);
  nodes = c.doom_all.ensures.kept c.self.inside.peers c.self.invariant.nodes;
  rooms = c.self.invariant.rooms;
  capacity = omega (arith, c.self.invariant.capacity, c.doom_all.ensures.len, c.doom_all.ensures.capacity);
  index = IsIndex-alike c.self.inside.index c.self.inside.nodes.items c.self.invariant.index c.doom_all.new.nodes.items c.doom_all.ensures.numbers (omega (arith, c.doom_all.ensures.len));
}
