use Rattle.std.proofs.Common.{length, ap, arith}
use Rattle.b1_model.specs.declared.parts.NodeState.TheVariants.{Destroyed}
use Rattle.b1_model.specs.MachineTables.{in_state}
use Rattle.b1_nodes.proofs.IndexLemmas.{IsIndex-alike}
use Rattle.b1_nodes.proofs.NodeLemmas.{length-with_nodes}
use Rattle.b1_nodes.proofs.table.NodeTable.stamped.Goals as goal

pub invariant_of-self : goal.invariant_of-self
invariant_of-self c = record {
  few_peers = c.self.invariant.few_peers;
  few_nodes = omega (arith, ap length c.destroy_all.ensures.nodes, length-with_nodes c.args.serials.now (in_state (Destroyed c.args.stamp)) c.self.inside.nodes.items, c.self.invariant.few_nodes);
  nodes = c.destroy_all.ensures.kept c.self.inside.peers c.self.invariant.nodes;
  rooms = c.self.invariant.rooms;
  capacity = omega (arith, c.self.invariant.capacity, c.destroy_all.ensures.len, c.destroy_all.ensures.capacity);
  index = IsIndex-alike c.self.inside.index c.self.inside.nodes.items c.self.invariant.index c.destroy_all.new.nodes.items c.destroy_all.ensures.numbers (omega (arith, c.destroy_all.ensures.len));
}
