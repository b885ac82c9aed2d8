use Rattle.std.proofs.Common.{◌≡◌, ℕ, take, vec_len}
use Rattle.std.specs.Vec.{vec_capacity}
use Rattle.b1_model.specs.declared.parts.NodeState.TheVariants.{Destroyed}
use Rattle.b1_model.specs.MachineTables.{in_state, with_nodes}
use Rattle.b1_nodes.specs.Nodes.{AreNodes}
use Rattle.b1_nodes.specs.Index.{AreNamedAlike}
use Rattle.b1_nodes.proofs.serials.destroy_all.Given as goal

abbrev pub invariant-loop-serial : goal.invariant-loop-serial
invariant-loop-serial l = record {
  nodes : l.nodes.items ≡ with_nodes (take l.serial-index l.serials) (in_state (Destroyed l.stamp)) l.fn.nodes.items;
  kept : (peers : ℕ) → AreNodes peers l.fn.nodes.items → AreNodes peers l.nodes.items;
  numbers : AreNamedAlike l.fn.nodes.items l.nodes.items;
  capacity : vec_capacity l.nodes ≡ vec_capacity l.fn.nodes;
  len : vec_len l.nodes ≡ vec_len l.fn.nodes;
}
