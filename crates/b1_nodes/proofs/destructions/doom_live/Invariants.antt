use Rattle.std.proofs.Common.{◌≡◌, ◌≤◌, ◌++◌, drop}
use Rattle.std.specs.Vec.{vec_len, vec_capacity}
use Rattle.b1_model.specs.MachineDestroy.{live_serials}
use Rattle.b1_nodes.proofs.destructions.doom_live.Given as goal

abbrev pub invariant-loop-serial : goal.invariant-loop-serial
invariant-loop-serial l = record {
  serials : l.doomed.items ++ live_serials l.serial (drop l.serial l.nodes.nodes) ≡ live_serials 0 l.nodes.nodes;
  few : vec_len l.doomed ≤ l.serial;
  capacity : vec_capacity l.doomed ≡ vec_capacity l.fn.doomed;
}
