use Rattle.std.proofs.Common.{◌≡◌, ◌+◌, ◌≤◌, ◌++◌, drop, length, filter_map, zip, vec_len, vec_capacity}
use Rattle.b1_model.specs.MachineReceive.{reference_of}
use Rattle.b1_driver.proofs.owing.add_references.Given as goal

abbrev pub invariant-loop-index : goal.invariant-loop-index
invariant-loop-index l = record {
  rest : l.references.items ++ filter_map reference_of (zip (drop l.index l.nodes) (drop l.index l.slots)) ≡ l.initial.references.items ++ filter_map reference_of (zip l.nodes l.slots);
  room : vec_len l.references + length (drop l.index l.nodes) ≤ vec_capacity l.references;
  capacity : vec_capacity l.references ≡ vec_capacity l.initial.references;
}
