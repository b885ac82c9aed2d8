-- The drivers that were made are the first ones of the opening, each with room for as many doomed nodes as there are wires.
use Rattle.std.proofs.Common.{◌≡◌, ◌≤◌, map, take, length}
use Rattle.std.specs.List.{All}
use Rattle.b1_model.specs.MachineStep.{idle_drivers}
use Rattle.b1_core.proofs.making.make_drivers.Given as goal

abbrev pub invariant-loop-me : goal.invariant-loop-me
invariant-loop-me l = record {
  parts : map (λ d. d.part) l.drivers.items ≡ take l.me (idle_drivers 0 l.opening.peers);
  stock : All (λ d. (d.spare ≡ 0) × (d.doomed ≡ length l.opening.wires) × (d.doomed ≤ d.here)) l.drivers.items;
}
