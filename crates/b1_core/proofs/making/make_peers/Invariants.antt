-- The peers have what the wires so far give, and their users.
use Rattle.std.proofs.Common.{◌≡◌, map, take}
use Rattle.b1_core.proofs.Wiring.{after}
use Rattle.b1_core.proofs.making.make_peers.Given as goal

abbrev pub invariant-loop-wire : goal.invariant-loop-wire
invariant-loop-wire g l = record {
  parts : map (λ x. x.part) l.peers.items ≡ after l.opening (take l.wire-index l.opening.wires);
  users : map (λ x. x.users) l.peers.items ≡ map (λ x. x.users) l.initial.peers.items;
}
