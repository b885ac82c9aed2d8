-- The peers that were made are the first ones of the opening.
use Rattle.std.proofs.Common.{◌≡◌, map, take}
use Rattle.std.specs.List.{All}
use Rattle.b1_model.specs.MachineStep.{peers_before}
use Rattle.b1_event.specs.Events.{HasUsers}
use Rattle.b1_core.proofs.making.peers_before.Given as goal

abbrev pub invariant-loop-me : goal.invariant-loop-me
invariant-loop-me g l = record {
  parts : map (λ x. x.part) l.peers.items ≡ take l.me (peers_before l.opening 0 l.opening.peers);
  users : All (HasUsers l.opening) (map (λ x. x.users) l.peers.items);
}
