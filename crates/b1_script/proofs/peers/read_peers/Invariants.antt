use Rattle.std.proofs.Common.{◌≡◌, ◌≤◌, ◌-◌}
use Rattle.b1_model.specs.declared.limits.TheConstants.{MOST_POOLS}
use Rattle.b1_records.proofs.Loop.{with_front}
use Rattle.b1_script.specs.Reading.{peers_at}
use Rattle.b1_script.proofs.peers.read_peers.Given as goal

abbrev pub invariant-loop : goal.invariant-loop
invariant-loop l = (l.before ≤ MOST_POOLS) × (with_front l.items.items (peers_at l.limit l.bytes l.before (l.count - l.counter) l.place) ≡ peers_at l.limit l.bytes 0 l.count l.at)
