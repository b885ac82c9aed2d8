use Rattle.std.proofs.Common.{◌≡◌, ◌-◌}
use Rattle.b1_records.specs.Reading.{many}
use Rattle.b1_script.specs.Reading.{peer_number_at}
use Rattle.b1_records.proofs.Loop.{with_front}
use Rattle.b1_script.proofs.lists.read_turns.Given as goal

abbrev pub invariant-loop : goal.invariant-loop
invariant-loop l = with_front l.items.items (many (peer_number_at l.limit l.bytes l.peers) (l.count - l.counter) l.place) ≡ many (peer_number_at l.limit l.bytes l.peers) l.count l.at
