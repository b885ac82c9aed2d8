use Rattle.std.proofs.Common.{◌≡◌, ◌-◌}
use Rattle.b1_records.specs.Reading.{many}
use Rattle.b1_script.specs.Reading.{commands_at}
use Rattle.b1_records.proofs.Loop.{with_front}
use Rattle.b1_script.proofs.lists.plain_lists.Given as goal

abbrev pub invariant-loop : goal.invariant-loop
invariant-loop l = with_front l.items.items (many (commands_at l.limit l.bytes) (l.peers - l.counter) l.place) ≡ many (commands_at l.limit l.bytes) l.peers l.at
