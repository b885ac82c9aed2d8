use Rattle.std.proofs.Common.{◌≡◌, ◌-◌, length, map}
use Rattle.b1_records.specs.Reading.{many}
use Rattle.b1_records.proofs.Loop.{with_front}
use Rattle.b1_script.specs.Reading.{entries_at}
use Rattle.b1_script.specs.Spelling.{entries_of}
use Rattle.b1_script.proofs.lists.entry_lists.Given as goal

abbrev pub invariant-loop : goal.invariant-loop
invariant-loop l = (map length l.cookies.items ≡ map length l.items.items) × (with_front (entries_of l.cookies.items l.items.items) (many (entries_at l.limit l.bytes) (l.peers - l.counter) l.place) ≡ many (entries_at l.limit l.bytes) l.peers l.at)
