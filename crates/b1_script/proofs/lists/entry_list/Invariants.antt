use Rattle.std.proofs.Common.{◌≡◌, ◌-◌, length}
use Rattle.std.specs.Prelude.{zip}
use Rattle.b1_records.specs.Reading.{many, command2_at}
use Rattle.b1_records.proofs.Loop.{with_front}
use Rattle.b1_script.proofs.lists.entry_list.Given as goal

abbrev pub invariant-loop : goal.invariant-loop
invariant-loop l = (length l.cookies.items ≡ length l.items.items) × (with_front (zip l.cookies.items l.items.items) (many (command2_at l.limit l.bytes) (l.count - l.counter) l.place) ≡ many (command2_at l.limit l.bytes) l.count l.at)
