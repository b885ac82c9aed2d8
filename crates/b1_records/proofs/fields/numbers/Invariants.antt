use Rattle.std.proofs.Common.{◌≡◌, ◌-◌}
use Rattle.b1_records.specs.Reading.{many, long_number_at}
use Rattle.b1_records.proofs.Loop.{with_front}
use Rattle.b1_records.proofs.fields.numbers.Given as goal

abbrev pub invariant-loop : goal.invariant-loop
invariant-loop l = with_front l.items.items (many (long_number_at l.limit l.bytes) (l.count - l.counter) l.place) ≡ many (long_number_at l.limit l.bytes) l.count l.at
