use Rattle.std.proofs.Common.{◌≡◌, ◌-◌, []}
use Rattle.b1_script.specs.Reading.{wires_at}
use Rattle.b1_records.proofs.Loop.{with_front}
use Rattle.b1_script.proofs.wires.read_wires.Given as goal

abbrev pub invariant-loop : goal.invariant-loop
invariant-loop l = with_front l.items.items (wires_at l.limit l.bytes l.peers l.held (l.count - l.counter) l.place) ≡ wires_at l.limit l.bytes l.peers [] l.count l.at
