use Rattle.std.proofs.Common.{◌≡◌, length}
use Rattle.b1_report_lines.specs.Reading.{items, known_at}
use Rattle.b1_report_lines.proofs.Items.{with_front}
use Rattle.b1_report_lines.proofs.fields.numbers.Given as goal

abbrev pub invariant-loop-part : goal.invariant-loop-part
invariant-loop-part l = with_front known_at l.numbers.items (items known_at l.left) ≡ items known_at l.bytes

abbrev pub decreases-loop-part : goal.decreases-loop-part
decreases-loop-part l = length l.left
