use Rattle.std.proofs.Common.{◌≡◌, length}
use Rattle.b1_report_lines.specs.Forms.{place_at}
use Rattle.b1_report_lines.specs.Reading.{items}
use Rattle.b1_report_lines.proofs.Items.{with_front}
use Rattle.b1_report_lines.proofs.reasons.places.Given as goal

abbrev pub invariant-loop-part : goal.invariant-loop-part
invariant-loop-part l = with_front place_at l.places.items (items place_at l.left) ≡ items place_at l.bytes

abbrev pub decreases-loop-part : goal.decreases-loop-part
decreases-loop-part l = length l.left
