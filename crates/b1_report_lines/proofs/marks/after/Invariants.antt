use Rattle.std.proofs.Common.{◌≡◌, ◌≤◌, length, drop}
use Rattle.b1_report_lines.specs.Reading.{strip}
use Rattle.b1_report_lines.proofs.marks.after.Given as goal

abbrev pub invariant-loop-at : goal.invariant-loop-at
invariant-loop-at l = (strip (drop l.at l.letters) (drop l.at l.bytes) ≡ strip l.letters l.bytes) × (l.at ≤ length l.bytes)
