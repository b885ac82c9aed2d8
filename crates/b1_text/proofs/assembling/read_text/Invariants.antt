-- The lines up to a place made the draft.
use Rattle.std.proofs.Common.{◌-◌, ◌≤◌, length, take}
use Rattle.b1_text.specs.Progress.{Makes}
use Rattle.b1_text.proofs.assembling.read_text.Given as goal

abbrev pub invariant-loop-line : goal.invariant-loop-line
invariant-loop-line l = record { within : l.at ≤ length l.bytes; makes : Makes (take l.at l.bytes) l.draft }

abbrev pub decreases-loop-line : goal.decreases-loop-line
decreases-loop-line l = length l.bytes - l.at
