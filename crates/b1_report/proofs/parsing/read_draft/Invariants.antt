use Rattle.std.specs.Option.{option_copied}
use Rattle.std.proofs.Common.{length}
use Rattle.b1_report.proofs.Faults.{DraftSoFar}
use Rattle.b1_report.proofs.parsing.read_draft.Given as goal

abbrev pub invariant-loop-left : goal.invariant-loop-left
invariant-loop-left l = DraftSoFar (option_copied l.cookies) l.peers l.bytes l.draft l.place l.left

abbrev pub decreases-loop-left : goal.decreases-loop-left
decreases-loop-left l = length l.left
