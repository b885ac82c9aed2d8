-- The epochs of the stamped calls so far have places.
use Rattle.b1_judge_facts.specs.Epochs.{AreFirst, is_kept_about}
use Rattle.b1_judge_facts.proofs.epochs.first_places.Given as goal

abbrev pub invariant-loop-place : goal.invariant-loop-place
invariant-loop-place l = AreFirst (is_kept_about l.messages l.destroyed) l.stamps l.place l.places
