use Rattle.std.proofs.Common.{◌∙◌, ◌++◌, ◌∷◌, [], ℕ, List, ap, sym}
use Rattle.b1_upgrade.proofs.Lengths.{one_more}
use Rattle.b1_upgrade.proofs.places_of.Goals as goal

pub loop-place-preserved : goal.loop-place-preserved
loop-place-preserved c = c.in_ok-push.ensures.items ∙ ap (λ (x : List ℕ). x ++ c.loop-place.place ∷ []) c.loop-place.invariant ∙ sym (one_more c.loop-place.place)
