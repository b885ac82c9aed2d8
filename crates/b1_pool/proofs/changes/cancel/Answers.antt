use Rattle.std.proofs.Common.{refl, ap, sym, subst, ◌∙◌}
use Rattle.b1_pool.specs.Slices.{IsPool, merged, is_unpublished}
use Rattle.b1_pool.proofs.PlaceLemmas.{place_as}
use Rattle.b1_pool.proofs.PoolLemmas.{IsPool-given_back, freed_at-place, begins-place, unpublished_is_used}
use Rattle.b1_pool.proofs.changes.cancel.Goals as goal

pub give_back-requires-clause-used : goal.give_back-requires-clause-used
give_back-requires-clause-used c =
    let place = place_as c.into.ensures refl c.in-Some.ensures in
    record { slice = place.slice; found = place.found; used = unpublished_is_used place.slice (sym (begins-place is_unpublished _ _ _ place) ∙ c.requires.unpublished) }

pub returns-in-Some-clause-slices : goal.returns-in-Some-clause-slices
returns-in-Some-clause-slices c =
    let place = place_as c.into.ensures refl c.in-Some.ensures in
    c.give_back.ensures.slices ∙ ap merged (freed_at-place _ _ _ place)

pub returns-in-Some-clause-sound : goal.returns-in-Some-clause-sound
returns-in-Some-clause-sound c =
    λ size pool. subst (IsPool size) (sym (returns-in-Some-clause-slices c)) (IsPool-given_back size _ _ pool)
