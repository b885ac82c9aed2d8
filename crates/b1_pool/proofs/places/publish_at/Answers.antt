use Rattle.std.proofs.Common.{refl, ap, sym, subst}
use Rattle.b1_pool.specs.Slices.{IsPool, in_state}
use Rattle.b1_pool.specs.declared.slices.SliceState.TheVariants.{Published}
use Rattle.b1_pool.proofs.PlaceLemmas.{place_as, read_place, replaced_at-set}
use Rattle.b1_pool.proofs.PoolLemmas.{IsPool-published}
use Rattle.b1_pool.proofs.places.publish_at.Goals as goal

pub returns-in-Some-clause-slices : goal.returns-in-Some-clause-slices
returns-in-Some-clause-slices c =
    let place = place_as c.into.ensures refl c.in-Some.ensures in
    let same = read_place _ _ _ place _ c.index_mut.ensures.value in
    replaced_at-set _ (in_state Published) _ _ place _ (sym (ap (in_state Published) same))

pub returns-in-Some-clause-sound : goal.returns-in-Some-clause-sound
returns-in-Some-clause-sound c =
    λ size pool. subst (IsPool size) (sym (returns-in-Some-clause-slices c)) (IsPool-published size _ _ pool c.requires.unpublished)
