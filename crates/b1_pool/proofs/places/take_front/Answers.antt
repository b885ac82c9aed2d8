use Rattle.std.proofs.Common.{refl, sym, subst, ◌∙◌}
use Rattle.b1_pool.specs.Slices.{IsPool, divided}
use Rattle.b1_pool.proofs.PlaceLemmas.{place_as, read_place, replaced_at-set, replaced_at-insert, divided_rest, divided_all}
use Rattle.b1_pool.proofs.PoolLemmas.{IsPool-with_alloc}
use Rattle.b1_pool.proofs.places.take_front.Goals as goal

pub returns-in-Ok-clause-slices : goal.returns-in-Ok-clause-slices
returns-in-Ok-clause-slices c =
    let place = place_as c.into.ensures refl c.in-Some.ensures in
    let same = read_place _ _ _ place _ c.index-s.ensures in
    c.in-Ok.ensures.items
    ∙ replaced_at-insert _ (divided c.args.len) _ _ place _ _ (divided_rest _ _ _ _ place _ same c.if-len-s.true)

pub returns-in-Ok-clause-sound : goal.returns-in-Ok-clause-sound
returns-in-Ok-clause-sound c =
    λ size pool. subst (IsPool size) (sym (returns-in-Ok-clause-slices c)) (IsPool-with_alloc size _ _ _ pool c.requires.len c.requires.fit)

pub returns-else-len-s-clause-slices : goal.returns-else-len-s-clause-slices
returns-else-len-s-clause-slices c =
    let place = place_as c.into.ensures refl c.in-Some.ensures in
    let same = read_place _ _ _ place _ c.index-s.ensures in
    replaced_at-set _ (divided c.args.len) _ _ place _ (divided_all _ _ _ _ place _ same c.if-len-s.false)

pub returns-else-len-s-clause-sound : goal.returns-else-len-s-clause-sound
returns-else-len-s-clause-sound c =
    λ size pool. subst (IsPool size) (sym (returns-else-len-s-clause-slices c)) (IsPool-with_alloc size _ _ _ pool c.requires.len c.requires.fit)
