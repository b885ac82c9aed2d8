use Rattle.std.proofs.Common.{◌≡◌, true, false, ap, sym, subst, ◌∙◌, arith}
use Rattle.std.proofs.lemmas.Option.{slice_get_within}
use Rattle.b1_pool.specs.Slices.{IsPool, merged, is_published}
use Rattle.b1_pool.proofs.PlaceLemmas.{read_place}
use Rattle.b1_pool.proofs.PoolLemmas.{IsPool-given_back, freed_at-place, begins-place, published_is_used}
use Rattle.b1_poolx.proofs.ChangeLemmas.{used_place}
use Rattle.b1_poolx.proofs.changes.release.Goals as goal

pub returns-then-not-is_published_slice-clause-ok : goal.returns-then-not-is_published_slice-clause-ok
returns-then-not-is_published_slice-clause-ok c =
    let place = c.in-Some.ensures in
    let same = read_place _ _ _ place _ c.index.ensures in
    let unpublished : false ≡ is_published c.index.result.now = cc in
    unpublished ∙ ap is_published same ∙ sym (begins-place is_published _ _ _ place)

pub give_back-requires-clause-within : goal.give_back-requires-clause-within
give_back-requires-clause-within c =
    let place = c.in-Some.ensures in
    omega (arith, slice_get_within c.args.slices.now.items c.in-Some.i place.slice place.found)

pub give_back-requires-clause-used : goal.give_back-requires-clause-used
give_back-requires-clause-used c =
    let place = c.in-Some.ensures in
    let same = read_place _ _ _ place _ c.index.ensures in
    let published : true ≡ is_published c.index.result.now = cc in
    used_place is_published _ _ _ place published_is_used (begins-place is_published _ _ _ place ∙ sym (published ∙ ap is_published same))

pub returns-clause-ok : goal.returns-clause-ok
returns-clause-ok c =
    let place = c.in-Some.ensures in
    let same = read_place _ _ _ place _ c.index.ensures in
    let published : true ≡ is_published c.index.result.now = cc in
    published ∙ ap is_published same ∙ sym (begins-place is_published _ _ _ place)

pub returns-clause-slices : goal.returns-clause-slices
returns-clause-slices c =
    let place = c.in-Some.ensures in
    c.give_back.ensures.slices ∙ ap merged (freed_at-place _ _ _ place)

pub returns-clause-sound : goal.returns-clause-sound
returns-clause-sound c =
    λ size pool. subst (IsPool size) (sym (returns-clause-slices c)) (IsPool-given_back size _ _ pool)
