use Rattle.std.proofs.Common.{◌≡◌, ◌<◌, ℕ, Some, length, refl, ◌∙◌, arith}
use Rattle.std.specs.Prelude.{slice_get}
use Rattle.std.proofs.lemmas.Bool.{and_parts, lt-ltb, le-ltb}
use Rattle.b1_pool.specs.Slices.{is_free}
use Rattle.std.proofs.Common.{nat_le}
use Rattle.b1_pool.proofs.OrderLemmas.{rising-free, count-free}
use Rattle.b1_pool.proofs.FreeLemmas.{listed-taken_rest, listed-taken_all, within-found}
use Rattle.b1_pool.proofs.changes.take.Goals as goal

pub count_before-i-requires : goal.count_before-i-requires
count_before-i-requires c = rising-free c.args.slices.now.items c.args.free.now.items c.requires.listed c.requires.rising

pub index_mut-requires : goal.index_mut-requires
index_mut-requires c =
    let e = c.count_before-i.ensures in
    let place = λ (i : ℕ) (found : slice_get c.args.slices.now.items i ≡ Some c.args.s). count-free c.args.slices.now.items c.args.free.now.items i c.args.s _ _ c.into.ensures c.requires.rising c.requires.listed found e.within e.before e.after in
    let free = (and_parts (is_free c.args.s) (nat_le c.args.len c.args.s.length) c.requires.fit).0 in
    omega (arith, within-found c.args.s.offset _ c.args.slices.now.items c.args.free.now.items c.args.s c.requires.found free place c.requires.listed)

pub returns-then-len-s-clause-listed : goal.returns-then-len-s-clause-listed
returns-then-len-s-clause-listed c =
    let e = c.count_before-i.ensures in
    let place = λ (i : ℕ) (found : slice_get c.args.slices.now.items i ≡ Some c.args.s). count-free c.args.slices.now.items c.args.free.now.items i c.args.s _ _ c.into.ensures c.requires.rising c.requires.listed found e.within e.before e.after in
    let free = (and_parts (is_free c.args.s) (nat_le c.args.len c.args.s.length) c.requires.fit).0 in
    listed-taken_rest c.args.s.offset c.args.len _ c.args.slices.now.items c.args.free.now.items _ c.args.s _ c.requires.found free refl
    (rw (lt-ltb c.args.len c.args.s.length c.if-len-s.true) refl) place c.requires.listed c.take_front.ensures.slices

pub returns-else-len-s-clause-listed : goal.returns-else-len-s-clause-listed
returns-else-len-s-clause-listed c =
    let e = c.count_before-i.ensures in
    let place = λ (i : ℕ) (found : slice_get c.args.slices.now.items i ≡ Some c.args.s). count-free c.args.slices.now.items c.args.free.now.items i c.args.s _ _ c.into.ensures c.requires.rising c.requires.listed found e.within e.before e.after in
    let free = (and_parts (is_free c.args.s) (nat_le c.args.len c.args.s.length) c.requires.fit).0 in
    let within : c.count_before-i.result < length c.args.free.now.items = within-found c.args.s.offset _ c.args.slices.now.items c.args.free.now.items c.args.s c.requires.found free place c.requires.listed in
    let removed = rw (c.remove.ensures.succeeds c.args.s (omega (arith, within))) at c.remove.ensures.items in
    removed
    ∙ listed-taken_all c.args.s.offset c.args.len _ c.args.slices.now.items c.args.free.now.items _ c.args.s c.requires.found free
    (rw (le-ltb c.args.len c.args.s.length c.if-len-s.false) refl) place c.requires.listed c.take_front.ensures.slices
