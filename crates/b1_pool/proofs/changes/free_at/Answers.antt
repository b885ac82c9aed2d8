use Rattle.std.proofs.Common.{◌≡◌, ◌<◌, false, length, refl, ap, sym, ◌∙◌, arith}
use Rattle.std.proofs.lemmas.Option.{same_Some, slice_get_read}
use Rattle.b1_pool.specs.Slices.{is_free}
use Rattle.b1_pool.specs.Places.{total, free_before, joined_at}
use Rattle.b1_pool.proofs.SliceLemmas.{set-freed_read, total-freed_at}
use Rattle.b1_pool.proofs.OrderLemmas.{rising-free, count-free}
use Rattle.b1_pool.proofs.FreeLemmas.{free-fewer, free_before-given, listed-freed_joined, within-freed_joined, listed-freed}
use Rattle.b1_pool.proofs.changes.free_at.Goals as goal

pub count_before-at-requires : goal.count_before-at-requires
count_before-at-requires c = rising-free c.args.slices.now.items c.args.free.now.items c.requires.listed c.requires.rising

pub join_next-requires-clause-inside : goal.join_next-requires-clause-inside
join_next-requires-clause-inside c =
    let within : c.args.i < length c.args.slices.now.items = omega arith in
    let freed = set-freed_read c.args.slices.now.items c.args.i _ within c.index.ensures in
    omega (arith, ap total freed, total-freed_at c.args.i c.args.slices.now.items)

pub index_mut-requires-in-Some : goal.index_mut-requires-in-Some
index_mut-requires-in-Some c =
    let within : c.args.i < length c.args.slices.now.items = omega arith in
    let freed = set-freed_read c.args.slices.now.items c.args.i _ within c.index.ensures in
    let found = slice_get_read c.args.slices.now.items _ c.args.i _ refl within c.index.ensures in
    let used : is_free c.index.result.now ≡ false = ap is_free (same_Some _ _ (sym found ∙ c.requires.used.found)) ∙ c.requires.used.used in
    let e = c.count_before-at.ensures in
    let place = count-free c.args.slices.now.items c.args.free.now.items c.args.i _ _ _ c.into.ensures c.requires.rising c.requires.listed found e.within e.before e.after in
    omega (arith, within-freed_joined c.args.slices.now.items _ c.args.free.now.items c.args.i _ _ _ _ freed c.requires.listed place found used c.in-Some.ensures.pair)

pub unreachable-requires : goal.unreachable-requires
unreachable-requires c =
    let full = rw c.in-Err.is at c.insert.ensures.full in
    omega (arith, full, ap length c.requires.listed, free-fewer c.args.slices.now.items c.args.i _ c.requires.used.found c.requires.used.used)

pub returns-in-Some-clause-slices : goal.returns-in-Some-clause-slices
returns-in-Some-clause-slices c =
    let within : c.args.i < length c.args.slices.now.items = omega arith in
    let freed = set-freed_read c.args.slices.now.items c.args.i _ within c.index.ensures in
    c.join_next.ensures.slices ∙ ap (joined_at c.args.i) freed

pub returns-in-Some-clause-place : goal.returns-in-Some-clause-place
returns-in-Some-clause-place c =
    let within : c.args.i < length c.args.slices.now.items = omega arith in
    let found = slice_get_read c.args.slices.now.items _ c.args.i _ refl within c.index.ensures in
    let e = c.count_before-at.ensures in
    count-free c.args.slices.now.items c.args.free.now.items c.args.i _ _ _ c.into.ensures c.requires.rising c.requires.listed found e.within e.before e.after
    ∙ sym (ap (free_before c.args.i) (returns-in-Some-clause-slices c) ∙ free_before-given c.args.i c.args.slices.now.items)

pub returns-in-Some-clause-listed : goal.returns-in-Some-clause-listed
returns-in-Some-clause-listed c =
    let within : c.args.i < length c.args.slices.now.items = omega arith in
    let freed = set-freed_read c.args.slices.now.items c.args.i _ within c.index.ensures in
    let found = slice_get_read c.args.slices.now.items _ c.args.i _ refl within c.index.ensures in
    let used : is_free c.index.result.now ≡ false = ap is_free (same_Some _ _ (sym found ∙ c.requires.used.found)) ∙ c.requires.used.used in
    let e = c.count_before-at.ensures in
    let place = count-free c.args.slices.now.items c.args.free.now.items c.args.i _ _ _ c.into.ensures c.requires.rising c.requires.listed found e.within e.before e.after in
    listed-freed_joined c.args.slices.now.items _ _ c.args.free.now.items c.args.i _ _ _ _ _ freed c.join_next.ensures.slices c.requires.listed place found used c.in-Some.ensures.pair c.in-Some.ensures.both

pub returns-in-Some-clause-total : goal.returns-in-Some-clause-total
returns-in-Some-clause-total c =
    let within : c.args.i < length c.args.slices.now.items = omega arith in
    let freed = set-freed_read c.args.slices.now.items c.args.i _ within c.index.ensures in
    c.join_next.ensures.total ∙ ap total freed ∙ total-freed_at c.args.i c.args.slices.now.items

pub returns-in-Ok-clause-slices : goal.returns-in-Ok-clause-slices
returns-in-Ok-clause-slices c =
    let within : c.args.i < length c.args.slices.now.items = omega arith in
    let freed = set-freed_read c.args.slices.now.items c.args.i _ within c.index.ensures in
    c.join_next.ensures.slices ∙ ap (joined_at c.args.i) freed

pub returns-in-Ok-clause-place : goal.returns-in-Ok-clause-place
returns-in-Ok-clause-place c =
    let within : c.args.i < length c.args.slices.now.items = omega arith in
    let found = slice_get_read c.args.slices.now.items _ c.args.i _ refl within c.index.ensures in
    let e = c.count_before-at.ensures in
    count-free c.args.slices.now.items c.args.free.now.items c.args.i _ _ _ c.into.ensures c.requires.rising c.requires.listed found e.within e.before e.after
    ∙ sym (ap (free_before c.args.i) (returns-in-Ok-clause-slices c) ∙ free_before-given c.args.i c.args.slices.now.items)

pub returns-in-Ok-clause-listed : goal.returns-in-Ok-clause-listed
returns-in-Ok-clause-listed c =
    let within : c.args.i < length c.args.slices.now.items = omega arith in
    let freed = set-freed_read c.args.slices.now.items c.args.i _ within c.index.ensures in
    let found = slice_get_read c.args.slices.now.items _ c.args.i _ refl within c.index.ensures in
    let used : is_free c.index.result.now ≡ false = ap is_free (same_Some _ _ (sym found ∙ c.requires.used.found)) ∙ c.requires.used.used in
    let e = c.count_before-at.ensures in
    let place = count-free c.args.slices.now.items c.args.free.now.items c.args.i _ _ _ c.into.ensures c.requires.rising c.requires.listed found e.within e.before e.after in
    listed-freed c.args.slices.now.items _ _ c.args.free.now.items _ c.args.i _ _ freed c.in-None.ensures.none c.requires.listed place found used c.in-Ok.ensures.items

pub returns-in-Ok-clause-total : goal.returns-in-Ok-clause-total
returns-in-Ok-clause-total c =
    let within : c.args.i < length c.args.slices.now.items = omega arith in
    let freed = set-freed_read c.args.slices.now.items c.args.i _ within c.index.ensures in
    c.join_next.ensures.total ∙ ap total freed ∙ total-freed_at c.args.i c.args.slices.now.items
