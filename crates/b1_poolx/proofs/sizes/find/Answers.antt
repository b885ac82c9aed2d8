use Rattle.std.proofs.Common.{sym, ◌∙◌}
use Rattle.std.proofs.lemmas.Option.{slice_get-get_or, slice_get_past}
use Rattle.b1_poolx.proofs.SizeLemmas.{first_long-place}
use Rattle.b1_poolx.proofs.sizes.find.Goals as goal

pub returns-then-i-free-clause-first : goal.returns-then-i-free-clause-first
returns-then-i-free-clause-first g c =
    let place = c.count_shorter-i.ensures in
    sym (first_long-place c.args.len c.args.free.now _ place.below place.above ∙ slice_get-get_or c.args.free.now _ _ c.if-i-free.true)

pub returns-else-i-free-clause-first : goal.returns-else-i-free-clause-first
returns-else-i-free-clause-first g c =
    let place = c.count_shorter-i.ensures in
    sym (first_long-place c.args.len c.args.free.now _ place.below place.above ∙ slice_get_past c.args.free.now _ c.if-i-free.false)
