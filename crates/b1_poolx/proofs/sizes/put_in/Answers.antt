use Rattle.std.proofs.Common.{◌∙◌}
use Rattle.b1_poolx.proofs.SizeLemmas.{insert-placed}
use Rattle.b1_poolx.proofs.sizes.put_in.Goals as goal

pub returns-clause-items : goal.returns-clause-items
returns-clause-items c =
    let place = c.count_before-i.ensures in
    let same = c.deref.ensures.value in
    c.in-Ok.ensures.items
    ∙ insert-placed c.args.s c.args.free.now.items c.count_before-i.result (rw same at place.below) (rw same at place.above) (rw same at place.within)
