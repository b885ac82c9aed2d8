use Rattle.std.proofs.Common.{◌∙◌, arith}
use Rattle.b1_poolx.proofs.SizeLemmas.{remove-without}
use Rattle.b1_poolx.proofs.sizes.take_out.Goals as goal

pub remove-requires : goal.remove-requires
remove-requires c =
    let place = c.count_before-i.ensures in
    let same = c.deref.ensures.value in
    let taken = remove-without c.args.s c.args.free.now.items c.count_before-i.result (rw same at place.below) (rw same at place.above) c.requires.stands in
    omega (arith, taken.0)

pub returns-clause-items : goal.returns-clause-items
returns-clause-items c =
    let place = c.count_before-i.ensures in
    let same = c.deref.ensures.value in
    let taken = remove-without c.args.s c.args.free.now.items c.count_before-i.result (rw same at place.below) (rw same at place.above) c.requires.stands in
    c.remove.ensures.items ∙ taken.1
