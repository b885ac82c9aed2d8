use Rattle.std.proofs.Common.{sym, ap, ◌∙◌}
use Rattle.b1_poolx.specs.Sizes.{by_size, placed}
use Rattle.b1_poolx.proofs.ChangeLemmas.{IsBySize-sized, IsBySize-put, by_size-pair, stands_placed, without_is}
use Rattle.b1_poolx.proofs.changes.join.Goals as goal

pub take_out-requires-clause-ordered : goal.take_out-requires-clause-ordered
take_out-requires-clause-ordered c = IsBySize-sized c.args.slices.now.items _ c.requires.sized

pub take_out-requires-clause-stands : goal.take_out-requires-clause-stands
take_out-requires-clause-stands c =
    let beside = by_size-pair _ _ _ _ c.in-Some.ensures.pair in
    stands_placed c.in-Some.joined.first _ (placed c.in-Some.joined.second (by_size beside.others)) (c.requires.sized ∙ beside.was)

pub take_out-requires-in-Some-clause-ordered : goal.take_out-requires-in-Some-clause-ordered
take_out-requires-in-Some-clause-ordered c =
    let beside = by_size-pair _ _ _ _ c.in-Some.ensures.pair in
    let left = without_is c.in-Some.joined.first _ (placed c.in-Some.joined.second (by_size beside.others)) _ (c.requires.sized ∙ beside.was) c.take_out.ensures.items in
    IsBySize-put c.in-Some.joined.second beside.others _ left

pub take_out-requires-in-Some-clause-stands : goal.take_out-requires-in-Some-clause-stands
take_out-requires-in-Some-clause-stands c =
    let beside = by_size-pair _ _ _ _ c.in-Some.ensures.pair in
    let left = without_is c.in-Some.joined.first _ (placed c.in-Some.joined.second (by_size beside.others)) _ (c.requires.sized ∙ beside.was) c.take_out.ensures.items in
    stands_placed c.in-Some.joined.second _ (by_size beside.others) left

pub put_in-requires-clause-ordered : goal.put_in-requires-clause-ordered
put_in-requires-clause-ordered c =
    let beside = by_size-pair _ _ _ _ c.in-Some.ensures.pair in
    let left = without_is c.in-Some.joined.first _ (placed c.in-Some.joined.second (by_size beside.others)) _ (c.requires.sized ∙ beside.was) c.take_out.ensures.items in
    let rest = without_is c.in-Some.joined.second _ (by_size beside.others) _ left c.take_out-in-Some.ensures.items in
    IsBySize-sized beside.others _ rest

pub returns-in-Some-clause-sized : goal.returns-in-Some-clause-sized
returns-in-Some-clause-sized c =
    let beside = by_size-pair _ _ _ _ c.in-Some.ensures.pair in
    let left = without_is c.in-Some.joined.first _ (placed c.in-Some.joined.second (by_size beside.others)) _ (c.requires.sized ∙ beside.was) c.take_out.ensures.items in
    let rest = without_is c.in-Some.joined.second _ (by_size beside.others) _ left c.take_out-in-Some.ensures.items in
    c.put_in.ensures.items
    ∙ rw (rest, c.in-Some.ensures.both) (sym beside.is ∙ ap by_size (sym c.join_next.ensures.slices))
