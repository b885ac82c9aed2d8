use Rattle.std.proofs.Common.{refl, ◌∙◌}
use Rattle.std.specs.Prelude.{nat_le}
use Rattle.std.proofs.lemmas.Bool.{and_parts, lt-ltb, le-ltb}
use Rattle.b1_pool.specs.Slices.{is_free}
use Rattle.b1_poolx.specs.Sizes.{by_size}
use Rattle.b1_poolx.proofs.ChangeLemmas.{IsBySize-sized, by_size-with_alloc, stands_placed, without_is}
use Rattle.b1_poolx.proofs.changes.take.Goals as goal

pub take_out-requires-clause-ordered : goal.take_out-requires-clause-ordered
take_out-requires-clause-ordered c = IsBySize-sized c.args.slices.now.items _ c.requires.sized

pub take_out-requires-clause-stands : goal.take_out-requires-clause-stands
take_out-requires-clause-stands c =
    let free = (and_parts (is_free c.args.s) (nat_le c.args.len c.args.s.length) c.requires.fit).0 in
    let beside = by_size-with_alloc c.args.s.offset c.args.len c.args.slices.now.items c.args.s c.requires.found free in
    stands_placed c.args.s _ (by_size beside.others) (c.requires.sized ∙ beside.was)

pub put_in-requires-clause-ordered : goal.put_in-requires-clause-ordered
put_in-requires-clause-ordered c =
    let free = (and_parts (is_free c.args.s) (nat_le c.args.len c.args.s.length) c.requires.fit).0 in
    let beside = by_size-with_alloc c.args.s.offset c.args.len c.args.slices.now.items c.args.s c.requires.found free in
    let left = without_is c.args.s _ (by_size beside.others) _ (c.requires.sized ∙ beside.was) c.take_out.ensures.items in
    IsBySize-sized beside.others _ left

pub returns-then-len-s-clause-sized : goal.returns-then-len-s-clause-sized
returns-then-len-s-clause-sized c =
    let free = (and_parts (is_free c.args.s) (nat_le c.args.len c.args.s.length) c.requires.fit).0 in
    let beside = by_size-with_alloc c.args.s.offset c.args.len c.args.slices.now.items c.args.s c.requires.found free in
    let left = without_is c.args.s _ (by_size beside.others) _ (c.requires.sized ∙ beside.was) c.take_out.ensures.items in
    c.put_in.ensures.items
    ∙ rw (left, c.take_front.ensures.slices, beside.is, lt-ltb c.args.len c.args.s.length c.if-len-s.true) refl

pub returns-else-len-s-clause-sized : goal.returns-else-len-s-clause-sized
returns-else-len-s-clause-sized c =
    let free = (and_parts (is_free c.args.s) (nat_le c.args.len c.args.s.length) c.requires.fit).0 in
    let beside = by_size-with_alloc c.args.s.offset c.args.len c.args.slices.now.items c.args.s c.requires.found free in
    let left = without_is c.args.s _ (by_size beside.others) _ (c.requires.sized ∙ beside.was) c.take_out.ensures.items in
    left ∙ rw (c.take_front.ensures.slices, beside.is, le-ltb c.args.len c.args.s.length c.if-len-s.false) refl

pub returns-then-len-s-clause-sound : goal.returns-then-len-s-clause-sound
returns-then-len-s-clause-sound c = c.take_front.ensures.sound

pub returns-else-len-s-clause-sound : goal.returns-else-len-s-clause-sound
returns-else-len-s-clause-sound c = c.take_front.ensures.sound
