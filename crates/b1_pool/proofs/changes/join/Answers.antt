use Rattle.std.proofs.Common.{◌<◌, length, ap, ◌∙◌, arith}
use Rattle.b1_pool.proofs.FreeLemmas.{joined-place, listed-joined}
use Rattle.b1_pool.proofs.changes.join.Goals as goal

pub overflow_sub-at : goal.overflow_sub-at
overflow_sub-at c = omega (arith, (joined-place c.args.slices.now.items c.args.i c.args.at _ _ c.requires.place c.in-Some.ensures.pair).some)

pub index_mut-requires : goal.index_mut-requires
index_mut-requires c =
    let p = joined-place c.args.slices.now.items c.args.i c.args.at _ _ c.requires.place c.in-Some.ensures.pair in
    omega (arith, p.some, p.within, ap length c.requires.listed)

pub returns-in-Some-clause-listed : goal.returns-in-Some-clause-listed
returns-in-Some-clause-listed c =
    let p = joined-place c.args.slices.now.items c.args.i c.args.at _ _ c.requires.place c.in-Some.ensures.pair in
    let within : c.args.at < length c.args.free.now.items = omega (arith, p.within, ap length c.requires.listed) in
    let removed = rw (c.remove.ensures.succeeds c.in-Some.joined.both (omega (arith, within))) at c.remove.ensures.items in
    removed ∙ listed-joined c.args.slices.now.items _ c.args.free.now.items c.args.i c.args.at _ _ _ c.requires.place c.requires.listed c.join_next.ensures.slices c.in-Some.ensures.pair c.in-Some.ensures.both
