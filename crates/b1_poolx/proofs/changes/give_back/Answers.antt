use Rattle.std.proofs.Common.{◌<◌, length, sym, ap, ◌∙◌, arith}
use Rattle.b1_pool.specs.declared.slices.SliceState.TheVariants.{Free}
use Rattle.b1_pool.specs.Places.{total}
use Rattle.b1_pool.proofs.SliceLemmas.{set-freed_read, total-freed_at, given_first, given_later}
use Rattle.b1_poolx.specs.Sizes.{placed}
use Rattle.b1_poolx.proofs.ChangeLemmas.{IsBySize-sized, by_size-freed, length-by_size-room}
use Rattle.b1_poolx.proofs.changes.give_back.Goals as goal

pub put_in-requires-clause-ordered : goal.put_in-requires-clause-ordered
put_in-requires-clause-ordered c = IsBySize-sized c.args.slices.now.items _ c.requires.sized

pub put_in-requires-clause-room : goal.put_in-requires-clause-room
put_in-requires-clause-room c =
    omega (arith, ap length c.requires.sized, length-by_size-room c.args.slices.now.items c.args.i c.requires.used, c.requires.room)

pub join-requires-clause-inside : goal.join-requires-clause-inside
join-requires-clause-inside c =
    let within : c.args.i < length c.args.slices.now.items = omega arith in
    let freed = set-freed_read c.args.slices.now.items c.args.i c.index.result.now within c.index.ensures in
    omega (arith, ap total freed, total-freed_at c.args.i c.args.slices.now.items)

pub join-requires-clause-sized : goal.join-requires-clause-sized
join-requires-clause-sized c =
    let within : c.args.i < length c.args.slices.now.items = omega arith in
    c.put_in.ensures.items
    ∙ ap (placed (record c.index.result.now { state = Free })) c.requires.sized
    ∙ sym (by_size-freed c.args.slices.now.items c.args.i c.index.result.now c.requires.used within c.index.ensures)

pub join-requires-then-i-gt0-clause-inside : goal.join-requires-then-i-gt0-clause-inside
join-requires-then-i-gt0-clause-inside c =
    let within : c.args.i < length c.args.slices.now.items = omega arith in
    let freed = set-freed_read c.args.slices.now.items c.args.i c.index.result.now within c.index.ensures in
    omega (arith, ap total freed, total-freed_at c.args.i c.args.slices.now.items, c.join.ensures.total)

pub returns-then-i-gt0-clause-slices : goal.returns-then-i-gt0-clause-slices
returns-then-i-gt0-clause-slices c =
    let within : c.args.i < length c.args.slices.now.items = omega arith in
    let freed = set-freed_read c.args.slices.now.items c.args.i c.index.result.now within c.index.ensures in
    given_later c.args.slices.now.items _ _ _ c.args.i c.requires.merged freed c.join.ensures.slices c.if-i-gt0.true c.join-then-i-gt0.ensures.slices

pub returns-else-i-gt0-clause-slices : goal.returns-else-i-gt0-clause-slices
returns-else-i-gt0-clause-slices c =
    let within : c.args.i < length c.args.slices.now.items = omega arith in
    let freed = set-freed_read c.args.slices.now.items c.args.i c.index.result.now within c.index.ensures in
    given_first c.args.slices.now.items _ _ c.args.i c.requires.merged freed c.join.ensures.slices (omega arith)
