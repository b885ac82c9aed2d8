use Rattle.std.proofs.Common.{rules, length, ◌<◌, ◌^◌, arith}
use Rattle.b1_model.proofs.HeldLemmas.{with_place, with_row, with_all, held_few}
use Rattle.b1_model.proofs.held.put.Goals as goal

pub returns-in_err-insert-2-clause-indexed : goal.returns-in_err-insert-2-clause-indexed
returns-in_err-insert-2-clause-indexed c = rw c.reserve.ensures.items (with_place c.args.wires.now.items c.args.wire c.count_of-count.result _ _ _ _ _ _ c.args.counts.now c.requires.indexed c.requires.new c.count_of-count.ensures c.in_ok-insert.ensures.updates.0 c.in_err-insert-2.ensures.err)

pub overflow_add-count : goal.overflow_add-count
overflow_add-count c = let h = held_few c.args.wires.now.items c.args.wire.to in let n = c.requires.indexed.counted c.args.wire.to in let few : length c.args.wires.now.items < 2 ^ 63 = search rules in grind (arith, h, n, c.count_of-count.ensures, few)

pub returns-in_err-insert-3-clause-indexed : goal.returns-in_err-insert-3-clause-indexed
returns-in_err-insert-3-clause-indexed c = rw c.reserve.ensures.items (with_row c.args.wires.now.items c.args.wire c.count_of-count.result _ _ _ _ _ _ _ c.requires.indexed c.requires.new c.count_of-count.ensures c.in_ok-insert.ensures.updates.0 c.in_ok-insert-2.ensures.updates.0 c.in_err-insert-3.ensures.err)

pub returns-clause-indexed : goal.returns-clause-indexed
returns-clause-indexed c = rw (c.in_ok-push.ensures.items, c.reserve.ensures.items) (with_all c.args.wires.now.items c.args.wire c.count_of-count.result _ _ _ _ _ _ _ c.requires.indexed c.requires.new c.count_of-count.ensures c.in_ok-insert.ensures.updates.0 c.in_ok-insert-2.ensures.updates.0 c.in_ok-insert-3.ensures.updates.0 c.in_ok-insert.ensures.updates.1 (search rules) c.in_ok-insert-2.ensures.updates.1)
