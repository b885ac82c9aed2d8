use Rattle.std.proofs.Common.{◌+◌, arith}
use Rattle.b1_queue.proofs.Entries.{IsNewItem-without}
use Rattle.b1_tests_tables.proofs.Numbered.{numbered_more, numbered_new, numbered_with, numbered_without, put_is_there}
use Rattle.b1_tests_tables.proofs.queues.put_and_move.Goals as goal

pub returns-in_err-reserve : goal.returns-in_err-reserve
returns-in_err-reserve g c =
    let q = g.Q.QueueKind.listed c.args.queue.now in
    rw (c.reserve.ensures.listed, c.remove.ensures.listed)
    (numbered_without c.args.item (c.args.second.index + 1) q
    (numbered_more c.args.first.index (c.args.second.index + 1) q (omega (arith, c.requires.next)) c.requires.numbered))

pub put-requires-clause-new_key : goal.put-requires-clause-new_key
put-requires-clause-new_key g c =
    let q = g.Q.QueueKind.listed c.args.queue.now in
    rw (c.reserve.ensures.listed, c.remove.ensures.listed)
    (numbered_new c.args.first c.args.first.index _ (omega arith)
    (numbered_without c.args.item c.args.first.index q c.requires.numbered))

pub put-requires-clause-new_item : goal.put-requires-clause-new_item
put-requires-clause-new_item g c =
    rw (c.reserve.ensures.listed, c.remove.ensures.listed)
    (IsNewItem-without c.args.item (g.Q.QueueKind.listed c.args.queue.now))

pub restamp-requires-clause-there : goal.restamp-requires-clause-there
restamp-requires-clause-there g c =
    rw c.put.ensures.listed
    (put_is_there c.args.first c.args.item (g.Q.QueueKind.listed c.reserve.new.self))

pub restamp-requires-clause-new_key : goal.restamp-requires-clause-new_key
restamp-requires-clause-new_key g c =
    let q = g.Q.QueueKind.listed c.args.queue.now in
    rw (c.put.ensures.listed, c.reserve.ensures.listed, c.remove.ensures.listed)
    (numbered_new c.args.second c.args.second.index _ (omega arith)
    (numbered_with c.args.first c.args.item c.args.second.index _ (omega (arith, c.requires.next))
    (numbered_without c.args.item c.args.second.index q
    (numbered_more c.args.first.index c.args.second.index q (omega (arith, c.requires.next)) c.requires.numbered))))

pub returns : goal.returns
returns g c =
    let q = g.Q.QueueKind.listed c.args.queue.now in
    rw (c.restamp.ensures.listed, c.put.ensures.listed, c.reserve.ensures.listed, c.remove.ensures.listed)
    (numbered_with c.args.second c.args.item (c.args.second.index + 1) _ (omega arith)
    (numbered_without c.args.item (c.args.second.index + 1) _
    (numbered_with c.args.first c.args.item (c.args.second.index + 1) _ (omega (arith, c.requires.next))
    (numbered_without c.args.item (c.args.second.index + 1) q
    (numbered_more c.args.first.index (c.args.second.index + 1) q (omega (arith, c.requires.next)) c.requires.numbered)))))
