use Rattle.std.proofs.Common.{sym}
use Rattle.b1_model.specs.MachineTables.{is_staged_notice}
use Rattle.b1_entry.specs.Table.{entry_at}
use Rattle.b1_peer_queue.specs.Rows.{entry_or, row, shown}
use Rattle.b1_peer_queue.proofs.ListLemmas.{find_passes}
use Rattle.b1_peer_queue.proofs.NameLemmas.{notice_odd}
use Rattle.b1_peer_queue.proofs.NoticeLemmas.{none_staged, next_is_new, next_distinct, next_fewer, next_kept, next_fresh}
use Rattle.b1_peer_queue.proofs.commits.restamp_first.Goals as goal

pub returns-in_default-clause-done : goal.returns-in_default-clause-done
returns-in_default-clause-done g c = λ no_more. none_staged c.args.origin c.args.stamp _ (sym (rw c.in_default.is at c.wanted_at.ensures.found))

pub restamp_in-requires-clause-new_key : goal.restamp_in-requires-clause-new_key
restamp_in-requires-clause-new_key g c =
    next_is_new c.args.rows.now.entries.slots _ _ (g.met.Q.QueueKind.in_order c.args.rows.now.queue) c.args.origin c.args.stamp c.requires.even c.in-Some.key c.in-Some.place c.in-Some.ensures.first c.requires.distinct c.requires.new_keys

pub returns-clause-distinct : goal.returns-clause-distinct
returns-clause-distinct g c =
    rw (c.restamp_in.ensures.slots, c.restamp_in.ensures.listed)
    (next_distinct c.args.rows.now.entries.slots _ _ (g.met.Q.QueueKind.in_order c.args.rows.now.queue) c.args.origin c.args.stamp c.requires.even c.in-Some.key c.in-Some.place c.in-Some.ensures.first c.requires.distinct c.requires.new_keys)

pub returns-clause-new_keys : goal.returns-clause-new_keys
returns-clause-new_keys g c =
    rw (c.restamp_in.ensures.slots, c.restamp_in.ensures.listed)
    (next_fresh c.args.rows.now.entries.slots _ _ (g.met.Q.QueueKind.in_order c.args.rows.now.queue) c.args.origin c.args.stamp c.requires.even c.in-Some.key c.in-Some.place c.in-Some.ensures.first c.requires.distinct c.requires.new_keys)

pub returns-clause-kept : goal.returns-clause-kept
returns-clause-kept g c =
    rw (c.restamp_in.ensures.slots, c.restamp_in.ensures.listed)
    (next_kept c.args.rows.now.entries.slots _ _ (g.met.Q.QueueKind.in_order c.args.rows.now.queue) c.args.origin c.args.stamp c.requires.even c.in-Some.key c.in-Some.place c.in-Some.ensures.first c.requires.distinct c.requires.new_keys)

pub returns-clause-fewer : goal.returns-clause-fewer
returns-clause-fewer g c =
    rw (c.restamp_in.ensures.slots, c.restamp_in.ensures.listed)
    (next_fewer c.args.rows.now.entries.slots _ _ (g.met.Q.QueueKind.in_order c.args.rows.now.queue) c.args.origin c.args.stamp c.requires.even c.in-Some.key c.in-Some.place c.in-Some.ensures.first c.requires.distinct c.requires.new_keys)

pub restamp_in-requires-clause-staged : goal.restamp_in-requires-clause-staged
restamp_in-requires-clause-staged g c =
    notice_odd c.args.origin c.in-Some.key (entry_or (entry_at c.args.rows.now.entries.slots c.in-Some.place))
    (find_passes (is_staged_notice c.args.origin) (shown c.args.rows.now.entries.slots (g.Q.QueueKind.listed c.args.rows.now.queue)) (row c.args.rows.now.entries.slots (c.in-Some.key, c.in-Some.place)) (sym c.in-Some.ensures.found)).1
