use Rattle.std.proofs.Common.{sym, subst}
use Rattle.b1_model.specs.declared.naming.Key.{Key}
use Rattle.b1_step.specs.Ordered.{NewKey}
use Rattle.b1_peer_queue.specs.Rows.{entry_or, row, shown}
use Rattle.b1_model.specs.MachineTables.{is_stage}
use Rattle.b1_entry.specs.Table.{entry_at}
use Rattle.b1_peer_queue.proofs.ListLemmas.{find_passes}
use Rattle.b1_peer_queue.proofs.NameLemmas.{stage_odd}
use Rattle.b1_peer_queue.proofs.CommitLemmas.{commit_shows, new_shown, same_key}
use Rattle.b1_peer_queue.proofs.commits.commit_in.Goals as goal

pub restamp_in-requires-clause-new_key : goal.restamp_in-requires-clause-new_key
restamp_in-requires-clause-new_key g c =
    let fresh = rw (← c.in-Some.ensures.found) at c.requires.new_key in
    let key_is = same_key c.args.rows.now.entries.slots c.set_slots_at.new.rows.entries.slots _ _ (g.met.Q.QueueKind.in_order c.args.rows.now.queue) c.args.origin c.args.index c.args.stamp c.args.slots.now c.in-Some.key c.in-Some.place c.in-Some.ensures.there c.in-Some.ensures.found in
    rw c.set_slots_at.ensures.listed
    (new_shown c.args.rows.now.entries.slots c.set_slots_at.new.rows.entries.slots _ _ (subst (λ (k : Key). NewKey k (shown c.args.rows.now.entries.slots (g.Q.QueueKind.listed c.args.rows.now.queue))) (sym key_is) fresh))

pub returns-clause-shows : goal.returns-clause-shows
returns-clause-shows g c =
    let fresh = rw (← c.in-Some.ensures.found) at c.requires.new_key in
    let key_is = same_key c.args.rows.now.entries.slots c.set_slots_at.new.rows.entries.slots _ _ (g.met.Q.QueueKind.in_order c.args.rows.now.queue) c.args.origin c.args.index c.args.stamp c.args.slots.now c.in-Some.key c.in-Some.place c.in-Some.ensures.there c.in-Some.ensures.found in
    rw (c.restamp_in.ensures.listed, c.restamp_in.ensures.slots, c.set_slots_at.ensures.listed)
    (commit_shows c.args.rows.now.entries.slots c.set_slots_at.new.rows.entries.slots _ _ (g.met.Q.QueueKind.in_order c.args.rows.now.queue) c.args.origin c.args.index c.args.stamp c.args.slots.now c.in-Some.key c.in-Some.place c.in-Some.ensures.there c.in-Some.ensures.found c.requires.one c.set_slots_at.ensures.here c.set_slots_at.ensures.others
    (subst (λ (k : Key). NewKey k (shown c.args.rows.now.entries.slots (g.Q.QueueKind.listed c.args.rows.now.queue))) (sym key_is) fresh))

pub restamp_in-requires-clause-staged : goal.restamp_in-requires-clause-staged
restamp_in-requires-clause-staged g c =
    stage_odd c.args.origin c.args.index c.in-Some.key (entry_or (entry_at c.args.rows.now.entries.slots c.in-Some.place))
    (find_passes (is_stage c.args.origin c.args.index) (shown c.args.rows.now.entries.slots (g.Q.QueueKind.listed c.args.rows.now.queue)) (row c.args.rows.now.entries.slots (c.in-Some.key, c.in-Some.place)) (sym c.in-Some.ensures.found)).1
