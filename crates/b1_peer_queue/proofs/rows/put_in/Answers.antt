use Rattle.std.proofs.Common.{◌∙◌, ◌-◌, arith, ap}
use Rattle.std.specs.Prelude.{if◌then◌else◌}
use Rattle.b1_queue.specs.Queue.{with_entry}
use Rattle.b1_peer_queue.specs.Rows.{name_of, shown}
use Rattle.b1_peer_queue.proofs.RowLemmas.{new_listed, vacant_is_new}
use Rattle.b1_peer_queue.proofs.NameLemmas.{can_name, if_named, named_put}
use Rattle.b1_peer_queue.proofs.TiedLemmas.{marks_ascend, marks_few, marks_new, shown_put, tied_put}
use Rattle.b1_peer_queue.proofs.rows.put_in.Goals as goal

pub put-requires-clause-new_key : goal.put-requires-clause-new_key
put-requires-clause-new_key g c = new_listed c.args.rows.now.entries.slots c.args.key _ c.requires.new_key

pub put-requires-clause-new_item : goal.put-requires-clause-new_item
put-requires-clause-new_item g c = vacant_is_new c.args.rows.now.entries.slots c.insert-place.result _ c.requires.tied.filled c.insert-place.ensures.vacant

pub mark_where-requires-clause-room : goal.mark_where-requires-clause-room
mark_where-requires-clause-room g c =
    omega (arith, marks_few c.requires.tied (g.met.Q.QueueKind.in_order c.args.rows.now.queue), c.requires.tied.marks_fit, c.requires.spare)

pub mark_where-requires-clause-ascending : goal.mark_where-requires-clause-ascending
mark_where-requires-clause-ascending g c = marks_ascend c.requires.tied (g.met.Q.QueueKind.in_order c.args.rows.now.queue)

pub mark_where-requires-clause-new_key : goal.mark_where-requires-clause-new_key
mark_where-requires-clause-new_key g c = marks_new c.requires.tied (g.met.Q.QueueKind.in_order c.args.rows.now.queue) c.args.key c.requires.new_key

pub returns-clause-tied : goal.returns-clause-tied
returns-clause-tied g c =
    tied_put c.requires.tied (g.met.Q.QueueKind.in_order c.args.rows.now.queue) c.args.key c.args.entry c.insert-place.result c.insert-place.new.self.slots c.requires.new_key c.insert-place.ensures.vacant c.insert-place.ensures.here c.insert-place.ensures.others _ _ c.requires.spare c.insert-place.ensures.spare c.insert-place.ensures.room _ _ c.put.ensures.spare c.put.ensures.room _ c.put.ensures.listed _ c.mark_where.ensures.capacity _
    (c.mark_where.ensures.marks ∙ ap (λ b. if b then with_entry c.args.key c.insert-place.result c.args.rows.now.marks.items else c.args.rows.now.marks.items) c.is_staged_notice-marked.ensures)
    _ (rw (c.put-2.ensures, c.name_of-name.ensures)
    (named_put c.requires.tied.naming (g.met.Q.QueueKind.in_order c.args.rows.now.queue) c.args.key c.args.entry c.insert-place.result c.insert-place.new.self.slots
    (new_listed c.args.rows.now.entries.slots c.args.key _ c.requires.new_key)
    (vacant_is_new c.args.rows.now.entries.slots c.insert-place.result _ c.requires.tied.filled c.insert-place.ensures.vacant) c.requires.new_name c.insert-place.ensures.here c.insert-place.ensures.others
    (c.args.rows.now.spare - 1) c.insert-place.new.self.room c.requires.spare (omega (arith, c.requires.spare)) c.insert-place.ensures.in_room c.insert-place.ensures.room))

pub returns-clause-shows : goal.returns-clause-shows
returns-clause-shows g c =
    ap (shown c.insert-place.new.self.slots) c.put.ensures.listed
    ∙ shown_put c.requires.tied (g.met.Q.QueueKind.in_order c.args.rows.now.queue) c.args.key c.args.entry c.insert-place.result c.insert-place.new.self.slots c.requires.new_key c.insert-place.ensures.vacant c.insert-place.ensures.here c.insert-place.ensures.others

pub put-requires-2 : goal.put-requires-2
put-requires-2 g c =
    if_named c.args.rows.now.names c.insert-place.result c.name_of-name.result (name_of (c.args.key, c.args.entry)) c.name_of-name.ensures
    (can_name c.requires.tied.naming (g.met.Q.QueueKind.in_order c.args.rows.now.queue) c.args.key c.args.entry c.insert-place.result c.insert-place.new.self.slots
    (new_listed c.args.rows.now.entries.slots c.args.key _ c.requires.new_key)
    (vacant_is_new c.args.rows.now.entries.slots c.insert-place.result _ c.requires.tied.filled c.insert-place.ensures.vacant) c.requires.new_name c.insert-place.ensures.here c.insert-place.ensures.others
    c.requires.spare c.insert-place.ensures.in_room)
