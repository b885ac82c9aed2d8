use Rattle.std.proofs.Common.{◌≡◌, ◌∙◌, rules, true, false, arith, ap, length, IsSome, is_none}
use Rattle.std.specs.Prelude.{if◌then◌else◌}
use Rattle.b1_queue.specs.Queue.{with_entry, without}
use Rattle.b1_entry.specs.Table.{entry_at}
use Rattle.b1_peer_queue.specs.Rows.{name_of, row}
use Rattle.b1_peer_queue.proofs.ListLemmas.{has_all}
use Rattle.b1_peer_queue.proofs.RowLemmas.{key_there, new_listed}
use Rattle.b1_peer_queue.proofs.NameLemmas.{named_dropped, named_still, none_from}
use Rattle.b1_peer_queue.proofs.TiedLemmas.{marks_ascend, marks_distinct, marks_keyed, marks_left_ascend, marks_left_new, marks_left_fit, tied_restamped}
use Rattle.b1_peer_queue.proofs.commits.restamp_in.Goals as goal

pub restamp-requires-clause-there : goal.restamp-requires-clause-there
restamp-requires-clause-there g c = key_there c.args.key c.args.place _ c.requires.there

pub restamp-requires-clause-new_key : goal.restamp-requires-clause-new_key
restamp-requires-clause-new_key g c = new_listed c.args.rows.now.entries.slots c.args.new _ c.requires.new_key

pub unmark-requires-clause-ascending : goal.unmark-requires-clause-ascending
unmark-requires-clause-ascending g c = marks_ascend c.requires.tied (g.met.Q.QueueKind.in_order c.args.rows.now.queue)

pub unmark-requires-clause-distinct : goal.unmark-requires-clause-distinct
unmark-requires-clause-distinct g c = marks_distinct c.requires.tied (g.met.Q.QueueKind.in_order c.args.rows.now.queue)

pub unmark-requires-clause-key : goal.unmark-requires-clause-key
unmark-requires-clause-key g c = marks_keyed c.requires.tied (g.met.Q.QueueKind.in_order c.args.rows.now.queue) c.args.key c.args.place c.requires.there

pub mark_where-requires-clause-room : goal.mark_where-requires-clause-room
mark_where-requires-clause-room g c =
    omega (arith, marks_left_fit c.requires.tied (g.met.Q.QueueKind.in_order c.args.rows.now.queue) c.args.key c.args.place c.args.new c.requires.there c.requires.new_key, ap length c.unmark.ensures.marks, c.unmark.ensures.capacity)

pub mark_where-requires-clause-ascending : goal.mark_where-requires-clause-ascending
mark_where-requires-clause-ascending g c =
    rw c.unmark.ensures.marks (marks_left_ascend c.requires.tied (g.met.Q.QueueKind.in_order c.args.rows.now.queue) c.args.key c.args.place c.args.new c.requires.there c.requires.new_key)

pub mark_where-requires-clause-new_key : goal.mark_where-requires-clause-new_key
mark_where-requires-clause-new_key g c =
    rw c.unmark.ensures.marks (marks_left_new c.requires.tied (g.met.Q.QueueKind.in_order c.args.rows.now.queue) c.args.key c.args.place c.args.new c.requires.there c.requires.new_key)

pub is_marked_at-marked-requires : goal.is_marked_at-marked-requires
is_marked_at-marked-requires g c = has_all (λ e. IsSome (entry_at c.args.rows.now.entries.slots e.1)) _ _ c.requires.there c.requires.tied.filled

pub name_at-requires : goal.name_at-requires
name_at-requires g c = has_all (λ e. IsSome (entry_at c.args.rows.now.entries.slots e.1)) _ _ c.requires.there c.requires.tied.filled

pub returns-then-is_none-clause-tied : goal.returns-then-is_none-clause-tied
returns-then-is_none-clause-tied g c =
    let test : is_none (name_of (row c.args.rows.now.entries.slots (c.args.new, c.args.place))) ≡ true = search rules in
    tied_restamped c.requires.tied (g.met.Q.QueueKind.in_order c.args.rows.now.queue) c.args.key c.args.place c.args.new c.requires.there c.requires.new_key _ _ c.restamp.ensures.spare c.restamp.ensures.room _ c.restamp.ensures.listed _ (omega (arith, c.mark_where.ensures.capacity, c.unmark.ensures.capacity)) _
    (c.mark_where.ensures.marks
    ∙ ap (λ ms. if c.is_marked_at-marked.result then with_entry c.args.new c.args.place ms else ms) c.unmark.ensures.marks
    ∙ ap (λ b. if b then with_entry c.args.new c.args.place (without c.args.place c.args.rows.now.marks.items) else without c.args.place c.args.rows.now.marks.items) c.is_marked_at-marked.ensures)
    _ (rw c.remove.ensures (named_dropped c.requires.tied.naming (g.met.Q.QueueKind.in_order c.args.rows.now.queue) c.args.key c.args.place c.requires.there c.args.new (new_listed c.args.rows.now.entries.slots c.args.new _ c.requires.new_key) (none_from _ test)))

pub returns-else-is_none-clause-tied : goal.returns-else-is_none-clause-tied
returns-else-is_none-clause-tied g c =
    let test : is_none (name_of (row c.args.rows.now.entries.slots (c.args.new, c.args.place))) ≡ false = search rules in
    tied_restamped c.requires.tied (g.met.Q.QueueKind.in_order c.args.rows.now.queue) c.args.key c.args.place c.args.new c.requires.there c.requires.new_key _ _ c.restamp.ensures.spare c.restamp.ensures.room _ c.restamp.ensures.listed _ (omega (arith, c.mark_where.ensures.capacity, c.unmark.ensures.capacity)) _
    (c.mark_where.ensures.marks
    ∙ ap (λ ms. if c.is_marked_at-marked.result then with_entry c.args.new c.args.place ms else ms) c.unmark.ensures.marks
    ∙ ap (λ b. if b then with_entry c.args.new c.args.place (without c.args.place c.args.rows.now.marks.items) else without c.args.place c.args.rows.now.marks.items) c.is_marked_at-marked.ensures)
    _ (named_still c.requires.tied.naming (g.met.Q.QueueKind.in_order c.args.rows.now.queue) c.args.key c.args.place c.requires.there c.args.new (new_listed c.args.rows.now.entries.slots c.args.new _ c.requires.new_key) test c.requires.staged c.requires.same_origin c.requires.same_index)
