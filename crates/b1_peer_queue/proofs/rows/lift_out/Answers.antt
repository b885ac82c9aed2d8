use Rattle.std.proofs.Common.{◌≡◌, ◌∙◌, ap, sym, IsSome, None}
use Rattle.std.proofs.lemmas.List.{get_or-set_other}
use Rattle.b1_entry.specs.Table.{entry_at}
use Rattle.b1_peer_queue.specs.Rows.{shown}
use Rattle.b1_peer_queue.proofs.ListLemmas.{has_all}
use Rattle.b1_peer_queue.proofs.RowLemmas.{key_there}
use Rattle.b1_peer_queue.proofs.NameLemmas.{named_left}
use Rattle.b1_peer_queue.proofs.TiedLemmas.{marks_ascend, marks_distinct, marks_keyed, shown_left, tied_left}
use Rattle.b1_peer_queue.proofs.rows.lift_out.Goals as goal

pub unmark-requires-clause-ascending : goal.unmark-requires-clause-ascending
unmark-requires-clause-ascending g c = marks_ascend c.requires.tied (g.met.Q.QueueKind.in_order c.args.rows.now.queue)

pub unmark-requires-clause-distinct : goal.unmark-requires-clause-distinct
unmark-requires-clause-distinct g c = marks_distinct c.requires.tied (g.met.Q.QueueKind.in_order c.args.rows.now.queue)

pub unmark-requires-clause-key : goal.unmark-requires-clause-key
unmark-requires-clause-key g c = marks_keyed c.requires.tied (g.met.Q.QueueKind.in_order c.args.rows.now.queue) c.args.key c.args.place c.requires.there

pub unreachable-requires : goal.unreachable-requires
unreachable-requires g c =
    let filled = has_all (λ e. IsSome (entry_at c.args.rows.now.entries.slots e.1)) _ _ c.requires.there c.requires.tied.filled in
    let vacant : entry_at c.args.rows.now.entries.slots c.args.place ≡ None = sym c.remove-3.ensures.entry ∙ c.in_default.is in
    let e = rw vacant at filled in
    cc e

pub returns-clause-tied : goal.returns-clause-tied
returns-clause-tied g c =
    tied_left c.requires.tied (g.met.Q.QueueKind.in_order c.args.rows.now.queue) c.args.key c.args.place c.remove-3.new.self.slots c.requires.there
    (λ other ne. ap (λ s. entry_at s other) c.remove-3.ensures.slots ∙ get_or-set_other _ c.args.place other None None ne)
    _ _ (rw c.in-Some.is at c.remove-3.ensures.spare) c.remove-3.ensures.room _ _ (rw (c.remove.ensures.key, key_there c.args.key c.args.place _ c.requires.there) at c.remove.ensures.spare) c.remove.ensures.room _ c.remove.ensures.listed _ c.unmark.ensures.capacity _ c.unmark.ensures.marks
    _ (rw c.remove-2.ensures (named_left c.requires.tied.naming (g.met.Q.QueueKind.in_order c.args.rows.now.queue) c.args.key c.args.place c.requires.there c.remove-3.new.self.slots
    (λ other ne. ap (λ s. entry_at s other) c.remove-3.ensures.slots ∙ get_or-set_other _ c.args.place other None None ne) c.remove-3.new.self.room c.remove-3.ensures.room))

pub returns-clause-shows : goal.returns-clause-shows
returns-clause-shows g c =
    ap (shown c.remove-3.new.self.slots) c.remove.ensures.listed
    ∙ shown_left c.requires.tied (g.met.Q.QueueKind.in_order c.args.rows.now.queue) c.args.key c.args.place c.remove-3.new.self.slots c.requires.there
    (λ other ne. ap (λ s. entry_at s other) c.remove-3.ensures.slots ∙ get_or-set_other _ c.args.place other None None ne)
