use Rattle.std.proofs.Common.{◌∙◌, ap, sym, Some}
use Rattle.b1_model.specs.declared.naming.Key.{Key}
use Rattle.b1_model.specs.declared.entries.Entry.{Entry}
use Rattle.b1_peer_queue.proofs.ListLemmas.{first_there}
use Rattle.b1_peer_queue.proofs.RowLemmas.{first_shown, first_leaves}
use Rattle.b1_peer_queue.proofs.rows.take_in.Goals as goal

pub lift_out-requires-clause-there : goal.lift_out-requires-clause-there
lift_out-requires-clause-there g c = first_there _ _ (sym c.in_ok-key.ensures)

pub returns-clause-front : goal.returns-clause-front
returns-clause-front g c =
    ap (λ (f : Key × Entry). Some f) c.lift_out.ensures.entry ∙ sym (first_shown c.args.rows.now.entries.slots _ (c.in_ok-key.key, c.in_ok-key.place) (sym c.in_ok-key.ensures))

pub returns-clause-shows : goal.returns-clause-shows
returns-clause-shows g c =
    c.lift_out.ensures.shows ∙ first_leaves c.args.rows.now.entries.slots _ (c.in_ok-key.key, c.in_ok-key.place) (g.met.Q.QueueKind.in_order c.args.rows.now.queue).distinct (sym c.in_ok-key.ensures)
