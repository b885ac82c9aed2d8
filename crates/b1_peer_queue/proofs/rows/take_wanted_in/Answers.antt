use Rattle.std.proofs.Common.{◌∙◌, ap, sym, Some}
use Rattle.b1_model.specs.declared.naming.Key.{Key}
use Rattle.b1_model.specs.declared.entries.Entry.{Entry}
use Rattle.b1_peer_queue.specs.Rows.{passes}
use Rattle.b1_peer_queue.proofs.ListLemmas.{find_passes, none_found}
use Rattle.b1_peer_queue.proofs.RowLemmas.{shown-without}
use Rattle.b1_peer_queue.proofs.rows.take_wanted_in.Goals as goal

pub returns-in_err-key-clause-shows : goal.returns-in_err-key-clause-shows
returns-in_err-key-clause-shows g c = sym (none_found (passes c.args.wanted) _ (sym c.in_err-key.ensures.found))

pub lift_out-requires-clause-there : goal.lift_out-requires-clause-there
lift_out-requires-clause-there g c = c.in_ok-key.ensures.there

pub returns-clause-found : goal.returns-clause-found
returns-clause-found g c = ap (λ (f : Key × Entry). Some f) c.lift_out.ensures.entry ∙ c.in_ok-key.ensures.found

pub returns-clause-shows : goal.returns-clause-shows
returns-clause-shows g c =
    c.lift_out.ensures.shows
    ∙ shown-without c.args.rows.now.entries.slots (passes c.args.wanted) _ (c.in_ok-key.key, c.in_ok-key.place) (g.met.Q.QueueKind.in_order c.args.rows.now.queue).distinct c.in_ok-key.ensures.there (find_passes (passes c.args.wanted) _ _ (sym c.in_ok-key.ensures.found)).1 c.requires.one
