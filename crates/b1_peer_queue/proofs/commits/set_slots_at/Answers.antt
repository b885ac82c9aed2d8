use Rattle.std.proofs.Common.{◌∙◌, ap, Option}
use Rattle.b1_model.specs.declared.entries.Entry.{Entry}
use Rattle.b1_model.specs.MachineSend.{with_slots}
use Rattle.b1_peer_queue.specs.Rows.{entry_or}
use Rattle.b1_peer_queue.proofs.CommitLemmas.{tied_written}
use Rattle.b1_peer_queue.proofs.commits.set_slots_at.Goals as goal

pub returns-in-Some-clause-tied : goal.returns-in-Some-clause-tied
returns-in-Some-clause-tied g c =
    tied_written c.requires.tied (g.met.Q.QueueKind.in_order c.args.rows.now.queue) c.args.key c.args.place c.requires.there c.set_slots.new.entry c.args.slots.now
    (c.set_slots.ensures ∙ ap (λ (o : Option Entry). with_slots c.args.slots.now (entry_or o)) c.in-Some.ensures.entry)
