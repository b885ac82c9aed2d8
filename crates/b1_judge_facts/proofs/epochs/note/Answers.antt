use Rattle.std.proofs.Common.{sym, ◌∙◌}
use Rattle.b1_judge_facts.proofs.FirstPlaces.{note_new}
use Rattle.b1_judge_facts.proofs.epochs.note.Goals as goal

pub returns : goal.returns
returns c =
    rw (c.in-Some.is, ← c.node.view_is)
    (note_new c.args.place (record { owner = c.node.inside.owner; serial = c.node.inside.serial; epoch = c.node.inside.epoch }) c.args.places.now c.insert.new.self (sym c.contains_key.ensures ∙ c.if-contains_key.false) c.in_ok-insert.ensures.updates.0)
