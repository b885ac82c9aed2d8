use Rattle.std.proofs.Common.{◌∙◌, ap, set, get_or, add-one}
use Rattle.b1_model.specs.declared.parts.Slot.TheVariants.{Unattached}
use Rattle.b1_peer_queue.proofs.ListLemmas.{set_front}
use Rattle.b1_peer_queue.proofs.messages.fill.Goals as goal

pub loop-i-preserved : goal.loop-i-preserved
loop-i-preserved c =
    rw (add-one c.loop-i.i)
    (c.replace.ensures.list
    ∙ ap (λ xs. set xs c.loop-i.i (get_or c.args.new.now c.loop-i.i Unattached)) c.loop-i.invariant
    ∙ set_front c.args.new.now c.args.old.now c.loop-i.i Unattached c.loop-i-test.true c.requires)
