use Rattle.std.proofs.Common.{[], false, refl, sym, ap, ◌∙◌}
use Rattle.b1_model.specs.declared.events.Action.TheVariants as act
use Rattle.b1_model.specs.declared.events.Outcome.TheVariants as out
use Rattle.b1_model.specs.MachineDestroy.{doom_answer, doom_stamped}
use Rattle.b1_model.specs.MachineEvents.{collected_of, doomed_of}
use Rattle.b1_event.specs.Events.{open_in}
use Rattle.b1_event.proofs.Does.{does, pair_is, phase_in}
use Rattle.b1_event.proofs.destroys.stamp_destroy.Goals as goal

pub returns : goal.returns
returns g c =
    let d = c.args.driver.now.part in
    let x = c.args.peer.now.part in
    let one = open_in d in
    let collected = c.collected.ensures ∙ phase_in 0 collected_of d refl in
    let doomed = c.doomed.ensures ∙ phase_in [] doomed_of d refl in
    λ o. does o c.args.driver.now c.took.new.self c.args.peer.now c.stamp_destroy-got.new.self (out.StampDestroy c.stamp_destroy-got.result) act.StampDestroy c.requires.next refl refl
    (record {
      memory = false;
      event = pair_is (out.StampDestroy (doom_answer x (collected_of one.phase))) (out.StampDestroy c.stamp_destroy-got.result) (doom_stamped x (collected_of one.phase) (doomed_of one.phase)) c.stamp_destroy-got.new.self.part
          (ap (λ z. out.StampDestroy z) (ap (doom_answer x) (sym collected) ∙ sym c.stamp_destroy-got.ensures.answer))
          (ap (λ z. doom_stamped x z (doomed_of one.phase)) (sym collected) ∙ ap (doom_stamped x c.collected.result) (sym doomed) ∙ sym (ap (λ p. p.part) c.stamp_destroy-got.ensures.stamped));
    })
    (ap (λ p. p.users) c.stamp_destroy-got.ensures.stamped) c.took.ensures.part c.took.ensures.calls c.took.ensures.doomed (c.took.ensures.here refl)
