use Rattle.std.proofs.Common.{false, refl, sym, ap, ◌∙◌}
use Rattle.b1_model.specs.declared.events.Action.TheVariants as act
use Rattle.b1_model.specs.declared.events.Outcome.TheVariants as out
use Rattle.b1_model.specs.MachineReceive.{has_dead, received, received_part}
use Rattle.b1_event.proofs.Does.{does, pair_is}
use Rattle.b1_event.proofs.receives.recv.Goals as goal

pub returns : goal.returns
returns g c =
    let x = c.args.peer.now.part in
    λ o. does o c.args.driver.now c.took.new.self c.args.peer.now c.recv-got.new.self (out.Recv c.recv-got.result c.has_dead-dead.result) act.Recv c.requires.next refl refl
    (record {
      memory = false;
      event = pair_is (out.Recv (received x) (has_dead (received_part x))) (out.Recv c.recv-got.result c.has_dead-dead.result) (received_part x) c.recv-got.new.self.part
          (ap (λ z. out.Recv z (has_dead (received_part x))) (sym c.recv-got.ensures.answer) ∙ ap (λ z. out.Recv c.recv-got.result z) (ap has_dead (sym c.recv-got.ensures.part) ∙ sym c.has_dead-dead.ensures))
          (sym c.recv-got.ensures.part);
    })
    c.recv-got.ensures.users c.took.ensures.part c.took.ensures.calls c.took.ensures.doomed (c.took.ensures.here refl)
