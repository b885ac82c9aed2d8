use Rattle.std.proofs.Common.{◌≡◌, ◌+◌, length, false, refl, sym, ap, ◌∙◌, subst}
use Rattle.b1_model.specs.declared.events.Action.TheVariants as act
use Rattle.b1_model.specs.declared.events.Outcome.TheVariants as out
use Rattle.b1_model.specs.MachineTook.{took}
use Rattle.b1_model.specs.MachineEvents.{begin_refusal, begin_serials, destroy_by}
use Rattle.b1_inv_peer.specs.Needs.{StagesAnew}
use Rattle.b1_event.specs.Events.{open_in}
use Rattle.b1_event.proofs.Does.{does}
use Rattle.b1_event.proofs.destroys.begin_destroy.Goals as goal

pub doom-got-requires-clause-new_keys : goal.doom-got-requires-clause-new_keys
doom-got-requires-clause-new_keys g c =
    let x = c.args.peer.now.part in
    subst (λ p. StagesAnew x x.me (length (begin_serials (open_in p).command x))) (sym (ap (λ z. z.part) c.take_doomed-doomed.ensures.kept)) c.requires.allowed.new_keys

pub returns : goal.returns
returns g c =
    let x = c.args.peer.now.part in
    let kept = c.take_doomed-doomed.ensures.kept in
    let part = ap (λ z. z.part) kept in
    let outcome = out.BeginDestroy c.doom-got.result c.doom-got.new.doomed.items in
    λ o. does o c.args.driver.now c.took_begin_destroy.new.self c.args.peer.now c.doom-got.new.peer outcome act.BeginDestroy c.requires.next refl refl
    (record {
      memory = false;
      event = subst (λ p. destroy_by (begin_refusal (open_in p).command x) (begin_serials (open_in p).command x) x ≡ (outcome, c.doom-got.new.peer.part)) part c.doom-got.ensures.event;
    })
    c.doom-got.ensures.users
    (c.took_begin_destroy.ensures.part ∙ ap (λ p. took p outcome) part)
    (c.took_begin_destroy.ensures.calls ∙ ap (λ z. z.spare + length z.part.calls) kept)
    (c.took_begin_destroy.ensures.doomed ∙ ap (λ z. z.doomed) kept)
    (c.took_begin_destroy.ensures.here ∙ c.doom-got.ensures.capacity ∙ c.take_doomed-doomed.ensures.room)
