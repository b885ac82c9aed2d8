use Rattle.std.proofs.Common.{[], false, refl, sym, ap, ◌∙◌, subst}
use Rattle.b1_model.specs.declared.events.Action.TheVariants as act
use Rattle.b1_model.specs.declared.events.Outcome.TheVariants as out
use Rattle.b1_model.specs.MachineDestroy.{visit_answer, visited}
use Rattle.b1_model.specs.MachineEvents.{doomed_of}
use Rattle.b1_event.specs.Events.{open_in}
use Rattle.b1_inv_peer.specs.Needs.{VisitsAnew}
use Rattle.b1_event.proofs.Does.{does, pair_is, phase_in}
use Rattle.b1_event.proofs.destroys.visit.Goals as goal

pub visit-got-requires-clause-new_keys : goal.visit-got-requires-clause-new_keys
visit-got-requires-clause-new_keys g c =
    let d = c.args.driver.now.part in
    let x = c.args.peer.now.part in
    let doomed = c.doomed.ensures ∙ phase_in [] doomed_of d refl in
    subst (λ l. VisitsAnew x c.number.result l) (sym doomed) (subst (λ n. VisitsAnew x n (doomed_of (open_in d).phase)) (sym c.number.ensures) c.requires.allowed.new_keys)

pub returns : goal.returns
returns g c =
    let d = c.args.driver.now.part in
    let x = c.args.peer.now.part in
    let one = open_in d in
    let doomed = c.doomed.ensures ∙ phase_in [] doomed_of d refl in
    λ o. does o c.args.driver.now c.took.new.self c.args.peer.now c.visit-got.new.self (out.Visit c.visit-got.result) (act.Visit c.args.at) c.requires.next refl refl
    (record {
      memory = false;
      event = pair_is (out.Visit (visit_answer x d.me (doomed_of one.phase))) (out.Visit c.visit-got.result) (visited x d.me (doomed_of one.phase)) c.visit-got.new.self.part
          (ap (λ z. out.Visit z) (ap (λ n. visit_answer x n (doomed_of one.phase)) (sym c.number.ensures) ∙ ap (visit_answer x c.number.result) (sym doomed) ∙ sym c.visit-got.ensures.answer))
          (ap (λ n. visited x n (doomed_of one.phase)) (sym c.number.ensures) ∙ ap (visited x c.number.result) (sym doomed) ∙ sym (ap (λ p. p.part) c.visit-got.ensures.visited));
    })
    (ap (λ p. p.users) c.visit-got.ensures.visited) c.took.ensures.part c.took.ensures.calls c.took.ensures.doomed (c.took.ensures.here refl)
