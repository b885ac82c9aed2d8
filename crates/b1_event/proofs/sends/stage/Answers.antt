use Rattle.std.proofs.Common.{refl, ap, ◌∙◌, ◌==◌}
use Rattle.b1_model.specs.declared.events.Action.TheVariants as act
use Rattle.b1_model.specs.declared.events.Outcome.TheVariants as out
use Rattle.b1_model.specs.MachineDriver.{node_of_place, send_of}
use Rattle.b1_model.specs.MachineEvents.{begun_of, no_begun, user_of}
use Rattle.b1_event.specs.Events.{open_in}
use Rattle.std.specs.List.{list_any}
use Rattle.b1_event.proofs.Does.{does, phase_in, stage_is, user_known}
use Rattle.b1_event.proofs.sends.stage.Goals as goal

pub stage-got-requires-clause-user : goal.stage-got-requires-clause-user
stage-got-requires-clause-user g c =
    let o = c.args.opening.now in
    c.requires.users c.user_of.result ∙ ap (λ n. list_any (λ spec. spec.user == n) o.peers) (c.user_of.ensures ∙ ap (user_of o) c.number-2.ensures) ∙ user_known o.peers c.args.driver.now.part.me c.requires.known

pub returns : goal.returns
returns g c =
    let d = c.args.driver.now.part in
    let one = open_in d in
    let begun = c.begun-begun.ensures ∙ phase_in no_begun begun_of d refl in
    let stages = c.stage-got.ensures.stages in
    does c.args.opening.now c.args.driver.now c.took.new.self c.args.peer.now c.stage-got.new.self (out.Stage c.stage-got.result) (act.Stage c.args.owner c.args.place) c.requires.next refl refl
    (record {
      memory = stages.memory;
      event = stage_is stages.memory d.me c.number.result (user_of c.args.opening.now d.me) c.user_of.result c.args.place (node_of_place (begun_of one.phase).to c.args.place).serial c.serial_at.result
          (send_of one.command).payload c.payload.result.now (begun_of one.phase).with c.as_slice.result.now c.args.peer.now.part (out.Stage c.stage-got.result, c.stage-got.new.self.part)
          c.number.ensures (c.user_of.ensures ∙ ap (user_of c.args.opening.now) c.number-2.ensures) (c.serial_at.ensures ∙ ap (λ b. (node_of_place b.to c.args.place).serial) begun) c.payload.ensures (c.as_slice.ensures ∙ ap (λ b. b.with) begun) stages.event;
    })
    c.stage-got.ensures.users c.took.ensures.part c.took.ensures.calls c.took.ensures.doomed (c.took.ensures.here refl)
