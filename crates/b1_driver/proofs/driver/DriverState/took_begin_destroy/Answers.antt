use Rattle.std.proofs.Common.{◌≡◌, Option, Some, refl, ap, sym, ◌∙◌}
use Rattle.b1_model.specs.declared.events.Outcome.TheVariants as out
use Rattle.b1_model.specs.MachineTook.{took}
use Rattle.b1_driver.specs.declared.stage.Open.{Open}
use Rattle.b1_driver.specs.Parts.{Driver, part_of, settled_turn}
use Rattle.b1_driver.specs.Stages.{phase_of, turn_of, doing_of}
use Rattle.b1_driver.proofs.Fitting.{begins}
use Rattle.b1_driver.proofs.Took.{took_step, gone_on}
use Rattle.b1_driver.proofs.driver.DriverState.took_begin_destroy.Goals as goal

pub begin_destroy_answered-after-requires : goal.begin_destroy_answered-after-requires
begin_destroy_answered-after-requires c =
    let opened : c.self.inside.doing ≡ Some c.in-Some.field-0 = sym c.take.ensures.value ∙ c.in-Some.is in
    begins c.args.self.now.part c.in-Some.field-0.command c.self.inside.doomed.items c.in-Some.field-0.stage (sym (ap (λ (d : Driver). d.part.doing) c.self.view_is) ∙ ap (doing_of c.self.inside.doomed.items) opened) c.requires

pub returns-clause-part : goal.returns-clause-part
returns-clause-part c =
    let opened : c.self.inside.doing ≡ Some c.in-Some.field-0 = sym c.take.ensures.value ∙ c.in-Some.is in
    let before : part_of c.self.inside.me c.self.inside.calls.items c.self.inside.facts (Some (record { command = c.in-Some.field-0.command; phase = phase_of c.self.inside.doomed.items c.in-Some.field-0.stage })) c.self.inside.owing.drops ≡ c.args.self.now.part =
    ap (λ (o : Option Open). part_of c.self.inside.me c.self.inside.calls.items c.self.inside.facts (doing_of c.self.inside.doomed.items o) c.self.inside.owing.drops) (sym opened) ∙ ap (λ (d : Driver). d.part) c.self.view_is in
    rw (c.go_on.ensures.calls, c.go_on.ensures.doing)
    (gone_on c.self.inside.me c.self.inside.calls.items c.self.inside.facts c.in-Some.field-0.command (phase_of c.self.inside.doomed.items c.in-Some.field-0.stage) c.self.inside.owing.drops c.begin_destroy_answered-after.new.doomed.items c.settle_after-after.result
    ∙ took_step c.self.inside.me c.self.inside.calls.items c.self.inside.facts c.self.inside.facts c.in-Some.field-0.command (phase_of c.self.inside.doomed.items c.in-Some.field-0.stage) c.self.inside.owing.drops c.self.inside.owing.drops (out.BeginDestroy c.args.got c.args.doomed.items) (turn_of c.begin_destroy_answered-after.new.doomed.items c.settle_after-after.result) refl refl refl refl refl
    (c.settle_after-after.ensures.turn c.in-Some.field-0.command c.begin_destroy_answered-after.new.doomed.items ∙ ap (settled_turn c.self.inside.owing.drops c.self.inside.facts.told c.in-Some.field-0.command) (c.begin_destroy_answered-after.ensures.turn c.self.inside.me c.in-Some.field-0.command))
    ∙ ap (λ d. took d (out.BeginDestroy c.args.got c.args.doomed.items)) before)
