use Rattle.std.proofs.Common.{◌≡◌, Option, Some, ap, sym, ◌∙◌}
use Rattle.b1_model.specs.MachineTook.{took}
use Rattle.b1_driver.specs.declared.stage.Open.{Open}
use Rattle.b1_driver.specs.Parts.{Driver, part_of, settled_turn}
use Rattle.b1_driver.specs.Stages.{phase_of, turn_of, doing_of}
use Rattle.b1_driver.proofs.Fitting.{nothing_is_owed}
use Rattle.b1_driver.proofs.Took.{took_step, gone_on}
use Rattle.b1_driver.proofs.driver.DriverState.took.Goals as goal

pub answered-after-requires-clause-nothing : goal.answered-after-requires-clause-nothing
answered-after-requires-clause-nothing c other =
    let opened : c.self.inside.doing ≡ Some c.in-Some.field-0 = sym c.take.ensures.value ∙ c.in-Some.is in
    ap (λ (d : Driver). d.part.owed) c.self.view_is
    ∙ nothing_is_owed c.args.self.now.part c.in-Some.field-0.command (phase_of c.self.inside.doomed.items c.in-Some.field-0.stage) c.args.outcome (sym (ap (λ (d : Driver). d.part.doing) c.self.view_is) ∙ ap (doing_of c.self.inside.doomed.items) opened) c.requires.kind other

pub returns-clause-part : goal.returns-clause-part
returns-clause-part c =
    let opened : c.self.inside.doing ≡ Some c.in-Some.field-0 = sym c.take.ensures.value ∙ c.in-Some.is in
    let before : part_of c.self.inside.me c.self.inside.calls.items c.self.inside.facts (Some (record { command = c.in-Some.field-0.command; phase = phase_of c.self.inside.doomed.items c.in-Some.field-0.stage })) c.self.inside.owing.drops ≡ c.args.self.now.part =
    ap (λ (o : Option Open). part_of c.self.inside.me c.self.inside.calls.items c.self.inside.facts (doing_of c.self.inside.doomed.items o) c.self.inside.owing.drops) (sym opened) ∙ ap (λ (d : Driver). d.part) c.self.view_is in
    rw (c.go_on.ensures.calls, c.go_on.ensures.doing)
    (gone_on c.self.inside.me c.self.inside.calls.items c.note.new.self c.in-Some.field-0.command (phase_of c.self.inside.doomed.items c.in-Some.field-0.stage) c.answered-after.new.owing.drops c.answered-after.new.doomed.items c.settle_after-after.result
    ∙ took_step c.self.inside.me c.self.inside.calls.items c.self.inside.facts c.note.new.self c.in-Some.field-0.command (phase_of c.self.inside.doomed.items c.in-Some.field-0.stage) c.self.inside.owing.drops c.answered-after.new.owing.drops c.args.outcome (turn_of c.answered-after.new.doomed.items c.settle_after-after.result) c.note.ensures.shut c.note.ensures.told c.note.ensures.attempted c.note.ensures.attempts c.answered-after.ensures.owed
    (c.settle_after-after.ensures.turn c.in-Some.field-0.command c.answered-after.new.doomed.items ∙ ap (settled_turn c.answered-after.new.owing.drops c.note.new.self.told c.in-Some.field-0.command) c.answered-after.ensures.turn)
    ∙ ap (λ d. took d c.args.outcome) before)
