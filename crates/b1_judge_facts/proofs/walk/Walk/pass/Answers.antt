use Rattle.std.proofs.Common.{ap, sym, subst, ◌∙◌, refl, ◌≡◌, ◌<◌, length, Some}
use Rattle.std.specs.Prelude.{slice_get}
use Rattle.std.proofs.lemmas.Option.{slice_get_read}
use Rattle.b1_model.specs.Names.{calls_of}
use Rattle.b1_model.specs.Ledger.{slots}
use Rattle.b1_judge_facts.specs.Steps.{slots_for}
use Rattle.b1_judge_facts.proofs.Passing.{passed_is}
use Rattle.b1_judge_facts.proofs.walk.Walk.pass.Goals as goal

pub invariant_of-result : goal.invariant_of-result
invariant_of-result c =
    passed_is c.self.inside.opening.now.wires c.self.inside.rec.now c.self.inside.peer c.self.inside.call c.index-calls_of-call.result c.self.inside.standing c.pass.new.self c.slots.result.now
    c.self.invariant
    (subst (λ cs. slice_get cs c.self.inside.call ≡ Some c.index-calls_of-call.result) c.calls_of.ensures
    (slice_get_read c.calls_of.result.now _ c.self.inside.call c.index-calls_of-call.result refl
    (subst (λ cs. c.self.inside.call < length cs) (sym c.calls_of.ensures) (subst (λ v. v.call < length (calls_of v.rec v.peer)) (sym c.self.view_is) c.requires.call))
    c.index-calls_of-call.is))
    (c.slots.ensures
    ∙ ap (λ ws. slots_for (slots ws c.args.facts.now.rec c.self.inside.peer) c.index-calls_of-call.result.answer) (sym c.requires.wires ∙ sym (ap (λ v. v.wires) c.self.view_is))
    ∙ ap (λ r. slots_for (slots c.self.inside.opening.now.wires r c.self.inside.peer) c.index-calls_of-call.result.answer) (sym c.requires.rec ∙ sym (ap (λ v. v.rec) c.self.view_is)))
    c.in_ok-pass.ensures
