use Rattle.std.proofs.Common.{ap, sym, subst, ◌∙◌}
use Rattle.b1_model.specs.Names.{made, number_at}
use Rattle.b1_judge_facts.specs.Facts.{CarriesNone}
use Rattle.b1_judge_facts.proofs.Passing.{made_same}
use Rattle.b1_judge_facts.proofs.walk.Walk.number_at.Goals as goal

pub returns : goal.returns
returns c =
    c.number_at.ensures
    ∙ ap (λ s. number_at s.names c.args.serial) c.self.invariant
    ∙ ap (λ l. number_at l c.args.serial) (sym (made_same c.self.inside.opening.now.wires c.self.inside.rec.now c.self.inside.peer c.self.inside.call (subst (λ v. CarriesNone v.rec v.peer v.call) (sym c.self.view_is) c.requires)))
    ∙ ap (λ v. number_at (made v.wires v.rec v.peer v.call) c.args.serial) c.self.view_is
