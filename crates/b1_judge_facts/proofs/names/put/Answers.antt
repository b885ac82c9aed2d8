use Rattle.std.specs.Prelude.{◌∷◌, ◌++◌, [], length}
use Rattle.std.proofs.Common.{arith, ap, ◌∙◌}
use Rattle.b1_model.specs.Names.{Name}
use Rattle.b1_judge_facts.proofs.Naming.{placed_put}
use Rattle.b1_judge_facts.proofs.names.put.Goals as goal

pub returns-clause-placed : goal.returns-clause-placed
returns-clause-placed c =
    placed_put c.args.names.now.items c.push.new.self.items c.args.name c.args.places.now c.insert.new.self c.name.inside.number c.len.result
    (c.in-Ok.ensures.items ∙ ap (λ l. l ++ c.args.name ∷ []) c.in_ok-reserve.ensures.items)
    (ap (λ (m : Name). m.number) c.name.view_is)
    (omega (arith, c.len.ensures, ap length c.in_ok-reserve.ensures.items))
    c.requires.placed c.requires.new c.in_ok-insert.ensures.updates.0
