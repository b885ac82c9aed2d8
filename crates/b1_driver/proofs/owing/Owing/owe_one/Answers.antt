use Rattle.std.proofs.Common.{length, refl, ap, ◌∙◌, arith}
use Rattle.b1_driver.specs.Parts.{Owed}
use Rattle.b1_driver.proofs.Lists.{nothing_owed}
use Rattle.b1_driver.proofs.owing.Owing.owe_one.Goals as goal

pub push_reserved-requires : goal.push_reserved-requires
push_reserved-requires c =
    let none = nothing_owed c.self.inside.holder c.self.inside.clock c.self.inside.references.items c.self.inside.item (ap (λ (o : Owed). o.drops) c.self.view_is ∙ c.requires) in
    omega (arith, c.self.invariant, ap length none.0)

pub returns-clause-drops : goal.returns-clause-drops
returns-clause-drops c =
    let none = nothing_owed c.self.inside.holder c.self.inside.clock c.self.inside.references.items c.self.inside.item (ap (λ (o : Owed). o.drops) c.self.view_is ∙ c.requires) in
    rw (c.push_reserved.ensures.items, none.0, none.1) refl
