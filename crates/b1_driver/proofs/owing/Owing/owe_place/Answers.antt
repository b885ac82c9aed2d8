use Rattle.std.proofs.Common.{length, ap, sym, ◌∙◌, arith}
use Rattle.b1_driver.specs.Parts.{Owed}
use Rattle.b1_driver.proofs.Lists.{nothing_owed}
use Rattle.b1_driver.proofs.Drops.{owed_place, owed_nowhere}
use Rattle.b1_driver.proofs.owing.Owing.owe_place.Goals as goal

pub add_references-requires : goal.add_references-requires
add_references-requires c =
    let none = nothing_owed c.self.inside.holder c.self.inside.clock c.self.inside.references.items c.self.inside.item (ap (λ (o : Owed). o.drops) c.self.view_is ∙ c.requires.nothing) in
    omega (arith, c.requires.room, ap (λ (o : Owed). o.room) c.self.view_is, ap length none.0, ap length c.as_slice-nodes.ensures)

pub returns-in-Some-clause-drops : goal.returns-in-Some-clause-drops
returns-in-Some-clause-drops c =
    let none = nothing_owed c.self.inside.holder c.self.inside.clock c.self.inside.references.items c.self.inside.item (ap (λ (o : Owed). o.drops) c.self.view_is ∙ c.requires.nothing) in
    owed_place c.args.holder c.args.stamp c.self.inside.references.items c.add_references.new.references.items c.self.inside.item c.args.sending.now c.args.place c.in-Some.slots.now none.0 none.1 (rw (← c.as_slice-nodes.ensures, ← c.as_slice.ensures) c.add_references.ensures.items) c.in-Some.ensures

pub returns-in-None-clause-drops : goal.returns-in-None-clause-drops
returns-in-None-clause-drops c =
    let none = nothing_owed c.self.inside.holder c.self.inside.clock c.self.inside.references.items c.self.inside.item (ap (λ (o : Owed). o.drops) c.self.view_is ∙ c.requires.nothing) in
    owed_nowhere c.args.holder c.args.stamp c.self.inside.references.items c.self.inside.item c.args.sending.now c.args.place none.0 none.1 (sym c.in-None.ensures)
