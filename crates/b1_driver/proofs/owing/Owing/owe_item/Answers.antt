use Rattle.std.proofs.Common.{◌++◌, ap, ◌∙◌}
use Rattle.b1_model.specs.MachineTook.{drops_of}
use Rattle.b1_driver.specs.Parts.{Owed}
use Rattle.b1_driver.proofs.Lists.{nothing_owed}
use Rattle.b1_driver.proofs.owing.Owing.owe_item.Goals as goal

pub returns-clause-drops : goal.returns-clause-drops
returns-clause-drops c =
    let none = nothing_owed c.self.inside.holder c.self.inside.clock c.self.inside.references.items c.self.inside.item (ap (λ (o : Owed). o.drops) c.self.view_is ∙ c.requires) in
    ap (λ l. drops_of c.args.holder c.args.item.clock (l ++ c.args.item.drops)) none.0
