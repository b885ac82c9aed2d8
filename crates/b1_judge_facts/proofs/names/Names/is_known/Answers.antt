use Rattle.std.proofs.Common.{sym, ap, ◌∙◌}
use Rattle.std.specs.Prelude.{is_some}
use Rattle.b1_model.specs.Names.{is_known}
use Rattle.b1_judge_facts.proofs.Naming.{known_by}
use Rattle.b1_judge_facts.proofs.names.Names.is_known.Goals as goal

pub returns : goal.returns
returns c =
    c.contains_key.ensures
    ∙ ap is_some (c.self.invariant c.args.number)
    ∙ sym (known_by 0 c.args.number c.self.inside.names.items)
    ∙ ap (is_known c.args.number) c.self.view_is
