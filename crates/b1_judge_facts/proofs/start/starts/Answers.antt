use Rattle.std.specs.Prelude.{length, IfOk}
use Rattle.std.proofs.Common.{sym, subst, ◌∙◌}
use Rattle.b1_judge_facts.specs.Start.{AreWithin, AreBegun}
use Rattle.b1_judge_facts.proofs.Starts.{within}
use Rattle.b1_judge_facts.proofs.start.starts.Goals as goal

pub begin-requires : goal.begin-requires
begin-requires c =
    subst (λ ws. AreWithin c.len.result ws) (sym c.as_slice.ensures)
    (subst (λ n. AreWithin n c.args.opening.now.wires) (sym (c.len.ensures ∙ c.requires.peers)) (within _ _ c.args.opening.now.wires c.requires.opening.wires))

pub returns : goal.returns
returns c =
    subst (λ ws. IfOk c.begin.result (λ all. AreBegun ws ws (length c.args.rec.now.peers) all.items)) c.as_slice.ensures
    (subst (λ n. IfOk c.begin.result (λ all. AreBegun c.as_slice.result.now c.as_slice.result.now n all.items)) c.len.ensures c.begin.ensures)
