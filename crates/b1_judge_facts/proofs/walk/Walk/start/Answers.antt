use Rattle.std.specs.Prelude.{◌<◌, length}
use Rattle.std.proofs.Common.{arith, refl, sym, subst, ◌∙◌}
use Rattle.std.proofs.lemmas.Option.{slice_get_read}
use Rattle.b1_judge_facts.proofs.walk.Walk.start.Goals as goal

pub index-requires : goal.index-requires
index-requires c = omega (arith, c.facts.invariant.starts_are.count, subst (λ v. c.args.peer < length v.rec.peers) (sym c.facts.view_is) c.requires)

pub invariant_of-result : goal.invariant_of-result
invariant_of-result c =
    c.in_ok-standing.ensures
    ∙ c.facts.invariant.starts_are.each c.args.peer c.index.result.now
    (slice_get_read c.facts.inside.starts.items _ c.args.peer c.index.result.now refl (subst (λ n. c.args.peer < n) (sym c.facts.invariant.starts_are.count) (subst (λ v. c.args.peer < length v.rec.peers) (sym c.facts.view_is) c.requires)) c.index.ensures)
