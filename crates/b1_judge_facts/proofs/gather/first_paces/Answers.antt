use Rattle.std.specs.Prelude.{◌++◌, map, All}
use Rattle.std.specs.Vec.Iter.{into_iter_items}
use Rattle.std.proofs.Common.{refl, sym, ap, subst, ◌∙◌}
use Rattle.std.proofs.lemmas.List.Elements.{All-push}
use Rattle.b1_judge_facts.specs.declared.gather.Pace.{Pace}
use Rattle.b1_judge_facts.specs.Gathering.{IsFresh}
use Rattle.b1_judge_facts.proofs.Walking.{map_push}
use Rattle.b1_judge_facts.proofs.gather.first_paces.Goals as goal

pub loop-standing-preserved : goal.loop-standing-preserved
loop-standing-preserved c = (
  ap (λ l. map (λ (x : Pace). x.standing) l ++ into_iter_items c.next.new.self) c.in_ok-push.ensures.items
      ∙ map_push (λ (x : Pace). x.standing) c.loop-standing.paces.items (record { standing = c.in-Some.standing; call = 0; gone = c.new.result }) (into_iter_items c.next.new.self)
      ∙ ap (λ l. map (λ (x : Pace). x.standing) c.loop-standing.paces.items ++ l) (sym c.in-Some.ensures.steps.0)
      ∙ c.loop-standing.invariant.0,
  subst (All IsFresh) (sym c.in_ok-push.ensures.items) (All-push IsFresh c.loop-standing.paces.items (record { standing = c.in-Some.standing; call = 0; gone = c.new.result }) c.loop-standing.invariant.1 (record { call_is = refl; gone_is = c.new.ensures })),
)
