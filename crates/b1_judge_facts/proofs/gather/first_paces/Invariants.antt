-- The peers so far, and then those that are left, are all of them.
use Rattle.std.proofs.Common.{◌≡◌, ◌++◌, map}
use Rattle.std.specs.Prelude.{All}
use Rattle.std.specs.Vec.Iter.{into_iter_items}
use Rattle.b1_judge_facts.specs.declared.gather.Pace.{Pace}
use Rattle.b1_judge_facts.specs.Gathering.{IsFresh}
use Rattle.b1_judge_facts.proofs.gather.first_paces.Given as goal

abbrev pub invariant-loop-standing : goal.invariant-loop-standing
invariant-loop-standing l =
    (map (λ (x : Pace). x.standing) l.paces.items ++ into_iter_items l.standing-iterator ≡ into_iter_items l.initial.standing-iterator)
    × All IsFresh l.paces.items
