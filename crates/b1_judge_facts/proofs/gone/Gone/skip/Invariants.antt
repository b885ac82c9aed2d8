-- All nodes below are gone.
use Rattle.std.specs.Prelude.{◌≡◌, ℕ, ◌-◌, ◌<◌, true}
use Rattle.b1_judge_facts.specs.Kept.{is_gone_at}
use Rattle.b1_judge_facts.proofs.gone.Gone.skip.Given as goal

abbrev pub invariant-loop-self : goal.invariant-loop-self
invariant-loop-self l =
    (l.self-inside.nodes ≡ l.initial.self-inside.nodes)
    × (l.self-inside.owner ≡ l.owner)
    × ((serial : ℕ) → serial < l.self-inside.below → is_gone_at l.self-inside.nodes l.self-inside.owner serial ≡ true)

abbrev pub decreases-loop-self : goal.decreases-loop-self
decreases-loop-self l = l.most - l.self-inside.below
