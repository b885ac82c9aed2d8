use Rattle.std.proofs.Common.{◌≡◌, ◌++◌, ◌≤◌, [], ◌∷◌, arith, sym, ap, ◌∙◌, length}
use Rattle.std.specs.List.{filter}
use Rattle.std.proofs.lemmas.List.{length-map}
use Rattle.std.proofs.lemmas.List.FromFn.{length-range_with_len}
use Rattle.b1_gen.specs.Generated.{below, handle_at, matches}
use Rattle.b1_gen.proofs.Rising.{push-chosen, keep-chosen, filter-few}
use Rattle.b1_gen.proofs.commands.destinations.Goals as goal
use Rattle.b1_gen.proofs.commands.destinations.Goals.{then-do_match+in_ok-push, else-do_match}

pub loop-other-preserved : goal.loop-other-preserved
loop-other-preserved c = elim c.if-do_match.branch [
  | then-do_match+in_ok-push w ↦
      push-chosen (handle_at c.args.peer) (matches c.args.number c.args.phase c.args.peer) c.loop-other.other [] _ _ c.loop-other.invariant (ap (λ v. v.items) w.to-is ∙ w.in_ok-push.ensures.items ∙ ap (λ h. c.loop-other.to.items ++ h ∷ []) w.handle_of.ensures) (sym c.do_match.ensures ∙ w.if-do_match.true)
  | else-do_match w ↦
      keep-chosen (handle_at c.args.peer) (matches c.args.number c.args.phase c.args.peer) c.loop-other.other [] _ _ c.loop-other.invariant (ap (λ v. v.items) w.to-is) (sym c.do_match.ensures ∙ w.if-do_match.false)
]

pub returns-clause-few : goal.returns-clause-few
returns-clause-few c =
    let same : length c.loop-other.to.items ≡ length (filter (matches c.args.number c.args.phase c.args.peer) (below c.loop-other.other)) = ap length c.loop-other.invariant ∙ length-map _ _ in
    let few : length (filter (matches c.args.number c.args.phase c.args.peer) (below c.loop-other.other)) ≤ length (below c.loop-other.other) = filter-few _ _ in
    let many : length (below c.loop-other.other) ≡ c.loop-other.other = length-range_with_len 0 _ in
    omega arith
