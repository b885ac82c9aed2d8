-- The stamped calls of the bus order, from the first that isn't passed to the first that is beyond the limit.
use Rattle.std.proofs.Common.{refl, sym, ◌∙◌}
use Rattle.b1_judge.proofs.CandidateLemmas.{stamp_next, none_behind, none_past, none_in_all, none_at_all}
use Rattle.b1_judge.proofs.candidates.has_candidate.Goals as goal

pub loop-place-init : goal.loop-place-init
loop-place-init c i s l read h = c.first_place-place.ensures i s l read (h.0, h.1, refl)

pub returns-then-is_beyond : goal.returns-then-is_beyond
returns-then-is_beyond c = (
  (λ e. cc e),
  (λ h. absurd (none_at_all c.args.walk.now c.args.facts.now c.args.limit c.order-stamps.result.now c.requires c.entries_come_from_calls.ensures.candidates c.order-stamps.ensures.order
      (none_in_all c.args.walk.now c.args.limit c.order-stamps.result.now c.loop-place.place c.loop-place.invariant (none_behind c.args.walk.now c.args.limit c.order-stamps.result.now c.loop-place.place (record { stamp = 0; origin = 0; call = 0 }) c.order-stamps.ensures.sorted (sym c.is_beyond.ensures ∙ c.if-is_beyond.true))) h)),
)

pub loop-place-preserved : goal.loop-place-preserved
loop-place-preserved c =
    stamp_next c.args.walk.now c.args.limit c.order-stamps.result.now c.loop-place.place (record { stamp = 0; origin = 0; call = 0 }) c.has_candidate_of.result
    c.loop-place.invariant c.has_candidate_of.ensures.1 c.if-has_candidate_of.false

pub returns : goal.returns
returns c = (
  (λ e. cc e),
  (λ h. absurd (none_at_all c.args.walk.now c.args.facts.now c.args.limit c.order-stamps.result.now c.requires c.entries_come_from_calls.ensures.candidates c.order-stamps.ensures.order
      (none_in_all c.args.walk.now c.args.limit c.order-stamps.result.now c.loop-place.place c.loop-place.invariant (none_past c.args.walk.now c.args.limit c.order-stamps.result.now c.loop-place.place c.loop-place-test.false)) h)),
)
