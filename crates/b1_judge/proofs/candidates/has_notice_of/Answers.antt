-- The places of a destruction, one after another.
use Rattle.std.proofs.Common.{ℕ, ◌≡◌, ◌&&◌, false, sym, subst, ◌∙◌}
use borrow.Author.Count.{below_more}
use Rattle.b1_model.specs.Legal.{is_above, is_notice}
use Rattle.b1_judge.specs.Candidates.{key_at, is_under}
use Rattle.b1_judge.proofs.CandidateLemmas.{notice_passed, notice_none}
use Rattle.b1_judge.proofs.candidates.has_notice_of.Goals as goal

pub loop-index-init : goal.loop-index-init
loop-index-init c i l =
    notice_passed c.args.walk.now c.args.facts.now c.args.stamp.now c.args.limit c.requires i
    (subst (λ o. is_above (key_at c.args.stamp.now i) o ≡ false) c.last_key.ensures (c.places_between-first.ensures.above i l))

pub loop-index-preserved : goal.loop-index-preserved
loop-index-preserved c =
    below_more (λ (i : ℕ). (is_notice c.args.walk.now.wires c.args.walk.now.rec c.args.walk.now.peer c.args.walk.now.call (key_at c.args.stamp.now i) && is_under (key_at c.args.stamp.now i) c.args.limit) ≡ false)
    c.loop-index.index c.loop-index.invariant (sym c.is_notice_at.ensures ∙ c.if-is_notice_at.false)

pub returns : goal.returns
returns c =
    ((λ e. cc e), (λ h. absurd (notice_none c.args.walk.now c.args.facts.now c.args.stamp.now c.args.limit c.requires c.doomed-nodes.result.now c.loop-index.index c.places_between-first.result.1 c.doomed-nodes.ensures c.loop-index-test.false (λ i l m. c.places_between-first.ensures.under i l m) c.loop-index.invariant h)))
