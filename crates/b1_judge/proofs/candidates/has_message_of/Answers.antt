-- The places of a message, one after another.
use Rattle.std.proofs.Common.{ℕ, ◌≡◌, ◌&&◌, length, false, refl, sym, subst, ◌∙◌, ap, arith}
use borrow.Author.Count.{below_more}
use Rattle.b1_model.specs.Legal.{is_above, is_message}
use Rattle.b1_judge.specs.Candidates.{key_at, is_under}
use Rattle.b1_judge.proofs.CandidateLemmas.{message_found, message_missed, message_here, message_passed, message_none}
use Rattle.b1_judge.proofs.candidates.has_message_of.Goals as goal

pub returns-in_default : goal.returns-in_default
returns-in_default c =
    ((λ e. cc e), (λ h. absurd (message_missed c.args.walk.now c.args.facts.now c.args.stamp.now c.args.limit c.requires c.message.result c.message.ensures c.in_default.is h)))

pub is_message_at-requires-clause-message : goal.is_message_at-requires-clause-message
is_message_at-requires-clause-message c =
    message_found c.args.walk.now c.args.facts.now c.args.stamp.now c.args.limit c.requires c.message.result c.in-Some.message c.message.ensures c.in-Some.is

pub returns-then-is_message_at : goal.returns-then-is_message_at
returns-then-is_message_at c =
    ((λ _. message_here c.args.walk.now c.args.facts.now c.args.stamp.now c.args.limit c.requires c.loop-index.index (sym c.is_message_at.ensures ∙ c.if-is_message_at.true)), (λ _. refl))

pub loop-index-init : goal.loop-index-init
loop-index-init c i l =
    message_passed c.args.walk.now c.args.facts.now c.args.stamp.now c.args.limit c.requires i
    (subst (λ o. is_above (key_at c.args.stamp.now i) o ≡ false) c.last_key.ensures (c.places_between-first.ensures.above i l))

pub loop-index-preserved : goal.loop-index-preserved
loop-index-preserved c =
    below_more (λ (i : ℕ). (is_message c.args.walk.now.wires c.args.walk.now.rec c.args.walk.now.peer c.args.walk.now.call (key_at c.args.stamp.now i) && is_under (key_at c.args.stamp.now i) c.args.limit) ≡ false)
    c.loop-index.index c.loop-index.invariant (sym c.is_message_at.ensures ∙ c.if-is_message_at.false)

pub returns : goal.returns
returns c =
    let is = message_found c.args.walk.now c.args.facts.now c.args.stamp.now c.args.limit c.requires c.message.result c.in-Some.message c.message.ensures c.in-Some.is in
    let count = ap length c.to.ensures in
    ((λ e. cc e), (λ h. absurd (message_none c.args.walk.now c.args.facts.now c.args.stamp.now c.args.limit c.requires c.in-Some.message.now c.loop-index.index c.places_between-first.result.1 is c.loop-index-test.false (λ i l m. c.places_between-first.ensures.under i l (omega (arith, m, count))) c.loop-index.invariant h)))
