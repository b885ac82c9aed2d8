-- One more call keeps the part, and the greatest stamp is known.
use Rattle.std.proofs.Common.{rules, ◌≡◌, ℕ, ◌<◌, ◌↔◌, length, subst}
use borrow.Author.Count.{below_more}
use Rattle.b1_model.specs.Names.{calls_of}
use Rattle.b1_model.specs.Legal.{seen_stamp, KeepsOrder}
use Rattle.b1_judge.specs.Stamps.{IsBelow}
use Rattle.b1_judge.proofs.KeptLemmas.{call_read, most_next}
use Rattle.b1_judge.proofs.order.OrderPart.first_of.Goals as goal

pub loop-call-preserved : goal.loop-call-preserved
loop-call-preserved c =
    let calls = calls_of c.args.self.now.rec.now c.args.peer in
    let within : c.loop-call.call < length calls = search rules in
    let known : c.known_stamp.result ≡ seen_stamp c.index-calls-call.result.answer = search rules in
    record {
      most = most_next calls c.loop-call.call c.index-calls-call.result c.loop-call.most c.greater-most.result
          (call_read calls c.peer_calls-calls.result.now c.loop-call.call c.index-calls-call.result c.peer_calls-calls.ensures within c.index-calls-call.is)
          c.loop-call.invariant.most
          (λ t. subst (λ o. IsBelow c.greater-most.result t ↔ (IsBelow c.loop-call.most t × IsBelow o t)) known (c.greater-most.ensures t));
      kept = below_more (λ (j : ℕ). KeepsOrder c.args.self.now.rec.now c.args.peer j) c.loop-call.call c.loop-call.invariant.kept (c.keeps_order.ensures.0 c.if-not-keeps_order.false);
    }
