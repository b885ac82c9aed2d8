-- One more call keeps the part, and its stamp is in the set.
use Rattle.std.proofs.Common.{rules, ℕ, ◌<◌, length}
use borrow.Author.Count.{below_more}
use Rattle.b1_model.specs.Names.{calls_of}
use Rattle.b1_model.specs.Legal.{KeepsKeys}
use Rattle.b1_judge.proofs.KeptLemmas.{call_read, given_next}
use Rattle.b1_judge.proofs.keys.KeysPart.first_of.Goals as goal

pub loop-call-preserved : goal.loop-call-preserved
loop-call-preserved c =
    let calls = calls_of c.args.self.now.rec.now c.args.peer in
    let within : c.loop-call.call < length calls = search rules in
    record {
      given = given_next calls c.loop-call.call c.index-calls-call.result c.loop-call.given c.give.new.given
          (call_read calls c.peer_calls-calls.result.now c.loop-call.call c.index-calls-call.result c.peer_calls-calls.ensures within c.index-calls-call.is)
          c.loop-call.invariant.given c.in_ok-give.ensures;
      kept = below_more (λ (j : ℕ). KeepsKeys c.args.self.now.rec.now c.args.peer j) c.loop-call.call c.loop-call.invariant.kept (c.keeps_keys.ensures.0 c.if-not-keeps_keys.false);
    }
