-- A stamped call keeps the part where its stamp is even and no earlier call has it.
use Rattle.std.specs.Prelude.{◌↔◌, take, IsTrue}
use Rattle.std.proofs.Common.{refl, sym, subst}
use Rattle.b1_judge.specs.Stamps.{IsGivenIn}
use Rattle.b1_model.specs.Names.{calls_of}
use Rattle.b1_judge.proofs.KeptLemmas.{call_read, stamp_read, keys_by, keys_odd, keys_unstamped}
use Rattle.b1_judge.proofs.keys.keeps_keys.Goals as goal

pub returns-then-stamp-eq0 : goal.returns-then-stamp-eq0
returns-then-stamp-eq0 c =
    keys_by c.args.rec.now c.args.peer c.args.call c.index-calls-call.result
    (call_read (calls_of c.args.rec.now c.args.peer) c.peer_calls-calls.result.now c.args.call c.index-calls-call.result c.peer_calls-calls.ensures c.requires.call c.index-calls-call.is)
    c.in-Some.stamp
    (stamp_read c.peer_calls-calls.result.now c.args.call c.index-calls-call.result c.given_stamp.result _ c.index-calls-call.is c.given_stamp.ensures c.in-Some.is)
    c.if-stamp-eq0.true c.contains.result (calls_of c.args.rec.now c.args.peer) refl (subst (λ b. IsTrue b ↔ IsGivenIn c.in-Some.stamp (take c.args.call (calls_of c.args.rec.now c.args.peer))) (sym c.contains.ensures) (c.requires.given c.in-Some.stamp))

pub returns-else-stamp-eq0 : goal.returns-else-stamp-eq0
returns-else-stamp-eq0 c =
    keys_odd c.args.rec.now c.args.peer c.args.call c.index-calls-call.result
    (call_read (calls_of c.args.rec.now c.args.peer) c.peer_calls-calls.result.now c.args.call c.index-calls-call.result c.peer_calls-calls.ensures c.requires.call c.index-calls-call.is)
    c.in-Some.stamp
    (stamp_read c.peer_calls-calls.result.now c.args.call c.index-calls-call.result c.given_stamp.result _ c.index-calls-call.is c.given_stamp.ensures c.in-Some.is)
    c.if-stamp-eq0.false

pub returns-in-None : goal.returns-in-None
returns-in-None c = (
  (λ _. keys_unstamped c.args.rec.now c.args.peer c.args.call c.index-calls-call.result
      (call_read (calls_of c.args.rec.now c.args.peer) c.peer_calls-calls.result.now c.args.call c.index-calls-call.result c.peer_calls-calls.ensures c.requires.call c.index-calls-call.is)
      (stamp_read c.peer_calls-calls.result.now c.args.call c.index-calls-call.result c.given_stamp.result _ c.index-calls-call.is c.given_stamp.ensures c.in-None.is)),
  (λ _. refl),
)
