-- A stamped call keeps the part where what stands earlier is below its stamp.
use Rattle.std.proofs.Common.{refl}
use Rattle.b1_model.specs.Names.{calls_of}
use Rattle.b1_judge.proofs.KeptLemmas.{call_read, stamp_read, order_by, order_unstamped}
use Rattle.b1_judge.proofs.order.keeps_order.Goals as goal

pub returns-in-Some : goal.returns-in-Some
returns-in-Some c =
    order_by c.args.rec.now c.args.peer c.args.call c.index-calls-call.result
    (call_read (calls_of c.args.rec.now c.args.peer) c.peer_calls-calls.result.now c.args.call c.index-calls-call.result c.peer_calls-calls.ensures c.requires.call c.index-calls-call.is)
    c.in-Some.stamp
    (stamp_read c.peer_calls-calls.result.now c.args.call c.index-calls-call.result c.given_stamp.result _ c.index-calls-call.is c.given_stamp.ensures c.in-Some.is)
    c.is_below.result (calls_of c.args.rec.now c.args.peer) refl
    ((λ e. (c.requires.most c.in-Some.stamp).0 (c.is_below.ensures.0 e)), (λ h. c.is_below.ensures.1 ((c.requires.most c.in-Some.stamp).1 h)))

pub returns-in-None : goal.returns-in-None
returns-in-None c = (
  (λ _. order_unstamped c.args.rec.now c.args.peer c.args.call c.index-calls-call.result
      (call_read (calls_of c.args.rec.now c.args.peer) c.peer_calls-calls.result.now c.args.call c.index-calls-call.result c.peer_calls-calls.ensures c.requires.call c.index-calls-call.is)
      (stamp_read c.peer_calls-calls.result.now c.args.call c.index-calls-call.result c.given_stamp.result _ c.index-calls-call.is c.given_stamp.ensures c.in-None.is)),
  (λ _. refl),
)
