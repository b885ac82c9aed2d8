use Rattle.std.specs.Prelude.{length}
use Rattle.std.proofs.Common.{refl, ◌∙◌}
use Rattle.b1_judge_facts.proofs.Ends.{started, peer_there, not_past, stamp_there, taken, at_stamp, gathered_all}
use Rattle.b1_judge_facts.proofs.FirstPlaces.{first_all}
use Rattle.b1_judge_facts.proofs.facts.Facts.gather.Goals as goal

pub loop-stamp-init : goal.loop-stamp-init
loop-stamp-init c =
    started c.args.opening.now.wires c.args.rec.now c.requires.order c.as_slice-stamp-items.result.now c.in_ok-starts.field-0.items (length c.args.rec.now.peers) c.in_ok-gathering.gathering
    (c.as_slice-stamp-items.ensures ∙ c.in_ok-order.ensures) refl
    c.in_ok-starts.ensures c.in_ok-gathering.ensures

pub take-requires-clause-peer : goal.take-requires-clause-peer
take-requires-clause-peer c =
    peer_there c.args.opening.now.wires c.args.rec.now c.requires.order _ _ _ c.loop-stamp.gathering
    (at_stamp c.args.opening.now.wires c.args.rec.now c.requires.order c.as_slice-stamp-items.result.now c.loop-stamp.stamp-index (record { stamp = 0; origin = 0; call = 0 }) c.loop-stamp.gathering c.loop-stamp-test.true c.loop-stamp.invariant)

pub take-requires-clause-ahead : goal.take-requires-clause-ahead
take-requires-clause-ahead c =
    not_past c.args.opening.now.wires c.args.rec.now c.requires.order _ _ _ c.loop-stamp.gathering
    (at_stamp c.args.opening.now.wires c.args.rec.now c.requires.order c.as_slice-stamp-items.result.now c.loop-stamp.stamp-index (record { stamp = 0; origin = 0; call = 0 }) c.loop-stamp.gathering c.loop-stamp-test.true c.loop-stamp.invariant)

pub take-requires-clause-call : goal.take-requires-clause-call
take-requires-clause-call c =
    stamp_there c.args.opening.now.wires c.args.rec.now c.requires.order _ _ _ c.loop-stamp.gathering
    (at_stamp c.args.opening.now.wires c.args.rec.now c.requires.order c.as_slice-stamp-items.result.now c.loop-stamp.stamp-index (record { stamp = 0; origin = 0; call = 0 }) c.loop-stamp.gathering c.loop-stamp-test.true c.loop-stamp.invariant)

pub loop-stamp-preserved : goal.loop-stamp-preserved
loop-stamp-preserved c =
    taken c.args.opening.now.wires c.args.rec.now c.requires.order c.as_slice-stamp-items.result.now c.loop-stamp.stamp-index (record { stamp = 0; origin = 0; call = 0 }) c.loop-stamp.gathering c.take.new.self
    c.loop-stamp-test.true c.loop-stamp.invariant c.in_ok-take.ensures

pub invariant_of-result : goal.invariant_of-result
invariant_of-result c =
    let kept = gathered_all c.args.opening.now.wires c.args.rec.now c.requires.order c.as_slice-stamp-items.result.now c.in_ok-order.order c.loop-stamp.stamp-index c.loop-stamp.gathering
    c.as_slice-stamp-items.ensures c.in_ok-order.ensures c.loop-stamp-test.false c.loop-stamp.invariant in
    record {
      opens = c.requires.opening;
      peers = c.requires.peers;
      starts_are = c.in_ok-starts-2.ensures;
      kept = kept;
      places_are = first_all c.args.opening.now.wires c.args.rec.now c.in_ok-order.order c.as_slice.result.now c.loop-stamp.gathering.messages c.loop-stamp.gathering.destroyed c.loop-stamp.gathering.first c.in_ok-places.places
          kept c.as_slice.ensures c.in_ok-places.ensures;
    }
