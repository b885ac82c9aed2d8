use Rattle.std.proofs.Common.{◌≡◌, ◌<◌, ◌+◌, All, true, length, sym, subst}
use Rattle.b1_model.specs.declared.parts.Slot.{Slot}
use Rattle.b1_model.specs.MachineTables.{foreign}
use Rattle.b1_handles.specs.Handles.{Handles}
use Rattle.b1_peer_carried.specs.Carry.{AreCarried, may_arrive}
use Rattle.b1_peer_carried.proofs.Records.{carried_own, carried_other}
use Rattle.b1_peer_carried.proofs.Left.{own_may, attached_may, held_weaker}
use Rattle.b1_peer_carried.proofs.slots.arrive_one.Goals.{in-Unattached, in-Own, in-Attached}
use Rattle.b1_peer_carried.proofs.slots.arrive_one.Goals as goal

pub returns-clause-carried : goal.returns-clause-carried
returns-clause-carried c = λ rest carried.
    let kept = λ (t : Handles). AreCarried (foreign c.args.me rest) t.records in
    let may = λ (s : Slot). may_arrive c.args.me (length c.args.nodes.now.nodes) (c.args.node, s) ≡ true in
    elim c.match-slot.branch [
      | in-Unattached w ↦ subst kept (sym w.handles-is) (w.leave-number.ensures.carried rest carried)
      | in-Own w ↦ subst kept (sym w.handles-is) (carried_own c.args.me c.args.node rest c.args.handles.now.records (own_may c.args.me (length c.args.nodes.now.nodes) c.args.node (subst may w.in-Own.is c.requires.may_arrive)) carried)
      | in-Attached w ↦
          subst kept (sym w.handles-is)
          (w.arrive_reference-number.ensures.carried (foreign c.args.me rest)
          (carried_other c.args.me c.args.node rest c.args.handles.now.records (attached_may c.args.me (length c.args.nodes.now.nodes) c.args.node (subst may w.in-Attached.is c.requires.may_arrive)) carried))
    ]

pub returns-clause-held : goal.returns-clause-held
returns-clause-held c = λ most held.
    let kept = λ (t : Handles). All (λ h. h.held < most + 1) t.records in
    elim c.match-slot.branch [
      | in-Unattached w ↦ subst kept (sym w.handles-is) (held_weaker most w.leave-number.new.handles.records (w.leave-number.ensures.held most held))
      | in-Own w ↦ subst kept (sym w.handles-is) (held_weaker most c.args.handles.now.records held)
      | in-Attached w ↦ subst kept (sym w.handles-is) (w.arrive_reference-number.ensures.held most held)
    ]
