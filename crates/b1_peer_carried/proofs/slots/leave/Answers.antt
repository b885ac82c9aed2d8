use Rattle.std.proofs.Common.{sym, subst, refl, arith, ◌<◌, All}
use Rattle.b1_model.specs.MachineTables.{less_flight, foreign}
use Rattle.b1_handles.specs.Handles.{Handles}
use Rattle.b1_peer_carried.specs.Carry.{AreCarried}
use Rattle.b1_peer_carried.proofs.Records.{carried_less, carried_other, held_lower}
use Rattle.b1_peer_carried.proofs.slots.leave.Goals as goal

pub returns-then-node-me-clause-carried : goal.returns-then-node-me-clause-carried
returns-then-node-me-clause-carried c = λ rest carried.
    subst (λ (t : Handles). AreCarried (foreign c.args.me rest) t.records) (sym c.unexpect.ensures)
    (carried_less c.args.node less_flight (λ h. refl) (λ h. omega arith) (foreign c.args.me rest) c.args.handles.now.records
    (carried_other c.args.me c.args.node rest c.args.handles.now.records c.if-node-me.true carried))

pub returns-then-node-me-clause-held : goal.returns-then-node-me-clause-held
returns-then-node-me-clause-held c = λ most held.
    subst (λ (t : Handles). All (λ h. h.held < most) t.records) (sym c.unexpect.ensures)
    (held_lower c.args.node less_flight (λ h. omega arith) most c.args.handles.now.records held)
