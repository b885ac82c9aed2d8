use Rattle.std.proofs.Common.{◌<◌, ◌+◌, All, sym, subst, refl, arith}
use Rattle.b1_model.specs.MachineTables.{less_flight, more_held, next_number}
use Rattle.b1_handles.specs.Handles.{Handles}
use Rattle.b1_peer_carried.specs.Carry.{AreCarried}
use Rattle.b1_peer_carried.proofs.Records.{carried_less, held_changed}
use Rattle.b1_peer_carried.proofs.slots.arrive_reference.Goals as goal

pub returns-then-is_dead-clause-carried : goal.returns-then-is_dead-clause-carried
returns-then-is_dead-clause-carried c = λ nodes carried.
    subst (λ (t : Handles). AreCarried nodes t.records) (sym c.unexpect.ensures)
    (carried_less c.args.node less_flight (λ h. refl) (λ h. omega arith) nodes c.args.handles.now.records carried)

pub returns-then-is_dead-clause-held : goal.returns-then-is_dead-clause-held
returns-then-is_dead-clause-held c = λ most held.
    subst (λ (t : Handles). All (λ h. h.held < most + 1) t.records) (sym c.unexpect.ensures)
    (held_changed c.args.node less_flight (λ h. omega arith) most c.args.handles.now.records held)

pub returns-clause-carried : goal.returns-clause-carried
returns-clause-carried c = λ nodes carried.
    subst (λ (t : Handles). AreCarried nodes t.records) (sym c.gain.ensures.gained)
    (carried_less c.args.node (λ h. more_held (next_number c.args.handles.now.given) (less_flight h)) (λ h. refl) (λ h. omega arith) nodes c.args.handles.now.records carried)

pub returns-clause-held : goal.returns-clause-held
returns-clause-held c = λ most held.
    subst (λ (t : Handles). All (λ h. h.held < most + 1) t.records) (sym c.gain.ensures.gained)
    (held_changed c.args.node (λ h. more_held (next_number c.args.handles.now.given) (less_flight h)) (λ h. omega arith) most c.args.handles.now.records held)
