use Rattle.std.proofs.Common.{List, sym, ap, ◌∙◌, subst}
use Rattle.b1_model.specs.declared.naming.Opening.{Opening}
use Rattle.b1_model.specs.declared.records.PeerCalls.{PeerCalls}
use Rattle.b1_model.specs.Legal.{Legal}
use Rattle.b1_rule.specs.Rule.{state_of}
use Rattle.b1_locks.specs.Faces.{ClosedFace}
use Rattle.b1_bus.proofs.States.{many_peers, many_drivers}
use Rattle.b1_bus.proofs.closing.Closed.finish.Goals as goal

pub records-requires-clause-as_many : goal.records-requires-clause-as_many
records-requires-clause-as_many c =
    many_drivers _ _ _ c.self.invariant.closed ∙ sym (many_peers _ _ _ c.self.invariant.closed)

pub returns-clause-legal : goal.returns-clause-legal
returns-clause-legal c =
    let k = c.self.invariant.closed in
    subst (λ (o : Opening). Legal o (record { peers = c.from_vec.result })) (ap (λ (f : ClosedFace). f.opening) c.self.view_is)
    (subst (λ (l : List PeerCalls). Legal c.self.inside.opening (record { peers = l })) (sym (c.from_vec.ensures ∙ c.records.ensures))
    (c.every_reached_record_is_legal.ensures.legal c.self.inside.opening (state_of c.self.inside.peers.items c.self.inside.drivers.items) k.opening k.reached))
