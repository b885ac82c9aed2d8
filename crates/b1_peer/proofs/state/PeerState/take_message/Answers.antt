use Rattle.std.proofs.Common.{◌≡◌, ◌<◌, ◌^◌, refl}
use Rattle.b1_model.specs.MachineParts.{HandleRecord}
use Rattle.b1_inv_peer.specs.Needs.{HeldFew}
use Rattle.b1_peer.specs.Seen.{PeerSeen}
use Rattle.b1_peer.specs.declared.front.Kind.TheVariants as kind
use Rattle.b1_peer.specs.Fronts.{kind_of}
use Rattle.b1_peer.proofs.Bridges.{all_from_has}
use Rattle.b1_peer.proofs.KeptSends.{of_fields}
use Rattle.b1_peer.proofs.KeptStage.{received_by}
use Rattle.b1_peer.proofs.KeptRecv.{front_made}
use Rattle.b1_peer.proofs.KeptReceive.{taken_arrivable, taken_kept, not_received}
use Rattle.b1_peer.proofs.state.PeerState.take_message.Goals as goal

pub number-number-requires : goal.number-number-requires
number-number-requires g c = front_made c.self.inside.me _ c.args.serial c.self.inside.mail.queue (of_fields (λ (s : PeerSeen). kind_of s.part.queue ≡ kind.Message c.args.serial) _ _ c.self.invariant c.self.view_is c.requires.kind) c.self.invariant.ok.messages

pub receive-requires-clause-may_arrive : goal.receive-requires-clause-may_arrive
receive-requires-clause-may_arrive g c =
    let can = taken_arrivable _ _ c.self.invariant c.self.view_is c.args.serial c.requires.kind c.take.result c.in-Some.key c.in-Some.entry c.in-Some.is c.take.ensures.front _ _ _ _ _ _ _ c.as_slice.result.now _ c.as_slice-2.result.now _ _ c.in-Message.is c.as_slice.ensures c.as_slice-2.ensures in
    record { stored = c.self.invariant.stored; queued = can.queued; within = can.within; holds = can.holds; short = can.short; few = can.few; may = can.may; carried = can.carried; room = can.room; set = can.set }

pub receive-requires-clause-fits : goal.receive-requires-clause-fits
receive-requires-clause-fits g c = all_from_has (λ (h : HandleRecord). h.held < 2 ^ 62) c.self.inside.handles.records (of_fields (λ (s : PeerSeen). HeldFew s.part) _ _ c.self.invariant c.self.view_is c.requires.held)

pub invariant_of-self : goal.invariant_of-self
invariant_of-self g c =
    taken_kept _ _ c.self.invariant c.self.view_is c.args.serial c.requires.kind c.take.result c.in-Some.key c.in-Some.entry c.in-Some.is c.take.ensures.front _ _ _ _ _ _ _ c.as_slice.result.now _ c.as_slice-2.result.now _ _ c.in-Message.is c.as_slice.ensures c.as_slice-2.ensures
    c.take.new.self c.receive.new.store c.receive.new.handles c.receive.new.dead c.take.ensures.taken c.receive.ensures.slices c.receive.ensures.others c.receive.ensures.stored
    (c.receive.ensures.arrived _ (record { me = refl; nodes = refl; records = refl; given = refl })).part_is
    c.receive.ensures.room c.receive.ensures.singles c.receive.ensures.loses

pub returns-clause-received : goal.returns-clause-received
returns-clause-received g c =
    received_by _ c.self.invariant c.args.self.now c.self.inside.store c.receive.new.store.bytes c.args.self.now.users c.in-Message.offset c.self.view_is refl refl c.receive.ensures.others
    (not_received c.in-Message.offset c.self.inside.store.slices (taken_arrivable _ _ c.self.invariant c.self.view_is c.args.serial c.requires.kind c.take.result c.in-Some.key c.in-Some.entry c.in-Some.is c.take.ensures.front _ _ _ _ _ _ _ c.as_slice.result.now _ c.as_slice-2.result.now _ _ c.in-Message.is c.as_slice.ensures c.as_slice-2.ensures).queued)
