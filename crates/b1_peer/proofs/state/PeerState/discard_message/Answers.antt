use Rattle.b1_peer.proofs.KeptSends.{message_slice, message_carried, message_set}
use Rattle.b1_peer.proofs.KeptRecv.{front_message, discard_kept, discard_seen, room_for_item}
use Rattle.b1_peer.proofs.state.PeerState.discard_message.Goals as goal

pub drop_message-requires-clause-message : goal.drop_message-requires-clause-message
drop_message-requires-clause-message g c = (front_message _ _ c.self.invariant c.self.view_is c.args.serial c.requires c.take.result (c.in-Some.field-0-0, c.in-Some.entry) c.in-Some.is c.take.ensures.front).is

pub drop_message-requires-clause-queued : goal.drop_message-requires-clause-queued
drop_message-requires-clause-queued g c =
    let front = front_message _ _ c.self.invariant c.self.view_is c.args.serial c.requires c.take.result (c.in-Some.field-0-0, c.in-Some.entry) c.in-Some.is c.take.ensures.front in
    message_slice _ c.self.invariant (c.in-Some.field-0-0, c.in-Some.entry) front.gone.was front.is

pub drop_message-requires-clause-carried : goal.drop_message-requires-clause-carried
drop_message-requires-clause-carried g c =
    let front = front_message _ _ c.self.invariant c.self.view_is c.args.serial c.requires c.take.result (c.in-Some.field-0-0, c.in-Some.entry) c.in-Some.is c.take.ensures.front in
    message_carried _ c.self.invariant (c.in-Some.field-0-0, c.in-Some.entry) front.gone.was

pub drop_message-requires-clause-room : goal.drop_message-requires-clause-room
drop_message-requires-clause-room g c =
    let front = front_message _ _ c.self.invariant c.self.view_is c.args.serial c.requires c.take.result (c.in-Some.field-0-0, c.in-Some.entry) c.in-Some.is c.take.ensures.front in
    room_for_item _ c.self.invariant (c.in-Some.field-0-0, c.in-Some.entry) front.gone.was front.is

pub drop_message-requires-clause-set : goal.drop_message-requires-clause-set
drop_message-requires-clause-set g c =
    let front = front_message _ _ c.self.invariant c.self.view_is c.args.serial c.requires c.take.result (c.in-Some.field-0-0, c.in-Some.entry) c.in-Some.is c.take.ensures.front in
    message_set _ c.self.invariant (c.in-Some.field-0-0, c.in-Some.entry) front.gone.was front.is

pub invariant_of-self : goal.invariant_of-self
invariant_of-self g c =
    let front = front_message _ _ c.self.invariant c.self.view_is c.args.serial c.requires c.take.result (c.in-Some.field-0-0, c.in-Some.entry) c.in-Some.is c.take.ensures.front in
    discard_kept _ c.self.invariant (c.in-Some.field-0-0, c.in-Some.entry) front c.take.result c.take.new.self c.drop_message.new.store c.drop_message.new.handles c.drop_message.new.dead c.in-Some.is c.take.ensures.taken c.drop_message.ensures.slices c.drop_message.ensures.bytes c.drop_message.ensures.stored c.drop_message.ensures.handles c.drop_message.ensures.room c.drop_message.ensures.singles c.drop_message.ensures.loses

pub returns : goal.returns
returns g c =
    let front = front_message _ _ c.self.invariant c.self.view_is c.args.serial c.requires c.take.result (c.in-Some.field-0-0, c.in-Some.entry) c.in-Some.is c.take.ensures.front in
    record { gone = discard_seen _ _ c.self.invariant c.self.view_is (c.in-Some.field-0-0, c.in-Some.entry) front c.take.result c.take.new.self c.drop_message.new.store c.drop_message.new.handles c.drop_message.new.dead c.take.ensures.taken c.drop_message.ensures.slices c.drop_message.ensures.size c.drop_message.ensures.bytes c.drop_message.ensures.handles c.drop_message.ensures.items }
