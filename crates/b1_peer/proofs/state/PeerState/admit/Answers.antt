use Rattle.std.proofs.Common.{◌≡◌, ◌==◌, true, sym, subst, refl, rules, length}
use Rattle.std.specs.List.{list_any}
use Rattle.b1_model.specs.MachineParts.{HandleRecord}
use Rattle.b1_model.specs.MachineTables.{is_needed}
use Rattle.b1_peer_queue.specs.Mail.{Mail}
use Rattle.b1_peer.specs.Seen.{PeerSeen}
use Rattle.b1_peer.specs.Rooms.{Enough}
use Rattle.b1_peer.proofs.Bridges.{all_from_has}
use Rattle.b1_peer.proofs.KeptStage.{entry_is, draft_sound, stage_done, none_received, received_by}
use Rattle.b1_peer.proofs.state.PeerState.admit.Goals as goal

pub expect_all-requires : goal.expect_all-requires
expect_all-requires g c = all_from_has (λ (h : HandleRecord). is_needed h ≡ true) c.self.inside.handles.records c.self.invariant.ok.needed

pub put_message-requires-clause-sound : goal.put_message-requires-clause-sound
put_message-requires-clause-sound g c =
    draft_sound c.make_room.new.mail.users _ c.into_message.result c.args.draft.origin c.args.draft.user c.args.draft.index c.args.draft.serial c.put-offset.result c.args.payload.now c.args.with.now
    (entry_is c.into_message.result c.args.draft.origin c.args.draft.user c.args.draft.index c.args.draft.serial c.put-offset.result _ _ c.args.with.now _ _ _ c.args.payload.now c.into_message.ensures (search rules) c.requires.with_is c.requires.slots_are c.requires.handles_are c.requires.payload_is)
    refl refl
    (subst (λ (m : Mail). list_any (λ u. u == c.args.draft.user) m.users ≡ true) (sym c.make_room.ensures.more.mail_same) (subst (λ (s : PeerSeen). list_any (λ u. u == c.args.draft.user) s.users ≡ true) (sym c.self.view_is) c.requires.user))
    c.requires.short c.requires.few

pub invariant_of-self-2 : goal.invariant_of-self-2
invariant_of-self-2 g c =
    stage_done _ c.self.invariant _ c.self.view_is c.args.draft.origin c.args.draft.user c.args.draft.index c.args.draft.serial c.args.payload.now c.args.with.now
    (record { even = c.requires.clock.even; made = c.requires.made; user_is = c.requires.user; short = c.requires.short; few = c.requires.few; unstaged = c.requires.unstaged; accepted = c.requires.accepted })
    c.make_room.new.mail c.put_message.new.self c.make_room.new.store c.put-offset.new.self c.make_room.new.dead c.put_set.new.self c.make_room.ensures.more
    (subst (λ n. Enough n (length c.self.inside.handles.records) (length c.args.with.now) (length c.self.inside.mail.queue) c.make_room.new.mail c.make_room.new.store c.make_room.new.dead) c.len.ensures.len (subst (λ n. Enough c.len.result n (length c.args.with.now) (length c.self.inside.mail.queue) c.make_room.new.mail c.make_room.new.store c.make_room.new.dead) c.len-2.ensures c.in-Ok.ensures.enough)) c.put_set.ensures.kept c.put_set.ensures.gains c.put-offset.result c.into_message.result c.expect_all.new.handles
    (entry_is c.into_message.result c.args.draft.origin c.args.draft.user c.args.draft.index c.args.draft.serial c.put-offset.result _ _ c.args.with.now _ _ _ c.args.payload.now c.into_message.ensures (search rules) c.requires.with_is c.requires.slots_are c.requires.handles_are c.requires.payload_is)
    c.put_message.ensures c.in-Ok-expect_all.ensures.expected
    c.put-offset.ensures.offset c.put-offset.ensures.slices c.put-offset.ensures.holds c.put-offset.ensures.others c.put-offset.ensures.sound

pub returns-clause-received : goal.returns-clause-received
returns-clause-received g c =
    received_by _ c.self.invariant c.args.self.now c.make_room.new.store c.put-offset.new.self.bytes c.args.self.now.users c.put-offset.result c.self.view_is c.make_room.ensures.more.slices c.make_room.ensures.more.bytes c.put-offset.ensures.others
    (none_received _ c.self.invariant _ c.self.view_is c.args.draft.origin c.args.draft.user c.args.draft.index c.args.draft.serial c.args.payload.now c.args.with.now
    (record { even = c.requires.clock.even; made = c.requires.made; user_is = c.requires.user; short = c.requires.short; few = c.requires.few; unstaged = c.requires.unstaged; accepted = c.requires.accepted })
    c.make_room.new.store c.put-offset.result c.make_room.ensures.more.slices c.put-offset.ensures.offset)
