-- An open SEND keeps the shape of its phase through each event.
use Rattle.std.proofs.Common.{◌≡◌, refl, sym, ap, inl, inr, subst, ℕ, ◌+◌, ◌<◌, ◌≤◌, Bool, true, false, cond, max, nat_lt, List, [], ◌∷◌, ◌++◌, length, Option, Some, None, Ok, Err, Result}
use Rattle.std.specs.Prelude.{⊤}
use Rattle.std.proofs.lemmas.Bool.{ltb-true, ltb-false, cond_both}
use Rattle.std.proofs.lemmas.List.{length-append}
use Rattle.std.proofs.lemmas.List.Elements.{All-weaker}
use native.Mathlib.Omega.{arith}
use Rattle.b1_model.specs.declared.naming.NodeRef.{NodeRef}
use Rattle.b1_model.specs.declared.naming.Opening.{Opening}
use Rattle.b1_model.specs.declared.answers.Answer.TheVariants as answer
use Rattle.b1_model.specs.declared.answers.Reason.{Reason}
use Rattle.b1_model.specs.declared.answers.Reason.TheVariants as reason
use Rattle.b1_model.specs.declared.answers.Refused.{Refused}
use Rattle.b1_model.specs.declared.commands.Command.{Command}
use Rattle.b1_model.specs.declared.commands.Command.TheVariants as cmd
use Rattle.b1_model.specs.declared.commands.SendCmd.{SendCmd}
use Rattle.b1_model.specs.declared.parts.Begun.{Begun}
use Rattle.b1_model.specs.declared.parts.Owed.{Owed}
use Rattle.b1_model.specs.declared.events.Outcome.TheVariants as out
use Rattle.b1_model.specs.declared.events.Phase.{Phase}
use Rattle.b1_model.specs.declared.events.Phase.TheVariants.{Starting, Staging, Unstaging, Attaching, Stamping, Syncing, Committing, Dropping, Reaping, Visiting, Dooming, SyncingNotices, CommittingOwn, CommittingNotices, Flushing}
use Rattle.b1_model.specs.declared.events.Sending.{Sending}
use Rattle.b1_model.specs.declared.events.Destruction.{Destruction}
use Rattle.b1_model.specs.declared.events.Doing.{Doing}
use Rattle.b1_model.specs.declared.events.Action.TheVariants as act
use Rattle.b1_model.specs.MachineParts.{PeerPart, DriverPart, HandleRecord, State}
use Rattle.b1_model.specs.MachineSend.{send_refusal}
use Rattle.b1_model.specs.MachineReceive.{released}
use Rattle.b1_model.specs.MachineDestroy.{doom_answer}
use Rattle.b1_model.specs.MachineDriver.{node_of_place, send_of, accepted_from, is_place, all_refused, attaching, all_staged, staging, unstaging, with_slot, syncing, visiting, syncing_notices, committing_notices, is_flushing, destroying, started, place_done, phase_action, first_action, peer_of, Turn, Goes, Ends, turn}
use Rattle.b1_model.specs.MachineEvents.{happens, begin_by, stage_by, destroy_by, begin_refusal, begin_serials, collected_of, number_of}
use Rattle.b1_step.specs.Rights.{Has}
use Rattle.b1_inv.specs.Words.{IsPeer, IsMade}
use Rattle.b1_inv.specs.Sends.{IsBegun, IsSending, IsAttached, SendShape}
use Rattle.b1_inv_sends.proofs.Places.{next_before, next_accepted_place, next_or_end}
use Rattle.b1_inv_sends.proofs.Begins.{accepted, begun_right}
use Rattle.b1_inv_sends.proofs.Sendings.{all_staged_right, attaching_right, filled_right, fills}

-- the phase that an event led to has its shape
abbrev pub TurnRight : State → Command → Turn → Type 0
TurnRight s command (Goes phase) = SendShape s command phase
TurnRight s command (Ends got) = ⊤

-- ---- what was made stays made

module _ (s t : State) (command : Command) (stays : (node : NodeRef) → IsMade s node → IsMade t node) where
  begun_stays : (begun : Begun) → IsBegun s command begun → IsBegun t command begun
  begun_stays begun k = record {
    send = k.send;
    destinations = k.destinations;
    handles = k.handles;
    to = All-weaker (IsMade s) (IsMade t) stays begun.to k.to;
    with = All-weaker (IsMade s) (IsMade t) stays begun.with k.with;
  }

  sending_stays : (sending : Sending) (place handle : ℕ) → IsSending s command sending place handle → IsSending t command sending place handle
  sending_stays sending place handle k = record {
    begun = begun_stays sending.begun k.begun;
    places = k.places;
    lists = k.lists;
    slots = k.slots;
    filled = k.filled;
    unfilled = k.unfilled;
  }

  pub shape_stays : (phase : Phase) → SendShape s command phase → SendShape t command phase
  shape_stays Starting k = k
  shape_stays (Staging begun places collected) k = (begun_stays begun k.0, k.1)
  shape_stays (Unstaging begun places refused place) k = (begun_stays begun k.0, k.1, k.2)
  shape_stays (Attaching sending place handle) k = (sending_stays sending place handle k.0, k.1, k.2)
  shape_stays (Stamping sending) k = sending_stays sending (length sending.begun.to) 0 k
  shape_stays (Syncing sending stamp place) k = (sending_stays sending (length sending.begun.to) 0 k.0, k.1)
  shape_stays (Committing sending stamp place) k = (sending_stays sending (length sending.begun.to) 0 k.0, k.1)
  shape_stays Dropping k = k
  shape_stays (Reaping got) k = k
  shape_stays (Visiting destruction left) k = k
  shape_stays (Dooming destruction) k = k
  shape_stays (SyncingNotices destruction stamp at) k = k
  shape_stays (CommittingOwn destruction stamp) k = k
  shape_stays (CommittingNotices destruction stamp at) k = k
  shape_stays (Flushing stamp) k = k

-- ---- each turn

module _ (t : State) (command : Command) where
  staging_right : (begun : Begun) (places : List (Option Reason)) (collected : ℕ) → IsBegun t command begun → length places ≤ length begun.to → TurnRight t command (staging begun places collected)
  staging_right begun places collected right within =
      cond_both (nat_lt (length places) (length begun.to)) (Goes (Staging begun places collected)) _ (TurnRight t command)
      (λ is. (right, ltb-true (length places) (length begun.to) is))
      (λ done. let all = ltb-false (length places) (length begun.to) done in
      cond_both (is_place (accepted_from 0 places) places) (Goes (attaching (all_staged begun places collected) (accepted_from 0 places) 0)) (Ends (all_refused places)) (TurnRight t command)
      (λ is. let next = next_accepted_place 0 places is in
      attaching_right t command (all_staged begun places collected) (accepted_from 0 places) 0
      (all_staged_right t command begun places collected (accepted_from 0 places) 0 right (omega (arith, within, all))
      (λ at j there less before. elim before [ inl ahead ↦ let least = next_before 0 places at there (omega arith) in omega (arith, least, ahead) | inr (same, none) ↦ omega (arith, none) ]))
      next.accepted)
      (λ is. tt))

  unstaging_right : (begun : Begun) (places : List (Option Reason)) (refused : Refused) (from : ℕ) → IsBegun t command begun → length places ≤ length begun.to → TurnRight t command (unstaging begun places refused (accepted_from from places))
  unstaging_right begun places refused from right within =
      cond_both (is_place (accepted_from from places) places) (Goes (Unstaging begun places refused (accepted_from from places))) (Ends (answer.Refused refused)) (TurnRight t command)
      (λ is. (right, within, (next_accepted_place from places is).accepted))
      (λ is. tt)

  one_more : (places : List (Option Reason)) (new : Option Reason) (all : ℕ) → length places < all → length (places ++ new ∷ []) ≤ all
  one_more places new all less = let more = length-append places (new ∷ []) in omega (arith, more, less)

  placed_right : (begun : Begun) (places : List (Option Reason)) (collected : ℕ) (got : Result ℕ Reason) → IsBegun t command begun → length places < length begun.to → TurnRight t command (place_done command begun places collected got)
  placed_right begun places collected (Ok clock) right less = staging_right begun (places ++ None ∷ []) (max collected clock) right (one_more places None (length begun.to) less)
  placed_right begun places collected (Err r) right less =
      cond_both (send_of command).go_on (staging begun (places ++ Some r ∷ []) collected) _ (TurnRight t command)
      (λ is. staging_right begun (places ++ Some r ∷ []) collected right (one_more places (Some r) (length begun.to) less))
      (λ is. unstaging_right begun (places ++ Some r ∷ []) (record { reason = r; place = Some (length places) }) 0 right (one_more places (Some r) (length begun.to) less))

  syncing_right : (sending : Sending) (stamp from : ℕ) → IsAttached t command sending → SendShape t command (syncing sending stamp (accepted_from from sending.places))
  syncing_right sending stamp from k =
      cond_both (is_place (accepted_from from sending.places) sending.places) (Syncing sending stamp (accepted_from from sending.places)) (Committing sending stamp (accepted_from 0 sending.places)) (SendShape t command)
      (λ is. (k, (next_accepted_place from sending.places is).accepted))
      (λ is. (k, next_or_end 0 sending.places))

  visiting_right : (destruction : Destruction) (left : List ℕ) → SendShape t command (visiting destruction left)
  visiting_right destruction [] = tt
  visiting_right destruction (peer ∷ rest) = tt

  destroying_right : (doomed visit : List ℕ) → SendShape t command (destroying doomed visit)
  destroying_right [] visit = tt
  destroying_right (serial ∷ rest) visit = visiting_right (record { doomed = serial ∷ rest; collected = 0; staged = [] }) visit

  notices_right : (destruction : Destruction) (stamp at : ℕ) → SendShape t command (syncing_notices destruction stamp at)
  notices_right destruction stamp at = cond_both (nat_lt at (length destruction.staged)) (SyncingNotices destruction stamp at) (CommittingOwn destruction stamp) (SendShape t command) (λ is. tt) (λ is. tt)

  committed_right : (destruction : Destruction) (stamp at : ℕ) → TurnRight t command (committing_notices command destruction stamp at)
  committed_right destruction stamp at =
      cond_both (nat_lt at (length destruction.staged)) (Goes (CommittingNotices destruction stamp at)) _ (TurnRight t command)
      (λ is. tt)
      (λ is. cond_both (is_flushing command) (Goes (Flushing (Some stamp))) (Ends (answer.Destroyed stamp)) (TurnRight t command) (λ e. tt) (λ e. tt))

  -- ---- by the event that is next

  stage_turn : (r : Option Reason) (memory : Bool) (origin user place serial : ℕ) (payload : List ℕ) (nodes : List NodeRef) (x : PeerPart) (me : ℕ) (begun : Begun) (places : List (Option Reason)) (collected : ℕ)
      → ((got : Result ℕ Reason) → TurnRight t command (place_done command begun places collected got)) → TurnRight t command (turn me command (Staging begun places collected) (stage_by r memory origin user place serial payload nodes x).0)
  stage_turn (Some r) memory origin user place serial payload nodes x me begun places collected right = right (Err r)
  stage_turn None true origin user place serial payload nodes x me begun places collected right = right (Err reason.Memory)
  stage_turn None false origin user place serial payload nodes x me begun places collected right = right (Ok x.clock)

  doom_turn : (got : Result ℕ (List ℕ)) (me : ℕ) (destruction : Destruction) → TurnRight t command (turn me command (Dooming destruction) (out.StampDestroy got))
  doom_turn (Ok stamp) me destruction = notices_right destruction stamp 0
  doom_turn (Err late) me destruction = visiting_right destruction late

  -- where no drop is owed
  pub event_right : (o : Opening) (memory : Bool) (e : DriverPart) (doing : Doing) (x : PeerPart) (phase : Phase) → SendShape t command phase → x.me ≡ peer_of e.me (phase_action e.me e.shut command phase)
      → TurnRight t command (turn e.me command phase (happens o memory e doing (phase_action e.me e.shut command phase) x).0)
  event_right o memory e doing x Starting k own = absurd k
  event_right o memory e doing x (Staging begun places collected) k own = stage_turn _ memory _ _ _ _ _ _ x e.me begun places collected (λ got. placed_right begun places collected got k.0 k.1)
  event_right o memory e doing x (Unstaging begun places refused place) k own = unstaging_right begun places refused (place + 1) k.0 k.1
  event_right o memory e doing x (Attaching sending place handle) k own =
      let to = node_of_place sending.begun.to place in
      let node = node_of_place sending.begun.with handle in
      let accepted_here = k.1 in
      attaching_right t command (with_slot sending place handle _) place (handle + 1) (filled_right t command sending place handle _ k.0 accepted_here k.2 (fills to node x own)) accepted_here
  event_right o memory e doing x (Stamping sending) k own = syncing_right sending _ 0 k
  event_right o memory e doing x (Syncing sending stamp place) k own = syncing_right sending stamp (place + 1) k.0
  event_right o memory e doing x (Committing sending stamp place) k own = (k.0, next_or_end (place + 1) sending.places)
  event_right o memory e doing x Dropping k own = tt
  event_right o memory e doing x (Reaping got) k own = tt
  event_right o memory e doing x (Visiting destruction left) k own = visiting_right _ _
  event_right o memory e doing x (Dooming destruction) k own = doom_turn (doom_answer x (collected_of doing.phase)) e.me destruction
  event_right o memory e doing x (SyncingNotices destruction stamp at) k own = notices_right destruction stamp (at + 1)
  event_right o memory e doing x (CommittingOwn destruction stamp) k own = committed_right destruction stamp 0
  event_right o memory e doing x (CommittingNotices destruction stamp at) k own = committed_right destruction stamp (at + 1)
  event_right o memory e doing x (Flushing stamp) k own = tt

  -- a drop leaves the phase
  pub drop_right : (me : ℕ) (phase : Phase) → SendShape t command phase → TurnRight t command (turn me command phase out.DropRefs)
  drop_right me Starting k = k
  drop_right me (Staging begun places collected) k = k
  drop_right me (Unstaging begun places refused place) k = k
  drop_right me (Attaching sending place handle) k = k
  drop_right me (Stamping sending) k = k
  drop_right me (Syncing sending stamp place) k = k
  drop_right me (Committing sending stamp place) k = k
  drop_right me Dropping k = k
  drop_right me (Reaping got) k = k
  drop_right me (Visiting destruction left) k = k
  drop_right me (Dooming destruction) k = k
  drop_right me (SyncingNotices destruction stamp at) k = k
  drop_right me (CommittingOwn destruction stamp) k = k
  drop_right me (CommittingNotices destruction stamp at) k = k
  drop_right me (Flushing stamp) k = k

-- ---- the first event of a command

module _ (t : State) where
  begin_turn : (r : Option Reason) (memory : Bool) (c : SendCmd) (x : PeerPart) → send_refusal x c ≡ r → IsPeer t x.me (begin_by r memory c x).1 → ((h : HandleRecord) → Has x.handles h → IsMade t h.node) → TurnRight t (cmd.Send c) (started (cmd.Send c) (begin_by r memory c x).0)
  begin_turn (Some r) memory c x is is_peer made = tt
  begin_turn None true c x is is_peer made = tt
  begin_turn None false c x is is_peer made =
      let right = begun_right t x c is_peer made (accepted x c is) in
      let some = right.send.some in
      let all = right.destinations in
      (right, omega (arith, some, all))

  destroy_turn : (command : Command) (r : Option Reason) (doomed : List ℕ) (x : PeerPart) → TurnRight t command (started command (destroy_by r doomed x).0)
  destroy_turn command (Some r) doomed x = tt
  destroy_turn command None doomed x = destroying_right t command doomed _

  release_turn : (command : Command) (got : Result Owed Reason) → TurnRight t command (started command (out.Release got))
  release_turn command (Ok owed) = tt
  release_turn command (Err r) = tt

  first_turn : (o : Opening) (memory : Bool) (e : DriverPart) (doing : Doing) (x : PeerPart) (command : Command) → doing.command ≡ command → IsPeer t x.me (happens o memory e doing (first_action command) x).1 → ((h : HandleRecord) → Has x.handles h → IsMade t h.node)
      → TurnRight t command (started command (happens o memory e doing (first_action command) x).0)
  first_turn o memory e doing x cmd.Disconnect same is_peer made = destroy_turn cmd.Disconnect (begin_refusal doing.command x) (begin_serials doing.command x) x
  first_turn o memory e doing x cmd.Query same is_peer made = tt
  first_turn o memory e doing x (cmd.Limit limits) same is_peer made = tt
  first_turn o memory e doing x (cmd.Reset limits) same is_peer made = destroy_turn (cmd.Reset limits) (begin_refusal doing.command x) (begin_serials doing.command x) x
  first_turn o memory e doing x (cmd.Release number) same is_peer made = release_turn (cmd.Release number) (released x (number_of doing.command))
  first_turn o memory e doing x (cmd.Destroy numbers) same is_peer made = destroy_turn (cmd.Destroy numbers) (begin_refusal doing.command x) (begin_serials doing.command x) x
  first_turn o memory e doing x (cmd.SliceRelease offset) same is_peer made = tt
  first_turn o memory e doing x (cmd.Send c) same is_peer made =
      let is_send : send_of doing.command ≡ c = ap send_of same in
      subst (λ z. TurnRight t (cmd.Send c) (started (cmd.Send c) (begin_by (send_refusal x z) memory z x).0)) (sym is_send)
      (begin_turn (send_refusal x c) memory c x refl (subst (λ z. IsPeer t x.me (begin_by (send_refusal x z) memory z x).1) is_send is_peer) made)
  first_turn o memory e doing x cmd.Recv same is_peer made = tt
  first_turn o memory e doing x cmd.Await same is_peer made = tt

  -- a shut driver answers at once
  shut_turn : (o : Opening) (memory : Bool) (e : DriverPart) (doing : Doing) (x : PeerPart) (shut : Bool) → IsPeer t x.me (happens o memory e doing (cond shut act.Local (first_action doing.command)) x).1 → ((h : HandleRecord) → Has x.handles h → IsMade t h.node)
      → TurnRight t doing.command (started doing.command (happens o memory e doing (cond shut act.Local (first_action doing.command)) x).0)
  shut_turn o memory e doing x true is_peer made = tt
  shut_turn o memory e doing x false is_peer made = first_turn o memory e doing x doing.command refl is_peer made

  pub start_right : (o : Opening) (memory : Bool) (e : DriverPart) (doing : Doing) (x : PeerPart) → doing.phase ≡ Starting → IsPeer t x.me (happens o memory e doing (phase_action e.me e.shut doing.command doing.phase) x).1 → ((h : HandleRecord) → Has x.handles h → IsMade t h.node)
      → TurnRight t doing.command (turn e.me doing.command doing.phase (happens o memory e doing (phase_action e.me e.shut doing.command doing.phase) x).0)
  start_right o memory e doing x starts is_peer made =
      subst (λ phase. TurnRight t doing.command (turn e.me doing.command phase (happens o memory e doing (phase_action e.me e.shut doing.command phase) x).0)) (sym starts)
      (shut_turn o memory e doing x e.shut (subst (λ phase. IsPeer t x.me (happens o memory e doing (phase_action e.me e.shut doing.command phase) x).1) starts is_peer) made)
