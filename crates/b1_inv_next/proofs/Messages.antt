-- Every message that a peer may receive next is queued, or a staged entry below it is.
use Rattle.std.proofs.Common.{◌≡◌, refl, sym, ap, subst, ◌∙◌, inl, inr, ℕ, ◌≤◌, ◌<◌, ◌==◌, true, false, not, Option, Some, None}
use Rattle.std.specs.Prelude.{slice_get}
use Rattle.std.proofs.lemmas.Bool.{and_parts, eqb-true, not-true}
use Rattle.std.proofs.lemmas.Option.{slice_get_within}
use native.Mathlib.Omega.{arith}
use Rattle.b1_model.specs.declared.answers.Reason.{Reason}
use Rattle.b1_model.specs.declared.naming.Key.{Key}
use Rattle.b1_model.specs.declared.naming.Opening.{Opening}
use Rattle.b1_model.specs.declared.entries.Entry.{Entry}
use Rattle.b1_model.specs.declared.entries.Entry.TheVariants as entry
use Rattle.b1_model.specs.declared.events.Doing.{Doing}
use Rattle.b1_model.specs.declared.events.Phase.{Phase}
use Rattle.b1_model.specs.declared.events.Phase.TheVariants.{Syncing, Committing}
use Rattle.b1_model.specs.declared.records.Call.{Call}
use Rattle.b1_model.specs.declared.records.Record.{Record}
use Rattle.b1_model.specs.Names.{Node, calls_of, epoch_at}
use Rattle.b1_model.specs.Ledger.{Message, message, to_at, is_accepted, is_node_of, is_entry, is_late}
use Rattle.b1_model.specs.Legal.{is_above, last_key, is_open_to, is_message_in, is_message}
use Rattle.b1_model.specs.MachineParts.{PeerPart, DriverPart, State, is_staged, is_data}
use Rattle.b1_model.specs.MachineStep.{record_of_state}
use Rattle.b1_step.specs.Rights.{Has}
use Rattle.b1_inv.specs.Words.{IsPeer, IsDriver, stamp_of_phase, waits_at}
use Rattle.b1_inv.specs.Sound.{IsSound}
use Rattle.b1_ledger.specs.Growth.{calls_len, sent_call}
use Rattle.b1_ledger.proofs.Made.{to_made}
use Rattle.b1_inv_record.specs.Clocks.{is_own_notice}
use Rattle.b1_inv_record.specs.Entries.{IsSomewhere}
use Rattle.b1_inv_record.specs.Epochs.{first_now, ref_of, is_unstaging, epoch_now, WasReceived, WasReceivedIn}
use Rattle.b1_inv_record.specs.Right.{IsRight}
use Rattle.b1_inv_notices.proofs.Turns.{get_there}
use Rattle.b1_inv_notices.proofs.Brings.{stage_is}
use Rattle.b1_inv_cover.proofs.Came.{stage_staged}
use Rattle.b1_inv_destroys.proofs.Recorded.{recorded, calls_by}
use Rattle.b1_inv_next.specs.Queued.{Queued}
use Rattle.b1_inv_next.proofs.Facts.{sent_by}
use Rattle.b1_inv_next.proofs.OpenSends.{is_stamped, goes_to}
use Rattle.b1_inv_next.proofs.Idle.{as_many, epoch_is, epoch_end, present_is, received_behind}

accepted_there : (place : Option (Option Reason)) → is_accepted place ≡ true → place ≡ Some None
accepted_there None is = absurd (cc is)
accepted_there (Some None) is = refl
accepted_there (Some (Some reason)) is = absurd (cc is)

-- only a SEND's place waits
waits_stamped : (phase : Phase) (at stamp : ℕ) → waits_at phase at ≡ true → stamp_of_phase phase ≡ Some stamp → is_stamped phase ≡ true
waits_stamped (Syncing sending stamp place) at one waits fixed = refl
waits_stamped (Committing sending stamp place) at one waits fixed = refl
waits_stamped phase at one waits fixed = absurd (cc (waits, fixed))

stamped_kept : (phase : Phase) → is_stamped phase ≡ true → is_unstaging phase ≡ false
stamped_kept (Syncing sending stamp place) is = refl
stamped_kept (Committing sending stamp place) is = refl
stamped_kept phase is = absurd (cc is)

message_other : (e : Entry) → is_data e ≡ true → is_own_notice e ≡ false
message_other (entry.Message origin user index serial offset len nodes slots handles payload) is = refl
message_other (entry.OwnNotice serial index) is = absurd (cc is)
message_other (entry.ForeignNotice node index) is = absurd (cc is)
message_other (entry.ReleaseNotice serial) is = absurd (cc is)

-- whoever has a call is there
has_driver : (found : Option DriverPart) (k : ℕ) (c : Call) → slice_get (calls_by found) k ≡ Some c → (d : DriverPart) × (found ≡ Some d)
has_driver None k c is = absurd (cc is)
has_driver (Some d) k c is = (d, refl)

module _ {o : Opening} {s : State} (sound : IsSound o s) (right : IsRight o s) where
  abbrev r : Record
  r = record_of_state s

  pub caller : (q k : ℕ) (c : Call) → slice_get (calls_of r q) k ≡ Some c → (d : DriverPart) × (y : PeerPart) × IsDriver s q d × IsPeer s q y
  caller q k c is =
      let d = has_driver (slice_get s.drivers q) k c (sym (ap (λ l. slice_get l k) (recorded s q (as_many sound right))) ∙ is) in
      let y = get_there s.peers q (let within = slice_get_within s.drivers q d.0 d.1 in let same = as_many sound right in omega (arith, within, same)) in
      (d.0, y.0, d.1, y.1)

  -- a place that waits has its staged message, below the stamp
  waiting : (q : ℕ) (x : PeerPart) (origin index stamp : ℕ) (e : DriverPart) (z : PeerPart) (m : Message) (y : Node) → IsPeer s q x → IsDriver s origin e → IsPeer s origin z → (doing : Option Doing) → e.doing ≡ doing
      → elim doing [ None ↦ None | Some one ↦ stamp_of_phase one.phase ] ≡ Some stamp → elim doing [ None ↦ false | Some one ↦ waits_at one.phase index ] ≡ true → message o.wires r stamp origin ≡ Some m → to_at m index ≡ Some y → y.owner ≡ q
      → first_now o s q ≤ y.serial → (g : Key × Entry) × Has x.queue g × (is_staged g ≡ true) × (g.0.stamp < stamp)
  waiting q x origin index stamp e z m y is_peer is_driver is_sender None is_open fixed waits sent to here present = absurd (cc fixed)
  waiting q x origin index stamp e z m y is_peer is_driver is_sender (Some doing) is_open fixed waits sent to here present =
      let stamped = waits_stamped doing.phase index stamp waits fixed in
      let goes = goes_to sound right origin e z doing.command doing.phase is_driver is_sender is_open stamped stamp fixed m index y sent to in
      let f = right.entries.pending.staged origin index e doing (ref_of y) x is_driver is_open goes waits (subst (λ k. IsPeer s k x) (sym here) is_peer) (subst (λ k. first_now o s k ≤ y.serial) (sym here) present) in
      let stage = stage_is origin index f.0 f.2 in
      let odd = stage_staged origin index f.0 f.2 in
      let low = right.clocks.staged.collected q x f.0 e doing is_peer f.1 odd (message_other f.0.1 stage.0) (subst (λ k. IsDriver s k e) (sym stage.1) is_driver) is_open (stamped_kept doing.phase stamped) in
      let high = right.clocks.above.above origin stamp e doing is_driver is_open fixed in
      (f.0, f.1, odd, omega (arith, low, high))

  module _ (p : ℕ) (d : DriverPart) (x : PeerPart) (is_driver : IsDriver s p d) (is_peer : IsPeer s p x) (idle : d.doing ≡ None) (key : Key) (above : is_above key (last_key r p (calls_len r p)) ≡ true) where
    by_place : (e : DriverPart) (z : PeerPart) (m : Message) (y : Node) → IsDriver s key.origin e → IsPeer s key.origin z → message o.wires r key.stamp key.origin ≡ Some m → to_at m key.index ≡ Some y → y.owner ≡ p
        → first_now o s p ≤ y.serial → is_late o.wires r y key ≡ false → IsSomewhere o s e x y key → Queued x key
    by_place e z m y is_e is_z sent to here present fresh (inl (inl (f, has, same, is_data))) = (f, has, inl same)
    by_place e z m y is_e is_z sent to here present fresh (inl (inr (fixed, pending))) =
        let g = waiting p x key.origin key.index key.stamp e z m y is_peer is_e is_z e.doing refl fixed pending sent to here present in (g.0, g.1, inr (g.2, g.3))
    by_place e z m y is_e is_z sent to here present fresh (inr (inl got)) =
        let mine : WasReceivedIn s p (epoch_now s p) key = subst (λ q. WasReceived s q key) here got in
        absurd (received_behind sound right p d x is_driver is_peer idle key (subst (λ n. WasReceivedIn s p n key) (epoch_is sound right p d x is_driver is_peer idle) mine) above)
    by_place e z m y is_e is_z sent to here present fresh (inr (inr (late, taken))) = let both : true ≡ false = sym late ∙ fresh in absurd (cc both)

    by_node : (m : Message) → message o.wires r key.stamp key.origin ≡ Some m → is_accepted (slice_get m.places key.index) ≡ true → (y : Node) → to_at m key.index ≡ Some y → (y.owner == p) ≡ true → (y.epoch == epoch_at r p (calls_len r p)) ≡ true
        → is_late o.wires r y key ≡ false → Queued x key
    by_node m sent accepted y to owner epoch fresh =
        let call = sent_by o.wires r right.legal.order key.stamp key.origin m sent in
        let who = caller key.origin call.place (sent_call call.command call.sent) call.is_call in
        let here = eqb-true y.owner p owner in
        let made = to_made o.wires r key.stamp key.origin m key.index y sent to in
        let present = present_is sound right p d x is_driver is_peer idle y made here epoch in
        let now : y.epoch ≡ epoch_now s y.owner = eqb-true y.epoch (epoch_at r p (calls_len r p)) epoch ∙ epoch_end sound right p d x is_driver is_peer idle ∙ ap (epoch_now s) (sym here) in
        let place : slice_get call.sent.places key.index ≡ Some None = accepted_there (slice_get call.sent.places key.index) (ap (λ l. is_accepted (slice_get l key.index)) (sym call.places) ∙ accepted) in
        let somewhere = right.entries.somewhere.somewhere key.origin call.place key.index who.0 (sent_call call.command call.sent) call.sent m y x who.2 call.is_call refl place
        (ap (λ n. message o.wires r n key.origin) call.stamped ∙ sent) to now (subst (λ q. IsPeer s q x) (sym here) is_peer) in
        by_place who.0 who.1 m y who.2 who.3 sent to here present fresh (subst (λ n. IsSomewhere o s who.0 x y (record { stamp = n; origin = key.origin; index = key.index })) call.stamped somewhere)

    by_message : (found : Option Message) → message o.wires r key.stamp key.origin ≡ found → is_message_in o.wires r p (calls_len r p) key found ≡ true → Queued x key
    by_message None sent is = absurd (cc is)
    by_message (Some m) sent is =
        let parts = and_parts (is_entry p key.index m) (is_open_to o.wires r p (calls_len r p) key (to_at m key.index)) is in
        let entry = and_parts (is_accepted (slice_get m.places key.index)) (is_node_of p (to_at m key.index)) parts.0 in
        by (to_at m key.index) refl entry.1 parts.1 entry.0
      where
        by : (to : Option Node) → to_at m key.index ≡ to → is_node_of p to ≡ true → is_open_to o.wires r p (calls_len r p) key to ≡ true → is_accepted (slice_get m.places key.index) ≡ true → Queued x key
        by None at owner opens accepted = absurd (cc owner)
        by (Some y) at owner opens accepted =
            let open_parts = and_parts (y.epoch == epoch_at r p (calls_len r p)) (not (is_late o.wires r y key)) opens in
            by_node m sent accepted y at owner open_parts.0 (not-true (is_late o.wires r y key) open_parts.1)

  -- a message that may be received next is queued, or a staged entry below it is
  pub message_queued : (p : ℕ) (d : DriverPart) (x : PeerPart) → IsDriver s p d → IsPeer s p x → d.doing ≡ None → (key : Key) → is_message o.wires r p (calls_len r p) key ≡ true → Queued x key
  message_queued p d x is_driver is_peer idle key is =
      let parts = and_parts (is_above key (last_key r p (calls_len r p))) (is_message_in o.wires r p (calls_len r p) key (message o.wires r key.stamp key.origin)) is in
      by_message p d x is_driver is_peer idle key parts.0 (message o.wires r key.stamp key.origin) refl parts.1
