-- Each committed message is an entry of a stamped send of the record, over a step.
use Rattle.std.proofs.Common.{◌≡◌, refl, sym, ap, subst, ◌∙◌, inl, inr, ℕ, ◌<◌, Bool, true, false, ◌&&◌, not, ◌==◌, nat_le, List, [], length, map, get_or, Option, Some, None}
use Rattle.std.specs.Prelude.{slice_get}
use Rattle.std.proofs.lemmas.Bool.{and_parts}
use Rattle.std.proofs.lemmas.Option.{same_Some, slice_get_within, get_or_from_slice_get}
use native.Mathlib.Omega.{arith}
use Rattle.b1_model.specs.declared.commands.Command.{Command}
use Rattle.b1_model.specs.declared.naming.Key.{Key}
use Rattle.b1_model.specs.declared.naming.Opening.{Opening}
use Rattle.b1_model.specs.declared.answers.Reason.{Reason}
use Rattle.b1_model.specs.declared.parts.Slot.{Slot}
use Rattle.b1_model.specs.declared.entries.Entry.{Entry}
use Rattle.b1_model.specs.declared.entries.Entry.TheVariants.{Message, OwnNotice, ForeignNotice, ReleaseNotice}
use Rattle.b1_model.specs.declared.events.Doing.{Doing}
use Rattle.b1_model.specs.declared.events.Phase.{Phase}
use Rattle.b1_model.specs.declared.events.Phase.TheVariants.{Starting, Committing}
use Rattle.b1_model.specs.declared.events.Sending.{Sending}
use Rattle.b1_model.specs.Ledger.{message, is_accepted}
use Rattle.b1_model.specs.Ledger.{Message as Sent}
use Rattle.b1_model.specs.MachineParts.{PeerPart, State, is_staged, is_data, is_odd}
use Rattle.b1_model.specs.MachineTables.{is_stage, is_staged_notice}
use Rattle.b1_model.specs.MachineSend.{with_slots}
use Rattle.b1_model.specs.MachineDriver.{node_of_place, no_ref, send_of}
use Rattle.b1_model.specs.MachineEvents.{begun_of}
use Rattle.b1_model.specs.MachineStep.{Step, opening_state, record_of_state}
use Rattle.b1_step.specs.Rights.{Has}
use Rattle.b1_step.proofs.Orders.{find_has}
use Rattle.b1_inv.specs.Words.{IsPeer, is_accepted_place, waits_at}
use Rattle.b1_inv.specs.Stages.{IsMessageOf}
use Rattle.b1_inv.specs.Sound.{IsSound}
use Rattle.b1_ledger.proofs.Grows.{Found, keeps_found, found_of_message}
use Rattle.b1_ledger.proofs.Stable.{message_same}
use Rattle.b1_inv_record.specs.Entries.{IsCallOf, CommittedHasCall}
use Rattle.b1_inv_record.specs.Right.{IsRight}
use Rattle.b1_inv_tools.proofs.Leaves.{peer_cases}
use Rattle.b1_inv_sends.proofs.Once.{stage_parts}
use Rattle.b1_inv_sends.proofs.Places.{accepted_within}
use Rattle.b1_inv_sends.proofs.StagesKept.{opening_queue}
use Rattle.b1_inv_notices.proofs.Brings.{odd_is}
use Rattle.b1_inv_notices.proofs.Turns.{doing_in, parts, get_there}
use Rattle.b1_inv_entries.proofs.NewCalls.{record_extends}
use Rattle.b1_inv_entries.proofs.SentNames.{place_named, SaysBegun, sent_message}
use Rattle.b1_inv_entries.proofs.Sources.{Stages, Commits, Notices, Drops, Dooms, Visits, Brought, entry_source}

-- a place that was accepted, in the record's words
pub accepted_same : (place : Option (Option Reason)) → is_accepted place ≡ elim place [ None ↦ false | Some reason ↦ elim reason [ None ↦ true | Some r ↦ false ] ]
accepted_same None = refl
accepted_same (Some None) = refl
accepted_same (Some (Some r)) = refl

-- a message that says what a SEND's begin found is that of the SEND's staged entry
called_by : (o : Opening) (q stamp place : ℕ) (doing : Doing) (sending : Sending) (k : Key) (e : Entry) (slots : List Slot) (m : Sent) → begun_of doing.phase ≡ sending.begun → k.index ≡ place → is_accepted_place sending.places place ≡ true
    → place < length sending.begun.to → SaysBegun sending (send_of doing.command).payload m → IsMessageOf o q doing k e → IsCallOf q (record { stamp = stamp; origin = k.origin; index = place }) (with_slots slots e) m
called_by o q stamp place doing sending k (Message origin user index serial offset len nodes old handles payload) slots m begun at accepted within says (from, index_is, user_is, node, carries, text) =
    let n = get_there sending.begun.to place within in
    let node_is : n.0 ≡ record { owner = q; serial = serial } =
    sym (get_or_from_slice_get sending.begun.to place n.0 no_ref n.1) ∙ ap (λ i. node_of_place sending.begun.to i) (sym (index_is ∙ at)) ∙ ap (λ b. node_of_place b.to index) (sym begun) ∙ node in (
      ap (λ places. is_accepted (slice_get places place)) says.places ∙ accepted_same (slice_get sending.places place) ∙ accepted,
      place_named m.to sending.begun.to place n.0 says.to n.1 ∙ ap Some node_is,
      says.carried ∙ ap (map Some) (sym (carries ∙ ap (λ b. b.with) begun)),
      says.payload_is ∙ sym text,
    )
called_by o q stamp place doing sending k (OwnNotice serial index) slots m begun at accepted within says h = absurd h
called_by o q stamp place doing sending k (ForeignNotice node index) slots m begun at accepted within says h = absurd h
called_by o q stamp place doing sending k (ReleaseNotice serial) slots m begun at accepted within says h = absurd h

module _ {o : Opening} {s : State} {p : ℕ} {c : Option Command} {t : State} (sound : IsSound o s) (right : IsRight o s) (step : Step o s p c t) where
  -- the message of an entry in a state's record
  abbrev HasCall : State → ℕ → Key × Entry → Type 0
  HasCall u q f = (m : Sent) × (message o.wires (record_of_state u) f.0.stamp f.0.origin ≡ Some m) × IsCallOf q f.0 f.1 m

  -- it stays
  pub message_stays : (stamp q : ℕ) (m : Sent) → message o.wires (record_of_state s) stamp q ≡ Some m → message o.wires (record_of_state t) stamp q ≡ Some m
  message_stays stamp q m is =
      message_same o.wires (Found (record_of_state s)) (record_of_state s) (record_of_state t) (keeps_found o (record_of_state s) (record_of_state t) right.legal (record_extends sound step)) stamp q
      (found_of_message o.wires (record_of_state s) stamp q m is) ∙ is

  call_stays : (q : ℕ) (f : Key × Entry) → HasCall s q f → HasCall t q f
  call_stays q f (m, is, call) = (m, message_stays f.0.stamp f.0.origin m is, call)

  own_part : (x : PeerPart) × IsPeer s p x
  own_part = get_there s.peers p (let within = slice_get_within s.drivers p step.driver step.is_driver in omega (arith, within, sound.numbered.as_many_drivers, sound.numbered.as_many_peers))

  -- a commit's entry
  committed_call : (sending : Sending) (stamp place : ℕ) (g : Key × Entry) → step.driver.doing ≡ Some (doing_in (parts step).command (Committing sending stamp place)) → Has step.peer.queue g → is_stage step.driver.me place g ≡ true
      → HasCall s step.at (record { stamp = stamp; origin = step.driver.me; index = place }, with_slots (get_or sending.slots place []) g.1)
  committed_call sending stamp place g is_open has stage =
      let k = stage_parts step.driver.me place g stage in
      let me_is : step.driver.me ≡ p = sound.numbered.drivers p step.driver step.is_driver in
      let sender = sound.stages.sender step.at step.peer g step.is_peer has k.message k.staged in
      let same_driver : sender.driver ≡ step.driver = same_Some sender.driver step.driver (sym sender.is_driver ∙ ap (slice_get s.drivers) (k.origin_is ∙ me_is) ∙ step.is_driver) in
      let both : Some sender.doing ≡ Some (doing_in (parts step).command (Committing sending stamp place)) = sym sender.is_open ∙ ap (λ d. d.doing) same_driver ∙ is_open in
      let same_doing : sender.doing ≡ doing_in (parts step).command (Committing sending stamp place) = same_Some sender.doing _ both in
      let waits : waits_at (Committing sending stamp place) place ≡ true = ap (λ d. waits_at d.phase place) (sym same_doing) ∙ ap (waits_at sender.doing.phase) (sym k.index_is) ∙ sender.waits in
      let accepted = (and_parts (nat_le place place) (is_accepted_place sending.places place) waits).1 in
      let shape = (sound.sends.shape p step.driver (doing_in (parts step).command (Committing sending stamp place)) step.is_driver is_open).0 in
      let within = accepted_within sending.places place accepted in
      let sent = sent_message sound right p step.driver own_part.0 step.is_driver own_part.1 (parts step).command sending stamp place is_open shape.begun.send in (
        sent.0,
        ap (message o.wires (record_of_state s) stamp) me_is ∙ sent.1,
        subst (λ n. IsCallOf step.at (record { stamp = stamp; origin = n; index = place }) (with_slots (get_or sending.slots place []) g.1) sent.0) k.origin_is
            (called_by o step.at stamp place (doing_in (parts step).command (Committing sending stamp place)) sending g.0 g.1 (get_or sending.slots place []) sent.0 refl k.index_is accepted
            (let many = shape.places in omega (arith, within, many)) sent.2 (subst (λ d. IsMessageOf o step.at d g.0 g.1) same_doing sender.message)),
      )

  apart : (f : Key × Entry) (e : Entry) → is_data f.1 ≡ true → f.1 ≡ e → is_data e ≡ false → ⊥
  apart f e data_is same none = let both : true ≡ false = sym data_is ∙ ap is_data same ∙ none in cc both

  no_message : (origin : ℕ) (g : Key × Entry) → is_staged_notice origin g ≡ true → is_data g.1 ≡ false
  no_message origin g is = by (is_data g.1) refl
    where
      by : (b : Bool) → is_data g.1 ≡ b → b ≡ false
      by false same = refl
      by true same = let both : false ≡ true = ap (λ b. not b && is_staged g && (g.0.origin == origin)) (sym same) ∙ is in absurd (cc both)

  new_call_of : (f : Key × Entry) → Brought step f → is_data f.1 ≡ true → is_staged f ≡ false → HasCall s step.at f
  new_call_of f (Stages begun places collected phase owed live answered is) data_is even =
      let odd : is_staged f ≡ true = ap (λ g. is_odd g.0.stamp) is ∙ odd_is step.peer.clock (sound.clocks.clock step.at step.peer step.is_peer).0 in
      let both : true ≡ false = sym odd ∙ even in absurd (cc both)
  new_call_of f (Commits sending stamp place g phase owed found is) data_is even =
      let there = find_has (is_stage step.driver.me place) step.peer.queue g found in
      let is_open : step.driver.doing ≡ Some (doing_in (parts step).command (Committing sending stamp place)) = elim (parts step).was [
        | inl was ↦ was ∙ ap (λ z. Some (doing_in (parts step).command z)) phase
        | inr new ↦ let none : is_committing_phase (Committing sending stamp place) ≡ is_committing_phase Starting = ap is_committing_phase (sym phase ∙ new.1) in absurd (cc none)
      ] in
      subst (HasCall s step.at) (sym is) (committed_call sending stamp place g is_open there.0 there.1)
    where
      is_committing_phase : Phase → Bool
      is_committing_phase (Committing one at now) = true
      is_committing_phase other = false
  new_call_of f (Notices stamp g phase has notice is) data_is even = absurd (apart f g.1 data_is (ap (λ h. h.1) is) (no_message step.driver.me g notice))
  new_call_of f (Drops one has is) data_is even = absurd (apart f _ data_is (ap (λ h. h.1) is) refl)
  new_call_of f (Dooms index serial starting at is) data_is even = absurd (apart f _ data_is (ap (λ h. h.1) is) refl)
  new_call_of f (Visits index serial at is) data_is even = absurd (apart f _ data_is (ap (λ h. h.1) is) refl)

  here_called : (f : Key × Entry) → Has step.new_peer.queue f → is_data f.1 ≡ true → is_staged f ≡ false → HasCall s step.at f
  here_called f has data_is even = elim (entry_source step f has) [
    | inl old ↦ right.entries.called.sent step.at step.peer f step.is_peer old.0 data_is even
    | inr new ↦ new_call_of f new data_is even
  ]

  pub committed_called : CommittedHasCall o t
  committed_called = record {
    sent = λ q y f is has data_is even. call_stays q f (elim (peer_cases step q y is) as (λ z. HasCall s q f) [
      | inr other ↦ right.entries.called.sent q y f other.1 has data_is even
      | inl here ↦ subst (λ r. HasCall s r f) (sym here.0) (here_called f (subst (λ z. Has z.queue f) here.1 has) data_is even)
    ]);
  }

pub called_begins : (o : Opening) → CommittedHasCall o (opening_state o)
called_begins o = record { sent = λ q x f is has data_is even. absurd (subst (λ queue. Has queue f) (opening_queue o q x is) has) }
