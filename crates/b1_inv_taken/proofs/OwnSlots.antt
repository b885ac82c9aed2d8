-- An own slot is of a node of the epoch of the part in whose queue its message stands.
use Rattle.std.proofs.Common.{◌≡◌, ◌≢◌, refl, sym, ap, subst, ◌∙◌, inl, inr, ℕ, ◌≤◌, ◌==◌, Bool, true, false, List, [], ◌∷◌, get_or, Option, Some, None}
use Rattle.std.specs.Prelude.{slice_get}
use Rattle.std.proofs.lemmas.Bool.{eqb-true}
use Rattle.std.proofs.lemmas.Option.{same_Some, slice_get_within, get_or_from_slice_get}
use native.Mathlib.Omega.{arith}
use Rattle.b1_model.specs.declared.commands.Command.{Command}
use Rattle.b1_model.specs.declared.naming.Key.{Key}
use Rattle.b1_model.specs.declared.naming.NodeRef.{NodeRef}
use Rattle.b1_model.specs.declared.naming.Opening.{Opening}
use Rattle.b1_model.specs.declared.entries.Entry.{Entry}
use Rattle.b1_model.specs.declared.entries.Entry.TheVariants.{Message, OwnNotice, ForeignNotice, ReleaseNotice}
use Rattle.b1_model.specs.declared.parts.Attach.{Attach}
use Rattle.b1_model.specs.declared.parts.Attach.TheVariants as attach
use Rattle.b1_model.specs.declared.parts.NodeState.{NodeState}
use Rattle.b1_model.specs.declared.parts.NodeState.TheVariants.{Live, Dying, Destroyed}
use Rattle.b1_model.specs.declared.parts.Slot.{Slot}
use Rattle.b1_model.specs.declared.parts.Slot.TheVariants as slot
use Rattle.b1_model.specs.declared.events.Doing.{Doing}
use Rattle.b1_model.specs.declared.events.OwedDrop.{OwedDrop}
use Rattle.b1_model.specs.declared.events.Outcome.{Outcome}
use Rattle.b1_model.specs.declared.events.Outcome.TheVariants as out
use Rattle.b1_model.specs.declared.events.Phase.{Phase}
use Rattle.b1_model.specs.declared.events.Phase.TheVariants.{Starting, Staging, Attaching, Committing, Visiting, Dooming}
use Rattle.b1_model.specs.MachineParts.{PeerPart, DriverPart, State, is_live, is_dying, is_destroyed, is_staged, is_data, node_at, carried, slots_of}
use Rattle.b1_model.specs.MachineTables.{is_stage}
use Rattle.b1_model.specs.MachineSend.{attach_by, attach_answer, with_slots}
use Rattle.b1_model.specs.MachineDriver.{node_of_place, no_ref}
use Rattle.b1_model.specs.MachineEvents.{begun_of, slots_at, doomed_of}
use Rattle.b1_model.specs.MachineStep.{Step, opening_state}
use Rattle.b1_step.specs.Rights.{Has}
use Rattle.b1_step.proofs.Orders.{find_has}
use Rattle.b1_inv.specs.Words.{IsPeer, IsDriver, stamp_of_phase}
use Rattle.b1_inv.specs.Notices.{dying_of}
use Rattle.b1_inv.specs.Sound.{IsSound}
use Rattle.b1_inv_record.specs.Epochs.{first_done}
use Rattle.b1_inv_record.specs.Holders.{OwnSlotsPresent, slots_now}
use Rattle.b1_inv_record.specs.Right.{IsRight}
use Rattle.b1_inv_sends.proofs.StagesKept.{opening_queue}
use Rattle.b1_inv_tools.proofs.Facts.{even_is}
use Rattle.b1_inv_tools.proofs.Leaves.{peer_cases}
use Rattle.b1_inv_notices.proofs.Brings.{stage_is, notice_is, odd_is}
use Rattle.b1_inv_notices.proofs.StampsLaw.{fixed_before}
use Rattle.b1_inv_notices.proofs.Turns.{answered, parts, going_doing, going_answer, get_there}
use Rattle.b1_inv_cover.proofs.Came.{stage_staged}
use Rattle.b1_inv_destroys.proofs.Recorded.{as_many}
use Rattle.b1_inv_holders.proofs.Counted.{driver_slots, cond_true, cond_false, carries_data, message_is}
use Rattle.b1_inv_holders.proofs.SlotTurns.{IsSlot, NewSlot}
use Rattle.b1_inv_holders.proofs.Filled.{filled_from}
use Rattle.b1_inv_entries.proofs.Sources.{Stages, Commits, Notices, Drops, Dooms, Visits, Brought, entry_source}
use Rattle.b1_inv_entries.proofs.Present.{live_done, first_stays}

apart : slot.Unattached ≢ slot.Own
apart is = absurd (cc is)

-- ---- an attach

own_by : (state : NodeState) (own : Bool) → attach_by state own ≡ attach.Own → (own ≡ true) × (is_destroyed state ≡ false)
own_by Live true is = (refl, refl)
own_by Live false is = absurd (cc is)
own_by Dying true is = (refl, refl)
own_by Dying false is = absurd (cc is)
own_by (Destroyed stamp) own is = absurd (cc is)

new_slots : (slots : List Slot) (e : Entry) → is_data e ≡ true → (slots_of (with_slots slots e) ≡ slots) × (carried (with_slots slots e) ≡ carried e)
new_slots slots (Message origin user index serial offset len nodes old handles payload) is = (refl, refl)
new_slots slots (OwnNotice serial index) is = absurd (cc is)
new_slots slots (ForeignNotice node index) is = absurd (cc is)
new_slots slots (ReleaseNotice serial) is = absurd (cc is)

module _ (o : Opening) (memory : Bool) (d : DriverPart) (command : Command) (x : PeerPart) where
  abbrev New : Phase → List OwedDrop → ℕ → ℕ → ℕ → Type 0
  New phase owed at j collected = NewSlot slot.Own apart phase (answered o memory d command phase owed x).0 at j collected

  -- a slot is made own at the peer of the place, for a node of its own that isn't destroyed
  attach_own : (phase : Phase) (owed : List OwedDrop) (at j collected : ℕ) (node : NodeRef) → New phase owed at j collected → slice_get (begun_of phase).with j ≡ Some node
      → (is_destroyed (node_at x node.serial).state ≡ false) × ((node_of_place (begun_of phase).to at).owner ≡ x.me)
  attach_own (Attaching sending place handle) [] at j collected node new is = by (attach_answer x serial dest) refl new
    where
      serial : ℕ
      serial = (node_of_place sending.begun.with handle).serial

      dest : ℕ
      dest = (node_of_place sending.begun.to place).owner

      by : (got : Attach) → attach_answer x serial dest ≡ got → NewSlot slot.Own apart (Attaching sending place handle) (out.Attach got) at j collected
          → (is_destroyed (node_at x node.serial).state ≡ false) × ((node_of_place sending.begun.to at).owner ≡ x.me)
      by attach.Counted was none = absurd (cc none.2)
      by (attach.Void stamp) was none = absurd (cc none.2)
      by attach.Own was (there, here, filled, low) =
          let k = own_by (node_at x serial).state (dest == x.me) was in
          let same : serial ≡ node.serial = ap (λ n. (node_of_place sending.begun.with n).serial) (sym here) ∙ ap (λ n. n.serial) (get_or_from_slice_get sending.begun.with j node no_ref is) in
          (ap (λ n. is_destroyed (node_at x n).state) (sym same) ∙ k.1, ap (λ n. (node_of_place sending.begun.to n).owner) there ∙ eqb-true dest x.me k.0)
  attach_own (Attaching sending place handle) (one ∷ rest) at j collected node new is = absurd new
  attach_own phase owed at j collected node new is = absurd new

-- only an attach fills a slot
fills : (phase : Phase) (outcome : Outcome) (at j collected : ℕ) → NewSlot slot.Own apart phase outcome at j collected → (sending : _) × (place : ℕ) × (handle : ℕ) × (phase ≡ Attaching sending place handle)
fills (Attaching sending place handle) outcome at j collected new = (sending, place, handle, refl)
fills phase outcome at j collected new = absurd new

dying_doomed : (phase : Phase) (serial : ℕ) → Has (dying_of phase) serial → Has (doomed_of phase) serial
dying_doomed (Visiting d left) serial h = h
dying_doomed (Dooming d) serial h = h
dying_doomed phase serial h = absurd h

-- ---- a step

module _ {o : Opening} {s : State} {p : ℕ} {c : Option Command} {t : State} (sound : IsSound o s) (right : IsRight o s) (step : Step o s p c t) where
  is_me : step.driver.me ≡ p
  is_me = sound.numbered.drivers p step.driver step.is_driver

  -- a node that isn't destroyed is of the epoch of its peer's part
  alive_done : (q serial : ℕ) (x : PeerPart) → IsPeer s q x → is_destroyed (node_at x serial).state ≡ false → first_done o s q ≤ serial
  alive_done q serial x is alive = by (node_at x serial).state refl alive
    where
      d : (e : DriverPart) × IsDriver s q e
      d = get_there s.drivers q (let within = slice_get_within s.peers q x is in omega (arith, within, as_many sound step))

      doomed : (doing : Option Doing) → Has (elim doing [ None ↦ [] | Some one ↦ dying_of one.phase ]) serial → Has (elim doing [ None ↦ [] | Some one ↦ doomed_of one.phase ]) serial
      doomed None h = absurd h
      doomed (Some one) h = dying_doomed one.phase serial h

      by : (state : NodeState) → (node_at x serial).state ≡ state → is_destroyed (node_at x serial).state ≡ false → first_done o s q ≤ serial
      by Live state lives = live_done sound right step q serial x is (ap is_live state)
      by Dying state lives = right.destructions.dying.present q serial d.0 d.1 (doomed d.0.doing (sound.notices.dying q d.0 x serial d.1 is (ap is_dying state)))
      by (Destroyed stamp) state lives = let both : true ≡ false = ap is_destroyed (sym state) ∙ lives in absurd (cc both)

  abbrev Present : ℕ → NodeRef → Type 0
  Present q node = first_done o s q ≤ node.serial

  module _ (q j : ℕ) (x : PeerPart) (f : Key × Entry) (node : NodeRef) where
    -- an entry from before, by its slots before or by the attach
    old_entry : IsPeer s q x → Has x.queue f → slice_get (carried f.1) j ≡ Some node → IsSlot slot.Own (slots_now t f) j → Present q node
    old_entry is has node_is slot_is = elim (filled_from slot.Own apart step f j slot_is) [
      | inl old ↦ right.holders.present.present q j x f node is has node_is old
      | inr (odd, origin, collected, new) ↦
          let k = sound.stages.sender q x f is has (carries_data f.1 j node node_is) odd in
          let m = message_is o q k.doing f.0 f.1 k.message in
          let same_driver : k.driver ≡ step.driver = same_Some k.driver step.driver (sym k.is_driver ∙ ap (slice_get s.drivers) origin ∙ step.is_driver) in
          let open_is : step.driver.doing ≡ Some k.doing = ap (λ d. d.doing) (sym same_driver) ∙ k.is_open in
          let phase : k.doing.phase ≡ (parts step).phase = elim (parts step).was as (λ z. k.doing.phase ≡ (parts step).phase) [
            | inl was ↦ let both : Some k.doing ≡ Some (going_doing step) = sym open_is ∙ was in ap (λ z. z.phase) (same_Some k.doing (going_doing step) both)
            | inr none ↦ let both : Some k.doing ≡ None = sym open_is ∙ none.0 in absurd (cc both)
          ] in
          let node_before : slice_get (begun_of (parts step).phase).with j ≡ Some node = ap (λ l. slice_get l j) (sym (m.0 ∙ ap (λ ph. (begun_of ph).with) phase)) ∙ node_is in
          let got = attach_own o step.local.memory step.driver (parts step).command step.peer (parts step).phase step.driver.owed f.0.index j collected node new node_before in
          let here : step.at ≡ q = sym (sound.numbered.peers step.at step.peer step.is_peer).me ∙ sym got.1 ∙ ap (λ ph. (node_of_place (begun_of ph).to f.0.index).owner) (sym phase) ∙ m.1 in
          subst (λ r. first_done o s r ≤ node.serial) here (alive_done step.at node.serial step.peer step.is_peer got.0)
    ]

  module _ (j : ℕ) (f : Key × Entry) (node : NodeRef) (node_is : slice_get (carried f.1) j ≡ Some node) (slot_is : IsSlot slot.Own (slots_now t f) j) where
    never_notice : is_data f.1 ≡ false → Present step.at node
    never_notice is = let both : true ≡ false = sym (carries_data f.1 j node node_is) ∙ is in absurd (cc both)

    open_now : (phase : Phase) → (parts step).phase ≡ phase → (phase ≡ Starting → ⊥) → step.driver.doing ≡ Some (going_doing step)
    open_now phase is going = elim (parts step).was [ inl open_is ↦ open_is | inr none ↦ absurd (going (sym is ∙ none.1)) ]

    here_slots : (index : ℕ) → step.driver.doing ≡ Some (going_doing step) → driver_slots (slice_get s.drivers step.driver.me) index ≡ slots_at (parts step).phase index
    here_slots index open_is = ap (λ z. driver_slots z index) (ap (slice_get s.drivers) is_me ∙ step.is_driver) ∙ ap (λ z. elim z [ None ↦ [] | Some doing ↦ slots_at doing.phase index ]) open_is

    brought : Brought step f → Present step.at node
    brought (Stages begun places collected phase owed live answered is) = elim (filled_from slot.Own apart step f j slot_is) [
      | inr (odd, origin, more, new) ↦
          let k = fills (parts step).phase (going_answer step) f.0.index j more new in
          let both : Attaching k.0 k.1 k.2 ≡ Staging begun places collected = sym k.3 ∙ phase in absurd (cc both)
      | inl old ↦
          let odd : is_staged f ≡ true = ap is_staged is ∙ odd_is step.peer.clock (sound.clocks.clock step.at step.peer step.is_peer).0 in
          let none : slots_now s f ≡ [] =
          cond_true (is_staged f) (driver_slots (slice_get s.drivers f.0.origin) f.0.index) (slots_of f.1) odd ∙ ap (λ z. driver_slots (slice_get s.drivers z) f.0.index) (ap (λ g. g.0.origin) is)
          ∙ here_slots f.0.index (open_now (Staging begun places collected) phase (λ is. absurd (cc is))) ∙ ap (λ ph. slots_at ph f.0.index) phase in
          let never : slice_get (slots_at Starting 0) j ≡ Some slot.Own = ap (λ l. slice_get l j) (sym none) ∙ old in absurd (cc never)
    ]
    brought (Commits sending stamp place g phase owed found is) =
        let there = find_has (is_stage step.driver.me place) step.peer.queue g found in
        let stage = stage_is step.driver.me place g there.1 in
        let open_is = open_now (Committing sending stamp place) phase (λ is. absurd (cc is)) in
        let fixed = fixed_before sound step stamp (ap stamp_of_phase phase) in
        let even : is_staged f ≡ false = ap is_staged is ∙ even_is stamp (sound.clocks.stamp p step.driver stamp step.is_driver fixed).0 in
        let parts_are = new_slots (get_or sending.slots place []) g.1 stage.0 in
        let slot_there : IsSlot slot.Own (slots_at (parts step).phase place) j =
        ap (λ ph. slice_get (slots_at ph place) j) phase ∙ ap (λ l. slice_get l j) (sym (ap (λ h. slots_of h.1) is ∙ parts_are.0))
        ∙ ap (λ l. slice_get l j) (sym (cond_false (is_staged f) (driver_slots (slice_get t.drivers f.0.origin) f.0.index) (slots_of f.1) even)) ∙ slot_is in
        let node_there : slice_get (carried g.1) j ≡ Some node = ap (λ l. slice_get l j) (sym (ap (λ h. carried h.1) is ∙ parts_are.1)) ∙ node_is in
        let before : slots_now s g ≡ slots_at (parts step).phase place =
        cond_true (is_staged g) (driver_slots (slice_get s.drivers g.0.origin) g.0.index) (slots_of g.1) (stage_staged step.driver.me place g there.1)
        ∙ ap (λ z. driver_slots (slice_get s.drivers z) g.0.index) stage.1 ∙ here_slots g.0.index open_is ∙ ap (slots_at (parts step).phase) stage.2 in
        right.holders.present.present step.at j step.peer g node step.is_peer there.0 node_there (ap (λ l. slice_get l j) before ∙ slot_there)
    brought (Notices stamp g phase has notice is) = never_notice (ap (λ z. is_data z.1) is ∙ (notice_is step.driver.me g notice).0)
    brought (Drops one has is) = never_notice (ap (λ z. is_data z.1) is)
    brought (Dooms index serial starting at is) = never_notice (ap (λ z. is_data z.1) is)
    brought (Visits index serial at is) = never_notice (ap (λ z. is_data z.1) is)

  before : (q j : ℕ) (y : PeerPart) (f : Key × Entry) (node : NodeRef) → IsPeer t q y → Has y.queue f → slice_get (carried f.1) j ≡ Some node → IsSlot slot.Own (slots_now t f) j → Present q node
  before q j y f node is has node_is slot_is = elim (peer_cases step q y is) [
    | inr other ↦ old_entry q j y f node other.1 has node_is slot_is
    | inl here ↦ subst (λ r. Present r node) (sym here.0) (elim (entry_source step f (subst (λ z. Has z.queue f) here.1 has)) [
      | inl old ↦ old_entry step.at j step.peer f node step.is_peer old.0 node_is slot_is
      | inr new ↦ brought j f node node_is slot_is new
    ])
  ]

  pub own_slots_kept : OwnSlotsPresent o t
  own_slots_kept = record {
    present = λ q j y f node is has node_is slot_is.
        let low = before q j y f node is has node_is slot_is in
        let same = first_stays sound right step q y f is has in omega (arith, low, same);
  }

pub own_slots_begin : (o : Opening) → OwnSlotsPresent o (opening_state o)
own_slots_begin o = record { present = λ q j x f node is has node_is slot_is. absurd (subst (λ queue. Has queue f) (opening_queue o q x is) has) }
