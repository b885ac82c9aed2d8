-- Whoever has an entry with a counted reference to a node that isn't live is covered after each step.
use Rattle.std.proofs.Common.{◌≡◌, ◌≢◌, refl, sym, ap, subst, ◌∙◌, inl, inr, ℕ, ◌%◌, ◌==◌, Bool, true, false, cond, List, [], ◌∷◌, get_or, Option, Some, None}
use Rattle.std.specs.Prelude.{slice_get}
use Rattle.std.proofs.lemmas.Bool.{eq-eqb}
use Rattle.std.proofs.lemmas.Option.{same_Some}
use Rattle.b1_model.specs.declared.commands.Command.{Command}
use Rattle.b1_model.specs.declared.commands.Command.TheVariants as cmd
use Rattle.b1_model.specs.declared.naming.Key.{Key}
use Rattle.b1_model.specs.declared.naming.NodeRef.{NodeRef}
use Rattle.b1_model.specs.declared.naming.Opening.{Opening}
use Rattle.b1_model.specs.declared.entries.Entry.{Entry}
use Rattle.b1_model.specs.declared.entries.Entry.TheVariants.{Message, OwnNotice, ForeignNotice, ReleaseNotice}
use Rattle.b1_model.specs.declared.parts.Attach.{Attach}
use Rattle.b1_model.specs.declared.parts.Attach.TheVariants as attach
use Rattle.b1_model.specs.declared.parts.NodeState.{NodeState}
use Rattle.b1_model.specs.declared.parts.NodeState.TheVariants.{Live, Dying, Destroyed}
use Rattle.b1_model.specs.declared.parts.Slot.{Slot}
use Rattle.b1_model.specs.declared.parts.Slot.TheVariants as slot
use Rattle.b1_model.specs.declared.events.Action.TheVariants as act
use Rattle.b1_model.specs.declared.events.OwedDrop.{OwedDrop}
use Rattle.b1_model.specs.declared.events.Outcome.{Outcome}
use Rattle.b1_model.specs.declared.events.Outcome.TheVariants as out
use Rattle.b1_model.specs.declared.events.Phase.{Phase}
use Rattle.b1_model.specs.declared.events.Phase.TheVariants.{Starting, Staging, Attaching, Committing, Visiting, CommittingOwn, CommittingNotices}
use Rattle.b1_model.specs.MachineParts.{PeerPart, DriverPart, State, is_live, is_staged, is_data, node_at, record_or_none, carried, slots_of}
use Rattle.b1_model.specs.MachineTables.{is_stage}
use Rattle.b1_model.specs.MachineSend.{attach_by, attach_answer, with_slots}
use Rattle.b1_model.specs.MachineDriver.{first_action, next_action, node_of_place}
use Rattle.b1_model.specs.MachineEvents.{begun_of, slots_at}
use Rattle.b1_model.specs.MachineStep.{Step}
use Rattle.b1_step.specs.Rights.{Has}
use Rattle.b1_step.proofs.Orders.{find_has}
use Rattle.b1_inv.specs.Words.{IsPeer, IsDriver, stamp_of_phase}
use Rattle.b1_inv.specs.Sound.{IsSound}
use Rattle.b1_inv_record.specs.Holders.{HolderCovered, IsCovered, slots_now}
use Rattle.b1_inv_tools.proofs.Comes.{Comes, queue_comes}
use Rattle.b1_inv_tools.proofs.Facts.{even_is}
use Rattle.b1_inv_tools.proofs.Leaves.{peer_cases}
use Rattle.b1_inv_notices.proofs.Brings.{stage_is, notice_is, odd_is}
use Rattle.b1_inv_notices.proofs.Turns.{doing_in, opened, answered, parts, going, going_doing, going_action, going_answer}
use Rattle.b1_inv_notices.proofs.StampsLaw.{fixed_before}
use Rattle.b1_inv_cover.proofs.Came.{stage_staged}
use Rattle.b1_inv_cover.proofs.Stamped.{was_open}
use Rattle.b1_inv_holders.proofs.Counted.{IsAttached, driver_slots, cond_true, cond_false, carries_data, message_is, entry_counted}
use Rattle.b1_inv_holders.proofs.SlotTurns.{NewSlot}
use Rattle.b1_inv_holders.proofs.Carried.{apart_slots, Newly, slots_from, carried_else}
use Rattle.b1_inv_holders.proofs.CarriedHere.{foreign_node, after_is, here_old}

new_slots : (slots : List Slot) (e : Entry) → is_data e ≡ true → (slots_of (with_slots slots e) ≡ slots) × (carried (with_slots slots e) ≡ carried e)
new_slots slots (Message origin user index serial offset len nodes old handles payload) is = (refl, refl)
new_slots slots (OwnNotice serial index) is = absurd (cc is)
new_slots slots (ForeignNotice node index) is = absurd (cc is)
new_slots slots (ReleaseNotice serial) is = absurd (cc is)

counted_other : (state : NodeState) (own : Bool) → attach_by state own ≡ attach.Counted → own ≡ false
counted_other (Destroyed stamp) own is = absurd (cc is)
counted_other Live true is = absurd (cc is)
counted_other Live false is = refl
counted_other Dying true is = absurd (cc is)
counted_other Dying false is = refl

-- only an attach fills a slot
fills_attaching : (phase : Phase) (outcome : Outcome) (at j collected : ℕ) → NewSlot slot.Attached apart_slots phase outcome at j collected → ((begun : _) (places : _) (n : ℕ) → phase ≡ Staging begun places n → ⊥) × (phase ≡ Starting → ⊥)
fills_attaching (Attaching sending place handle) outcome at j collected new = (λ begun places n is. absurd (cc is), λ is. absurd (cc is))
fills_attaching phase outcome at j collected new = absurd new

module _ (o : Opening) (memory : Bool) (d : DriverPart) (command : Command) (x : PeerPart) where
  -- a counted attach is for another peer than the one that it is at
  attach_apart : (phase : Phase) (owed : List OwedDrop) (at j collected : ℕ) → NewSlot slot.Attached apart_slots phase (answered o memory d command phase owed x).0 at j collected → (node_of_place (begun_of phase).to at).owner ≢ x.me
  attach_apart (Attaching sending place handle) [] at j collected new same = by (attach_answer x serial dest) refl new
    where
      serial : ℕ
      serial = (node_of_place sending.begun.with handle).serial

      dest : ℕ
      dest = (node_of_place sending.begun.to place).owner

      by : (got : Attach) → attach_answer x serial dest ≡ got → NewSlot slot.Attached apart_slots (Attaching sending place handle) (out.Attach got) at j collected → ⊥
      by attach.Own was none = absurd (cc none.2)
      by (attach.Void stamp) was none = absurd (cc none.2)
      by attach.Counted was (there, here, filled, low) =
          let both : true ≡ false = sym (eq-eqb dest x.me (ap (λ n. (node_of_place sending.begun.to n).owner) (sym there) ∙ same)) ∙ counted_other (node_at x serial).state (dest == x.me) was in absurd (cc both)
  attach_apart (Attaching sending place handle) (one ∷ rest) at j collected new same = absurd new
  attach_apart phase owed at j collected new same = absurd new

module _ {o : Opening} {s : State} {p : ℕ} {c : Option Command} {t : State} (sound : IsSound o s) (covered : HolderCovered s) (step : Step o s p c t) where
  is_me : step.driver.me ≡ p
  is_me = sound.numbered.drivers p step.driver step.is_driver

  module _ (j : ℕ) (f : Key × Entry) (node : NodeRef) (y : PeerPart) (e : DriverPart) (there : Has step.new_peer.queue f) (node_is : slice_get (carried f.1) j ≡ Some node) (slot_is : IsAttached (slots_now t f) j)
      (is_owner : IsPeer t node.owner y) (is_driver : IsDriver t node.owner e) (dead : is_live (node_at y node.serial).state ≡ false) where
    abbrev Covered : Type 0
    Covered = IsCovered step.at (record_or_none node step.new_peer.handles) y e

    -- by an entry from before
    by_old : (g : Key × Entry) (i : ℕ) → Has step.peer.queue g → slice_get (carried g.1) i ≡ Some node → IsAttached (slots_now s g) i → Covered
    by_old g i was was_node was_slot =
        let foreign_to = foreign_node sound covered step node (entry_counted o s sound step.at i step.peer g node step.is_peer was was_node was_slot) in
        subst (λ h. IsCovered step.at h y e) (sym (after_is sound covered step node foreign_to f j there node_is))
        (here_old sound covered step node foreign_to f j there node_is g i y e was was_node was_slot is_owner is_driver dead)

    never_new : Has step.peer.queue f → is_staged f ≡ true → f.0.origin ≡ p → (collected : ℕ) → Newly sound covered step f.0.index j collected → ⊥
    never_new was odd origin collected new =
        let k = sound.stages.sender step.at step.peer f step.is_peer was (carries_data f.1 j node node_is) odd in
        let m = message_is o step.at k.doing f.0 f.1 k.message in
        let same_driver : k.driver ≡ step.driver = same_Some k.driver step.driver (sym k.is_driver ∙ ap (slice_get s.drivers) origin ∙ step.is_driver) in
        let open_is : step.driver.doing ≡ Some k.doing = ap (λ d. d.doing) (sym same_driver) ∙ k.is_open in
        let phase : k.doing.phase ≡ (parts step).phase = elim (parts step).was as (λ z. k.doing.phase ≡ (parts step).phase) [
          | inl before ↦ let both : Some k.doing ≡ Some (going_doing step) = sym open_is ∙ before in ap (λ z. z.phase) (same_Some k.doing (going_doing step) both)
          | inr none ↦ let both : Some k.doing ≡ None = sym open_is ∙ none.0 in absurd (cc both)
        ] in
        attach_apart o step.local.memory step.driver (parts step).command step.peer (parts step).phase step.driver.owed f.0.index j collected new
        (ap (λ ph. (node_of_place (begun_of ph).to f.0.index).owner) (sym phase) ∙ m.1 ∙ sym (sound.numbered.peers step.at step.peer step.is_peer).me)

    old_entry : Has step.peer.queue f → Covered
    old_entry was = elim (slots_from sound covered step f j slot_is) [ inl old ↦ by_old f j was node_is old | inr new ↦ absurd (never_new was new.0 new.1 new.2 new.3) ]

    never_notice : is_data f.1 ≡ false → Covered
    never_notice is = let both : true ≡ false = sym (carries_data f.1 j node node_is) ∙ is in absurd (cc both)

    at_stage : f.0.origin ≡ step.driver.me → ((at : ℕ) → slots_at (parts step).phase at ≡ []) → ((collected : ℕ) → Newly sound covered step f.0.index j collected → ⊥) → is_staged f ≡ true → step.driver.doing ≡ Some (going_doing step) → Covered
    at_stage origin none never odd open_is =
        elim (slots_from sound covered step f j slot_is) [
          | inr new ↦ absurd (never new.2 new.3)
          | inl old ↦
              let now : slots_now s f ≡ [] =
              cond_true (is_staged f) (driver_slots (slice_get s.drivers f.0.origin) f.0.index) (slots_of f.1) odd ∙ ap (λ z. driver_slots z f.0.index) (ap (slice_get s.drivers) (origin ∙ is_me) ∙ step.is_driver) ∙ ap (λ z. elim z [ None ↦ [] | Some doing ↦ slots_at doing.phase f.0.index ]) open_is ∙ none f.0.index in
              let never_there : slice_get (slots_at Starting 0) j ≡ Some slot.Attached = ap (λ l. slice_get l j) (sym now) ∙ old in absurd (cc never_there)
        ]

    at_commit : (g : Key × Entry) (stamp place : ℕ) (slots : List Slot) → stamp % 2 ≡ 0 → slots ≡ slots_at (parts step).phase place → step.driver.doing ≡ Some (going_doing step) → Has step.peer.queue g → is_stage step.driver.me place g ≡ true
        → f ≡ (record { stamp = stamp; origin = step.driver.me; index = place }, with_slots slots g.1) → Covered
    at_commit g stamp place slots even slots_is open_is was stage same =
        let is = stage_is step.driver.me place g stage in
        let is_even : is_staged f ≡ false = ap is_staged same ∙ even_is stamp even in
        let parts_are = new_slots slots g.1 is.0 in
        let slot_of_f : IsAttached (slots_of f.1) j = ap (λ l. slice_get l j) (sym (cond_false (is_staged f) (driver_slots (slice_get t.drivers f.0.origin) f.0.index) (slots_of f.1) is_even)) ∙ slot_is in
        let slot_there : IsAttached (slots_at (parts step).phase place) j = ap (λ l. slice_get l j) (sym (ap (λ h. slots_of h.1) same ∙ parts_are.0 ∙ slots_is)) ∙ slot_of_f in
        let node_there : slice_get (carried g.1) j ≡ Some node = ap (λ l. slice_get l j) (sym (ap (λ h. carried h.1) same ∙ parts_are.1)) ∙ node_is in
        let now : slots_now s g ≡ slots_at (parts step).phase place =
        cond_true (is_staged g) (driver_slots (slice_get s.drivers g.0.origin) g.0.index) (slots_of g.1) (stage_staged step.driver.me place g stage) ∙ ap (λ z. driver_slots z g.0.index) (ap (slice_get s.drivers) (is.1 ∙ is_me) ∙ step.is_driver)
        ∙ ap (λ z. elim z [ None ↦ [] | Some doing ↦ slots_at doing.phase g.0.index ]) open_is ∙ ap (slots_at (parts step).phase) is.2 in
        by_old g j was node_there (ap (λ l. slice_get l j) now ∙ slot_there)

    first_new : (shut : Bool) (begins : Command) → Comes o (opened step.driver (parts step).command Starting []) (doing_in (parts step).command Starting) step.peer (cond shut act.Local (first_action begins)) f → Covered
    first_new true begins new = absurd new
    first_new false (cmd.Destroy numbers) (index, serial, doomed, same, accepted) = never_notice (ap (λ z. is_data z.1) same)
    first_new false (cmd.Reset limits) (index, serial, doomed, same, accepted) = never_notice (ap (λ z. is_data z.1) same)
    first_new false cmd.Disconnect (index, serial, doomed, same, accepted) = never_notice (ap (λ z. is_data z.1) same)
    first_new false begins new = absurd new

    comes_covered : (phase : Phase) (owed : List OwedDrop) → phase ≡ (parts step).phase → Comes o (opened step.driver (parts step).command phase owed) (doing_in (parts step).command phase) step.peer (next_action (opened step.driver (parts step).command phase owed)) f → Covered
    comes_covered phase (one ∷ rest) is (same, due) = never_notice (ap (λ z. is_data z.1) same)
    comes_covered Starting [] is new = first_new step.driver.shut (parts step).command new
    comes_covered (Staging begun places n) [] is new =
        at_stage (ap (λ g. g.0.origin) new) (λ at. ap (λ ph. slots_at ph at) (sym is)) (λ collected fills. (fills_attaching (parts step).phase (going_answer step) f.0.index j collected fills).0 begun places n (sym is))
        (ap is_staged new ∙ odd_is step.peer.clock (sound.clocks.clock step.at step.peer step.is_peer).0)
        (elim (parts step).was [ inl open_is ↦ open_is | inr none ↦ let both : Staging begun places n ≡ Starting = is ∙ none.1 in absurd (cc both) ])
    comes_covered (Visiting destruction left) [] is (index, serial, doomed, same) = never_notice (ap (λ z. is_data z.1) same)
    comes_covered (Committing sending stamp place) [] is (g, found, same) =
        let k = find_has (is_stage step.driver.me place) step.peer.queue g found in
        let fixed : stamp_of_phase (parts step).phase ≡ Some stamp = ap stamp_of_phase (sym is) in
        at_commit g stamp place (get_or sending.slots place []) (sound.clocks.stamp p step.driver stamp step.is_driver (fixed_before sound step stamp fixed)).0 (ap (λ ph. slots_at ph place) is) (was_open step stamp fixed) k.0 k.1 same
    comes_covered (CommittingOwn destruction stamp) [] is (g, has, notice, same) = never_notice (ap (λ z. is_data z.1) same ∙ (notice_is step.driver.me g notice).0)
    comes_covered (CommittingNotices destruction stamp place) [] is (g, has, notice, same) = never_notice (ap (λ z. is_data z.1) same ∙ (notice_is step.driver.me g notice).0)
    comes_covered phase [] is new = absurd new

    carried_here : Covered
    carried_here =
        elim (queue_comes o (going step) (going_doing step) f step.local.memory (going_action step) step.peer (subst (λ z. Has z.queue f) (sym (parts step).is_peer) there)) [
          | inl old ↦ old_entry old.0
          | inr new ↦ comes_covered (parts step).phase step.driver.owed refl new
        ]

  pub carried_kept : (q j : ℕ) (x : PeerPart) (f : Key × Entry) (node : NodeRef) (y : PeerPart) (e : DriverPart) → IsPeer t q x → Has x.queue f → slice_get (carried f.1) j ≡ Some node → IsAttached (slots_now t f) j
      → IsPeer t node.owner y → IsDriver t node.owner e → is_live (node_at y node.serial).state ≡ false → IsCovered q (record_or_none node x.handles) y e
  carried_kept q j x f node y e is_peer there node_is slot_is is_owner is_driver dead =
      elim (peer_cases step q x is_peer) [
        | inr other ↦ carried_else sound covered step q j x f node y e other.0 other.1 there node_is is_owner is_driver dead slot_is
        | inl here ↦
            subst (λ z. IsCovered q (record_or_none node z.handles) y e) (sym here.1) (subst (λ r. IsCovered r (record_or_none node step.new_peer.handles) y e) (sym here.0)
            (carried_here j f node y e (subst (λ z. Has z.queue f) here.1 there) node_is slot_is is_owner is_driver dead))
      ]
