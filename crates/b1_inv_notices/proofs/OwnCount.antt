-- No peer has a reference to a node of its own, so no destruction visits its own peer.
use Rattle.std.proofs.Common.{◌≡◌, ◌≢◌, ◌⊎◌, refl, sym, ap, subst, ◌∙◌, inl, inr, ℕ, zero, suc, ◌+◌, ◌<◌, ◌==◌, Bool, true, false, cond, ◌&&◌, List, [], ◌∷◌, get_or, length, zip, sum_by, Option, Some, None, nat_le}
use Rattle.std.specs.Prelude.{filter_map}
use Rattle.std.proofs.lemmas.Bool.{cases_eq, cases_lt, eqb-true}
use Rattle.std.proofs.lemmas.List.Sums.{sum_by-cons}
use native.Mathlib.Omega.{arith}
use Rattle.b1_model.specs.declared.naming.Key.{Key}
use Rattle.b1_model.specs.declared.naming.NodeRef.{NodeRef}
use Rattle.b1_model.specs.declared.naming.Opening.{Opening}
use Rattle.b1_model.specs.declared.commands.Command.{Command}
use Rattle.b1_model.specs.declared.answers.Reason.{Reason}
use Rattle.b1_model.specs.declared.parts.Slot.{Slot}
use Rattle.b1_model.specs.declared.parts.Slot.TheVariants as slot
use Rattle.b1_model.specs.declared.entries.Entry.{Entry}
use Rattle.b1_model.specs.declared.entries.Entry.TheVariants.{Message, OwnNotice, ForeignNotice, ReleaseNotice}
use Rattle.b1_model.specs.declared.events.Doing.{Doing}
use Rattle.b1_model.specs.declared.events.OwedDrop.{OwedDrop}
use Rattle.b1_model.specs.declared.events.Phase.{Phase}
use Rattle.b1_model.specs.declared.events.Phase.TheVariants.{Attaching, Stamping, Syncing, Committing}
use Rattle.b1_model.specs.declared.events.Sending.{Sending}
use Rattle.b1_model.specs.MachineParts.{PeerPart, DriverPart, HandleRecord, State, same_ref, is_staged, is_data, carried, slots_of, node_at, record_of, record_or_none, no_record}
use Rattle.b1_model.specs.MachineTables.{count_of}
use Rattle.b1_model.specs.MachineReceive.{reference_of, references}
use Rattle.b1_model.specs.MachineDriver.{node_of_place}
use Rattle.b1_model.specs.MachineTook.{place_references}
use Rattle.b1_model.specs.MachineCounts.{amount_in, queue_amount, dead_amount, peer_amount, owed_amount, kept_from, kept_amount, driver_amount, fresh}
use Rattle.b1_step.specs.Rights.{Has}
use Rattle.b1_step.proofs.Orders.{same_ref_is}
use Rattle.b1_inv.specs.Words.{IsPeer, IsDriver, is_accepted_place}
use Rattle.b1_inv.specs.Sends.{IsFilled, IsBefore, IsSending, SendShape}
use Rattle.b1_inv.specs.References.{AreFilled}
use Rattle.b1_inv.specs.Sound.{IsSound}
use Rattle.b1_inv_notices.proofs.Sets.{has_index}

sum_none : {X : Type 0} (f : X → ℕ) (xs : List X) → ((x : X) → Has xs x → f x ≡ 0) → sum_by f xs ≡ 0
sum_none f [] none = refl
sum_none f (x ∷ xs) none = let one = none x (inl refl) in let more = sum_none f xs (λ y h. none y (inr h)) in let both = sum_by-cons f x xs in omega (arith, one, more, both)

-- references to other peers' nodes are none to a peer's own
not_same : (a node : NodeRef) → a.owner ≢ node.owner → same_ref a node ≡ false
not_same a node apart = at (same_ref a node) refl
  where
    at : (b : Bool) → same_ref a node ≡ b → b ≡ false
    at true is = absurd (apart (ap (λ n. n.owner) (same_ref_is a node is)))
    at false is = refl

amount_none : (node : NodeRef) (refs : List (NodeRef × ℕ)) → ((r : NodeRef × ℕ) → Has refs r → r.0.owner ≢ node.owner) → amount_in node refs ≡ 0
amount_none node refs apart = sum_none (λ r. cond (same_ref r.0 node) r.1 0) refs (λ r h. rw (not_same r.0 node (apart r h)) refl)

-- ---- a peer's part

module _ (node : NodeRef) where
  no_record_of : (handles : List HandleRecord) → ((h : HandleRecord) → Has handles h → h.node.owner ≢ node.owner) → record_of node handles ≡ None
  no_record_of [] apart = refl
  no_record_of (h ∷ rest) apart = rw (not_same h.node node (apart h (inl refl))) (no_record_of rest (λ g k. apart g (inr k)))

  held_none : (handles : List HandleRecord) → ((h : HandleRecord) → Has handles h → h.node.owner ≢ node.owner) → (record_or_none node handles).held ≡ 0
  held_none handles apart = ap (λ found. (elim found as (λ z. HandleRecord) [ None ↦ no_record node | Some h ↦ h ]).held) (no_record_of handles apart)

  filled_other : (q : ℕ) (nodes : List NodeRef) (slots : List Slot) → AreFilled q nodes slots → (r : NodeRef × ℕ) → Has (filter_map reference_of (zip nodes slots)) r → r.0.owner ≢ q
  filled_other q [] slots filled r h = absurd h
  filled_other q (n ∷ nodes) [] filled r h = absurd h
  filled_other q (n ∷ nodes) (slot.Unattached ∷ slots) filled r h = absurd filled.0
  filled_other q (n ∷ nodes) (slot.Attached ∷ slots) filled r (inl same) = λ is. filled.0 (ap (λ z. z.0.owner) (sym same) ∙ is)
  filled_other q (n ∷ nodes) (slot.Attached ∷ slots) filled r (inr further) = filled_other q nodes slots filled.1 r further
  filled_other q (n ∷ nodes) (slot.Own ∷ slots) filled r h = filled_other q nodes slots filled.1 r h
  filled_other q (n ∷ nodes) (slot.Void ∷ slots) filled r h = filled_other q nodes slots filled.1 r h

  entry_none : (e : Entry) → (is_data e ≡ true → AreFilled node.owner (carried e) (slots_of e)) → amount_in node (references e) ≡ 0
  entry_none (Message origin user index serial offset len nodes slots handles payload) filled = amount_none node (filter_map reference_of (zip nodes slots)) (filled_other node.owner nodes slots (filled refl))
  entry_none (OwnNotice serial index) filled = refl
  entry_none (ForeignNotice other index) filled = refl
  entry_none (ReleaseNotice serial) filled = refl

  at_entry : (b : Bool) (n : ℕ) → (b ≡ false → n ≡ 0) → cond b 0 n ≡ 0
  at_entry true n none = refl
  at_entry false n none = none refl

  queue_none : (queue : List (Key × Entry)) → ((f : Key × Entry) → Has queue f → is_data f.1 ≡ true → is_staged f ≡ false → AreFilled node.owner (carried f.1) (slots_of f.1)) → queue_amount node queue ≡ 0
  queue_none queue filled = sum_none (λ f. cond (is_staged f) 0 (amount_in node (references f.1))) queue (λ f h. at_entry (is_staged f) (amount_in node (references f.1)) (λ is. entry_none f.1 (λ data_is. filled f h data_is is)))

  dead_none : (dead : List (List (NodeRef × ℕ))) → ((item : List (NodeRef × ℕ)) (r : NodeRef × ℕ) → Has dead item → Has item r → r.0.owner ≢ node.owner) → dead_amount node dead ≡ 0
  dead_none dead apart = sum_none (amount_in node) dead (λ item h. amount_none node item (λ r k. apart item r h k))

  -- ---- a driver's part

  owed_at : (one : OwedDrop) → one.holder ≢ one.node.owner → cond (same_ref one.node node && (one.holder == node.owner)) one.amount 0 ≡ 0
  owed_at one other = at (same_ref one.node node) (one.holder == node.owner) refl refl
    where
      at : (b c : Bool) → same_ref one.node node ≡ b → (one.holder == node.owner) ≡ c → cond (b && c) one.amount 0 ≡ 0
      at true true same holder = absurd (other (eqb-true one.holder node.owner holder ∙ ap (λ n. n.owner) (sym (same_ref_is one.node node same))))
      at true false same holder = refl
      at false c same holder = refl

  owed_none : (owed : List OwedDrop) → ((one : OwedDrop) → Has owed one → one.holder ≢ one.node.owner) → owed_amount node node.owner owed ≡ 0
  owed_none owed other = sum_none (λ one. cond (same_ref one.node node && (one.holder == node.owner)) one.amount 0) owed (λ one h. owed_at one (other one h))

  -- a reference of slots stands at some handle that is attached
  attached_at : (nodes : List NodeRef) (slots : List Slot) (r : NodeRef × ℕ) → Has (filter_map reference_of (zip nodes slots)) r → (j : ℕ) × (j < length nodes) × (r.0 ≡ node_of_place nodes j) × (get_or slots j slot.Unattached ≡ slot.Attached)
  attached_at [] slots r h = absurd h
  attached_at (n ∷ nodes) [] r h = absurd h
  attached_at (n ∷ nodes) (slot.Unattached ∷ slots) r h = let k = attached_at nodes slots r h in (suc k.0, omega (arith, k.1), k.2, k.3)
  attached_at (n ∷ nodes) (slot.Own ∷ slots) r h = let k = attached_at nodes slots r h in (suc k.0, omega (arith, k.1), k.2, k.3)
  attached_at (n ∷ nodes) (slot.Void ∷ slots) r h = let k = attached_at nodes slots r h in (suc k.0, omega (arith, k.1), k.2, k.3)
  attached_at (n ∷ nodes) (slot.Attached ∷ slots) r (inl same) = (zero, omega arith, ap (λ z. z.0) same, refl)
  attached_at (n ∷ nodes) (slot.Attached ∷ slots) r (inr further) = let k = attached_at nodes slots r further in (suc k.0, omega (arith, k.1), k.2, k.3)

  before_or_not : (at j place handle : ℕ) → IsBefore at j place handle ⊎ (IsBefore at j place handle → ⊥)
  before_or_not at j place handle =
      elim (cases_lt at place) [
        | inl below ↦ inl (inl below)
        | inr above ↦ elim (cases_eq at place) [
          | inl same ↦ elim (cases_lt j handle) [ inl less ↦ inl (inr (same, less)) | inr more ↦ inr (λ b. elim b [ inl k ↦ absurd (omega (arith, k, above)) | inr k ↦ absurd (omega (arith, k.1, more)) ]) ]
          | inr apart ↦ inr (λ b. elim b [ inl k ↦ absurd (omega (arith, k, above)) | inr k ↦ absurd (apart k.0) ])
        ]
      ]

  module _ (s : State) (command : Command) (sending : Sending) (place handle : ℕ) (is : IsSending s command sending place handle) where
    place_other : (at : ℕ) → is_accepted_place sending.places at ≡ true → (r : NodeRef × ℕ) → Has (place_references sending at) r → r.0.owner ≢ (node_of_place sending.begun.to at).owner
    place_other at accepted r h =
        let k = attached_at sending.begun.with (get_or sending.slots at []) r h in
        elim (before_or_not at k.0 place handle) [
          | inl before ↦ λ same. subst (IsFilled (node_of_place sending.begun.to at) (node_of_place sending.begun.with k.0)) k.3 (is.filled at k.0 accepted k.1 before) (ap (λ n. n.owner) (sym k.2) ∙ same)
          | inr after ↦ let both : slot.Unattached ≡ slot.Attached = sym (is.unfilled at k.0 (inl after)) ∙ k.3 in absurd (cc both)
        ]

    kept_at : (b : Bool) (here : ℕ) → is_accepted_place sending.places here ≡ true → cond (b && ((node_of_place sending.begun.to here).owner == node.owner)) (amount_in node (place_references sending here)) 0 ≡ 0
    kept_at b here accepted = by b ((node_of_place sending.begun.to here).owner == node.owner) refl
      where
        by : (b c : Bool) → ((node_of_place sending.begun.to here).owner == node.owner) ≡ c → cond (b && c) (amount_in node (place_references sending here)) 0 ≡ 0
        by true true same = amount_none node (place_references sending here) (λ r h own. place_other here accepted r h (own ∙ sym (eqb-true (node_of_place sending.begun.to here).owner node.owner same)))
        by true false same = refl
        by false c same = refl

    kept_none : (from here : ℕ) (places : List (Option Reason)) → ((i : ℕ) → is_accepted_place places i ≡ is_accepted_place sending.places (here + i)) → kept_from node node.owner sending from here places ≡ 0
    kept_none from here [] same = refl
    kept_none from here (Some r ∷ rest) same = kept_none from (here + 1) rest (λ i. let moved : here + suc i ≡ (here + 1) + i = omega arith in same (suc i) ∙ ap (is_accepted_place sending.places) moved)
    kept_none from here (None ∷ rest) same =
        let further = kept_none from (here + 1) rest (λ i. let moved : here + suc i ≡ (here + 1) + i = omega arith in same (suc i) ∙ ap (is_accepted_place sending.places) moved) in
        let first : here + 0 ≡ here = omega arith in
        let one = kept_at (nat_le from here) here (sym (same 0 ∙ ap (is_accepted_place sending.places) first)) in
        omega (arith, one, further)

    all_kept_none : (from : ℕ) → kept_from node node.owner sending from 0 sending.places ≡ 0
    all_kept_none from = kept_none from 0 sending.places (λ i. let moved : i ≡ 0 + i = omega arith in ap (is_accepted_place sending.places) moved)

  phase_none : (s : State) (command : Command) (phase : Phase) → SendShape s command phase → kept_amount node node.owner phase ≡ 0
  phase_none s command (Attaching sending place handle) is = all_kept_none s command sending place handle is.0 0
  phase_none s command (Stamping sending) is = all_kept_none s command sending _ 0 is 0
  phase_none s command (Syncing sending stamp place) is = all_kept_none s command sending _ 0 is.0 0
  phase_none s command (Committing sending stamp place) is = all_kept_none s command sending _ 0 is.0 place
  phase_none s command phase is = refl

  doing_none : (s : State) (doing : Option Doing) → ((one : Doing) → doing ≡ Some one → SendShape s one.command one.phase) → ◌≡◌ {A = ℕ} (elim doing [ None ↦ 0 | Some one ↦ kept_amount node node.owner one.phase ]) 0
  doing_none s None is = refl
  doing_none s (Some one) is = phase_none s one.command one.phase (is one refl)

-- ---- a state

module _ {o : Opening} {s : State} (sound : IsSound o s) (q : ℕ) (x : PeerPart) (is_peer : IsPeer s q x) where
  part_none : (serial : ℕ) → peer_amount (record { owner = q; serial = serial }) x ≡ 0
  part_none serial =
      let held = held_none (record { owner = q; serial = serial }) x.handles (λ h k. sound.flights.foreign q x h is_peer k) in
      let queued = queue_none (record { owner = q; serial = serial }) x.queue (λ f h data_is is. sound.slots.filled q x f is_peer h data_is is) in
      let dead = dead_none (record { owner = q; serial = serial }) x.dead (λ item r h k. (sound.references.dead q x item r is_peer h k).2) in
      omega (arith, held, queued, dead)

  driver_none : (serial p : ℕ) (d : DriverPart) → IsDriver s p d → driver_amount (record { owner = q; serial = serial }) q d ≡ 0
  driver_none serial p d is =
      let owed = owed_none (record { owner = q; serial = serial }) d.owed (λ one h. (sound.references.owed p d one is h).other) in
      let kept = doing_none (record { owner = q; serial = serial }) s d.doing (λ one k. sound.sends.shape p d one is k) in
      omega (arith, owed, kept)

  fresh_none : (serial : ℕ) → fresh s (record { owner = q; serial = serial }) q ≡ 0
  fresh_none serial =
      let part = ap (λ z. elim z [ None ↦ 0 | Some y ↦ peer_amount (record { owner = q; serial = serial }) y ]) is_peer ∙ part_none serial in
      let drivers = sum_none (driver_amount (record { owner = q; serial = serial }) q) s.drivers (λ d h. let k = has_index s.drivers d h in driver_none serial k.0 d k.1) in
      omega (arith, part, drivers)

  -- no peer has a reference to its own node
  pub own_count_none : (serial : ℕ) → count_of (node_at x serial) x.me ≡ 0
  own_count_none serial =
      ap (count_of (node_at x serial)) (sound.numbered.peers q x is_peer).me
      ∙ ap (λ z. elim z [ None ↦ 0 | Some y ↦ count_of (node_at y serial) q ]) (sym is_peer)
      ∙ sound.references.counts (record { owner = q; serial = serial }) q
      ∙ fresh_none serial
