-- From what is always so of a peer to what the calls of its parts need.
use Rattle.std.proofs.Common.{◌≡◌, ◌≢◌, ◌⊎◌, refl, sym, ap, ◌∙◌, inl, inr, ℕ, ◌≤◌, Bool, true, false, cond, not, List, [], ◌∷◌, zip, All, Some, ◌==◌}
use Rattle.std.proofs.lemmas.Bool.{eqb-true, eq-eqb}
use Rattle.std.proofs.lemmas.List.Elements.{All-nil, All-cons}
use Rattle.std.proofs.lemmas.List.Sums.{sum_by-cons}
use native.Mathlib.Omega.{arith}
use Rattle.b1_model.specs.declared.naming.Key.{Key}
use Rattle.b1_model.specs.declared.naming.NodeRef.{NodeRef}
use Rattle.b1_model.specs.declared.parts.Slot.{Slot}
use Rattle.b1_model.specs.declared.parts.Slot.TheVariants as slot
use Rattle.b1_model.specs.declared.tables.Usage.TheVariants.{Unpublished}
use Rattle.b1_model.specs.declared.entries.Entry.{Entry}
use Rattle.b1_model.specs.MachineParts.{NodePart, HandleRecord, Slice, carried, same_ref, record_or_none}
use Rattle.b1_model.specs.MachinePool.{slice_at, slice_len, is_free, taken, taken_offset, given_back, published, largest_free}
use Rattle.b1_model.specs.MachineTables.{foreign}
use Rattle.b1_step.specs.Rights.{Has}
use Rattle.b1_peer_pool.specs.Slices.{IsPool, is_used, is_queued, len_at}
use Rattle.b1_peer_pool.proofs.Found.{used_at-found, used_at-slice, used-is_queued, used-len_at}
use Rattle.b1_peer_pool.proofs.Fits.{IsLength-slice_len}
use Rattle.b1_peer_pool.proofs.Laws.{taken_offset-new, slice_at-taken, taken-stays, published-stays, given_back-stays}
use Rattle.b1_peer_carried.specs.Carry.{AreCarried, may_arrive}
use Rattle.b1_inv_peer.specs.Needs.{IsSlot, AreSlots}
use Rattle.b1_inv_peer.specs.PeerOk.{AreOk, times, flight_in}
use Rattle.b1_inv_peer.specs.Changes.{KeepsOthers, Takes}
use Rattle.b1_inv_peer.proofs.Counts.{one}
use Rattle.b1_inv_peer.proofs.RecordFields.{times_cons, times_foreign, same_or_apart}

-- ---- elements

pub all_from_has : {X : Type 0} (P : X → Type 0) (xs : List X) → ((x : X) → Has xs x → P x) → All P xs
all_from_has P [] all = All-nil P
all_from_has P (x ∷ rest) all = All-cons P x rest (all x (inl refl)) (all_from_has P rest (λ y h. all y (inr h)))

-- ---- slices

-- the slice of a queued message
abbrev pub queued_slice : ℕ → ℕ → ℕ → Slice
queued_slice offset len handles = record { offset = offset; len = slice_len len handles; usage = Unpublished }

unfree : (s : Slice) → is_free s ≡ false → is_used s ≡ true
unfree s is = ap not is

pub message_queued : (offset len handles : ℕ) (slices : List Slice) → slice_at offset slices ≡ Some (queued_slice offset len handles) → is_queued offset slices ≡ true
message_queued offset len handles slices is = used-is_queued offset slices (queued_slice offset len handles) (used_at-slice offset slices (queued_slice offset len handles) is refl) refl

pub message_len : (offset len handles : ℕ) (slices : List Slice) → slice_at offset slices ≡ Some (queued_slice offset len handles) → len_at offset slices ≡ slice_len len handles
message_len offset len handles slices is = used-len_at offset slices (queued_slice offset len handles) (used_at-slice offset slices (queued_slice offset len handles) is refl)

pub slices_taken : (size payload handles : ℕ) (slices : List Slice) → IsPool size slices → slice_len payload handles ≤ largest_free slices → Takes (taken_offset (slice_len payload handles) slices) (slice_len payload handles) slices (taken (slice_len payload handles) slices)
slices_taken size payload handles slices pool fits = record {
  taken = slice_at-taken size (slice_len payload handles) slices pool (IsLength-slice_len payload handles) fits;
  was_free = λ s is. free s is (is_free s) refl;
  others = λ offset s is free apart. (used_at-found offset (taken (slice_len payload handles) slices) s (taken-stays size (slice_len payload handles) offset slices s pool (IsLength-slice_len payload handles) fits (used_at-slice offset slices s is (unfree s free)))).0;
}
  where
    free : (s : Slice) → slice_at (taken_offset (slice_len payload handles) slices) slices ≡ Some s → (b : Bool) → is_free s ≡ b → is_free s ≡ true
    free s is true e = e
    free s is false e = absurd (cc (sym (used_at-slice (taken_offset (slice_len payload handles) slices) slices s is (unfree s e)) ∙ taken_offset-new size (slice_len payload handles) slices pool (IsLength-slice_len payload handles) fits))

pub others_given_back : (size here : ℕ) (slices : List Slice) (t : Slice) → IsPool size slices → slice_at here slices ≡ Some t → KeepsOthers here slices (given_back here slices)
others_given_back size here slices t pool found offset s is free apart =
    (used_at-found offset (given_back here slices) s (given_back-stays size here offset slices t s pool found (λ e. apart (sym e)) (used_at-slice offset slices s is (unfree s free)))).0

pub others_published : (size here : ℕ) (slices : List Slice) (t : Slice) → IsPool size slices → slice_at here slices ≡ Some t → KeepsOthers here slices (published here slices)
others_published size here slices t pool found offset s is free apart =
    (used_at-found offset (published here slices) s (published-stays size here offset slices t s pool found (λ e. apart (sym e)) (used_at-slice offset slices s is (unfree s free)))).0

-- ---- what queued messages carry

flight_has : (node : NodeRef) (queue : List (Key × Entry)) (f : Key × Entry) → Has queue f → times node (carried f.1) ≤ flight_in node queue
flight_has node [] f h = absurd h
flight_has node (g ∷ rest) f (inl same) = let whole = sum_by-cons (λ (e : Key × Entry). times node (carried e.1)) g rest in let here = ap (λ (e : Key × Entry). times node (carried e.1)) same in omega (arith, whole, here)
flight_has node (g ∷ rest) f (inr there) = let whole = sum_by-cons (λ (e : Key × Entry). times node (carried e.1)) g rest in let further = flight_has node rest f there in omega (arith, whole, further)

times_own : (me : ℕ) (node : NodeRef) (nodes : List NodeRef) → node.owner ≡ me → times node (foreign me nodes) ≡ 0
times_own me node [] own = refl
times_own me node (n ∷ rest) own = at (times_own me node rest own) (n.owner == me) refl
  where
    at : times node (foreign me rest) ≡ 0 → (b : Bool) → (n.owner == me) ≡ b → times node (cond (not b) (n ∷ foreign me rest) (foreign me rest)) ≡ 0
    at further true is = further
    at further false is = let whole = times_cons node n (foreign me rest) in let none : one (same_ref n node) ≡ 0 = apart (same_or_apart n node) in omega (arith, further, whole, none)
      where
        apart : (n ≡ node) ⊎ (same_ref n node ≡ false) → one (same_ref n node) ≡ 0
        apart (inl e) = absurd (cc (sym is ∙ eq-eqb n.owner me (ap (λ m. m.owner) e ∙ own)))
        apart (inr differs) = ap one differs

pub carried_here : (me : ℕ) (nodes : List NodePart) (slices : List Slice) (queue : List (Key × Entry)) (handles : List HandleRecord) → AreOk me nodes slices queue handles → (f : Key × Entry) → Has queue f → AreCarried (foreign me (carried f.1)) handles
carried_here me nodes slices queue handles ok f h node = at (node.owner == me) refl
  where
    at : (b : Bool) → (node.owner == me) ≡ b → times node (foreign me (carried f.1)) ≤ (record_or_none node handles).flight
    at true is = let none = times_own me node (carried f.1) (eqb-true node.owner me is) in omega (arith, none)
    at false is =
        let far : node.owner ≢ me = λ e. absurd (cc (sym is ∙ eq-eqb node.owner me e)) in
        let same = times_foreign me node (carried f.1) far in
        let all = ok.flight node far in
        let le = flight_has node queue f h in
        omega (arith, same, all, le)

-- ---- slots that arrive

slot_may : (me made : ℕ) (node : NodeRef) (s : Slot) → IsSlot me made node s → may_arrive me made (node, s) ≡ true
slot_may me made node slot.Unattached is = absurd is
slot_may me made node slot.Attached is = differs (node.owner == me) refl
  where
    differs : (b : Bool) → (node.owner == me) ≡ b → not (node.owner == me) ≡ true
    differs true e = absurd (is (eqb-true node.owner me e))
    differs false e = ap not e
slot_may me made node slot.Own is = let own = is.0 in let low = is.1 in grind (arith, own, low)
slot_may me made node slot.Void is = refl

pub slots_may : (me made : ℕ) (nodes : List NodeRef) (slots : List Slot) → AreSlots me made nodes slots → All (λ o. may_arrive me made o ≡ true) (zip nodes slots)
slots_may me made [] [] are = All-nil (λ o. may_arrive me made o ≡ true)
slots_may me made [] (s ∷ slots) are = absurd are
slots_may me made (node ∷ nodes) [] are = absurd are
slots_may me made (node ∷ nodes) (s ∷ slots) are = All-cons (λ o. may_arrive me made o ≡ true) (node, s) (zip nodes slots) (slot_may me made node s are.0) (slots_may me made nodes slots are.1)
