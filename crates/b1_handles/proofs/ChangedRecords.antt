-- A record that changes, by the place at which it stands.
use Rattle.std.proofs.Common.{◌≡◌, ℕ, suc, zero, ◌<◌, true, false, List, [], ◌∷◌, length, get_or, set, refl, ap, sym, ◌∙◌, arith, inl, inr, Some, None}
use Rattle.std.specs.Prelude.{All, insert, remove}
use Rattle.std.proofs.lemmas.List.{get_or-set_same, take-set, drop-set-lt}
use Rattle.std.proofs.lemmas.Bool.{cases_Bool}
use Rattle.b1_model.specs.declared.naming.NodeRef.{NodeRef}
use Rattle.b1_model.specs.MachineParts.{HandleRecord, no_record, same_ref, ref_before, record_of}
use Rattle.b1_model.specs.MachineTables.{is_needed, changed, changed_or_made}
use Rattle.b1_handles.proofs.Places.{settled, is_from, IsPlaceFor}
use Rattle.b1_handles.proofs.ListLemmas.{find_first, find_none}

-- the place of a node's record
pub record IsPlace (node : NodeRef) (records : List HandleRecord) (place : ℕ) : Type 0 where
  pub within : place < length records
  pub here : (d : HandleRecord) → same_ref (get_or records place d).node node ≡ true
  pub first : (k : ℕ) (d : HandleRecord) → k < place → same_ref (get_or records k d).node node ≡ false

remove-set : (records : List HandleRecord) (i : ℕ) (y : HandleRecord) → remove (set records i y) i ≡ remove records i
remove-set records i y = rw (take-set records i y, drop-set-lt (suc i) records i y (omega arith)) refl

module _ (node : NodeRef) (f : HandleRecord → HandleRecord) where
  pub changed_kept : (records : List HandleRecord) (i : ℕ) (d : HandleRecord) → IsPlace node records i → is_needed (f (get_or records i d)) ≡ true → set records i (f (get_or records i d)) ≡ changed node f records
  changed_kept [] i d at needed = absurd (omega (arith, at.within))
  changed_kept (h ∷ rest) zero d at needed = rw (at.here d, needed) refl
  changed_kept (h ∷ rest) (suc i) d at needed =
      rw (at.first 0 d (omega arith))
      (ap (λ hs. h ∷ hs) (changed_kept rest i d (record { within = omega (arith, at.within); here = at.here; first = λ k e lt. at.first (suc k) e (omega arith) }) needed))

  changed_gone : (records : List HandleRecord) (i : ℕ) (d : HandleRecord) → IsPlace node records i → is_needed (f (get_or records i d)) ≡ false → remove records i ≡ changed node f records
  changed_gone [] i d at gone = absurd (omega (arith, at.within))
  changed_gone (h ∷ rest) zero d at gone = rw (at.here d, gone) refl
  changed_gone (h ∷ rest) (suc i) d at gone =
      rw (at.first 0 d (omega arith))
      (ap (λ hs. h ∷ hs) (changed_gone rest i d (record { within = omega (arith, at.within); here = at.here; first = λ k e lt. at.first (suc k) e (omega arith) }) gone))

  pub changed_settled : (records : List HandleRecord) (i : ℕ) (x y : HandleRecord) → IsPlace node records i → x ≡ get_or records i x → y ≡ f x → settled i (set records i y) ≡ changed node f records
  changed_settled records i x y at read is =
      let now : y ≡ f (get_or records i x) = is ∙ ap f read in
      rw (get_or-set_same records i y (no_record (record { owner = 0; serial = 0 })) at.within)
      (elim (cases_Bool (is_needed y)) [
        | inl needed ↦ rw needed (ap (set records i) now ∙ changed_kept records i x at (ap is_needed (sym now) ∙ needed))
        | inr gone ↦ rw gone (remove-set records i y ∙ changed_gone records i x at (ap is_needed (sym now) ∙ gone))
      ])

-- the node's record
pub record_of-place : (node : NodeRef) (records : List HandleRecord) (i : ℕ) (x : HandleRecord) → IsPlace node records i → x ≡ get_or records i x → record_of node records ≡ Some x
record_of-place node records i x at read =
    find_first (λ h. same_ref h.node node) records i x at.within (λ k lt. at.first k x lt) (at.here x) ∙ ap (λ (h : HandleRecord). Some h) (sym read)

pub record_of-absent : (node : NodeRef) (records : List HandleRecord) → All (λ h. same_ref h.node node ≡ false) records → record_of node records ≡ None
record_of-absent node records none = find_none (λ h. same_ref h.node node) records none

-- a record that changes or is made
pub not_from : (node : NodeRef) (h : HandleRecord) → is_from node h ≡ false → (same_ref h.node node ≡ false) × (ref_before node h.node ≡ false)
not_from node h before =
    elim (cases_Bool (same_ref h.node node)) [
      | inl same ↦ let e = rw same at before in cc
      | inr other ↦ (other, rw other at before)
    ]

module _ (node : NodeRef) (f : HandleRecord → HandleRecord) where
  below : (h : HandleRecord) (rest : List HandleRecord) (p : ℕ) → IsPlaceFor node (h ∷ rest) (suc p) → IsPlaceFor node rest p
  below h rest p at = record {
    within = omega (arith, at.within);
    before = λ k d low high. at.before (suc k) d (omega arith) (omega arith);
    here = λ lt d. at.here (omega arith) d;
  }

  pub changed_or_made_set : (records : List HandleRecord) (p : ℕ) (d : HandleRecord) → IsPlaceFor node records p → p < length records → same_ref (get_or records p d).node node ≡ true → set records p (f (get_or records p d)) ≡ changed_or_made node f records
  changed_or_made_set [] p d at within same = absurd (omega arith)
  changed_or_made_set (h ∷ rest) zero d at within same = rw same refl
  changed_or_made_set (h ∷ rest) (suc p) d at within same =
      let first = not_from node h (at.before 0 h (omega arith) (omega arith)) in
      rw (first.0, first.1) (ap (λ hs. h ∷ hs) (changed_or_made_set rest p d (below h rest p at) (omega arith) same))

  pub changed_or_made_insert : (records : List HandleRecord) (p : ℕ) (d : HandleRecord) → IsPlaceFor node records p → (p < length records → same_ref (get_or records p d).node node ≡ false) → insert records p (f (no_record node)) ≡ changed_or_made node f records
  changed_or_made_insert [] zero d at other = refl
  changed_or_made_insert [] (suc p) d at other = absurd (omega (arith, at.within))
  changed_or_made_insert (h ∷ rest) zero d at other =
      let is = other (omega arith) in
      let before : ref_before node h.node ≡ true = rw is at (at.here (omega arith) h) in
      rw (is, before) refl
  changed_or_made_insert (h ∷ rest) (suc p) d at other =
      let first = not_from node h (at.before 0 h (omega arith) (omega arith)) in
      rw (first.0, first.1) (ap (λ hs. h ∷ hs) (changed_or_made_insert rest p d (below h rest p at) (λ lt. other (omega arith))))
