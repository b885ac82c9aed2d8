-- What a change of one record leaves sound.
use Rattle.std.proofs.Common.{◌≡◌, ◌==◌, ℕ, suc, zero, ◌+◌, ◌<◌, ◌≤◌, true, false, if◌then◌else◌, List, [], ◌∷◌, length, get_or, set, refl, ap, sym, subst, ◌∙◌, arith, inl, inr, Option, Some, None, ◌⊎◌}
use Rattle.std.proofs.lemmas.List.{get_or_default, length-set}
use Rattle.std.proofs.lemmas.Bool.{cases_Bool, cases_lt}
use Rattle.b1_model.specs.declared.naming.NodeRef.{NodeRef}
use Rattle.b1_model.specs.MachineParts.{HandleRecord, no_record, same_ref, record_of, record_or_none}
use Rattle.b1_model.specs.MachineTables.{changed, changed_or_made, more_held, next_number}
use Rattle.b1_handles.specs.Handles.{IsSound}
use Rattle.b1_handles.proofs.Places.{IsPlaceFor, is_from}
use Rattle.b1_handles.proofs.Keyed.{changed-absent}
use Rattle.b1_handles.proofs.ChangedRecords.{IsPlace, changed_settled, changed_or_made_set, changed_or_made_insert, not_from, record_of-place, record_of-absent}
use Rattle.b1_handles.proofs.Sound.{IsSound-settled, IsSound-kept, IsSound-fresh, IsSound-made, next_is_given, next_is_fresh, none_is_fresh, none_there}

-- ---- where a record stands
pub record Stands (node : NodeRef) (records : List HandleRecord) (x : HandleRecord) : Type 0 where
  pub place : ℕ
  pub at : IsPlace node records place
  pub read : x ≡ get_or records place x

pub stands : (node : NodeRef) (records : List HandleRecord) (x : HandleRecord) → record_of node records ≡ Some x → Stands node records x
stands node [] x found = cc
stands node (h ∷ rest) x found =
    elim (cases_Bool (same_ref h.node node)) [
      | inl same ↦
          let is : x ≡ h = (let e = rw same at found in cc) in
          record {
            place = 0;
            at = record { within = omega arith; here = λ d. same; first = λ k d lt. absurd (omega arith) };
            read = is;
          }
      | inr other ↦
          let s = stands node rest x (rw other at found) in
          record {
            place = suc s.place;
            at = record {
              within = omega (arith, s.at.within);
              here = s.at.here;
              first = first_of s.place s.at.first other;
            };
            read = s.read;
          }
    ]
  where
    first_of : (p : ℕ) → ((k : ℕ) (d : HandleRecord) → k < p → same_ref (get_or rest k d).node node ≡ false) → same_ref h.node node ≡ false → (k : ℕ) (d : HandleRecord) → k < suc p → same_ref (get_or (h ∷ rest) k d).node node ≡ false
    first_of p first other zero d lt = other
    first_of p first other (suc k) d lt = first k d (omega arith)

-- ---- a record that changes
module _ (node : NodeRef) (f : HandleRecord → HandleRecord) (keeps : (h : HandleRecord) → (f h).node ≡ h.node) (given : ℕ) (records : List HandleRecord) (sound : IsSound given records) where
  settles : (later : ℕ) (x : HandleRecord) (s : Stands node records x) → IsSound later (set records s.place (f x)) → IsSound later (changed node f records)
  settles later x s is =
      subst (IsSound later) (changed_settled node f records s.place x (f x) s.at s.read refl)
      (IsSound-settled later s.place (set records s.place (f x)) (omega (arith, s.at.within, length-set records s.place (f x))) is)

  pub sound-kept : ((h : HandleRecord) → (f h).number ≡ h.number) → IsSound given (changed node f records)
  sound-kept number = by (record_of node records) refl
    where
      by : (o : Option HandleRecord) → record_of node records ≡ o → IsSound given (changed node f records)
      by None none = rw (changed-absent node f records none) sound
      by (Some x) found =
          let s = stands node records x found in
          settles given x s (IsSound-kept given given records s.place x (f x) s.at.within s.read (keeps x) (omega arith) sound (number x))

  pub sound-same : (x : HandleRecord) → record_of node records ≡ Some x → (f x).number ≡ x.number → IsSound given (changed node f records)
  sound-same x found same =
      let s = stands node records x found in
      settles given x s (IsSound-kept given given records s.place x (f x) s.at.within s.read (keeps x) (omega arith) sound same)

  pub sound-ended : (x : HandleRecord) → record_of node records ≡ Some x → (f x).number ≡ None → IsSound given (changed node f records)
  sound-ended x found ends =
      let s = stands node records x found in
      settles given x s (IsSound-fresh given given records s.place x (f x) s.at.within s.read (keeps x) (omega arith) sound (rw ends (none_is_fresh records)) (rw ends tt))

  pub sound-new : (x : HandleRecord) → record_of node records ≡ Some x → (f x).number ≡ Some (next_number given) → IsSound (given + 1) (changed node f records)
  sound-new x found fresh =
      let s = stands node records x found in
      settles (given + 1) x s (IsSound-fresh given (given + 1) records s.place x (f x) s.at.within s.read (keeps x) (omega arith) sound (rw fresh (next_is_fresh given records sound.numbered)) (rw fresh (next_is_given given)))

-- ---- a record that changes or is made
module _ (node : NodeRef) where
  abbrev pub place_for : List HandleRecord → ℕ
  place_for [] = 0
  place_for (h ∷ rest) = if is_from node h then 0 else suc (place_for rest)

  is_place_for : (records : List HandleRecord) → IsPlaceFor node records (place_for records)
  is_place_for [] = record { within = omega arith; before = λ k d low high. absurd (omega arith); here = λ lt. absurd (omega arith) }
  is_place_for (h ∷ rest) =
      elim (cases_Bool (is_from node h)) [
        | inl behind ↦ rw behind (record { within = omega arith; before = λ k d low high. absurd (omega arith); here = λ lt d. behind })
        | inr before ↦
            let r = is_place_for rest in
            rw before (record { within = omega (arith, r.within); before = before_of before r.before; here = λ lt d. r.here (omega arith) d })
      ]
    where
      before_of : is_from node h ≡ false → ((k : ℕ) (d : HandleRecord) → 0 ≤ k → k < place_for rest → is_from node (get_or rest k d) ≡ false) → (k : ℕ) (d : HandleRecord) → 0 ≤ k → k < suc (place_for rest) → is_from node (get_or (h ∷ rest) k d) ≡ false
      before_of first rest_before zero d low high = first
      before_of first rest_before (suc k) d low high = rest_before k d (omega arith) (omega arith)

  -- the node's record stands at its place, or none of it
  pub record IsThere (records : List HandleRecord) (x : HandleRecord) : Type 0 where
    pub at : IsPlace node records (place_for records)
    pub read : x ≡ get_or records (place_for records) x

  abbrev NoneThere : List HandleRecord → Type 0
  NoneThere records = place_for records < length records → (d : HandleRecord) → same_ref (get_or records (place_for records) d).node node ≡ false

  there : (records : List HandleRecord) → IsThere records (get_or records (place_for records) (no_record node)) ⊎ NoneThere records
  there records =
      let p = place_for records in
      let x = get_or records p (no_record node) in
      let is = is_place_for records in
      elim (cases_lt p (length records)) [
        | inl low ↦
            elim (cases_Bool (same_ref x.node node)) [
              | inl same ↦
                  inl (record {
                    at = record {
                      within = low;
                      here = λ d. ap (λ (h : HandleRecord). same_ref h.node node) (get_or_default records p d (no_record node) low) ∙ same;
                      first = λ k d lt. (not_from node (get_or records k d) (is.before k d (omega arith) lt)).0;
                    };
                    read = get_or_default records p (no_record node) x low;
                  })
              | inr other ↦ inr (λ lt d. ap (λ (h : HandleRecord). same_ref h.node node) (get_or_default records p d (no_record node) low) ∙ other)
            ]
        | inr high ↦ inr (λ lt d. absurd (omega arith))
      ]

module _ (node : NodeRef) (given : ℕ) (records : List HandleRecord) (sound : IsSound given records) where
  pub sound-expected : (f : HandleRecord → HandleRecord) → ((h : HandleRecord) → (f h).node ≡ h.node) → ((h : HandleRecord) → (f h).number ≡ h.number) → IsSound given (changed_or_made node f records)
  sound-expected f keeps number =
      let p = place_for node records in
      let x = get_or records p (no_record node) in
      elim (there node records) [
        | inl t ↦
            subst (IsSound given) (ap (λ (h : HandleRecord). set records p (f h)) t.read ∙ changed_or_made_set node f records p x (is_place_for node records) t.at.within (t.at.here x))
            (IsSound-kept given given records p x (f x) t.at.within t.read (keeps x) (omega arith) sound (number x))
        | inr none ↦
            subst (IsSound given) (changed_or_made_insert node f records p (no_record node) (is_place_for node records) (λ lt. none lt (no_record node)))
            (IsSound-made records node p sound.ordered (is_place_for node records) none given given (f (no_record node)) (keeps (no_record node)) (omega arith) (rw (number (no_record node)) (none_is_fresh records)) (rw (number (no_record node)) tt) sound)
      ]

  abbrev wires : HandleRecord → HandleRecord
  wires = more_held (next_number given)

  pub sound-wired_new : ((record_or_none node records).held == 0) ≡ true → IsSound (given + 1) (changed_or_made node wires records)
  sound-wired_new free =
      let p = place_for node records in
      let x = get_or records p (no_record node) in
      elim (there node records) [
        | inl t ↦
            let is : record_or_none node records ≡ x = ap (λ (o : Option HandleRecord). elim o [ None ↦ no_record node | Some h ↦ h ]) (record_of-place node records p x t.at t.read) in
            let fresh : (wires x).number ≡ Some (next_number given) = rw (sym (ap (λ (h : HandleRecord). h.held == 0) is) ∙ free) refl in
            subst (IsSound (given + 1)) (ap (λ (h : HandleRecord). set records p (wires h)) t.read ∙ changed_or_made_set node wires records p x (is_place_for node records) t.at.within (t.at.here x))
            (IsSound-fresh given (given + 1) records p x (wires x) t.at.within t.read refl (omega arith) sound (rw fresh (next_is_fresh given records sound.numbered)) (rw fresh (next_is_given given)))
        | inr none ↦
            subst (IsSound (given + 1)) (changed_or_made_insert node wires records p (no_record node) (is_place_for node records) (λ lt. none lt (no_record node)))
            (IsSound-made records node p sound.ordered (is_place_for node records) none given (given + 1) (wires (no_record node)) refl (omega arith) (next_is_fresh given records sound.numbered) (next_is_given given) sound)
      ]

  pub sound-wired_held : ((record_or_none node records).held == 0) ≡ false → IsSound given (changed_or_made node wires records)
  sound-wired_held taken =
      let p = place_for node records in
      let x = get_or records p (no_record node) in
      elim (there node records) [
        | inl t ↦
            let is : record_or_none node records ≡ x = ap (λ (o : Option HandleRecord). elim o [ None ↦ no_record node | Some h ↦ h ]) (record_of-place node records p x t.at t.read) in
            let same : (wires x).number ≡ x.number = rw (sym (ap (λ (h : HandleRecord). h.held == 0) is) ∙ taken) refl in
            subst (IsSound given) (ap (λ (h : HandleRecord). set records p (wires h)) t.read ∙ changed_or_made_set node wires records p x (is_place_for node records) t.at.within (t.at.here x))
            (IsSound-kept given given records p x (wires x) t.at.within t.read refl (omega arith) sound same)
        | inr none ↦
            let is : record_or_none node records ≡ no_record node = ap (λ (o : Option HandleRecord). elim o [ None ↦ no_record node | Some h ↦ h ]) (record_of-absent node records (none_there records node p sound.ordered (is_place_for node records) none)) in
            let e : true ≡ false = sym (ap (λ (h : HandleRecord). h.held == 0) is) ∙ taken in
            cc
      ]
