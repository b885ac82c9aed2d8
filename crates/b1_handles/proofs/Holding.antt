-- Which node is held under a number, and how many slots carry nodes, once a record changed.
use Rattle.std.proofs.Common.{◌≡◌, ◌≢◌, ◌==◌, ℕ, suc, zero, ◌+◌, ◌<◌, ◌≤◌, Bool, true, false, List, [], ◌∷◌, length, get_or, refl, ap, sym, subst, ◌∙◌, arith, inl, inr, Option, Some, None, is_some, ◌⊎◌}
use Rattle.std.specs.Prelude.{All, AllPairs, cond, find, nat_lt, remove}
use Rattle.std.specs.Option.{IfSome}
use Rattle.std.proofs.lemmas.Bool.{cases_Bool, eq-eqb, ne_eqb, eqb-true, le-ltb, ltb-false}
use Rattle.std.proofs.lemmas.List.Elements.{All-head, All-tail, All-cons, All-nil}
use Rattle.b1_model.specs.declared.naming.NodeRef.{NodeRef}
use Rattle.b1_model.specs.MachineParts.{HandleRecord, no_record, same_ref, ref_before, record_of, record_or_none}
use Rattle.b1_model.specs.MachineTables.{is_needed, is_number, held_node, changed, changed_or_made}
use Rattle.b1_handles.specs.Kept.{flights_of}
use Rattle.b1_handles.proofs.ListLemmas.{AllPairs-head, AllPairs-tail, find_none}
use Rattle.b1_handles.proofs.Order.{before_one, before_other, same_is, same_itself}
use Rattle.b1_handles.proofs.Keyed.{found_behind}

-- a node has a number while it is held
abbrev pub HasNumber : HandleRecord → Type 0
HasNumber h = is_some h.number ≡ nat_lt 0 h.held

-- ---- what isn't needed
pub unneeded : (h : HandleRecord) → is_needed h ≡ false → (nat_lt 0 h.held ≡ false) × (h.flight ≡ 0)
unneeded h gone =
    elim (cases_Bool (nat_lt 0 h.held)) [
      | inl held ↦ let e = rw held at gone in cc
      | inr free ↦
          elim (cases_Bool (nat_lt 0 h.flight)) [
            | inl some_carry ↦ let e = rw (free, some_carry) at gone in cc
            | inr none_carries ↦ (free, let low = ltb-false 0 h.flight none_carries in omega (arith, low))
          ]
    ]

no_number : (o : Option ℕ) (q : ℕ) → is_some o ≡ false → elim o [ None ↦ false | Some n ↦ n == q ] ≡ false
no_number None q none = refl
no_number (Some n) q none = cc

-- ---- the node under a number, by the first record
module _ (q : ℕ) where
  abbrev node_of : Option HandleRecord → Option NodeRef
  node_of o = elim o [ None ↦ None | Some h ↦ Some h.node ]

  pub held_node-skip : (h : HandleRecord) (rest : List HandleRecord) → is_number q h ≡ false → held_node q (h ∷ rest) ≡ held_node q rest
  held_node-skip h rest other = ap (λ (b : Bool). node_of (cond b (Some h) (find (is_number q) rest))) other

  pub held_node-here : (h : HandleRecord) (rest : List HandleRecord) → is_number q h ≡ true → held_node q (h ∷ rest) ≡ Some h.node
  held_node-here h rest is = ap (λ (b : Bool). node_of (cond b (Some h) (find (is_number q) rest))) is

  pub held_node-more : (h : HandleRecord) (xs ys : List HandleRecord) → held_node q xs ≡ held_node q ys → held_node q (h ∷ xs) ≡ held_node q (h ∷ ys)
  held_node-more h xs ys same =
      elim (cases_Bool (is_number q h)) [
        | inl is ↦ held_node-here h xs is ∙ sym (held_node-here h ys is)
        | inr other ↦ held_node-skip h xs other ∙ same ∙ sym (held_node-skip h ys other)
      ]

  held_node-alike : (g h : HandleRecord) (rest : List HandleRecord) → g.node ≡ h.node → g.number ≡ h.number → held_node q (g ∷ rest) ≡ held_node q (h ∷ rest)
  held_node-alike g h rest node number =
      let is : is_number q g ≡ is_number q h = ap (λ (o : Option ℕ). elim o [ None ↦ false | Some n ↦ n == q ]) number in
      elim (cases_Bool (is_number q h)) [
        | inl yes_q ↦ held_node-here g rest (is ∙ yes_q) ∙ ap (λ (n : NodeRef). Some n) node ∙ sym (held_node-here h rest yes_q)
        | inr no_q ↦ held_node-skip g rest (is ∙ no_q) ∙ sym (held_node-skip h rest no_q)
      ]

-- ---- a change that keeps the number
module _ (q : ℕ) (node : NodeRef) (f : HandleRecord → HandleRecord) (keeps : (h : HandleRecord) → (f h).node ≡ h.node) (number : (h : HandleRecord) → (f h).number ≡ h.number) where
  pub held_node-changed : ((h : HandleRecord) → (f h).held ≡ h.held) → (records : List HandleRecord) → All HasNumber records → held_node q (changed node f records) ≡ held_node q records
  held_node-changed held [] all = refl
  held_node-changed held (h ∷ rest) all =
      elim (cases_Bool (same_ref h.node node)) [
        | inl same ↦
            rw same
            (elim (cases_Bool (is_needed (f h))) [
              | inl needed ↦ rw needed (held_node-alike q (f h) h rest (keeps h) (number h))
              | inr gone ↦
                  rw gone
                  (sym (held_node-skip q h rest (no_number h.number q (All-head HasNumber h rest all ∙ ap (nat_lt 0) (sym (held h)) ∙ (unneeded (f h) gone).0))))
            ])
        | inr other ↦ rw other (held_node-more q h (changed node f rest) rest (held_node-changed held rest (All-tail HasNumber h rest all)))
      ]

  pub held_node-made : (records : List HandleRecord) → held_node q (changed_or_made node f records) ≡ held_node q records
  held_node-made [] = held_node-alike q (f (no_record node)) (no_record node) [] (keeps (no_record node)) (number (no_record node))
  held_node-made (h ∷ rest) =
      elim (cases_Bool (same_ref h.node node)) [
        | inl same ↦ rw same (held_node-alike q (f h) h rest (keeps h) (number h))
        | inr other ↦
            rw other
            (elim (cases_Bool (ref_before node h.node)) [
              | inl before ↦ rw before (held_node-alike q (f (no_record node)) (no_record node) (h ∷ rest) (keeps (no_record node)) (number (no_record node)))
              | inr behind ↦ rw behind (held_node-more q h (changed_or_made node f rest) rest (held_node-made rest))
            ])
      ]

-- ---- a number that ends
-- whether a record has a number that another one has
other_number : (o p : Option ℕ) (q n : ℕ) → IfSome o (λ m. p ≢ Some m) → p ≡ Some n → q ≡ n → elim o [ None ↦ false | Some m ↦ m == q ] ≡ false
other_number None p q n differs is same = refl
other_number (Some m) p q n differs is same = ne_eqb m q (λ e. differs (is ∙ ap (λ (k : ℕ). Some k) (sym same ∙ sym e)))

pub number_other : (o : Option ℕ) (q n : ℕ) → o ≡ Some n → q ≢ n → elim o [ None ↦ false | Some m ↦ m == q ] ≡ false
number_other None q n is other = refl
number_other (Some m) q n is other = ne_eqb m q (λ e. other (sym e ∙ some_same is))
  where
    some_same : ◌≡◌ {A = Option ℕ} (Some m) (Some n) → m ≡ n
    some_same e = cc

is_it : (o : Option ℕ) (q : ℕ) → o ≡ Some q → elim o [ None ↦ false | Some m ↦ m == q ] ≡ true
is_it o q is = rw is (eq-eqb q q refl)

none_has : (q n : ℕ) (h : HandleRecord) (rest : List HandleRecord) → All (λ g. IfSome h.number (λ m. g.number ≢ Some m)) rest → h.number ≡ Some n → q ≡ n → held_node q rest ≡ None
none_has q n h rest differ is same =
    ap (λ (o : Option HandleRecord). elim o [ None ↦ None | Some g ↦ Some g.node ])
    (find_none (is_number q) rest (λ k d lt. other_from h.number (get_or rest k d).number (differ k d lt) is))
  where
    other_from : (o p : Option ℕ) → IfSome o (λ m. p ≢ Some m) → o ≡ Some n → elim p [ None ↦ false | Some m ↦ m == q ] ≡ false
    other_from None p differs e = cc
    other_from (Some m) None differs e = refl
    other_from (Some m) (Some r) differs e =
        let m_is : m ≡ n = (let d = e in cc) in
        ne_eqb r q (λ r_is. differs (ap (λ (k : ℕ). Some k) (r_is ∙ same ∙ sym m_is)))

-- what holds of each record holds of the node's
pub found_has : (P : HandleRecord → Type 0) (node : NodeRef) (records : List HandleRecord) (x : HandleRecord) → All P records → record_of node records ≡ Some x → P x
found_has P node [] x all found = cc
found_has P node (h ∷ rest) x all found =
    elim (cases_Bool (same_ref h.node node)) [
      | inl same ↦ let is : h ≡ x = (let e = rw same at found in cc) in subst P is (All-head P h rest all)
      | inr other ↦ found_has P node rest x (All-tail P h rest all) (rw other at found)
    ]

abbrev Differ : HandleRecord → HandleRecord → Type 0
Differ a b = IfSome a.number (λ n. b.number ≢ Some n)

module _ (q n : ℕ) (node : NodeRef) (f : HandleRecord → HandleRecord) (x : HandleRecord) (had : x.number ≡ Some n) (ends : (f x).number ≡ None) where
  ended_has : is_number q (f x) ≡ false
  ended_has = no_number (f x).number q (ap (λ (o : Option ℕ). is_some o) ends)

  pub held_node-ended : q ≡ n → (records : List HandleRecord) → AllPairs Differ records → record_of node records ≡ Some x → held_node q (changed node f records) ≡ None
  held_node-ended same_q [] distinct found = cc
  held_node-ended same_q (h ∷ rest) distinct found =
      let differ = AllPairs-head Differ h rest distinct in
      elim (cases_Bool (same_ref h.node node)) [
        | inl same ↦
            let is : h ≡ x = (let e = rw same at found in cc) in
            let none = none_has q n h rest differ (ap (λ (g : HandleRecord). g.number) is ∙ had) same_q in
            rw (same, is)
            (elim (cases_Bool (is_needed (f x))) [
              | inl needed ↦ rw needed (held_node-skip q (f x) rest ended_has ∙ none)
              | inr gone ↦ rw gone none
            ])
        | inr other ↦
            let later = rw other at found in
            rw other
            (held_node-skip q h (changed node f rest) (other_number h.number x.number q n (found_has (Differ h) node rest x differ later) had same_q)
            ∙ held_node-ended same_q rest (AllPairs-tail Differ h rest distinct) later)
      ]

  pub held_node-ended_other : q ≢ n → (records : List HandleRecord) → record_of node records ≡ Some x → held_node q (changed node f records) ≡ held_node q records
  held_node-ended_other other_q [] found = refl
  held_node-ended_other other_q (h ∷ rest) found =
      elim (cases_Bool (same_ref h.node node)) [
        | inl same ↦
            let is : h ≡ x = (let e = rw same at found in cc) in
            let skip = held_node-skip q x rest (number_other x.number q n had other_q) in
            rw (same, is)
            (elim (cases_Bool (is_needed (f x))) [
              | inl needed ↦ rw needed (held_node-skip q (f x) rest ended_has ∙ sym skip)
              | inr gone ↦ rw gone (sym skip)
            ])
        | inr other ↦ rw other (held_node-more q h (changed node f rest) rest (held_node-ended_other other_q rest (rw other at found)))
      ]

-- ---- a number that stays
module _ (q : ℕ) (node : NodeRef) (f : HandleRecord → HandleRecord) (keeps : (h : HandleRecord) → (f h).node ≡ h.node) (x : HandleRecord) (stays : (f x).number ≡ x.number) where
  pub held_node-same : is_needed (f x) ≡ true → (records : List HandleRecord) → record_of node records ≡ Some x → held_node q (changed node f records) ≡ held_node q records
  held_node-same needed [] found = refl
  held_node-same needed (h ∷ rest) found =
      elim (cases_Bool (same_ref h.node node)) [
        | inl same ↦ let is : h ≡ x = (let e = rw same at found in cc) in rw (same, is, needed) (held_node-alike q (f x) x rest (keeps x) stays)
        | inr other ↦ rw other (held_node-more q h (changed node f rest) rest (held_node-same needed rest (rw other at found)))
      ]

  pub held_node-there : (records : List HandleRecord) → AllPairs (λ a b. ref_before a.node b.node ≡ true) records → record_of node records ≡ Some x → held_node q (changed_or_made node f records) ≡ held_node q records
  held_node-there [] ordered found = cc
  held_node-there (h ∷ rest) ordered found =
      elim (cases_Bool (same_ref h.node node)) [
        | inl same ↦ let is : h ≡ x = (let e = rw same at found in cc) in rw (same, is) (held_node-alike q (f x) x rest (keeps x) stays)
        | inr other ↦
            let later = rw other at found in
            let behind = before_one node h.node (found_behind node h rest x (AllPairs-head (λ a b. ref_before a.node b.node ≡ true) h rest ordered) later) in
            rw (other, behind)
            (held_node-more q h (changed_or_made node f rest) rest (held_node-there rest (AllPairs-tail (λ a b. ref_before a.node b.node ≡ true) h rest ordered) later))
      ]

-- ---- the node's record, or what stands in its place
or_none-here : (node : NodeRef) (h : HandleRecord) (rest : List HandleRecord) → same_ref h.node node ≡ true → record_or_none node (h ∷ rest) ≡ h
or_none-here node h rest same = ap (λ (b : Bool). elim (cond b (Some h) (record_of node rest)) [ None ↦ no_record node | Some g ↦ g ]) same

or_none-skip : (node : NodeRef) (h : HandleRecord) (rest : List HandleRecord) → same_ref h.node node ≡ false → record_or_none node (h ∷ rest) ≡ record_or_none node rest
or_none-skip node h rest other = ap (λ (b : Bool). elim (cond b (Some h) (record_of node rest)) [ None ↦ no_record node | Some g ↦ g ]) other

pub record IsFound (node : NodeRef) (records : List HandleRecord) : Type 0 where
  pub one : HandleRecord
  pub found : record_of node records ≡ Some one
  pub is : record_or_none node records ≡ one

pub found_or : (node : NodeRef) (records : List HandleRecord) → IsFound node records ⊎ (record_or_none node records ≡ no_record node)
found_or node records = by (record_of node records) refl
  where
    by : (o : Option HandleRecord) → record_of node records ≡ o → IsFound node records ⊎ (record_or_none node records ≡ no_record node)
    by None none = inr (ap (λ (o : Option HandleRecord). elim o [ None ↦ no_record node | Some g ↦ g ]) none)
    by (Some x) found = inl (record { one = x; found = found; is = ap (λ (o : Option HandleRecord). elim o [ None ↦ no_record node | Some g ↦ g ]) found })

-- the record under a number is its node's
number_is : (o : Option ℕ) (q : ℕ) → elim o [ None ↦ false | Some n ↦ n == q ] ≡ true → o ≡ Some q
number_is None q has = cc
number_is (Some n) q has = ap (λ (k : ℕ). Some k) (eqb-true n q has)

pub record HasUnder (q : ℕ) (node : NodeRef) (records : List HandleRecord) : Type 0 where
  pub one : HandleRecord
  pub found : record_of node records ≡ Some one
  pub number : one.number ≡ Some q
  pub first : find (is_number q) records ≡ Some one

pub under_number : (q : ℕ) (node : NodeRef) (records : List HandleRecord) → AllPairs (λ a b. ref_before a.node b.node ≡ true) records → held_node q records ≡ Some node → HasUnder q node records
under_number q node [] ordered held = cc
under_number q node (h ∷ rest) ordered held =
    elim (cases_Bool (is_number q h)) [
      | inl is ↦
          let here : h.node ≡ node = (let e = sym (held_node-here q h rest is) ∙ held in cc) in
          let same : same_ref h.node node ≡ true = ap (λ (m : NodeRef). same_ref h.node m) (sym here) ∙ same_itself h.node in
          record { one = h; found = ap (λ (b : Bool). cond b (Some h) (record_of node rest)) same; number = number_is h.number q is; first = ap (λ (b : Bool). cond b (Some h) (find (is_number q) rest)) is }
      | inr other ↦
          let r = under_number q node rest (AllPairs-tail (λ a b. ref_before a.node b.node ≡ true) h rest ordered) (sym (held_node-skip q h rest other) ∙ held) in
          let apart : same_ref h.node node ≡ false = before_other h.node node (found_behind node h rest r.one (AllPairs-head (λ a b. ref_before a.node b.node ≡ true) h rest ordered) r.found) in
          record { one = r.one; found = ap (λ (b : Bool). cond b (Some h) (record_of node rest)) apart ∙ r.found; number = r.number; first = ap (λ (b : Bool). cond b (Some h) (find (is_number q) rest)) other ∙ r.first }
    ]

-- ---- a new number
not_fresh : (o : Option ℕ) (q n : ℕ) → o ≢ Some n → q ≡ n → elim o [ None ↦ false | Some m ↦ m == q ] ≡ false
not_fresh None q n other same = refl
not_fresh (Some m) q n other same = ne_eqb m q (λ e. other (ap (λ (k : ℕ). Some k) (e ∙ same)))

module _ (q n : ℕ) (node : NodeRef) (f : HandleRecord → HandleRecord) (keeps : (h : HandleRecord) → (f h).node ≡ h.node) (new : (h : HandleRecord) → h.held ≡ 0 → (f h).number ≡ Some n) where
  new_here : q ≡ n → (h : HandleRecord) (rest : List HandleRecord) → h.held ≡ 0 → same_ref h.node node ≡ true → held_node q (f h ∷ rest) ≡ Some node
  new_here same_q h rest free same =
      held_node-here q (f h) rest (is_it (f h).number q (new h free ∙ ap (λ (k : ℕ). Some k) (sym same_q)))
      ∙ ap (λ (m : NodeRef). Some m) (keeps h ∙ same_is h.node node same)

  new_skip : q ≢ n → (h : HandleRecord) (rest : List HandleRecord) → h.held ≡ 0 → held_node q (f h ∷ rest) ≡ held_node q rest
  new_skip other_q h rest free = held_node-skip q (f h) rest (number_other (f h).number q n (new h free) other_q)

  free_skip : (h : HandleRecord) (rest : List HandleRecord) → HasNumber h → h.held ≡ 0 → held_node q (h ∷ rest) ≡ held_node q rest
  free_skip h rest has free = held_node-skip q h rest (no_number h.number q (has ∙ le-ltb 0 h.held (omega (arith, free))))

  pub held_node-new : q ≡ n → (records : List HandleRecord) → ((h : HandleRecord) → h.held ≡ 0 → is_needed (f h) ≡ true) → All (λ h. h.number ≢ Some n) records → (x : HandleRecord) → record_of node records ≡ Some x → x.held ≡ 0 → held_node q (changed node f records) ≡ Some node
  held_node-new same_q [] needed fresh x found free = cc
  held_node-new same_q (h ∷ rest) needed fresh x found free =
      elim (cases_Bool (same_ref h.node node)) [
        | inl same ↦
            let is : h ≡ x = (let e = rw same at found in cc) in
            let free_h : h.held ≡ 0 = ap (λ (g : HandleRecord). g.held) is ∙ free in
            rw (same, needed h free_h) (new_here same_q h rest free_h same)
        | inr other ↦
            rw other
            (held_node-skip q h (changed node f rest) (not_fresh h.number q n (All-head (λ g. g.number ≢ Some n) h rest fresh) same_q)
            ∙ held_node-new same_q rest needed (All-tail (λ g. g.number ≢ Some n) h rest fresh) x (rw other at found) free)
      ]

  pub held_node-new_other : q ≢ n → (records : List HandleRecord) → ((h : HandleRecord) → h.held ≡ 0 → is_needed (f h) ≡ true) → All HasNumber records → (x : HandleRecord) → record_of node records ≡ Some x → x.held ≡ 0 → held_node q (changed node f records) ≡ held_node q records
  held_node-new_other other_q [] needed all x found free = refl
  held_node-new_other other_q (h ∷ rest) needed all x found free =
      elim (cases_Bool (same_ref h.node node)) [
        | inl same ↦
            let is : h ≡ x = (let e = rw same at found in cc) in
            let free_h : h.held ≡ 0 = ap (λ (g : HandleRecord). g.held) is ∙ free in
            rw (same, needed h free_h) (new_skip other_q h rest free_h ∙ sym (free_skip h rest (All-head HasNumber h rest all) free_h))
        | inr other ↦ rw other (held_node-more q h (changed node f rest) rest (held_node-new_other other_q rest needed (All-tail HasNumber h rest all) x (rw other at found) free))
      ]

  pub held_node-wired : q ≡ n → (records : List HandleRecord) → All (λ h. h.number ≢ Some n) records → (record_or_none node records).held ≡ 0 → held_node q (changed_or_made node f records) ≡ Some node
  held_node-wired same_q [] fresh free = new_here same_q (no_record node) [] refl (same_itself node)
  held_node-wired same_q (h ∷ rest) fresh free =
      elim (cases_Bool (same_ref h.node node)) [
        | inl same ↦ rw same (new_here same_q h rest (sym (ap (λ (g : HandleRecord). g.held) (or_none-here node h rest same)) ∙ free) same)
        | inr other ↦
            rw other
            (elim (cases_Bool (ref_before node h.node)) [
              | inl before ↦ rw before (new_here same_q (no_record node) (h ∷ rest) refl (same_itself node))
              | inr behind ↦
                  rw behind
                  (held_node-skip q h (changed_or_made node f rest) (not_fresh h.number q n (All-head (λ g. g.number ≢ Some n) h rest fresh) same_q)
                  ∙ held_node-wired same_q rest (All-tail (λ g. g.number ≢ Some n) h rest fresh) (sym (ap (λ (g : HandleRecord). g.held) (or_none-skip node h rest other)) ∙ free))
            ])
      ]

  pub held_node-wired_other : q ≢ n → (records : List HandleRecord) → All HasNumber records → (record_or_none node records).held ≡ 0 → held_node q (changed_or_made node f records) ≡ held_node q records
  held_node-wired_other other_q [] all free = new_skip other_q (no_record node) [] refl
  held_node-wired_other other_q (h ∷ rest) all free =
      elim (cases_Bool (same_ref h.node node)) [
        | inl same ↦
            let free_h : h.held ≡ 0 = sym (ap (λ (g : HandleRecord). g.held) (or_none-here node h rest same)) ∙ free in
            rw same (new_skip other_q h rest free_h ∙ sym (free_skip h rest (All-head HasNumber h rest all) free_h))
        | inr other ↦
            rw other
            (elim (cases_Bool (ref_before node h.node)) [
              | inl before ↦ rw before (new_skip other_q (no_record node) (h ∷ rest) refl)
              | inr behind ↦ rw behind (held_node-more q h (changed_or_made node f rest) rest (held_node-wired_other other_q rest (All-tail HasNumber h rest all) (sym (ap (λ (g : HandleRecord). g.held) (or_none-skip node h rest other)) ∙ free)))
            ])
      ]

-- ---- how many slots carry nodes
module _ (node : NodeRef) (f : HandleRecord → HandleRecord) where
  pub flights-changed : (records : List HandleRecord) (x : HandleRecord) → record_of node records ≡ Some x → flights_of (changed node f records) + x.flight ≡ flights_of records + (f x).flight
  flights-changed [] x found = cc
  flights-changed (h ∷ rest) x found =
      elim (cases_Bool (same_ref h.node node)) [
        | inl same ↦
            let is : h ≡ x = (let e = rw same at found in cc) in
            rw (← is, same)
            (elim (cases_Bool (is_needed (f h))) [
              | inl needed ↦ rw needed (omega arith)
              | inr gone ↦ rw gone (let none = (unneeded (f h) gone).1 in omega (arith, none))
            ])
        | inr other ↦ rw other (let ih = flights-changed rest x (rw other at found) in omega (arith, ih))
      ]

  pub flights-same : ((h : HandleRecord) → (f h).flight ≡ h.flight) → (records : List HandleRecord) → flights_of (changed node f records) ≡ flights_of records
  flights-same alike [] = refl
  flights-same alike (h ∷ rest) =
      let is = alike h in
      elim (cases_Bool (same_ref h.node node)) [
        | inl same ↦
            rw same
            (elim (cases_Bool (is_needed (f h))) [
              | inl needed ↦ rw needed (omega (arith, is))
              | inr gone ↦ rw gone (let none = (unneeded (f h) gone).1 in omega (arith, none, is))
            ])
        | inr other ↦ rw other (let ih = flights-same alike rest in omega (arith, ih))
      ]

  pub flights-made : (d : ℕ) → ((h : HandleRecord) → (f h).flight ≡ h.flight + d) → (records : List HandleRecord) → flights_of (changed_or_made node f records) ≡ flights_of records + d
  flights-made d more [] = let e = more (no_record node) in omega (arith, e)
  flights-made d more (h ∷ rest) =
      elim (cases_Bool (same_ref h.node node)) [
        | inl same ↦ rw same (let e = more h in omega (arith, e))
        | inr other ↦
            rw other
            (elim (cases_Bool (ref_before node h.node)) [
              | inl before ↦ rw before (let e = more (no_record node) in omega (arith, e))
              | inr behind ↦ rw behind (let ih = flights-made d more rest in omega (arith, ih))
            ])
      ]

pub flights-one : (node : NodeRef) (records : List HandleRecord) (x : HandleRecord) → record_of node records ≡ Some x → x.flight ≤ flights_of records
flights-one node [] x found = cc
flights-one node (h ∷ rest) x found =
    elim (cases_Bool (same_ref h.node node)) [
      | inl same ↦ let is : h ≡ x = (let e = rw same at found in cc) in rw (← is) (omega arith)
      | inr other ↦ let ih = flights-one node rest x (rw other at found) in omega (arith, ih)
    ]

-- ---- what holds of each record
module _ (node : NodeRef) (f : HandleRecord → HandleRecord) (P : HandleRecord → Type 0) (keeps : (h : HandleRecord) → P h → P (f h)) where
  pub All-changed : (records : List HandleRecord) → All P records → All P (changed node f records)
  All-changed [] all = All-nil P
  All-changed (h ∷ rest) all =
      let first = All-head P h rest all in
      let others = All-tail P h rest all in
      elim (cases_Bool (same_ref h.node node)) [
        | inl same ↦
            rw same
            (elim (cases_Bool (is_needed (f h))) [
              | inl needed ↦ rw needed (All-cons P (f h) rest (keeps h first) others)
              | inr gone ↦ rw gone others
            ])
        | inr other ↦ rw other (All-cons P h (changed node f rest) first (All-changed rest others))
      ]

  pub All-made : P (no_record node) → (records : List HandleRecord) → All P records → All P (changed_or_made node f records)
  All-made none [] all = All-cons P (f (no_record node)) [] (keeps (no_record node) none) all
  All-made none (h ∷ rest) all =
      let first = All-head P h rest all in
      let others = All-tail P h rest all in
      elim (cases_Bool (same_ref h.node node)) [
        | inl same ↦ rw same (All-cons P (f h) rest (keeps h first) others)
        | inr other ↦
            rw other
            (elim (cases_Bool (ref_before node h.node)) [
              | inl before ↦ rw before (All-cons P (f (no_record node)) (h ∷ rest) (keeps (no_record node) none) all)
              | inr behind ↦ rw behind (All-cons P h (changed_or_made node f rest) first (All-made none rest others))
            ])
      ]

pub flights-remove : (records : List HandleRecord) (i : ℕ) (x : HandleRecord) → i < length records → x ≡ get_or records i x → flights_of (remove records i) + x.flight ≡ flights_of records
flights-remove [] i x within read = absurd (omega arith)
flights-remove (h ∷ rest) zero x within read = let e = ap (λ (g : HandleRecord). g.flight) read in omega (arith, e)
flights-remove (h ∷ rest) (suc i) x within read = let ih = flights-remove rest i x (omega arith) read in omega (arith, ih)

pub find_none_from : (q : ℕ) (records : List HandleRecord) → held_node q records ≡ None → find (is_number q) records ≡ None
find_none_from q records none = by (find (is_number q) records) refl
  where
    by : (o : Option HandleRecord) → find (is_number q) records ≡ o → find (is_number q) records ≡ None
    by None is = is
    by (Some h) is = let e = sym none ∙ ap (λ (o : Option HandleRecord). elim o [ None ↦ None | Some g ↦ Some g.node ]) is in cc
