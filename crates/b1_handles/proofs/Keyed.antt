-- The records under their nodes, where one of them changes.
use Rattle.std.proofs.Common.{◌≡◌, ℕ, ◌+◌, nat_lt, Bool, true, false, not, List, [], ◌∷◌, get_or, refl, ap, sym, ◌∙◌, arith, inl, inr, Option, Some, None, cond, if◌then◌else◌}
use Rattle.std.specs.Prelude.{All, AllPairs}
use Rattle.std.specs.declared.cmp.Ordering.TheVariants.{Less, Greater}
use Rattle.std.specs.BTreeMap.{insert_entry, is_at}
use Rattle.std.specs.Map.{lookup, remove_entry, set_value, values_of}
use Rattle.std.proofs.lemmas.Grind.{common_steps}
use Rattle.std.proofs.lemmas.List.Elements.{All-head, All-tail}
use Rattle.std.proofs.lemmas.Bool.{cases_Bool, lt-ltb}
use Rattle.std.proofs.lemmas.Bool.Decides.{nat_tests}
use Rattle.b1_model.specs.declared.naming.NodeRef.{NodeRef}
use Rattle.b1_model.specs.MachineParts.{HandleRecord, no_record, same_ref, ref_before, record_of, record_or_none}
use Rattle.b1_model.specs.MachineTables.{is_needed, changed, changed_or_made, more_held, noticed}
use Rattle.b1_handles.specs.Handles.{without_node}
use Rattle.b1_handles.specs.Records.{key_of, keyed, key_cmp, is_key, settled, IsKeyed}
use Rattle.b1_handles.proofs.ListLemmas.{AllPairs-head, AllPairs-tail, filter_all}
use Rattle.b1_handles.proofs.Order.{before_one, before_same, same_before}

-- ---- the list of the records
pub values-keyed : (records : List HandleRecord) → values_of (keyed records) ≡ records
values-keyed [] = refl
values-keyed (h ∷ rest) = ap (λ hs. h ∷ hs) (values-keyed rest)

pub values_by : (entries : List ((ℕ × ℕ) × HandleRecord)) (records : List HandleRecord) → entries ≡ keyed records → values_of entries ≡ records
values_by entries records is = ap (λ es. values_of es) is ∙ values-keyed records

pub keyed_by : (entries : List ((ℕ × ℕ) × HandleRecord)) (records : List HandleRecord) → entries ≡ keyed records → IsKeyed entries
keyed_by entries records is = is ∙ ap keyed (sym (values_by entries records is))

-- ---- the keys
module _ (node other : NodeRef) where
  pub is_key-same : is_key node (key_of other) ≡ same_ref other node
  is_key-same = grind (arith, common_steps, nat_tests)

  less_key : ref_before node other ≡ true → key_cmp (key_of node) (key_of other) ≡ Less
  less_key before = grind (arith, common_steps, nat_tests)

  greater_key : same_ref other node ≡ false → ref_before node other ≡ false → key_cmp (key_of node) (key_of other) ≡ Greater
  greater_key apart behind = grind (arith, common_steps, nat_tests)

-- a record that is found behind another one
pub found_behind : (node : NodeRef) (h : HandleRecord) (rest : List HandleRecord) (x : HandleRecord) → All (λ g. ref_before h.node g.node ≡ true) rest → record_of node rest ≡ Some x → ref_before h.node node ≡ true
found_behind node h [] x behind found = cc
found_behind node h (g ∷ rest) x behind found =
    elim (cases_Bool (same_ref g.node node)) [
      | inl same ↦ before_same h.node g.node node (All-head (λ g. ref_before h.node g.node ≡ true) g rest behind) same
      | inr other ↦ found_behind node h rest x (All-tail (λ g. ref_before h.node g.node ≡ true) g rest behind) (rw other at found)
    ]

-- ---- one record
module _ (node : NodeRef) where
  pub lookup-keyed : (records : List HandleRecord) → lookup (is_key node) (keyed records) ≡ record_of node records
  lookup-keyed [] = refl
  lookup-keyed (h ∷ rest) = rw (is_key-same node h.node, lookup-keyed rest) refl

  -- the first entry, by whether it is the node's
  first_settled : (h : HandleRecord) (entries : List ((ℕ × ℕ) × HandleRecord)) (k : ℕ × ℕ) (b : Bool) → is_key node k ≡ b → settled node ((k, h) ∷ entries) ≡ elim (cond b (Some h) (lookup (is_key node) entries)) [ None ↦ (k, h) ∷ entries | Some g ↦ if is_needed g then (k, h) ∷ entries else cond b entries ((k, h) ∷ remove_entry (is_key node) entries) ]
  first_settled h entries k b is =
      ap (λ (t : Bool). elim (cond t (Some h) (lookup (is_key node) entries)) [ None ↦ (k, h) ∷ entries | Some g ↦ if is_needed g then (k, h) ∷ entries else cond t entries ((k, h) ∷ remove_entry (is_key node) entries) ]) is

  settled-skip : (h : HandleRecord) (entries : List ((ℕ × ℕ) × HandleRecord)) → same_ref h.node node ≡ false → settled node ((key_of h.node, h) ∷ entries) ≡ (key_of h.node, h) ∷ settled node entries
  settled-skip h entries apart =
      first_settled h entries (key_of h.node) false (is_key-same node h.node ∙ apart)
      ∙ elim (lookup (is_key node) entries) as (λ (o : Option HandleRecord). elim o [ None ↦ (key_of h.node, h) ∷ entries | Some g ↦ if is_needed g then (key_of h.node, h) ∷ entries else (key_of h.node, h) ∷ remove_entry (is_key node) entries ] ≡ (key_of h.node, h) ∷ elim o [ None ↦ entries | Some g ↦ if is_needed g then entries else remove_entry (is_key node) entries ]) [
        | None ↦ refl
        | Some g ↦
            elim (is_needed g) as (λ b. (if b then (key_of h.node, h) ∷ entries else (key_of h.node, h) ∷ remove_entry (is_key node) entries) ≡ (key_of h.node, h) ∷ (if b then entries else remove_entry (is_key node) entries)) [ true ↦ refl | false ↦ refl ]
      ]

module _ (node : NodeRef) (f : HandleRecord → HandleRecord) (keeps : (h : HandleRecord) → (f h).node ≡ h.node) where
  settled-changed : (records : List HandleRecord) (x : HandleRecord) → record_of node records ≡ Some x → settled node (set_value (is_key node) (keyed records) (f x)) ≡ keyed (changed node f records)
  settled-changed [] x found = cc
  settled-changed (h ∷ rest) x found =
      elim (cases_Bool (same_ref h.node node)) [
        | inl same ↦
            let is : h ≡ x = (let e = rw same at found in cc) in
            rw (← is, is_key-same node h.node, same)
            (first_settled node (f h) (keyed rest) (key_of h.node) true (is_key-same node h.node ∙ same)
            ∙ elim (cases_Bool (is_needed (f h))) [
              | inl needed ↦ rw (needed, keeps h) refl
              | inr gone ↦ rw gone refl
            ])
        | inr other ↦
            rw (is_key-same node h.node, other)
            (settled-skip node h (set_value (is_key node) (keyed rest) (f x)) other ∙ ap (λ es. (key_of h.node, h) ∷ es) (settled-changed rest x (rw other at found)))
      ]

  -- the record stays
  kept-changed : (records : List HandleRecord) (x : HandleRecord) → record_of node records ≡ Some x → is_needed (f x) ≡ true → set_value (is_key node) (keyed records) (f x) ≡ keyed (changed node f records)
  kept-changed [] x found needed = cc
  kept-changed (h ∷ rest) x found needed =
      elim (cases_Bool (same_ref h.node node)) [
        | inl same ↦
            let is : h ≡ x = (let e = rw same at found in cc) in
            let needed_here : is_needed (f h) ≡ true = ap (λ g. is_needed (f g)) is ∙ needed in
            rw (← is, is_key-same node h.node, same, needed_here, keeps h) refl
        | inr other ↦
            rw (is_key-same node h.node, other) (ap (λ es. (key_of h.node, h) ∷ es) (kept-changed rest x (rw other at found) needed))
      ]

  -- the record is there
  there-made : (records : List HandleRecord) (x : HandleRecord) → AllPairs (λ a b. ref_before a.node b.node ≡ true) records → record_of node records ≡ Some x → set_value (is_key node) (keyed records) (f x) ≡ keyed (changed_or_made node f records)
  there-made [] x ordered found = cc
  there-made (h ∷ rest) x ordered found =
      elim (cases_Bool (same_ref h.node node)) [
        | inl same ↦
            let is : h ≡ x = (let e = rw same at found in cc) in
            rw (← is, is_key-same node h.node, same, keeps h) refl
        | inr other ↦
            let later = found_behind node h rest x (AllPairs-head (λ a b. ref_before a.node b.node ≡ true) h rest ordered) (rw other at found) in
            rw (is_key-same node h.node, other, before_one node h.node later)
            (ap (λ es. (key_of h.node, h) ∷ es) (there-made rest x (AllPairs-tail (λ a b. ref_before a.node b.node ≡ true) h rest ordered) (rw other at found)))
      ]

  -- the record is made
  new-made : (records : List HandleRecord) → record_of node records ≡ None → insert_entry key_cmp (keyed records) (key_of node) (f (no_record node)) ≡ keyed (changed_or_made node f records)
  new-made [] none = ap (λ (n : NodeRef). (key_of n, f (no_record node)) ∷ []) (sym (keeps (no_record node)))
  new-made (h ∷ rest) none =
      elim (cases_Bool (same_ref h.node node)) [
        | inl same ↦ let e = rw same at none in cc
        | inr other ↦
            elim (cases_Bool (ref_before node h.node)) [
              | inl before ↦ rw (less_key node h.node before, other, before, keeps (no_record node)) refl
              | inr behind ↦ rw (greater_key node h.node other behind, other, behind) (ap (λ es. (key_of h.node, h) ∷ es) (new-made rest (rw other at none)))
            ]
      ]

-- no record is there
pub changed-absent : (node : NodeRef) (f : HandleRecord → HandleRecord) (records : List HandleRecord) → record_of node records ≡ None → changed node f records ≡ records
changed-absent node f [] none = refl
changed-absent node f (h ∷ rest) none =
    elim (cases_Bool (same_ref h.node node)) [
      | inl same ↦ let e = rw same at none in cc
      | inr other ↦ rw other (ap (λ hs. h ∷ hs) (changed-absent node f rest (rw other at none)))
    ]

-- the record goes
gone-without : (node : NodeRef) (records : List HandleRecord) → AllPairs (λ a b. ref_before a.node b.node ≡ true) records → remove_entry (is_key node) (keyed records) ≡ keyed (without_node node records)
gone-without node [] ordered = refl
gone-without node (h ∷ rest) ordered =
    elim (cases_Bool (same_ref h.node node)) [
      | inl same ↦
          rw (is_key-same node h.node, same)
          (ap keyed (sym (filter_all (λ g. not (same_ref g.node node)) rest (λ k d lt. ap not (same_before node h.node (get_or rest k d).node same (AllPairs-head (λ a b. ref_before a.node b.node ≡ true) h rest ordered k d lt))))))
      | inr other ↦ rw (is_key-same node h.node, other) (ap (λ es. (key_of h.node, h) ∷ es) (gone-without node rest (AllPairs-tail (λ a b. ref_before a.node b.node ≡ true) h rest ordered)))
    ]

-- ---- what a map of the records has, and what is written into it
module _ (node : NodeRef) (key : ℕ × ℕ) (entries : List ((ℕ × ℕ) × HandleRecord)) (at : key ≡ key_of node) (is : IsKeyed entries) where
  pub lookup_record : lookup (is_at (key_cmp key)) entries ≡ record_of node (values_of entries)
  lookup_record =
      ap (λ (k : ℕ × ℕ). lookup (is_at (key_cmp k)) entries) at
      ∙ ap (lookup (is_key node)) is
      ∙ lookup-keyed node (values_of entries)

  module _ (f : HandleRecord → HandleRecord) (keeps : (h : HandleRecord) → (f h).node ≡ h.node) (x y : HandleRecord) (found : lookup (is_at (key_cmp key)) entries ≡ Some x) (changes : y ≡ f x) where
    pub settled_record : settled node (set_value (is_at (key_cmp key)) entries y) ≡ keyed (changed node f (values_of entries))
    settled_record =
        ap (λ (k : ℕ × ℕ). settled node (set_value (is_at (key_cmp k)) entries y)) at
        ∙ ap (λ es. settled node (set_value (is_key node) es y)) is
        ∙ ap (λ z. settled node (set_value (is_key node) (keyed (values_of entries)) z)) changes
        ∙ settled-changed node f keeps (values_of entries) x (sym lookup_record ∙ found)

    pub kept_record : is_needed y ≡ true → set_value (is_at (key_cmp key)) entries y ≡ keyed (changed node f (values_of entries))
    kept_record needed =
        ap (λ (k : ℕ × ℕ). set_value (is_at (key_cmp k)) entries y) at
        ∙ ap (λ es. set_value (is_key node) es y) is
        ∙ ap (λ z. set_value (is_key node) (keyed (values_of entries)) z) changes
        ∙ kept-changed node f keeps (values_of entries) x (sym lookup_record ∙ found) (ap is_needed (sym changes) ∙ needed)

    pub made_there : AllPairs (λ a b. ref_before a.node b.node ≡ true) (values_of entries) → set_value (is_at (key_cmp key)) entries y ≡ keyed (changed_or_made node f (values_of entries))
    made_there ordered =
        ap (λ (k : ℕ × ℕ). set_value (is_at (key_cmp k)) entries y) at
        ∙ ap (λ es. set_value (is_key node) es y) is
        ∙ ap (λ z. set_value (is_key node) (keyed (values_of entries)) z) changes
        ∙ there-made node f keeps (values_of entries) x ordered (sym lookup_record ∙ found)

  pub made_new : (f : HandleRecord → HandleRecord) → ((h : HandleRecord) → (f h).node ≡ h.node) → (y : HandleRecord) → record_of node (values_of entries) ≡ None → y ≡ f (no_record node) → insert_entry key_cmp entries key y ≡ keyed (changed_or_made node f (values_of entries))
  made_new f keeps y none made =
      ap (λ (k : ℕ × ℕ). insert_entry key_cmp entries k y) at
      ∙ ap (λ es. insert_entry key_cmp es (key_of node) y) is
      ∙ ap (λ z. insert_entry key_cmp (keyed (values_of entries)) (key_of node) z) made
      ∙ new-made node f keeps (values_of entries) none

  pub gone_record : AllPairs (λ a b. ref_before a.node b.node ≡ true) (values_of entries) → remove_entry (is_at (key_cmp key)) entries ≡ keyed (without_node node (values_of entries))
  gone_record ordered =
      ap (λ (k : ℕ × ℕ). remove_entry (is_at (key_cmp k)) entries) at
      ∙ ap (remove_entry (is_key node)) is
      ∙ gone-without node (values_of entries) ordered

  -- the record, or what stands in its place
  pub or_none_there : (x : HandleRecord) → lookup (is_at (key_cmp key)) entries ≡ Some x → record_or_none node (values_of entries) ≡ x
  or_none_there x found = ap (λ (o : Option HandleRecord). elim o [ None ↦ no_record node | Some h ↦ h ]) (sym lookup_record ∙ found)

  pub or_none_absent : lookup (is_at (key_cmp key)) entries ≡ None → record_or_none node (values_of entries) ≡ no_record node
  or_none_absent none = ap (λ (o : Option HandleRecord). elim o [ None ↦ no_record node | Some h ↦ h ]) (sym lookup_record ∙ none)

  pub unchanged_absent : (f : HandleRecord → HandleRecord) → lookup (is_at (key_cmp key)) entries ≡ None → changed node f (values_of entries) ≡ values_of entries
  unchanged_absent f none = changed-absent node f (values_of entries) (sym lookup_record ∙ none)

-- a node that is held, or has a notice queued, needs its record
pub held_needed : (number : ℕ) (h : HandleRecord) → is_needed (more_held number h) ≡ true
held_needed number h = rw (lt-ltb 0 (h.held + 1) (omega arith)) refl

pub notice_needed : (h : HandleRecord) → is_needed (noticed h) ≡ true
notice_needed h =
    elim (cases_Bool (nat_lt 0 h.held)) [
      | inl held ↦ rw held refl
      | inr free ↦ rw free (elim (cases_Bool (nat_lt 0 h.flight)) [ inl some_carry ↦ rw some_carry refl | inr none_carries ↦ rw none_carries refl ])
    ]
