-- Lists of places and of numbers are read exactly, and stand in one word.
use Rattle.std.specs.Prelude.{codes}
use Rattle.std.proofs.Common.{◌≡◌, ℕ, ◌^◌, ◌<◌, false, eqb, List, [], ◌∷◌, ◌++◌, Option, Some, None, Ok, Err, refl, sym, ap, subst, ◌∙◌, arith, inl, inr, ◌⊎◌}
use Rattle.std.specs.Fmt.{decimal}
use Rattle.std.specs.List.{flat_map, AllByRecursion}
use Rattle.b1_model.specs.declared.answers.Reason.{Reason}
use Rattle.b1_text_words.specs.Numbers.{number_text, list_text}
use Rattle.b1_report_lines.specs.declared.unread.Stop.TheVariants.{Broken}
use Rattle.b1_report_lines.specs.declared.reasons.ReasonKind.{ReasonKind}
use Rattle.b1_report_lines.specs.declared.reasons.ReasonKind.TheVariants as why
use Rattle.b1_report_lines.specs.Answers.{reason_text, place_text, places_text, Is32, Is64, HasReasonFields, HasPlaceFields}
use Rattle.b1_report_lines.specs.Reading.{◌>>=◌, Read, mapped, strip, behind, only, or_else, items, list_of, listed, known_at}
use Rattle.b1_report_lines.specs.Forms.{reason_word, reason_at, place_at, places_at, numbers_at}
use Rattle.b1_report_lines.proofs.Splitting.{IsFree, free_cons, free_append}
use Rattle.b1_report_lines.proofs.Exact.{IsExact, converted, mapped_exact, only_exact, behind_exact, strip_stable}
use Rattle.b1_report_lines.proofs.Choices.{either_exact, listed_exact, whole_list, items_exact, items_text, AreSome}
use Rattle.b1_report_lines.proofs.Choosing.{word_first, mapped_only, shut}
use Rattle.b1_report_lines.proofs.Decimals.{known_exact, decimal_free, known_free, known_apart}
use Rattle.b1_report_lines.proofs.ExactReasons.{ReasonValue, value_text, ValueFits, same, onto, reason_exact}

module _ (mark : ℕ) (low : mark < 48) (colon_apart : eqb 58 mark ≡ false) (point_apart : eqb 46 mark ≡ false) (word_free : (kind : ReasonKind) → IsFree mark (reason_word kind)) where
  two_free : (m : ℕ) (x y : List ℕ) → eqb m mark ≡ false → IsFree mark x → IsFree mark y → IsFree mark (x ++ m ∷ y)
  two_free m x y e h k = free_append mark x (m ∷ y) h (free_cons mark m y e k)

  number_free : (n : ℕ) → n < 2 ^ 64 → IsFree mark (decimal n)
  number_free n h = decimal_free mark n (inl low) h

  small_free : (n : ℕ) → n < 2 ^ 32 → IsFree mark (decimal n)
  small_free n h = number_free n (omega (arith, h))

  quota_free : (p : ℕ × (ℕ × (ℕ × ℕ))) → Is64 p.0 × (Is64 p.1.0 × (Is32 p.1.1.0 × Is32 p.1.1.1))
      → IsFree mark (decimal p.0 ++ 58 ∷ (decimal p.1.0 ++ 58 ∷ (decimal p.1.1.0 ++ 58 ∷ decimal p.1.1.1)))
  quota_free p h =
      two_free 58 (decimal p.0) (decimal p.1.0 ++ 58 ∷ (decimal p.1.1.0 ++ 58 ∷ decimal p.1.1.1)) colon_apart (number_free p.0 h.0)
      (two_free 58 (decimal p.1.0) (decimal p.1.1.0 ++ 58 ∷ decimal p.1.1.1) colon_apart (number_free p.1.0 h.1.0)
      (two_free 58 (decimal p.1.1.0) (decimal p.1.1.1) colon_apart (small_free p.1.1.0 h.1.1.0) (small_free p.1.1.1 h.1.1.1)))

  value_free : (kind : ReasonKind) (v : ReasonValue kind) → ValueFits kind v → IsFree mark (value_text kind v)
  value_free why.Unknown v h = known_free mark v (inl low) h
  value_free why.Absent v h = refl
  value_free why.Staged v h = two_free 58 (decimal v.0) (decimal v.1) colon_apart (small_free v.0 h.0) (number_free v.1 h.1)
  value_free why.Memory v h = refl
  value_free why.Invalid v h = refl
  value_free why.Full v h = two_free 58 (decimal v.0) (decimal v.1) colon_apart (small_free v.0 h.0) (small_free v.1 h.1)
  value_free why.Overflow v h = number_free v h
  value_free why.Size v h = number_free v h
  value_free why.Shutdown v h = refl
  value_free why.Gone v h = two_free 46 (decimal v.0) (decimal v.1) point_apart (small_free v.0 h.0) (small_free v.1 h.1)
  value_free why.Entries v h = quota_free v h
  value_free why.Bytes v h = quota_free v h
  value_free why.Handles v h = quota_free v h

  pub reason_free : (r : Reason) → HasReasonFields r → IsFree mark (reason_text r)
  reason_free r h =
      let o = onto r h in
      subst (λ (x : List ℕ). IsFree mark x) (same o.0 o.1 tt o.2.0.1 ∙ ap reason_text o.2.1)
      (free_append mark (reason_word o.0) (value_text o.0 o.1) (word_free o.0) (value_free o.0 o.1 o.2.0.1))

word_free_of_space : (kind : ReasonKind) → IsFree 32 (reason_word kind)
word_free_of_space why.Unknown = refl
word_free_of_space why.Absent = refl
word_free_of_space why.Staged = refl
word_free_of_space why.Memory = refl
word_free_of_space why.Invalid = refl
word_free_of_space why.Full = refl
word_free_of_space why.Overflow = refl
word_free_of_space why.Size = refl
word_free_of_space why.Shutdown = refl
word_free_of_space why.Gone = refl
word_free_of_space why.Entries = refl
word_free_of_space why.Bytes = refl
word_free_of_space why.Handles = refl

word_free_of_comma : (kind : ReasonKind) → IsFree 44 (reason_word kind)
word_free_of_comma why.Unknown = refl
word_free_of_comma why.Absent = refl
word_free_of_comma why.Staged = refl
word_free_of_comma why.Memory = refl
word_free_of_comma why.Invalid = refl
word_free_of_comma why.Full = refl
word_free_of_comma why.Overflow = refl
word_free_of_comma why.Size = refl
word_free_of_comma why.Shutdown = refl
word_free_of_comma why.Gone = refl
word_free_of_comma why.Entries = refl
word_free_of_comma why.Bytes = refl
word_free_of_comma why.Handles = refl

pub reason_free_of_space : (r : Reason) → HasReasonFields r → IsFree 32 (reason_text r)
reason_free_of_space r h = reason_free 32 (omega arith) refl refl word_free_of_space r h

-- ---- a place

-- a reason begins with its first letter
word_apart : (w : ℕ) (ws : List ℕ) → eqb 69 w ≡ false → (kind : ReasonKind) → strip (w ∷ ws) (reason_word kind) ≡ Err Broken
word_apart w ws e why.Unknown = rw e refl
word_apart w ws e why.Absent = rw e refl
word_apart w ws e why.Staged = rw e refl
word_apart w ws e why.Memory = rw e refl
word_apart w ws e why.Invalid = rw e refl
word_apart w ws e why.Full = rw e refl
word_apart w ws e why.Overflow = rw e refl
word_apart w ws e why.Size = rw e refl
word_apart w ws e why.Shutdown = rw e refl
word_apart w ws e why.Gone = rw e refl
word_apart w ws e why.Entries = rw e refl
word_apart w ws e why.Bytes = rw e refl
word_apart w ws e why.Handles = rw e refl

pub reason_apart : (w : ℕ) (ws : List ℕ) → eqb 69 w ≡ false → (r : Reason) → HasReasonFields r → strip (w ∷ ws) (reason_text r) ≡ Err Broken
reason_apart w ws e r h =
    let o = onto r h in
    subst (λ (x : List ℕ). strip (w ∷ ws) x ≡ Err Broken) (same o.0 o.1 tt o.2.0.1 ∙ ap reason_text o.2.1)
    (strip_stable (w ∷ ws) (reason_word o.0) (value_text o.0 o.1) (word_apart w ws e o.0))

abbrev IsRefused : Option Reason → Type 0
IsRefused None = ⊥
IsRefused (Some r) = HasReasonFields r

refused_onto : (o : Option Reason) → IsRefused o → (r : Reason) × HasReasonFields r × (Some r ≡ o)
refused_onto None h = absurd h
refused_onto (Some r) h = (r, h, refl)

ok_same : (o : Option Reason) → o ≡ None → codes "ok" ++ [] ≡ place_text o
ok_same o h = rw h refl

ok_apart : (o : Option Reason) → IsRefused o → behind {A = Option Reason} (codes "ok") (only None) (place_text o) ≡ Err Broken
ok_apart None h = absurd h
ok_apart (Some r) h = ap (λ (x : Read (List ℕ)). x >>= only {A = Option Reason} None) (reason_apart 111 (codes "k") refl r h)

place_there : (o : Option Reason) → (o ≡ None) ⊎ IsRefused o → HasPlaceFields o
place_there None h = tt
place_there (Some r) (inl e) = absurd cc
place_there (Some r) (inr h) = h

place_back : (o : Option Reason) → HasPlaceFields o → (o ≡ None) ⊎ IsRefused o
place_back None h = inl refl
place_back (Some r) h = inr h

pub place_exact : IsExact place_at place_text HasPlaceFields
unfolding place_at
place_exact =
    let first : IsExact (behind {A = Option Reason} (codes "ok") (only None)) place_text (λ o. o ≡ None)
    = converted (behind (codes "ok") (only None)) (λ o. codes "ok" ++ []) place_text (λ o. o ≡ None) (λ o. o ≡ None) (behind_exact (codes "ok") (only None) (λ o. []) (λ o. o ≡ None) (only_exact None)) ok_same (λ o h. h) (λ o h. h) in
    let second : IsExact (λ b. mapped (λ x. Some x) (reason_at b)) place_text IsRefused
    = mapped_exact (λ x. Some x) reason_at reason_text place_text HasReasonFields IsRefused reason_exact (λ r h. refl) (λ r h. h) refused_onto in
    converted place_at place_text place_text (λ o. (o ≡ None) ⊎ IsRefused o) HasPlaceFields
    (either_exact (behind (codes "ok") (only None)) (λ b. mapped (λ x. Some x) (reason_at b)) place_text (λ o. o ≡ None) IsRefused first second ok_apart)
    (λ o h. refl) place_there place_back

pub place_free : (o : Option Reason) → HasPlaceFields o → IsFree 44 (place_text o)
place_free None h = refl
place_free (Some r) h = reason_free 44 (omega arith) refl refl word_free_of_comma r h

pub place_apart : (o : Option Reason) → HasPlaceFields o → strip (45 ∷ []) (place_text o) ≡ Err Broken
place_apart None h = refl
place_apart (Some r) h = reason_apart 45 [] refl r h

-- ---- lists

places_same : (xs : List (Option Reason)) → AllByRecursion HasPlaceFields xs → whole_list place_at place_text HasPlaceFields place_exact place_free xs ≡ places_text xs
places_same [] h = refl
places_same (x ∷ xs) h = refl

pub places_exact : IsExact places_at places_text (AllByRecursion HasPlaceFields)
unfolding places_at
places_exact =
    converted (listed place_at) (whole_list place_at place_text HasPlaceFields place_exact place_free) places_text (AllByRecursion HasPlaceFields) (AllByRecursion HasPlaceFields)
    (listed_exact place_at place_text HasPlaceFields place_exact place_free place_apart)
    places_same (λ xs h. h) (λ xs h. h)

pub comma_free : (n : ℕ) → Is64 n → IsFree 44 (number_text n)
comma_free n h = known_free 44 n (inl (omega arith)) h

numbers_same : (xs : List ℕ) → AllByRecursion Is64 xs → whole_list known_at number_text Is64 known_exact comma_free xs ≡ list_text number_text xs
numbers_same [] h = refl
numbers_same (x ∷ xs) h = refl

pub numbers_exact : IsExact numbers_at (list_text number_text) (AllByRecursion Is64)
unfolding numbers_at
numbers_exact =
    converted (listed known_at) (whole_list known_at number_text Is64 known_exact comma_free) (list_text number_text) (AllByRecursion Is64) (AllByRecursion Is64)
    (listed_exact known_at number_text Is64 known_exact comma_free known_apart)
    numbers_same (λ xs h. h) (λ xs h. h)

more_free : (xs : List ℕ) → AllByRecursion Is64 xs → IsFree 32 (flat_map (λ y. codes "," ++ number_text y) xs)
more_free [] h = refl
more_free (x ∷ xs) h =
    free_append 32 (codes "," ++ number_text x) (flat_map (λ y. codes "," ++ number_text y) xs)
    (free_cons 32 44 (number_text x) refl (known_free 32 x (inl (omega arith)) h.0)) (more_free xs h.1)

pub numbers_free : (xs : List ℕ) → AllByRecursion Is64 xs → IsFree 32 (list_text number_text xs)
numbers_free [] h = refl
numbers_free (x ∷ xs) h = free_append 32 (number_text x) (flat_map (λ y. codes "," ++ number_text y) xs) (known_free 32 x (inl (omega arith)) h.0) (more_free xs h.1)

-- ---- what begins with a dash, or with `ok`, is nothing else

list_strip_apart : {A : Type 0} (text : A → List ℕ) (Fits : A → Type 0) → ((a : A) → Fits a → strip (45 ∷ []) (text a) ≡ Err Broken)
    → (xs : List A) → AreSome Fits xs → strip (45 ∷ []) (items_text text xs) ≡ Err Broken
list_strip_apart text Fits apart [] h = absurd h
list_strip_apart text Fits apart (x ∷ xs) h = strip_stable (45 ∷ []) (text x) (flat_map (λ y. 44 ∷ text y) xs) (apart x h.0)

dashed : {A : Type 0} (all : Read (List A)) (bytes rest : List ℕ) → strip (45 ∷ []) bytes ≡ Ok rest → all ≡ Err Broken
    → only [] rest ≡ mapped list_of (or_else (behind {A = Option (List A)} (45 ∷ []) (only None) bytes) (mapped (λ x. Some x) all))
dashed {A = A} all bytes rest h k =
    sym (ap (mapped list_of) (word_first {A = Option (List A)} (45 ∷ []) (only None) (mapped (λ x. Some x) all) bytes rest h (ap (mapped (λ x. Some x)) k)) ∙ mapped_only {A = Option (List A)} {B = List A} list_of None rest)

pub no_places : (bytes rest : List ℕ) → strip (45 ∷ []) bytes ≡ Ok rest → only [] rest ≡ places_at bytes
unfolding places_at
no_places bytes rest h =
    dashed (items place_at bytes) bytes rest h
    (shut (45 ∷ []) (items place_at) (items_text place_text) (AreSome HasPlaceFields) (items_exact place_at place_text HasPlaceFields place_exact place_free) (list_strip_apart place_text HasPlaceFields place_apart) bytes rest h)

pub no_reason : (bytes rest : List ℕ) → strip (codes "ok") bytes ≡ Ok rest → only None rest ≡ place_at bytes
unfolding place_at
no_reason bytes rest h =
    sym (word_first {A = Option Reason} (codes "ok") (only None) (mapped (λ x. Some x) (reason_at bytes)) bytes rest h
    (ap (mapped (λ x. Some x)) (shut (codes "ok") reason_at reason_text HasReasonFields reason_exact (λ r k. reason_apart 111 (codes "k") refl r k) bytes rest h)))
