use Rattle.std.proofs.Common.{◌≡◌, ◌≢◌, ◌==◌, ℕ, zero, suc, ◌+◌, ◌<◌, ◌≤◌, nat_lt, true, false, cond, List, [], ◌∷◌, Some, None, length, take, get_or, refl, sym, ap, ◌∙◌, arith, inl, inr}
use Rattle.std.specs.Prelude.{slice_get, filter}
use Rattle.std.specs.List.{AllWithin}
use Rattle.std.specs.List.Sorted.{IsPartitionedBy}
use Rattle.std.proofs.lemmas.Bool.{cases_Bool, cases_eq, eqb-true, eqb-false, ltb-true, ltb-false, lt-ltb, le-ltb}
use Rattle.std.proofs.lemmas.Option.{get_or_from_slice_get, slice_get_within, same_Some}
use Rattle.std.proofs.lemmas.List.Elements.{All-filter}
use Rattle.std.proofs.lemmas.List.Kept.{AllPairs-cons, AllPairs-filter}
use Rattle.b1_pool.specs.declared.slices.Slice.{Slice}
use Rattle.b1_pool.specs.Slices.{is_free, Spans, IsPool, slice_at}
use Rattle.b1_pool.specs.Places.{IsRising, NoneBegins, free_before}

pub rising-tail : (x : Slice) (xs : List Slice) → IsRising (x ∷ xs) → IsRising xs
rising-tail x xs rising i j d less within = rising (suc i) (suc j) d (omega arith) (omega arith)

pub rising-head : (x : Slice) (xs : List Slice) (i : ℕ) (s : Slice) → IsRising (x ∷ xs) → slice_get xs i ≡ Some s → x.offset < s.offset
rising-head x xs i s rising found =
    let within = slice_get_within xs i s found in
    let same = ap (λ y. y.offset) (get_or_from_slice_get xs i s s found) in
    omega (arith, same, rising 0 (suc i) s (omega arith) (omega (arith, within)))

Spans-low : (a b : ℕ) (xs : List Slice) (k : ℕ) (d : Slice) → Spans a b xs → k < length xs → a ≤ (get_or xs k d).offset
Spans-low a b [] k d spans within = absurd (omega arith)
Spans-low a b (x ∷ xs) zero d spans within = omega (arith, spans.0)
Spans-low a b (x ∷ xs) (suc k) d spans within = let rest = Spans-low (a + x.length) b xs k d spans.3 (omega arith) in omega arith

-- slices that stand one after another stand in the order of their offsets
pub rising-Spans : (a b : ℕ) (xs : List Slice) → Spans a b xs → IsRising xs
rising-Spans a b [] spans = λ i j d less within. absurd (omega arith)
rising-Spans a b (x ∷ xs) spans =
    AllPairs-cons (λ s t. s.offset < t.offset) x xs
    (λ k d within. omega (arith, spans.0, spans.1, Spans-low (a + x.length) b xs k d spans.3 within))
    (rising-Spans (a + x.length) b xs spans.3)

pub rising-IsPool : (size : ℕ) (xs : List Slice) → IsPool size xs → IsRising xs
rising-IsPool size xs pool = rising-Spans 0 size xs pool.covers

pub rising-free : (xs ys : List Slice) → ys ≡ filter is_free xs → IsRising xs → IsRising ys
rising-free xs ys listed rising = rw listed (AllPairs-filter (λ s t. s.offset < t.offset) is_free xs rising)

-- none of those that begin before an offset begins there
pub none_before : (offset n : ℕ) (xs : List Slice) → AllWithin (λ s. nat_lt s.offset offset ≡ true) xs 0 n → NoneBegins offset (take n xs)
none_before offset zero xs before = tt
none_before offset (suc n) [] before = tt
none_before offset (suc n) (x ∷ xs) before =
    (let less = ltb-true x.offset offset (before 0 x (omega arith) (omega arith)) in omega (arith, less), none_before offset n xs (λ k d low high. before (suc k) d (omega arith) (omega arith)))

-- where the first slice that doesn't begin before an offset doesn't begin there, none does
pub none_begins : (offset n : ℕ) (xs : List Slice) → IsRising xs → AllWithin (λ s. nat_lt s.offset offset ≡ true) xs 0 n → AllWithin (λ s. nat_lt s.offset offset ≡ false) xs n (length xs) → ((s : Slice) → slice_get xs n ≡ Some s → s.offset ≢ offset) → NoneBegins offset xs
none_begins offset n [] rising before after other = tt
none_begins offset zero (x ∷ xs) rising before after other = (
  other x refl,
  none_begins offset zero xs (rising-tail x xs rising) (λ k d low high. absurd (omega arith)) (λ k d low high. after (suc k) d (omega arith) (omega arith))
      (λ s found. let low = ltb-false x.offset offset (after 0 x (omega arith) (omega arith)) in omega (arith, low, rising-head x xs 0 s rising found)),
)
none_begins offset (suc n) (x ∷ xs) rising before after other = (
  let less = ltb-true x.offset offset (before 0 x (omega arith) (omega arith)) in omega (arith, less),
  none_begins offset n xs (rising-tail x xs rising)
      (λ k d low high. before (suc k) d (omega arith) (omega arith))
      (λ k d low high. after (suc k) d (omega arith) (omega arith))
      (λ s found. other s found),
)

-- how many slices at the front of a list begin before an offset
abbrev pub below : ℕ → List Slice → ℕ
below offset [] = 0
below offset (x ∷ xs) = cond (nat_lt x.offset offset) (suc (below offset xs)) 0

pub below-count : (offset n : ℕ) (xs : List Slice) → n ≤ length xs → AllWithin (λ s. nat_lt s.offset offset ≡ true) xs 0 n → AllWithin (λ s. nat_lt s.offset offset ≡ false) xs n (length xs) → n ≡ below offset xs
below-count offset zero [] within before after = refl
below-count offset (suc n) [] within before after = absurd (omega arith)
below-count offset zero (x ∷ xs) within before after = rw (after 0 x (omega arith) (omega arith)) refl
below-count offset (suc n) (x ∷ xs) within before after =
    rw (before 0 x (omega arith) (omega arith))
    (ap suc (below-count offset n xs (omega arith) (λ k d low high. before (suc k) d (omega arith) (omega arith)) (λ k d low high. after (suc k) d (omega arith) (omega arith))))

below-none : (offset : ℕ) (xs : List Slice) → ((k : ℕ) (d : Slice) → k < length xs → offset ≤ (get_or xs k d).offset) → below offset xs ≡ 0
below-none offset [] none = refl
below-none offset (x ∷ xs) none = rw (le-ltb x.offset offset (none 0 x (omega arith))) refl

none_lower : (x : Slice) (xs : List Slice) → IsRising (x ∷ xs) → (k : ℕ) (d : Slice) → k < length (x ∷ xs) → x.offset ≤ (get_or (x ∷ xs) k d).offset
none_lower x xs rising zero d within = omega arith
none_lower x xs rising (suc k) d within = omega (arith, rising 0 (suc k) d (omega arith) within)

-- as many free slices begin before a slice as stand before it
pub below-free : (xs : List Slice) (i : ℕ) (s : Slice) → IsRising xs → slice_get xs i ≡ Some s → below s.offset (filter is_free xs) ≡ free_before i xs
below-free [] i s rising found = absurd (let e : None ≡ Some s = found in cc)
below-free (x ∷ xs) zero s rising found =
    rw (← same_Some x s found) (below-none x.offset (filter is_free (x ∷ xs)) (All-filter is_free (λ y. x.offset ≤ y.offset) (x ∷ xs) (none_lower x xs rising)))
below-free (x ∷ xs) (suc i) s rising found =
    let less = lt-ltb x.offset s.offset (rising-head x xs i s rising found) in
    let rest = below-free xs i s (rising-tail x xs rising) found in
    elim (cases_Bool (is_free x)) [
      | inl free ↦ rw (free, less) (ap suc rest)
      | inr used ↦ rw used rest
    ]

-- where the count of what begins before a slice stands among the free ones
pub count-free : (xs free : List Slice) (i : ℕ) (s : Slice) (n offset : ℕ) → offset ≡ s.offset → IsRising xs → free ≡ filter is_free xs → slice_get xs i ≡ Some s → n ≤ length free → AllWithin (λ t. nat_lt t.offset offset ≡ true) free 0 n → AllWithin (λ t. nat_lt t.offset offset ≡ false) free n (length free) → n ≡ free_before i xs
count-free xs free i s n offset same rising listed found within before after =
    below-count offset n free within before after ∙ ap (below offset) listed ∙ ap (λ o. below o (filter is_free xs)) same ∙ below-free xs i s rising found

-- the place of a slice that is found
pub place-found : (offset : ℕ) (xs : List Slice) (s : Slice) → slice_at offset xs ≡ Some s → (i : ℕ) × (slice_get xs i ≡ Some s) × (s.offset ≡ offset) × NoneBegins offset (take i xs)
place-found offset [] s found = absurd (let e : None ≡ Some s = found in cc)
place-found offset (x ∷ xs) s found =
    elim (cases_Bool (x.offset == offset)) [
      | inl here ↦
          let same : x ≡ s = same_Some x s (rw here at found) in
          (0, ap (λ y. Some y) same, ap (λ y. y.offset) (sym same) ∙ eqb-true x.offset offset here, tt)
      | inr past ↦
          let rest = place-found offset xs s (rw past at found) in
          (suc rest.0, rest.1, rest.2, (eqb-false x.offset offset past, rest.3))
    ]

-- a search that halves what is left finds the place of an offset
pub searchable : (offset : ℕ) (xs : List Slice) → IsRising xs → IsPartitionedBy (λ s. nat_lt s.offset offset) xs
searchable offset xs rising i j d order within here =
    elim (cases_eq i j) [
      | inl same ↦ rw (← same) at here
      | inr apart ↦ lt-ltb (get_or xs i d).offset offset (omega (arith, ltb-true (get_or xs j d).offset offset here, rising i j d (omega arith) within))
    ]
