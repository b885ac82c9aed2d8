use Rattle.std.proofs.Common.{◌≡◌, ◌≢◌, ℕ, zero, suc, ◌+◌, ◌-◌, ◌%◌, ◌<◌, ◌≤◌, ◌==◌, nat_lt, Bool, true, false, ◌&&◌, List, [], ◌∷◌, ◌++◌, Some, None, length, get_or, refl, sym, ap, ◌∙◌, subst, set, arith, inl, inr, add_assoc, add-one}
use Rattle.std.proofs.lemmas.Bool.{cases_Bool, cond_both, false≢true, eqb-true, eq-eqb, ne_eqb, and_parts, ltb-true, ltb-false}
use Rattle.std.proofs.lemmas.Option.{same_Some, slice_get_read}
use Rattle.b1_pool.specs.declared.slices.Slice.{Slice}
use Rattle.b1_pool.specs.declared.slices.SliceState.{SliceState}
use Rattle.b1_pool.specs.declared.slices.SliceState.TheVariants.{Free, Unpublished, Published}
use Rattle.b1_pool.specs.Slices.{is_free, Spans, starts_free, IsMerged, slice_at, begins, replaced_at, rest_of, divided, in_state, published, with_alloc, whole, joined, merged}
use Rattle.std.specs.Prelude.{slice_get, remove}
use Rattle.b1_pool.specs.Places.{total, joined_at, freed_at}
use Rattle.b1_pool.proofs.FitLemmas.{Among}

-- slices that span a range don't end before they begin
pub Spans-le : (a b : ℕ) (xs : List Slice) → Spans a b xs → a ≤ b
Spans-le a b [] spans = omega (arith, spans)
Spans-le a b (x ∷ xs) spans = let rest = Spans-le (a + x.length) b xs spans.3 in omega arith

pub Spans-append : (a b c : ℕ) (xs ys : List Slice) → Spans a b xs → Spans b c ys → Spans a c (xs ++ ys)
Spans-append a b c [] ys front back = rw front back
Spans-append a b c (x ∷ xs) ys front back = (front.0, front.1, front.2, Spans-append (a + x.length) b c xs ys front.3 back)

-- what is known of a slice that stands among those that span a range
pub record Stands (a b : ℕ) (xs : List Slice) (s : Slice) : Type 0 where
  pub found : slice_at s.offset xs ≡ Some s
  pub low : a ≤ s.offset
  pub high : s.offset + s.length ≤ b
  pub long : 8 ≤ s.length
  pub multiple : s.length % 8 ≡ 0

pub Spans-among : (a b : ℕ) (xs : List Slice) (s : Slice) → Spans a b xs → Among s xs → Stands a b xs s
Spans-among a b [] s spans among = absurd among
Spans-among a b (x ∷ xs) s spans (inl same) =
    rw (← same) (record {
      found = rw (eq-eqb x.offset x.offset refl) refl;
      low = omega (arith, spans.0);
      high = let rest = Spans-le (a + x.length) b xs spans.3 in omega (arith, spans.0);
      long = spans.1;
      multiple = spans.2;
    })
Spans-among a b (x ∷ xs) s spans (inr among) =
    let h = Spans-among (a + x.length) b xs s spans.3 among in
    let apart : x.offset ≢ s.offset = omega (arith, spans.0, spans.1, h.low) in
    record {
      found = rw (ne_eqb x.offset s.offset apart) h.found;
      low = omega (arith, h.low);
      high = h.high;
      long = h.long;
      multiple = h.multiple;
    }

-- a slice that is found is among them, and begins there
pub slice_at-among : (offset : ℕ) (xs : List Slice) (s : Slice) → slice_at offset xs ≡ Some s → Among s xs × (s.offset ≡ offset)
slice_at-among offset [] s found = absurd (let e : None ≡ Some s = found in cc)
slice_at-among offset (x ∷ xs) s found =
    elim (cases_Bool (x.offset == offset)) [
      | inl here ↦
          let same : x ≡ s = same_Some x s (rw here at found) in
          (inl same, ap (λ y. y.offset) (sym same) ∙ eqb-true x.offset offset here)
      | inr past ↦
          let h = slice_at-among offset xs s (rw past at found) in
          (inr h.0, h.1)
    ]

-- what is known of a slice that is found
pub Spans-found : (a b offset : ℕ) (xs : List Slice) (s : Slice) → Spans a b xs → slice_at offset xs ≡ Some s → Stands a b xs s × (s.offset ≡ offset)
Spans-found a b offset xs s spans found =
    let h = slice_at-among offset xs s found in
    (Spans-among a b xs s spans h.0, h.1)

-- a test that a slice passes which begins at an offset
pub begins-found : (p : Slice → Bool) (offset : ℕ) (xs : List Slice) → begins p offset xs ≡ true → (s : Slice) × (slice_at offset xs ≡ Some s) × (p s ≡ true)
begins-found p offset [] h = absurd (false≢true h)
begins-found p offset (x ∷ xs) h =
    elim (cases_Bool (x.offset == offset)) [
      | inl here ↦ (x, rw here refl, rw here at h)
      | inr past ↦ let r = begins-found p offset xs (rw past at h) in (r.0, rw past r.1, r.2)
    ]

-- a change of one slice keeps the range that they span
pub Spans-replaced_at : (a b offset : ℕ) (f : Slice → List Slice) (xs : List Slice) → ((s : Slice) → slice_at offset xs ≡ Some s → 8 ≤ s.length → s.length % 8 ≡ 0 → Spans s.offset (s.offset + s.length) (f s)) → Spans a b xs → Spans a b (replaced_at offset f xs)
Spans-replaced_at a b offset f [] keeps spans = spans
Spans-replaced_at a b offset f (x ∷ xs) keeps spans =
    elim (cases_Bool (x.offset == offset)) [
      | inl here ↦ rw here (
          let part : Spans x.offset (x.offset + x.length) (f x) = keeps x (rw here refl) spans.1 spans.2 in
          let at_start = subst (λ (o : ℕ). Spans o (o + x.length) (f x)) spans.0 part in
          Spans-append a (a + x.length) b (f x) xs at_start spans.3)
      | inr past ↦ rw past (
        spans.0,
        spans.1,
        spans.2,
        Spans-replaced_at (a + x.length) b offset f xs (λ s found. keeps s (rw past found)) spans.3,
      )
    ]

-- a change of one slice keeps the free ones apart, if it does so beside any neighbours
pub record KeepsApart (f : Slice → List Slice) (s : Slice) : Type 0 where
  pub after : (rest : List Slice) → IsMerged (s ∷ rest) → IsMerged (f s ++ rest)
  pub before : (rest : List Slice) → starts_free (f s ++ rest) ≡ true → is_free s ≡ true

starts_free-replaced_at : (offset : ℕ) (f : Slice → List Slice) (xs : List Slice) → ((s : Slice) → slice_at offset xs ≡ Some s → KeepsApart f s) → starts_free (replaced_at offset f xs) ≡ true → starts_free xs ≡ true
starts_free-replaced_at offset f [] keeps h = h
starts_free-replaced_at offset f (x ∷ xs) keeps h =
    elim (cases_Bool (x.offset == offset)) [
      | inl here ↦ (keeps x (rw here refl)).before xs (rw here at h)
      | inr past ↦ rw past at h
    ]

apart_from : (x y z : Bool) → (x && y) ≡ false → (z ≡ true → y ≡ true) → (x && z) ≡ false
apart_from false y z h k = refl
apart_from true y true h k = sym (k refl) ∙ h
apart_from true y false h k = refl

pub IsMerged-replaced_at : (offset : ℕ) (f : Slice → List Slice) (xs : List Slice) → ((s : Slice) → slice_at offset xs ≡ Some s → KeepsApart f s) → IsMerged xs → IsMerged (replaced_at offset f xs)
IsMerged-replaced_at offset f [] keeps apart = apart
IsMerged-replaced_at offset f (x ∷ xs) keeps apart =
    elim (cases_Bool (x.offset == offset)) [
      | inl here ↦ rw here ((keeps x (rw here refl)).after xs apart)
      | inr past ↦
          let deeper = λ (s : Slice) (found : slice_at offset xs ≡ Some s). keeps s (rw past found) in
          rw past (apart_from (is_free x) (starts_free xs) _ apart.0 (starts_free-replaced_at offset f xs deeper), IsMerged-replaced_at offset f xs deeper apart.1)
    ]

-- the state of a slice doesn't matter for the range that it spans
pub Spans-in_state : (state : SliceState) (s : Slice) → 8 ≤ s.length → s.length % 8 ≡ 0 → Spans s.offset (s.offset + s.length) (in_state state s)
Spans-in_state state s long multiple = (refl, long, multiple, refl)

pub Spans-divided : (len : ℕ) (s : Slice) → 8 ≤ len → len % 8 ≡ 0 → len ≤ s.length → s.length % 8 ≡ 0 → Spans s.offset (s.offset + s.length) (divided len s)
Spans-divided len s long multiple most whole_multiple =
    cond_both (nat_lt len s.length) (record { offset = s.offset + len; length = s.length - len; state = Free } ∷ []) [] (λ rest. Spans s.offset (s.offset + s.length) (record { offset = s.offset; length = len; state = Unpublished } ∷ rest))
    (λ less. let lt : len < s.length = ltb-true len s.length less in (refl, long, multiple, (refl, omega arith, omega arith, omega arith)))
    (λ all. (refl, long, multiple, omega (arith, ltb-false len s.length all)))

-- what stands behind a slice may change its state only where it was as free before
pub KeepsApart-in_state : (state : SliceState) (s : Slice) → is_free (record s { state = state }) ≡ is_free s → KeepsApart (in_state state) s
KeepsApart-in_state state s same = record {
  after = λ rest apart. (rw same apart.0, apart.1);
  before = λ rest h. sym same ∙ h;
}

pub KeepsApart-divided : (len : ℕ) (s : Slice) → is_free s ≡ true → KeepsApart (divided len) s
KeepsApart-divided len s free = record {
  after = λ rest apart.
      cond_both (nat_lt len s.length) (record { offset = s.offset + len; length = s.length - len; state = Free } ∷ []) [] (λ ys. IsMerged (record { offset = s.offset; length = len; state = Unpublished } ∷ (ys ++ rest)))
      (λ _. (refl, (rw free at apart.0, apart.1)))
      (λ _. (refl, apart.1));
  before = λ rest h. free;
}

-- joined with what isn't free beside it, a slice stays as it is
pub joined-apart : (s : Slice) (rest : List Slice) → (is_free s && starts_free rest) ≡ false → joined s rest ≡ s ∷ rest
joined-apart s [] apart = refl
joined-apart s (t ∷ rest) apart = rw apart refl

pub merged-merged : (xs : List Slice) → IsMerged xs → merged xs ≡ xs
merged-merged [] apart = refl
merged-merged (x ∷ xs) apart = ap (joined x) (merged-merged xs apart.1) ∙ joined-apart x xs apart.0

and_false : (b : Bool) → (b && false) ≡ false
and_false true = refl
and_false false = refl

IsMerged-joined : (s : Slice) (rest : List Slice) → IsMerged rest → IsMerged (joined s rest)
IsMerged-joined s [] apart = (and_false (is_free s), tt)
IsMerged-joined s (t ∷ rest) apart =
    cond_both (is_free s && is_free t) (whole s t ∷ rest) (s ∷ t ∷ rest) IsMerged
    (λ both.
    let free = and_parts (is_free s) (is_free t) both in
    (let none : starts_free rest ≡ false = rw free.1 at apart.0 in rw none (and_false (is_free s)), apart.1))
    (λ not_both. (not_both, apart))

-- once merged, no two free slices stand side by side
pub IsMerged-merged : (xs : List Slice) → IsMerged (merged xs)
IsMerged-merged [] = tt
IsMerged-merged (x ∷ xs) = IsMerged-joined x (merged xs) (IsMerged-merged xs)

Spans-joined : (a b : ℕ) (s : Slice) (rest : List Slice) → Spans a b (s ∷ rest) → Spans a b (joined s rest)
Spans-joined a b s [] spans = spans
Spans-joined a b s (t ∷ rest) spans =
    cond_both (is_free s && is_free t) (whole s t ∷ rest) (s ∷ t ∷ rest) (Spans a b)
    (λ both. (spans.0, omega (arith, spans.1), omega (arith, spans.2, spans.3.2), rw (← add_assoc a s.length t.length) spans.3.3))
    (λ not_both. spans)

-- joined slices span the same range
pub Spans-merged : (a b : ℕ) (xs : List Slice) → Spans a b xs → Spans a b (merged xs)
Spans-merged a b [] spans = spans
Spans-merged a b (x ∷ xs) spans =
    Spans-joined a b x (merged xs) (spans.0, spans.1, spans.2, Spans-merged (a + x.length) b xs spans.3)

starts_free-joined : (s : Slice) (rest : List Slice) → starts_free (joined s rest) ≡ is_free s
starts_free-joined s [] = refl
starts_free-joined s (t ∷ rest) = cond_both (is_free s && is_free t) (whole s t ∷ rest) (s ∷ t ∷ rest) (λ ys. starts_free ys ≡ is_free s) (λ _. refl) (λ _. refl)

starts_free-merged : (xs : List Slice) → starts_free (merged xs) ≡ starts_free xs
starts_free-merged [] = refl
starts_free-merged (x ∷ xs) = starts_free-joined x (merged xs)

pub joined_at-nil : (i : ℕ) → joined_at i [] ≡ []
joined_at-nil zero = refl
joined_at-nil (suc i) = refl

-- a slice that is freed at the head of the list is joined with the one behind it
pub joined_at-first : (xs : List Slice) → IsMerged xs → joined_at 0 (freed_at 0 xs) ≡ merged (freed_at 0 xs)
joined_at-first [] apart = refl
joined_at-first (s ∷ rest) apart = ap (joined (record s { state = Free })) (sym (merged-merged rest apart.1))

starts_free-freed_at : (i : ℕ) (xs : List Slice) → starts_free (freed_at (suc i) xs) ≡ starts_free xs
starts_free-freed_at i [] = refl
starts_free-freed_at i (x ∷ xs) = refl

-- a slice that is freed elsewhere is joined with the one behind it, and then with the one before it
pub joined_at-later : (i : ℕ) (xs : List Slice) → IsMerged xs → joined_at i (joined_at (suc i) (freed_at (suc i) xs)) ≡ merged (freed_at (suc i) xs)
joined_at-later i [] apart = joined_at-nil i
joined_at-later zero (x ∷ xs) apart = ap (joined x) (joined_at-first xs apart.1)
joined_at-later (suc i) (x ∷ xs) apart =
    ap (λ r. x ∷ r) (joined_at-later i xs apart.1)
    ∙ sym (joined-apart x (merged (freed_at (suc i) xs)) (rw (starts_free-merged (freed_at (suc i) xs), starts_free-freed_at i xs) apart.0))

-- two free slices that stand side by side, as one
pub joined_at-both : (xs : List Slice) (i : ℕ) (s t : Slice) → slice_get xs i ≡ Some s → slice_get xs (suc i) ≡ Some t → (is_free s && is_free t) ≡ true → remove (set xs i (whole s t)) (suc i) ≡ joined_at i xs
joined_at-both [] i s t at_i at_next both = absurd (let e : None ≡ Some s = at_i in cc)
joined_at-both (x ∷ []) zero s t at_i at_next both = absurd (let e : None ≡ Some t = at_next in cc)
joined_at-both (x ∷ y ∷ ys) zero s t at_i at_next both = rw (same_Some x s at_i, same_Some y t at_next, both) refl
joined_at-both (x ∷ xs) (suc i) s t at_i at_next both = ap (λ r. x ∷ r) (joined_at-both xs i s t at_i at_next both)

-- two slices of which one isn't free stay as they are
pub joined_at-apart : (xs : List Slice) (i : ℕ) (s t : Slice) → slice_get xs i ≡ Some s → slice_get xs (suc i) ≡ Some t → (is_free s && is_free t) ≡ false → xs ≡ joined_at i xs
joined_at-apart [] i s t at_i at_next both = absurd (let e : None ≡ Some s = at_i in cc)
joined_at-apart (x ∷ []) zero s t at_i at_next both = absurd (let e : None ≡ Some t = at_next in cc)
joined_at-apart (x ∷ y ∷ ys) zero s t at_i at_next both = rw (same_Some x s at_i, same_Some y t at_next, both) refl
joined_at-apart (x ∷ xs) (suc i) s t at_i at_next both = ap (λ r. x ∷ r) (joined_at-apart xs i s t at_i at_next both)

-- the last slice stays as it is
pub joined_at-last : (xs : List Slice) (i : ℕ) → length xs ≤ i + 1 → xs ≡ joined_at i xs
joined_at-last [] i last = sym (joined_at-nil i)
joined_at-last (x ∷ []) zero last = refl
joined_at-last (x ∷ y ∷ ys) zero last = absurd (omega arith)
joined_at-last (x ∷ xs) (suc i) last = ap (λ r. x ∷ r) (joined_at-last xs i (omega arith))

-- the lengths together
pub total-spans : (a b : ℕ) (xs : List Slice) → Spans a b xs → a + total xs ≡ b
total-spans a b [] spans = omega (arith, spans)
total-spans a b (x ∷ xs) spans = let rest = total-spans (a + x.length) b xs spans.3 in omega arith

pub total-set : (xs : List Slice) (i : ℕ) (s t : Slice) → slice_get xs i ≡ Some s → t.length ≡ s.length → total (set xs i t) ≡ total xs
total-set [] i s t at_i same = refl
total-set (x ∷ xs) zero s t at_i same = rw (same_Some x s at_i, same) refl
total-set (x ∷ xs) (suc i) s t at_i same = ap (λ n. x.length + n) (total-set xs i s t at_i same)

total-joined : (s : Slice) (rest : List Slice) → total (joined s rest) ≡ s.length + total rest
total-joined s [] = refl
total-joined s (t ∷ rest) = cond_both (is_free s && is_free t) (whole s t ∷ rest) (s ∷ t ∷ rest) (λ ys. total ys ≡ s.length + (t.length + total rest)) (λ _. add_assoc s.length t.length (total rest)) (λ _. refl)

pub total-joined_at : (i : ℕ) (xs : List Slice) → total (joined_at i xs) ≡ total xs
total-joined_at i [] = ap total (joined_at-nil i)
total-joined_at zero (x ∷ xs) = total-joined x xs
total-joined_at (suc i) (x ∷ xs) = ap (λ n. x.length + n) (total-joined_at i xs)

-- two neighbours are no longer than all slices together
pub total-two : (xs : List Slice) (i : ℕ) (s t : Slice) → slice_get xs i ≡ Some s → slice_get xs (suc i) ≡ Some t → s.length + t.length ≤ total xs
total-two [] i s t at_i at_next = absurd (let e : None ≡ Some s = at_i in cc)
total-two (x ∷ []) zero s t at_i at_next = absurd (let e : None ≡ Some t = at_next in cc)
total-two (x ∷ y ∷ ys) zero s t at_i at_next = rw (← same_Some x s at_i, ← same_Some y t at_next) (omega arith)
total-two (x ∷ xs) (suc i) s t at_i at_next = let rest = total-two xs i s t at_i at_next in omega arith

-- the slice at a place, freed
pub set-freed_at : (xs : List Slice) (i : ℕ) (s : Slice) → slice_get xs i ≡ Some s → set xs i (record s { state = Free }) ≡ freed_at i xs
set-freed_at [] i s at_i = refl
set-freed_at (x ∷ xs) zero s at_i = rw (same_Some x s at_i) refl
set-freed_at (x ∷ xs) (suc i) s at_i = ap (λ r. x ∷ r) (set-freed_at xs i s at_i)

pub length-freed_at : (i : ℕ) (xs : List Slice) → length (freed_at i xs) ≡ length xs
length-freed_at i [] = refl
length-freed_at zero (x ∷ xs) = refl
length-freed_at (suc i) (x ∷ xs) = ap suc (length-freed_at i xs)

-- the same, as a read of the list gives the two slices
pub total-both : (xs ys : List Slice) (i : ℕ) (s t : Slice) → i + 1 < length xs → s ≡ get_or xs i s → t ≡ get_or xs (i + 1) t → (is_free s && is_free t) ≡ true → ys ≡ remove (set xs i (whole s t)) (i + 1) → total ys ≡ total xs
total-both xs ys i s t within read next both is =
    let at_i = slice_get_read xs (length xs) i s refl (omega arith) read in
    let at_next = slice_get_read xs (length xs) (i + 1) t refl within next in
    ap total (is ∙ rw (add-one i) (joined_at-both xs i s t at_i (rw (add-one i) at at_next) both)) ∙ total-joined_at i xs

pub total-two_read : (xs : List Slice) (i : ℕ) (s t : Slice) → i + 1 < length xs → s ≡ get_or xs i s → t ≡ get_or xs (i + 1) t → s.length + t.length ≤ total xs
total-two_read xs i s t within read next =
    let at_next = slice_get_read xs (length xs) (i + 1) t refl within next in
    total-two xs i s t (slice_get_read xs (length xs) i s refl (omega arith) read) (rw (add-one i) at at_next)

-- a slice that is read at a place, once it is freed
pub set-freed_read : (xs : List Slice) (i : ℕ) (s : Slice) → i < length xs → s ≡ get_or xs i s → set xs i (record s { state = Free }) ≡ freed_at i xs
set-freed_read xs i s within read = set-freed_at xs i s (slice_get_read xs (length xs) i s refl within read)

pub total-freed_at : (i : ℕ) (xs : List Slice) → total (freed_at i xs) ≡ total xs
total-freed_at i [] = refl
total-freed_at zero (x ∷ xs) = refl
total-freed_at (suc i) (x ∷ xs) = ap (λ n. x.length + n) (total-freed_at i xs)

-- a slice given back: joined with the one behind it, and with the one before it
pub given_first : (xs ys zs : List Slice) (i : ℕ) → IsMerged xs → ys ≡ freed_at i xs → zs ≡ joined_at i ys → i ≡ 0 → zs ≡ merged (freed_at i xs)
given_first xs ys zs i apart freed next first =
    rw (next, freed, first) (joined_at-first xs apart)

pub given_later : (xs ys zs ws : List Slice) (i : ℕ) → IsMerged xs → ys ≡ freed_at i xs → zs ≡ joined_at i ys → 0 < i → ws ≡ joined_at (i - 1) zs → ws ≡ merged (freed_at i xs)
given_later xs ys zs ws i apart freed next later last =
    let same : i ≡ suc (i - 1) = omega arith in
    rw (last, next, freed) (subst (λ (n : ℕ). joined_at (i - 1) (joined_at n (freed_at n xs)) ≡ merged (freed_at n xs)) (sym same) (joined_at-later (i - 1) xs apart))

-- the slice that begins where another was replaced
pub slice_at-replaced_at : (offset : ℕ) (f : Slice → List Slice) (xs : List Slice) (s t : Slice) (ts : List Slice) → slice_at offset xs ≡ Some s → f s ≡ t ∷ ts → t.offset ≡ offset → slice_at offset (replaced_at offset f xs) ≡ Some t
slice_at-replaced_at offset f [] s t ts found is begun = absurd (let e : None ≡ Some s = found in cc)
slice_at-replaced_at offset f (x ∷ xs) s t ts found is begun =
    elim (cases_Bool (x.offset == offset)) [
      | inl here ↦ rw here (
          let same : x ≡ s = same_Some x s (rw here at found) in
          rw (same, is) (rw (eq-eqb t.offset offset begun) refl))
      | inr past ↦ rw (past, past) (slice_at-replaced_at offset f xs s t ts (rw past at found) is begun)
    ]

-- what was taken is an unpublished slice of the length that was asked for
pub slice_at-with_alloc : (offset len : ℕ) (xs : List Slice) (s : Slice) → slice_at offset xs ≡ Some s → slice_at offset (with_alloc offset len xs) ≡ Some (record { offset = offset; length = len; state = Unpublished })
slice_at-with_alloc offset len xs s found =
    let begun = (slice_at-among offset xs s found).1 in
    slice_at-replaced_at offset (divided len) xs s (record { offset = offset; length = len; state = Unpublished }) (rest_of len s) found
    (ap (λ o. record { offset = o; length = len; state = Unpublished } ∷ rest_of len s) begun) refl

-- what was published is the same slice, published
pub slice_at-published : (offset : ℕ) (xs : List Slice) (s : Slice) → slice_at offset xs ≡ Some s → slice_at offset (published offset xs) ≡ Some (record s { state = Published })
slice_at-published offset xs s found =
    slice_at-replaced_at offset (in_state Published) xs s (record s { state = Published }) [] found refl (slice_at-among offset xs s found).1
