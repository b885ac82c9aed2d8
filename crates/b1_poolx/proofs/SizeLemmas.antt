use Rattle.std.proofs.Common.{◌≡◌, ℕ, zero, suc, ◌+◌, ◌*◌, ◌^◌, ◌<◌, ◌≤◌, nat_lt, true, false, List, [], ◌∷◌, length, take, drop, get_or, refl, ap, ◌∙◌, arith, inl, inr}
use Rattle.std.specs.Prelude.{slice_get, insert, remove}
use Rattle.std.proofs.lemmas.Bool.{cases_Bool, cond_both, lt-ltb, le-ltb, ltb-true, ltb-false, lt-leb, le-leb}
use Rattle.std.proofs.lemmas.Grind.{pow_more}
use Rattle.std.proofs.Math.Nat.{mul-le-mul_left}
use Rattle.b1_pool.specs.declared.slices.Slice.{Slice}
use Rattle.b1_pool.specs.Slices.{is_free, is_before}
use Rattle.b1_pool.proofs.FitLemmas.{before-true, before-false, true-before, false-before, not_before_trans}
use Rattle.b1_poolx.specs.Sizes.{placed, without, by_size, NoneBefore, AllBefore, IsBySize, first_long, AllShorter, NoneShorter}

-- a slice isn't before itself
pub before_irrefl : (s : Slice) → is_before s s ≡ false
before_irrefl s = false-before s.length s.offset s.length s.offset (inr (refl, omega arith))

-- a slice that isn't after one that is before another is before that other
pub not_after_before : (x v s : Slice) → is_before v x ≡ false → is_before v s ≡ true → is_before x s ≡ true
not_after_before x v s a b =
    true-before x.length x.offset s.length s.offset
    (grind (arith, before-false v.length v.offset x.length x.offset a, before-true v.length v.offset s.length s.offset b))

pub not_after_lengths : (x v : Slice) → is_before v x ≡ false → x.length ≤ v.length
not_after_lengths x v a = grind (arith, before-false v.length v.offset x.length x.offset a)

NoneBefore-get : (x : Slice) (xs : List Slice) (i : ℕ) (d : Slice) → NoneBefore x xs → i < length xs → is_before (get_or xs i d) x ≡ false
NoneBefore-get x [] i d none within = absurd (omega arith)
NoneBefore-get x (y ∷ ys) zero d none within = none.0
NoneBefore-get x (y ∷ ys) (suc i) d none within = NoneBefore-get x ys i d none.1 (omega arith)

pub NoneBefore-trans : (s x : Slice) (xs : List Slice) → is_before x s ≡ false → NoneBefore x xs → NoneBefore s xs
NoneBefore-trans s x [] first none = tt
NoneBefore-trans s x (y ∷ ys) first none = (not_before_trans y.length y.offset x.length x.offset s.length s.offset none.0 first, NoneBefore-trans s x ys first none.1)

-- where one slice comes before another, so do all up to it
pub AllBefore-take : (s : Slice) (xs : List Slice) (i : ℕ) (d : Slice) → IsBySize xs → i < length xs → is_before (get_or xs i d) s ≡ true → AllBefore s (take (suc i) xs)
AllBefore-take s [] i d ordered within here = absurd (omega arith)
AllBefore-take s (x ∷ xs) zero d ordered within here = (here, tt)
AllBefore-take s (x ∷ xs) (suc i) d ordered within here =
    let lt : i < length xs = omega arith in
    (not_after_before x (get_or xs i d) s (NoneBefore-get x xs i d ordered.0 lt) here, AllBefore-take s xs i d ordered.1 lt here)

-- where one slice doesn't come before another, neither do those behind it
pub NoneBefore-drop : (s : Slice) (xs : List Slice) (i : ℕ) (d : Slice) → IsBySize xs → i < length xs → is_before (get_or xs i d) s ≡ false → NoneBefore s (drop i xs)
NoneBefore-drop s [] i d ordered within here = absurd (omega arith)
NoneBefore-drop s (x ∷ xs) zero d ordered within here = (here, NoneBefore-trans s x xs here ordered.0)
NoneBefore-drop s (x ∷ xs) (suc i) d ordered within here = NoneBefore-drop s xs i d ordered.1 (omega arith) here

-- where one slice is shorter, so are all up to it
pub AllShorter-take : (len : ℕ) (xs : List Slice) (i : ℕ) (d : Slice) → IsBySize xs → i < length xs → nat_lt (get_or xs i d).length len ≡ true → AllShorter len (take (suc i) xs)
AllShorter-take len [] i d ordered within here = absurd (omega arith)
AllShorter-take len (x ∷ xs) zero d ordered within here = (here, tt)
AllShorter-take len (x ∷ xs) (suc i) d ordered within here =
    let lt : i < length xs = omega arith in
    let most = not_after_lengths x (get_or xs i d) (NoneBefore-get x xs i d ordered.0 lt) in
    (lt-ltb x.length len (omega (arith, most, ltb-true (get_or xs i d).length len here)), AllShorter-take len xs i d ordered.1 lt here)

NoneShorter-behind : (len : ℕ) (x : Slice) (xs : List Slice) → NoneBefore x xs → len ≤ x.length → NoneShorter len xs
NoneShorter-behind len x [] none most = tt
NoneShorter-behind len x (y ∷ ys) none most = (le-ltb y.length len (omega (arith, not_after_lengths x y none.0)), NoneShorter-behind len x ys none.1 most)

-- where one slice isn't shorter, neither are those behind it
pub NoneShorter-drop : (len : ℕ) (xs : List Slice) (i : ℕ) (d : Slice) → IsBySize xs → i < length xs → nat_lt (get_or xs i d).length len ≡ false → NoneShorter len (drop i xs)
NoneShorter-drop len [] i d ordered within here = absurd (omega arith)
NoneShorter-drop len (x ∷ xs) zero d ordered within here = (here, NoneShorter-behind len x xs ordered.0 (ltb-false x.length len here))
NoneShorter-drop len (x ∷ xs) (suc i) d ordered within here = NoneShorter-drop len xs i d ordered.1 (omega arith) here

-- a search that halves what is left stays within its bound
pub halved : (c n m w v : ℕ) → n ≡ c + 1 → 0 < w → 2 * v ≤ w → 2 ^ c * w ≤ m → (2 ^ n * v ≤ m) × (2 ^ n ≤ 2 * m + 1)
halved c n m w v next some half bound =
    let p : ℕ = 2 ^ c in
    let power : 2 ^ n ≡ p * 2 = ap (λ k. 2 ^ k) next ∙ pow_more 2 c in
    let less : p * (2 * v) ≤ p * w = mul-le-mul_left p half in
    let one : p * 1 ≤ p * w = mul-le-mul_left p some in
    rw power (omega (arith, less, bound), omega (arith, one, bound))

-- the first slice that is long enough stands behind the shorter ones
pub first_long-place : (len : ℕ) (xs : List Slice) (i : ℕ) → AllShorter len (take i xs) → NoneShorter len (drop i xs) → first_long len xs ≡ slice_get xs i
first_long-place len [] i below above = refl
first_long-place len (x ∷ xs) zero below above = rw (le-leb len x.length (ltb-false x.length len above.0)) refl
first_long-place len (x ∷ xs) (suc i) below above =
    rw (lt-leb len x.length (ltb-true x.length len below.0)) (first_long-place len xs i below.1 above)

-- a slice is put between those before it and the others
pub insert-placed : (s : Slice) (xs : List Slice) (i : ℕ) → AllBefore s (take i xs) → NoneBefore s (drop i xs) → i ≤ length xs → insert xs i s ≡ placed s xs
insert-placed s [] zero below above within = refl
insert-placed s [] (suc i) below above within = absurd (omega arith)
insert-placed s (x ∷ xs) zero below above within = rw above.0 refl
insert-placed s (x ∷ xs) (suc i) below above within =
    rw below.0 (ap (λ r. x ∷ r) (insert-placed s xs i below.1 above (omega arith)))

same_rest : (x y : Slice) (xs ys : List Slice) → x ∷ xs ≡ y ∷ ys → xs ≡ ys
same_rest x y xs ys same = cc

-- a slice that stands in its place is taken out there
pub remove-without : (s : Slice) (xs : List Slice) (i : ℕ) → AllBefore s (take i xs) → NoneBefore s (drop i xs) → xs ≡ placed s (without s xs) → (i < length xs) × (remove xs i ≡ without s xs)
remove-without s [] i below above stands = absurd (let e : [] ≡ s ∷ [] = stands in cc)
remove-without s (x ∷ xs) zero below above stands = (omega arith, rw above.0 refl)
remove-without s (x ∷ xs) (suc i) below above stands =
    let stands' : x ∷ xs ≡ placed s (x ∷ without s xs) = rw below.0 at stands in
    let stands_so : x ∷ xs ≡ x ∷ placed s (without s xs) = rw below.0 at stands' in
    let rest = remove-without s xs i below.1 above (same_rest x x xs (placed s (without s xs)) stands_so) in
    (omega (arith, rest.0), rw below.0 (ap (λ r. x ∷ r) rest.1))

pub without-placed : (s : Slice) (xs : List Slice) → without s (placed s xs) ≡ xs
without-placed s [] = rw (before_irrefl s) refl
without-placed s (x ∷ xs) =
    elim (cases_Bool (is_before x s)) [
      | inl first ↦ rw first (rw first (ap (λ r. x ∷ r) (without-placed s xs)))
      | inr after ↦ rw after (rw (before_irrefl s) refl)
    ]

NoneBefore-placed : (x s : Slice) (xs : List Slice) → is_before s x ≡ false → NoneBefore x xs → NoneBefore x (placed s xs)
NoneBefore-placed x s [] first none = (first, tt)
NoneBefore-placed x s (y ∷ ys) first none =
    cond_both (is_before y s) (y ∷ placed s ys) (s ∷ y ∷ ys) (NoneBefore x)
    (λ _. (none.0, NoneBefore-placed x s ys first none.1))
    (λ _. (first, none))

pub before_asym : (x s : Slice) → is_before x s ≡ true → is_before s x ≡ false
before_asym x s h = false-before s.length s.offset x.length x.offset (grind (arith, before-true x.length x.offset s.length s.offset h))

-- a slice that is put in its place leaves the list ordered
pub IsBySize-placed : (s : Slice) (xs : List Slice) → IsBySize xs → IsBySize (placed s xs)
IsBySize-placed s [] ordered = (tt, tt)
IsBySize-placed s (x ∷ xs) ordered =
    cond_both (is_before x s) (x ∷ placed s xs) (s ∷ x ∷ xs) IsBySize
    (λ first. (NoneBefore-placed x s xs (before_asym x s first) ordered.0, IsBySize-placed s xs ordered.1))
    (λ after. ((after, NoneBefore-trans s x xs after ordered.0), ordered))

pub IsBySize-by_size : (xs : List Slice) → IsBySize (by_size xs)
IsBySize-by_size [] = tt
IsBySize-by_size (x ∷ xs) =
    cond_both (is_free x) (placed x (by_size xs)) (by_size xs) IsBySize
    (λ _. IsBySize-placed x (by_size xs) (IsBySize-by_size xs))
    (λ _. IsBySize-by_size xs)
