use Rattle.std.proofs.Common.{◌≡◌, ◌≢◌, ℕ, zero, suc, ◌+◌, ◌<◌, ◌≤◌, ◌==◌, true, false, cond, List, [], ◌∷◌, ◌++◌, Some, None, length, take, drop, get_or, refl, sym, ap, ◌∙◌, arith, append_assoc, add-one, set, ◌-◌}
use Rattle.std.specs.Prelude.{slice_get, insert}
use Rattle.std.proofs.lemmas.Bool.{ne_eqb, eq-eqb, lt-ltb, le-ltb}
use Rattle.std.proofs.lemmas.Option.{same_Some, get_or_from_slice_get, slice_get_within}
use Rattle.std.proofs.lemmas.List.{take_more, take_more_set, drop-set-lt, set_split}
use Rattle.b1_pool.specs.declared.slices.Slice.{Slice}
use Rattle.b1_pool.specs.declared.slices.SliceState.TheVariants.{Free, Unpublished}
use Rattle.b1_pool.specs.Slices.{slice_at, replaced_at, divided}
use Rattle.b1_pool.specs.Places.{NoneBegins, IsPlace}

pub NoneBegins-append : (offset : ℕ) (xs ys : List Slice) → NoneBegins offset xs → NoneBegins offset ys → NoneBegins offset (xs ++ ys)
NoneBegins-append offset [] ys a b = b
NoneBegins-append offset (x ∷ xs) ys a b = (a.0, NoneBegins-append offset xs ys a.1 b)

-- one more slice that doesn't begin there
pub NoneBegins_more : (offset : ℕ) (xs : List Slice) (i : ℕ) (d : Slice) → i < length xs → NoneBegins offset (take i xs) → (get_or xs i d).offset ≢ offset → NoneBegins offset (take (i + 1) xs)
NoneBegins_more offset xs i d within before here = rw (take_more xs i d within) (NoneBegins-append offset (take i xs) _ before (here, tt))

pub slice_at-none : (offset : ℕ) (xs : List Slice) → NoneBegins offset xs → slice_at offset xs ≡ None
slice_at-none offset [] none = refl
slice_at-none offset (x ∷ xs) none = rw (ne_eqb x.offset offset none.0) (slice_at-none offset xs none.1)

pub slice_at-append : (offset : ℕ) (xs ys : List Slice) → NoneBegins offset xs → slice_at offset (xs ++ ys) ≡ slice_at offset ys
slice_at-append offset [] ys none = refl
slice_at-append offset (x ∷ xs) ys none = rw (ne_eqb x.offset offset none.0) (slice_at-append offset xs ys none.1)

pub replaced_at-append : (offset : ℕ) (f : Slice → List Slice) (xs ys : List Slice) → NoneBegins offset xs → replaced_at offset f (xs ++ ys) ≡ xs ++ replaced_at offset f ys
replaced_at-append offset f [] ys none = refl
replaced_at-append offset f (x ∷ xs) ys none = rw (ne_eqb x.offset offset none.0) (ap (λ r. x ∷ r) (replaced_at-append offset f xs ys none.1))

-- a list is cut at the element that stands at a place
pub split_at : {X : Type 0} (xs : List X) (i : ℕ) (x : X) → slice_get xs i ≡ Some x → xs ≡ take i xs ++ x ∷ drop (suc i) xs
split_at [] i x found = cc
split_at (y ∷ ys) zero x found = ap (λ z. z ∷ ys) (same_Some y x found)
split_at (y ∷ ys) (suc i) x found = ap (λ r. y ∷ r) (split_at ys i x found)

pub slice_at-place : (offset : ℕ) (xs : List Slice) (i : ℕ) (p : IsPlace offset xs i) → slice_at offset xs ≡ Some p.slice
slice_at-place offset xs i p =
    ap (slice_at offset) (split_at xs i p.slice p.found)
    ∙ slice_at-append offset (take i xs) (p.slice ∷ drop (suc i) xs) p.first
    ∙ rw (eq-eqb p.slice.offset offset p.begins_here) refl

pub replaced_at-place : (offset : ℕ) (f : Slice → List Slice) (xs : List Slice) (i : ℕ) (p : IsPlace offset xs i) → replaced_at offset f xs ≡ take i xs ++ (f p.slice ++ drop (suc i) xs)
replaced_at-place offset f xs i p =
    ap (replaced_at offset f) (split_at xs i p.slice p.found)
    ∙ replaced_at-append offset f (take i xs) (p.slice ∷ drop (suc i) xs) p.first
    ∙ rw (eq-eqb p.slice.offset offset p.begins_here) refl

-- what a change at a place leaves where nothing begins there
pub replaced_at-none : (offset : ℕ) (f : Slice → List Slice) (xs : List Slice) → slice_at offset xs ≡ None → replaced_at offset f xs ≡ xs
replaced_at-none offset f [] none = refl
replaced_at-none offset f (x ∷ xs) none =
    (elim (x.offset == offset) as (λ b. cond b (Some x) (slice_at offset xs) ≡ None → cond b (f x ++ xs) (x ∷ replaced_at offset f xs) ≡ x ∷ xs) [
      | true ↦ λ some. absurd (let s : Some x ≡ None = some in cc)
      | false ↦ λ none'. ap (λ r. x ∷ r) (replaced_at-none offset f xs none')
    ]) none

-- what is read at a place is the slice that stands there
pub read_place : (offset : ℕ) (xs : List Slice) (i : ℕ) (p : IsPlace offset xs i) (x : Slice) → x ≡ get_or xs i x → x ≡ p.slice
read_place offset xs i p x read = read ∙ get_or_from_slice_get xs i p.slice x p.found

pub replaced_at-set : (offset : ℕ) (f : Slice → List Slice) (xs : List Slice) (i : ℕ) (p : IsPlace offset xs i) (y : Slice) → f p.slice ≡ y ∷ [] → set xs i y ≡ replaced_at offset f xs
replaced_at-set offset f xs i p y one =
    set_split xs i y (slice_get_within xs i p.slice p.found)
    ∙ sym (replaced_at-place offset f xs i p ∙ ap (λ ys. take i xs ++ (ys ++ drop (suc i) xs)) one)

pub replaced_at-insert : (offset : ℕ) (f : Slice → List Slice) (xs : List Slice) (i : ℕ) (p : IsPlace offset xs i) (y z : Slice) → f p.slice ≡ y ∷ z ∷ [] → insert (set xs i y) (i + 1) z ≡ replaced_at offset f xs
replaced_at-insert offset f xs i p y z two =
    let within : i < length xs = slice_get_within xs i p.slice p.found in
    rw (take_more_set xs i y within, drop-set-lt (i + 1) xs i y (omega arith), append_assoc (take i xs) (y ∷ []) (z ∷ drop (i + 1) xs), add-one)
    (sym (replaced_at-place offset f xs i p ∙ ap (λ ys. take i xs ++ (ys ++ drop (suc i) xs)) two))

-- the front of the slice at a place was taken, and something is left
pub divided_rest : (offset len : ℕ) (xs : List Slice) (i : ℕ) (p : IsPlace offset xs i) (s : Slice) → s ≡ p.slice → len < s.length → divided len p.slice ≡ record { offset = offset; length = len; state = Unpublished } ∷ record { offset = offset + len; length = s.length - len; state = Free } ∷ []
divided_rest offset len xs i p s same less =
    rw (← same) (rw (lt-ltb len s.length less, ap (λ t. t.offset) same ∙ p.begins_here) refl)

-- all of it was taken
pub divided_all : (offset len : ℕ) (xs : List Slice) (i : ℕ) (p : IsPlace offset xs i) (s : Slice) → s ≡ p.slice → s.length ≤ len → divided len p.slice ≡ record { offset = offset; length = len; state = Unpublished } ∷ []
divided_all offset len xs i p s same most =
    rw (← same) (rw (le-ltb len s.length most, ap (λ t. t.offset) same ∙ p.begins_here) refl)

-- a place, with the offset and the list under other names
pub place_as : {o offset : ℕ} {ys xs : List Slice} {i : ℕ} → o ≡ offset → ys ≡ xs → IsPlace o ys i → IsPlace offset xs i
place_as same_offset same_list p = rw (same_offset, same_list) at p
