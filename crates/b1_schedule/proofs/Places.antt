-- The places of a SEND: the first accepted one, the first one refused for memory, and a place more.
use Rattle.std.proofs.Common.{arith, zero, suc, ◌≡◌, refl, sym, ap, ◌∙◌, ℕ, ◌+◌, ◌<◌, ◌≤◌, Bool, true, false, cond, List, [], ◌∷◌, ◌++◌, slice_get, length, Option, Some, None}
use Rattle.b1_model.specs.declared.answers.Reason.{Reason}
use Rattle.b1_model.specs.MachineDriver.{next_accepted, accepted_from, is_place, is_memory, memory_place}

-- an accepted place bounds the first accepted one
pub accepted_below : (here : ℕ) (places : List (Option Reason)) (i : ℕ) → slice_get places i ≡ Some None → next_accepted here 0 places ≤ here + i
accepted_below here [] i is = absurd (cc is)
accepted_below here (None ∷ rest) i is = grind arith
accepted_below here (Some r ∷ rest) zero is = absurd (cc is)
accepted_below here (Some r ∷ rest) (suc i) is = omega (arith, accepted_below (here + 1) rest i is)

pub place_below : (places : List (Option Reason)) (i : ℕ) (place : Option Reason) → slice_get places i ≡ Some place → i < length places
place_below [] i place is = absurd (cc is)
place_below (x ∷ rest) zero place is = omega arith
place_below (x ∷ rest) (suc i) place is = omega (arith, place_below rest i place is)

-- where a place is accepted, the first accepted one is a place
pub some_accepted : (places : List (Option Reason)) (i : ℕ) → slice_get places i ≡ Some None → is_place (accepted_from 0 places) places ≡ true
some_accepted places i is = grind (arith, accepted_below 0 places i is, place_below places i None is)

-- an older element stays where one more is added, and the new one is the last
pub older_place : {X : Type 0} (xs : List X) (new : X) (i : ℕ) (x : X) → slice_get xs i ≡ Some x → slice_get (xs ++ new ∷ []) i ≡ Some x
older_place [] new i x is = absurd (cc is)
older_place (y ∷ rest) new zero x is = is
older_place (y ∷ rest) new (suc i) x is = older_place rest new i x is

pub last_place : {X : Type 0} (xs : List X) (new : X) → slice_get (xs ++ new ∷ []) (length xs) ≡ Some new
last_place [] new = refl
last_place (x ∷ rest) new = last_place rest new

-- the first place refused for memory: there is none, or it is one, and no earlier one is
none_at : (here : ℕ) (x : Option Reason) (rest : List (Option Reason)) (place : Option Reason) (b : Bool) → b ≡ is_memory x → cond b (Some here) (memory_place (here + 1) rest) ≡ None
    → (memory_place (here + 1) rest ≡ None → (i : ℕ) → slice_get rest i ≡ Some place → is_memory place ≡ false) → (i : ℕ) → slice_get (x ∷ rest) i ≡ Some place → is_memory place ≡ false
none_at here x rest place true same none more i is = absurd (cc none)
none_at here x rest place false same none more zero is = ap is_memory (sym (some_is is)) ∙ sym same
  where
    some_is : Some x ≡ Some place → x ≡ place
    some_is is = cc is
none_at here x rest place false same none more (suc i) is = more none i is

pub none_short : (here : ℕ) (places : List (Option Reason)) → memory_place here places ≡ None → (i : ℕ) (place : Option Reason) → slice_get places i ≡ Some place → is_memory place ≡ false
none_short here [] none i place is = absurd (cc is)
none_short here (x ∷ rest) none i place is = none_at here x rest place (is_memory x) refl none (λ later j at. none_short (here + 1) rest later j place at) i is

first_at : (here : ℕ) (x : Option Reason) (rest : List (Option Reason)) (a : ℕ) (place : Option Reason) → is_memory place ≡ true → (b : Bool) → b ≡ is_memory x → cond b (Some here) (memory_place (here + 1) rest) ≡ Some a
    → (memory_place (here + 1) rest ≡ Some a → (i : ℕ) → slice_get rest i ≡ Some place → a ≤ here + 1 + i) → (i : ℕ) → slice_get (x ∷ rest) i ≡ Some place → a ≤ here + i
first_at here x rest a place short true same first more i is = omega (arith, some_is first)
  where
    some_is : Some here ≡ Some a → here ≡ a
    some_is is = cc is
first_at here x rest a place short false same first more zero is = absurd (cc (same, is, short))
first_at here x rest a place short false same first more (suc i) is = omega (arith, more first i is)

pub first_short : (here : ℕ) (places : List (Option Reason)) (a : ℕ) → memory_place here places ≡ Some a → (i : ℕ) (place : Option Reason) → slice_get places i ≡ Some place → is_memory place ≡ true → a ≤ here + i
first_short here [] a first i place is short = absurd (cc is)
first_short here (x ∷ rest) a first i place is short = first_at here x rest a place short (is_memory x) refl first (λ later j at. first_short (here + 1) rest a later j place at short) i is
