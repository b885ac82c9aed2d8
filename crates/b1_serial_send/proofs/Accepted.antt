-- The accepted places of a SEND, from one on.
use Rattle.std.proofs.Common.{◌≡◌, refl, sym, ap, ◌∙◌, ℕ, zero, suc, ◌+◌, ◌<◌, ◌≤◌, true, false, cond, nat_lt, nat_le, List, [], ◌∷◌, ◌++◌, length, set, get_or, Option, Some, None, arith, subst}
use Rattle.std.specs.Prelude.{slice_get}
use Rattle.std.proofs.lemmas.Bool.{ltb-true, lt-ltb, le-leb, leb-true, false_from_ne_true}
use Rattle.std.proofs.lemmas.List.{append_assoc, append-nil, length-append}
use Rattle.std.proofs.lemmas.Option.{slice_get-get_or}
use Rattle.b1_model.specs.declared.naming.NodeRef.{NodeRef}
use Rattle.b1_model.specs.declared.answers.Reason.{Reason}
use Rattle.b1_model.specs.MachineDriver.{no_ref, next_accepted, accepted_from, is_place}
use Rattle.b1_serial_bus.specs.Letters.{Places}

pub not_below : (a b : ℕ) → b ≤ a → nat_lt a b ≡ false
not_below a b le = false_from_ne_true (nat_lt a b) (λ less. let l = ltb-true a b less in absurd (omega (arith, l, le)))

not_le : (a b : ℕ) → b < a → nat_le a b ≡ false
not_le a b less = false_from_ne_true (nat_le a b) (λ is. let l = leb-true a b is in absurd (omega (arith, l, less)))

-- earlier places aren't looked at
past : (before rest : Places) (here : ℕ) → next_accepted here (here + length before) (before ++ rest) ≡ next_accepted (here + length before) (here + length before) rest
past [] rest here = ap (λ k. next_accepted k (here + 0) rest) (omega arith)
past (None ∷ before) rest here =
    ap (λ b. cond b here (next_accepted (here + 1) (here + suc (length before)) (before ++ rest))) (not_le (here + suc (length before)) here (omega arith))
    ∙ ap (λ k. next_accepted (here + 1) k (before ++ rest)) (omega arith)
    ∙ past before rest (here + 1)
    ∙ ap (λ k. next_accepted k k rest) (omega arith)
past (Some r ∷ before) rest here =
    ap (λ k. next_accepted (here + 1) k (before ++ rest)) (omega arith)
    ∙ past before rest (here + 1)
    ∙ ap (λ k. next_accepted k k rest) (omega arith)

past_all : (before rest : Places) → accepted_from (length before) (before ++ rest) ≡ next_accepted (length before) (length before) rest
past_all before rest =
    let z : 0 + length before ≡ length before = omega arith in
    ap (λ k. next_accepted 0 k (before ++ rest)) (sym z) ∙ past before rest 0 ∙ ap (λ k. next_accepted k k rest) z

-- how low one begins doesn't matter
low : (rest : Places) (here from other : ℕ) → from ≤ here → other ≤ here → next_accepted here from rest ≡ next_accepted here other rest
low [] here from other one two = refl
low (None ∷ rest) here from other one two =
    ap (λ b. cond b here (next_accepted (here + 1) from rest)) (le-leb from here one)
    ∙ sym (ap (λ b. cond b here (next_accepted (here + 1) other rest)) (le-leb other here two))
low (Some r ∷ rest) here from other one two = low rest (here + 1) from other (omega (arith, one)) (omega (arith, two))

-- the next place accepted
accepted_here : (before rest : Places) → accepted_from (length before) (before ++ None ∷ rest) ≡ length before
accepted_here before rest = past_all before (None ∷ rest) ∙ ap (λ b. cond b (length before) (next_accepted (length before + 1) (length before) rest)) (le-leb (length before) (length before) (omega arith))

-- the next place refused
refused_here : (before rest : Places) (r : Reason) → accepted_from (length before) (before ++ Some r ∷ rest) ≡ accepted_from (length before + 1) (before ++ Some r ∷ rest)
refused_here before rest r =
    past_all before (Some r ∷ rest)
    ∙ low rest (length before + 1) (length before) (length before + 1) (omega arith) (omega arith)
    ∙ sym (next (Some r) before rest)
  where
    next : (a : Option Reason) (before rest : Places) → accepted_from (length before + 1) (before ++ a ∷ rest) ≡ next_accepted (length before + 1) (length before + 1) rest
    next a before rest =
        let len : length (before ++ a ∷ []) ≡ length before + 1 = length-append before (a ∷ []) in
        ap (λ zs. accepted_from (length before + 1) zs) (sym (append_assoc before (a ∷ []) rest))
        ∙ ap (λ k. accepted_from k ((before ++ a ∷ []) ++ rest)) (sym len)
        ∙ past_all (before ++ a ∷ []) rest
        ∙ ap (λ k. next_accepted k k rest) len

-- no place is left
pub none_left : (places : Places) → is_place (accepted_from (length places) places) places ≡ false
none_left places = not_below (accepted_from (length places) places) (length places) (let e = ap (accepted_from (length places)) (sym (append-nil places)) ∙ past_all places [] in omega (arith, e))

place_here : (before rest : Places) (a : Option Reason) → is_place (length before) (before ++ a ∷ rest) ≡ true
place_here before rest a = lt-ltb (length before) (length (before ++ a ∷ rest)) (let e = length-append before (a ∷ rest) in omega (arith, e))

-- ---- places of a list of answers

module _ (answers before rest : Places) where
  -- a place has its destination
  pub place_to : (tos : List NodeRef) (a : Option Reason) → length answers ≤ length tos → answers ≡ before ++ a ∷ rest → (to : NodeRef) × (slice_get tos (length before) ≡ Some to)
  place_to tos a fits all = (get_or tos (length before) no_ref, slice_get-get_or tos (length before) no_ref (let one = ap length all in let two = length-append before (a ∷ rest) in omega (arith, one, two, fits)))

  -- behind a refused place, and at an accepted one
  pub refused_from : (r : Reason) → answers ≡ before ++ Some r ∷ rest → accepted_from (length (before ++ Some r ∷ [])) answers ≡ accepted_from (length before) answers
  refused_from r all =
      ap (λ k. accepted_from k answers) (length-append before (Some r ∷ []))
      ∙ ap (accepted_from (length before + 1)) all ∙ sym (refused_here before rest r) ∙ ap (accepted_from (length before)) (sym all)

  pub accepted_at : answers ≡ before ++ None ∷ rest → accepted_from (length before) answers ≡ length before
  accepted_at all = ap (accepted_from (length before)) all ∙ accepted_here before rest

  pub is_place_at : answers ≡ before ++ None ∷ rest → is_place (length before) answers ≡ true
  is_place_at all = ap (is_place (length before)) all ∙ place_here before rest None

-- from the last place back to the first one
pub places_back : (answers : Places) (At : Places → Type 0)
    → ((before rest : Places) (r : Reason) → answers ≡ before ++ Some r ∷ rest → At (before ++ Some r ∷ []) → At before)
    → ((before rest : Places) → answers ≡ before ++ None ∷ rest → At (before ++ None ∷ []) → At before)
    → At answers → (rest before : Places) → answers ≡ before ++ rest → At before
places_back answers At refused accepted last [] before all = subst At (all ∙ append-nil before) last
places_back answers At refused accepted last (Some r ∷ rest) before all = refused before rest r all (places_back answers At refused accepted last rest (before ++ Some r ∷ []) (all ∙ sym (append_assoc before (Some r ∷ []) rest)))
places_back answers At refused accepted last (None ∷ rest) before all = accepted before rest all (places_back answers At refused accepted last rest (before ++ None ∷ []) (all ∙ sym (append_assoc before (None ∷ []) rest)))

-- ---- lists changed at a place

module _ {X : Type 0} where
  pub set_middle : (xs : List X) (x y : X) (ys : List X) → set (xs ++ x ∷ ys) (length xs) y ≡ xs ++ y ∷ ys
  set_middle [] x y ys = refl
  set_middle (z ∷ zs) x y ys = ap (λ ws. z ∷ ws) (set_middle zs x y ys)

  pub set_itself : (xs : List X) (i : ℕ) (d : X) → set xs i (get_or xs i d) ≡ xs
  set_itself [] i d = refl
  set_itself (x ∷ xs) zero d = refl
  set_itself (x ∷ xs) (suc i) d = ap (λ ys. x ∷ ys) (set_itself xs i d)
