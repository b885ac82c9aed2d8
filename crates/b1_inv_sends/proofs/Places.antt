-- Places of a SEND: which were accepted, and which accepted one is next.
use Rattle.std.proofs.Common.{◌≡◌, ◌⊎◌, refl, sym, ◌∙◌, inl, inr, subst, ℕ, zero, suc, ◌+◌, ◌<◌, ◌≤◌, Bool, true, false, cond, nat_le, List, [], ◌∷◌, ◌++◌, length, Option, Some, None}
use Rattle.std.proofs.lemmas.Bool.{leb-true, leb-false, lt-ltb, le-ltb}
use native.Mathlib.Omega.{arith}
use Rattle.b1_model.specs.declared.answers.Reason.{Reason}
use Rattle.b1_model.specs.MachineDriver.{next_accepted, accepted_from, is_place}
use Rattle.b1_inv.specs.Words.{is_accepted_place}

abbrev Places : Type 0
Places = List (Option Reason)

pub accepted_within : (places : Places) (i : ℕ) → is_accepted_place places i ≡ true → i < length places
accepted_within [] i is = absurd (cc is)
accepted_within (place ∷ rest) zero is = omega arith
accepted_within (place ∷ rest) (suc i) is = let within = accepted_within rest i is in omega (arith, within)

pub accepted_is_place : (places : Places) (i : ℕ) → is_accepted_place places i ≡ true → is_place i places ≡ true
accepted_is_place places i is = lt-ltb i (length places) (accepted_within places i is)

-- a new place is accepted, and says nothing of the older ones
pub accepted_new : (places : Places) → is_accepted_place (places ++ None ∷ []) (length places) ≡ true
accepted_new [] = refl
accepted_new (place ∷ rest) = accepted_new rest

pub accepted_old : (places : Places) (new : Option Reason) (i : ℕ) → is_accepted_place places i ≡ true → is_accepted_place (places ++ new ∷ []) i ≡ true
accepted_old [] new i is = absurd (cc is)
accepted_old (place ∷ rest) new zero is = is
accepted_old (place ∷ rest) new (suc i) is = accepted_old rest new i is

pub accepted_past : (places : Places) (i : ℕ) → length places ≤ i → is_accepted_place places i ≡ false
accepted_past [] i past = refl
accepted_past (place ∷ rest) zero past = absurd (omega (arith, past))
accepted_past (place ∷ rest) (suc i) past = accepted_past rest i (omega (arith, past))

-- ---- the next accepted place

-- the next accepted place is the end, or an accepted place from the given one on
abbrev Next : ℕ → ℕ → Places → ℕ → Type 0
Next here from places found = (found ≡ here + length places) ⊎ ((i : ℕ) × (found ≡ here + i) × (is_accepted_place places i ≡ true) × (from ≤ found))

next_later : (here from found : ℕ) (place : Option Reason) (rest : Places) → Next (here + 1) from rest found → Next here from (place ∷ rest) found
next_later here from found place rest (inl end) = inl (omega (arith, end))
next_later here from found place rest (inr (i, at, is, behind)) = inr (suc i, omega (arith, at), is, behind)

next_is : (here from : ℕ) (places : Places) → Next here from places (next_accepted here from places)
next_is here from [] = inl (omega arith)
next_is here from (Some r ∷ rest) = next_later here from (next_accepted (here + 1) from rest) (Some r) rest (next_is (here + 1) from rest)
next_is here from (None ∷ rest) = at_none (nat_le from here) refl (next_is (here + 1) from rest)
  where
    at_none : (b : Bool) → nat_le from here ≡ b → Next (here + 1) from rest (next_accepted (here + 1) from rest) → Next here from (None ∷ rest) (cond b here (next_accepted (here + 1) from rest))
    at_none true is further = inr (zero, omega arith, refl, leb-true from here is)
    at_none false is further = next_later here from (next_accepted (here + 1) from rest) None rest further

-- it comes before every accepted place from the given one on
next_least : (here from : ℕ) (places : Places) (i : ℕ) → is_accepted_place places i ≡ true → from ≤ here + i → next_accepted here from places ≤ here + i
next_least here from [] i is behind = absurd (cc is)
next_least here from (Some r ∷ rest) zero is behind = absurd (cc is)
next_least here from (Some r ∷ rest) (suc i) is behind = let least = next_least (here + 1) from rest i is (omega (arith, behind)) in omega (arith, least)
next_least here from (None ∷ rest) zero is behind = at_none (nat_le from here) refl
  where
    at_none : (b : Bool) → nat_le from here ≡ b → cond b here (next_accepted (here + 1) from rest) ≤ here + 0
    at_none true passes = omega arith
    at_none false fails = let after = leb-false from here fails in absurd (omega (arith, behind, after))
next_least here from (None ∷ rest) (suc i) is behind = at_none (nat_le from here) (next_least (here + 1) from rest i is (omega (arith, behind)))
  where
    at_none : (b : Bool) → next_accepted (here + 1) from rest ≤ (here + 1) + i → cond b here (next_accepted (here + 1) from rest) ≤ here + suc i
    at_none true further = omega arith
    at_none false further = omega (arith, further)

-- the same, counted from place 0: the end, or an accepted place
pub record IsNext (from : ℕ) (places : Places) (found : ℕ) : Type 0 where
  pub behind : from ≤ found
  pub accepted : is_accepted_place places found ≡ true

pub next_cases : (from : ℕ) (places : Places) → (accepted_from from places ≡ length places) ⊎ IsNext from places (accepted_from from places)
next_cases from places = elim (next_is 0 from places) [ inl end ↦ inl (omega (arith, end)) | inr (i, at, is, behind) ↦ inr (record { behind = behind; accepted = subst (λ n. is_accepted_place places n ≡ true) (placed i (next_accepted 0 from places) at) is }) ]
  where
    placed : (i found : ℕ) → found ≡ 0 + i → i ≡ found
    placed i found at = omega (arith, at)

pub next_before : (from : ℕ) (places : Places) (i : ℕ) → is_accepted_place places i ≡ true → from ≤ i → accepted_from from places ≤ i
next_before from places i is behind = let least = next_least 0 from places i is (omega (arith, behind)) in omega (arith, least)

-- where an accepted place is left, the next one is a place, and an accepted one
pub next_there : (from : ℕ) (places : Places) (i : ℕ) → is_accepted_place places i ≡ true → from ≤ i → is_accepted_place places (accepted_from from places) ≡ true
next_there from places i is behind =
    elim (next_cases from places) [
      | inl end ↦ let least = next_before from places i is behind in let within = accepted_within places i is in absurd (omega (arith, least, within, end))
      | inr k ↦ k.accepted
    ]

-- a next one that is a place is accepted; where it is none, none is left
pub next_accepted_place : (from : ℕ) (places : Places) → is_place (accepted_from from places) places ≡ true → IsNext from places (accepted_from from places)
next_accepted_place from places is = elim (next_cases from places) [ inl end ↦ absurd (cc (sym is ∙ le-ltb (accepted_from from places) (length places) (omega (arith, end)))) | inr k ↦ k ]

pub none_left : (from : ℕ) (places : Places) → is_place (accepted_from from places) places ≡ false → (i : ℕ) → is_accepted_place places i ≡ true → from ≤ i → ⊥
none_left from places none i is behind = cc (sym none ∙ accepted_is_place places (accepted_from from places) (next_there from places i is behind))

pub next_or_end : (from : ℕ) (places : Places) → (is_accepted_place places (accepted_from from places) ≡ true) ⊎ (length places ≤ accepted_from from places)
next_or_end from places = elim (next_cases from places) [ inl end ↦ inr (omega (arith, end)) | inr k ↦ inl k.accepted ]
