-- The names under the numbers, where the first ones have ended.
use Rattle.std.proofs.Common.{◌≡◌, ◌≢◌, ℕ, suc, zero, ◌+◌, ◌-◌, ◌<◌, ◌≤◌, List, [], ◌∷◌, ◌++◌, length, get_or, set, replicate, refl, ap, sym, ◌∙◌, arith, inl, inr, Option, None}
use Rattle.std.proofs.Math.Seq.{get_or-append_seam}
use Rattle.std.proofs.lemmas.List.{get_or-append_right, get_or-replicate, get_or_append_left, length-append, length-replicate, set-append_right}
use Rattle.std.proofs.lemmas.Bool.{cases_lt}
use Rattle.b1_model.specs.declared.naming.NodeRef.{NodeRef}
use Rattle.b1_handles.specs.Numbers.{name_at, names_of}

-- the first of the kept names
names_next : (ended : ℕ) (kept : List (Option NodeRef)) → names_of ended (None ∷ kept) ≡ names_of (suc ended) kept
names_next zero kept = refl
names_next (suc ended) kept = ap (λ (ns : List (Option NodeRef)). None ∷ ns) (names_next ended kept)

pub trim_names : (ended : ℕ) (old new : List (Option NodeRef)) → old ≡ None ∷ new → names_of (ended + 1) new ≡ names_of ended old
trim_names ended old new is =
    let next : ended + 1 ≡ suc ended = omega arith in
    ap (λ (n : ℕ). names_of n new) next ∙ sym (names_next ended new) ∙ ap (names_of ended) (sym is)

module _ (ended : ℕ) (kept : List (Option NodeRef)) where
  pub name_ended : (k : ℕ) → k < ended → name_at (names_of ended kept) k ≡ None
  name_ended k low =
      get_or_append_left (replicate ended None) kept None k (omega (arith, length-replicate {A = Option NodeRef} ended None))
      ∙ get_or-replicate ended k None None low

  pub name_kept : (k : ℕ) → ended ≤ k → name_at (names_of ended kept) k ≡ get_or kept (k - ended) None
  name_kept k high = get_or-append_right (replicate ended None) kept ended k None (length-replicate {A = Option NodeRef} ended None) high

  pub length-names : length (names_of ended kept) ≡ ended + length kept
  length-names = omega (arith, length-append (replicate {A = Option NodeRef} ended None) kept, length-replicate {A = Option NodeRef} ended None)

  pub end_kept : (k : ℕ) → ended ≤ k → set (names_of ended kept) k None ≡ names_of ended (set kept (k - ended) None)
  end_kept k high = set-append_right (replicate ended None) kept ended k None (length-replicate {A = Option NodeRef} ended None) high

-- what has ended
pub end_ended : (ended : ℕ) (kept : List (Option NodeRef)) (k : ℕ) → k < ended → set (names_of ended kept) k None ≡ names_of ended kept
end_ended zero kept k low = absurd (omega arith)
end_ended (suc ended) kept zero low = refl
end_ended (suc ended) kept (suc k) low = ap (λ (ns : List (Option NodeRef)). None ∷ ns) (end_ended ended kept k (omega arith))

pub give_name : (ended : ℕ) (kept : List (Option NodeRef)) (name : Option NodeRef) → names_of ended (kept ++ name ∷ []) ≡ names_of ended kept ++ name ∷ []
give_name zero kept name = refl
give_name (suc ended) kept name = ap (λ (ns : List (Option NodeRef)). None ∷ ns) (give_name ended kept name)

-- the first name that is kept
pub first_name : (ended : ℕ) (kept : List (Option NodeRef)) (name : Option NodeRef) → name_at (names_of ended (name ∷ kept)) ended ≡ name
first_name ended kept name =
    let zero_is : ended - ended ≡ 0 = omega arith in
    name_kept ended (name ∷ kept) ended (omega arith) ∙ ap (λ (n : ℕ). get_or (name ∷ kept) n None) zero_is

set_first : (ended : ℕ) (kept : List (Option NodeRef)) (name : Option NodeRef) → names_of (suc ended) kept ≡ set (names_of ended (name ∷ kept)) ended None
set_first zero kept name = refl
set_first (suc ended) kept name = ap (λ (ns : List (Option NodeRef)). None ∷ ns) (set_first ended kept name)

pub end_first_name : (ended : ℕ) (kept : List (Option NodeRef)) (name : Option NodeRef) → names_of (ended + 1) kept ≡ set (names_of ended (name ∷ kept)) ended None
end_first_name ended kept name =
    let next : ended + 1 ≡ suc ended = omega arith in
    ap (λ (n : ℕ). names_of n kept) next ∙ set_first ended kept name

pub all_ended : (ended k : ℕ) → name_at (names_of ended []) k ≡ None
all_ended ended k =
    elim (cases_lt k ended) [
      | inl low ↦ name_ended ended [] k low
      | inr high ↦ name_kept ended [] k (omega arith)
    ]

-- one name more, and one that ended
pub name_given : (names : List (Option NodeRef)) (name : Option NodeRef) → name_at (names ++ name ∷ []) (length names) ≡ name
name_given names name = get_or-append_seam names name [] None

pub name_given_other : (names : List (Option NodeRef)) (name : Option NodeRef) (k : ℕ) → k ≢ length names → name_at (names ++ name ∷ []) k ≡ name_at names k
name_given_other [] name zero other = absurd (other refl)
name_given_other [] name (suc k) other = refl
name_given_other (n ∷ ns) name zero other = refl
name_given_other (n ∷ ns) name (suc k) other = name_given_other ns name k (λ same. other (omega (arith, same)))

pub name_set : (names : List (Option NodeRef)) (k : ℕ) → name_at (set names k None) k ≡ None
name_set [] k = refl
name_set (n ∷ ns) zero = refl
name_set (n ∷ ns) (suc k) = name_set ns k

pub name_none_beyond : (names : List (Option NodeRef)) (k : ℕ) → length names ≤ k → name_at names k ≡ None
name_none_beyond [] k high = refl
name_none_beyond (n ∷ ns) zero high = absurd (omega arith)
name_none_beyond (n ∷ ns) (suc k) high = name_none_beyond ns k (omega arith)
