-- Sums over accounts, and one user's account among accounts of distinct users.
use Rattle.std.proofs.Common.{◌≡◌, ◌≢◌, ◌==◌, ℕ, suc, zero, ◌+◌, ◌-◌, ◌<◌, ◌≤◌, Bool, true, false, not, ◌||◌, List, [], ◌∷◌, ◌++◌, length, get_or, set, take, drop, refl, ap, sym, ◌∙◌, arith, Some, None, Option, inl, inr, subst, zero-add, add-one}
use Rattle.std.specs.Prelude.{map, sum_by, All, AllPairs, position, if◌then◌else◌}
use Rattle.std.specs.List.{list_any, position_or_len}
use Rattle.std.proofs.lemmas.List.Sums.{sum_by-cons, sum_by_more_le_part, fails_before_first}
use Rattle.std.proofs.lemmas.List.{get_or-map, length-map, map-append}
use Rattle.std.proofs.lemmas.List.Quantifiers.{position-Some, all_pairs_push}
use Rattle.std.proofs.lemmas.List.Folds.{list_any_none, list_any-append}
use Rattle.std.proofs.lemmas.List.Elements.{All-nil, All-cons}
use Rattle.std.proofs.lemmas.Grind.{common_steps}
use Rattle.std.proofs.lemmas.Bool.{eq-eqb, ne_eqb, eqb-true, cases_lt, cases_eq, cases_Bool, lt-ltb}
use Rattle.b1_model.specs.declared.answers.Quantity.{Quantity}
use Rattle.b1_model.specs.declared.answers.Quantity.TheVariants.{Entries, Bytes, Handles}
use Rattle.b1_model.specs.declared.entries.Charge.{Charge}
use Rattle.b1_quota.specs.declared.accounts.Account.{Account}
use Rattle.b1_quota.specs.Accounts.{amount_in, charged_to, own, others, total, users_of, recharged, with_charge, plus, minus, nothing, cleared, has_account, with_user, IsDistinct}

-- what an index past the end reads
abbrev pub no_account : Account
no_account = record { user = 0; charge = nothing }

module _ {X : Type 0} where
  pub AllPairs-head : (R : X → X → Type 0) (x : X) (xs : List X) → AllPairs R (x ∷ xs) → All (R x) xs
  AllPairs-head R x xs h k d lt = h 0 (suc k) d (omega arith) (omega arith)

  pub AllPairs-tail : (R : X → X → Type 0) (x : X) (xs : List X) → AllPairs R (x ∷ xs) → AllPairs R xs
  AllPairs-tail R x xs h i j d lt within = h (suc i) (suc j) d (omega arith) (omega arith)

  pub sum_by-plus : (f g h : X → ℕ) → ((x : X) → f x + g x ≡ h x) → (xs : List X) → sum_by f xs + sum_by g xs ≡ sum_by h xs
  sum_by-plus f g h e [] = refl
  sum_by-plus f g h e (x ∷ xs) =
      let ih = sum_by-plus f g h e xs in omega (arith, sum_by-cons f x xs, sum_by-cons g x xs, sum_by-cons h x xs, e x)

  pub position_none : (p : X → Bool) (xs : List X) → position p xs ≡ None → list_any p xs ≡ false
  position_none p xs none =
      list_any_none p xs (λ k d lt.
      elim (cases_lt (position_or_len p xs) (length xs)) [
        | inl short ↦ let e = lt-ltb (position_or_len p xs) (length xs) short in let f = rw e at none in cc
        | inr long ↦ fails_before_first p xs k d (omega arith)
      ])

list_any-map : {X Y : Type 0} (p : Y → Bool) (f : X → Y) (xs : List X) → list_any p (map f xs) ≡ list_any (λ x. p (f x)) xs
list_any-map p f [] = refl
list_any-map p f (x ∷ xs) = ap (λ b. p (f x) || b) (list_any-map p f xs)

-- what a user is charged and what all others are, together
pub own-others : (what : Quantity) (user : ℕ) (accounts : List Account) → own what user accounts + others what user accounts ≡ total what accounts
own-others what user accounts =
    sum_by-plus _ _ _ (λ (a : Account). elim (a.user == user) as (λ b. (if b then amount_in what a.charge else 0) + (if not b then amount_in what a.charge else 0) ≡ amount_in what a.charge) [ true ↦ omega arith | false ↦ omega arith ]) accounts

pub own-le-total : (what : Quantity) (user : ℕ) (accounts : List Account) → own what user accounts ≤ total what accounts
own-le-total what user accounts = omega (arith, own-others what user accounts)

pub others-le-total : (what : Quantity) (user : ℕ) (accounts : List Account) → others what user accounts ≤ total what accounts
others-le-total what user accounts = omega (arith, own-others what user accounts)

pub amount-plus : (what : Quantity) (more charge : Charge) → amount_in what (plus more charge) ≡ amount_in what charge + amount_in what more
amount-plus Entries more charge = refl
amount-plus Bytes more charge = refl
amount-plus Handles more charge = refl

pub amount-minus : (what : Quantity) (less charge : Charge) → amount_in what (minus less charge) ≡ amount_in what charge - amount_in what less
amount-minus Entries less charge = refl
amount-minus Bytes less charge = refl
amount-minus Handles less charge = refl

pub own_more_le : (what : Quantity) (user : ℕ) (accounts : List Account) (i : ℕ) (d : Account) → i < length accounts → own what user (take i accounts) + amount_in what (get_or accounts i d).charge ≤ total what accounts
own_more_le what user accounts i d within =
    sum_by_more_le_part (λ (a : Account). if a.user == user then amount_in what a.charge else 0) (λ a. amount_in what a.charge) accounts i d within
    (λ a. elim (a.user == user) as (λ b. (if b then amount_in what a.charge else 0) ≤ amount_in what a.charge) [ true ↦ omega arith | false ↦ omega arith ])

pub others_more_le : (what : Quantity) (user : ℕ) (accounts : List Account) (i : ℕ) (d : Account) → i < length accounts → others what user (take i accounts) + amount_in what (get_or accounts i d).charge ≤ total what accounts
others_more_le what user accounts i d within =
    sum_by_more_le_part (λ (a : Account). if not (a.user == user) then amount_in what a.charge else 0) (λ a. amount_in what a.charge) accounts i d within
    (λ a. elim (a.user == user) as (λ b. (if not b then amount_in what a.charge else 0) ≤ amount_in what a.charge) [ true ↦ omega arith | false ↦ omega arith ])

pub amount-nothing : (what : Quantity) → amount_in what nothing ≡ 0
amount-nothing Entries = refl
amount-nothing Bytes = refl
amount-nothing Handles = refl

-- a list with its front changed, one place further
module _ {X : Type 0} where
  pub get_or-changed_front : (f : X → X) (xs : List X) (i : ℕ) (d : X) → i < length xs → get_or (map f (take i xs) ++ drop i xs) i d ≡ get_or xs i d
  get_or-changed_front f [] i d within = absurd (omega arith)
  get_or-changed_front f (x ∷ xs) zero d within = refl
  get_or-changed_front f (x ∷ xs) (suc i) d within = get_or-changed_front f xs i d (omega arith)

  pub set-changed_front : (f : X → X) (xs : List X) (i : ℕ) (d : X) → i < length xs → set (map f (take i xs) ++ drop i xs) i (f (get_or xs i d)) ≡ map f (take (suc i) xs) ++ drop (suc i) xs
  set-changed_front f [] i d within = absurd (omega arith)
  set-changed_front f (x ∷ xs) zero d within = refl
  set-changed_front f (x ∷ xs) (suc i) d within = ap (λ ys. f x ∷ ys) (set-changed_front f xs i d (omega arith))

-- a user among accounts of distinct users
module _ (user : ℕ) where
  pub not_there : (accounts : List Account) → All (λ u. user ≢ u) (users_of accounts) → has_account user accounts ≡ false
  not_there [] new = refl
  not_there (a ∷ rest) new =
      rw (ne_eqb a.user user (λ same. new 0 a.user (omega arith) (sym same)))
      (not_there rest (λ k d lt. new (suc k) d (omega arith)))

  no_other : (a : Account) (rest : List Account) → IsDistinct (a ∷ rest) → a.user ≡ user → has_account user rest ≡ false
  no_other a rest distinct same =
      not_there rest (λ k d lt e. AllPairs-head ◌≢◌ a.user (users_of rest) distinct k d lt (same ∙ e))

  pub with_charge-absent : (change : Charge → Charge) (accounts : List Account) → has_account user accounts ≡ false → with_charge user change accounts ≡ accounts
  with_charge-absent change [] absent = refl
  with_charge-absent change (a ∷ rest) absent =
      elim (cases_Bool (a.user == user)) [
        | inl here ↦ let e = rw here at absent in cc
        | inr other ↦ rw other (ap (λ ys. a ∷ ys) (with_charge-absent change rest (rw other at absent)))
      ]

  pub own-absent : (what : Quantity) (accounts : List Account) → has_account user accounts ≡ false → own what user accounts ≡ 0
  own-absent what [] absent = refl
  own-absent what (a ∷ rest) absent =
      elim (cases_Bool (a.user == user)) [
        | inl here ↦ let e = rw here at absent in cc
        | inr other ↦
            sum_by-cons (λ (b : Account). if b.user == user then amount_in what b.charge else 0) a rest
            ∙ rw other (zero-add _ ∙ own-absent what rest (rw other at absent))
      ]

  pub own-head : (what : Quantity) (a : Account) (rest : List Account) → IsDistinct (a ∷ rest) → (a.user == user) ≡ true → own what user (a ∷ rest) ≡ amount_in what a.charge
  own-head what a rest distinct here =
      sum_by-cons (λ (b : Account). if b.user == user then amount_in what b.charge else 0) a rest
      ∙ rw (here, own-absent what rest (no_other a rest distinct (eqb-true _ _ here))) (omega arith)

  not_head : (a : Account) (rest : List Account) (i : ℕ) (d : Account) → IsDistinct (a ∷ rest) → i < length rest → (get_or rest i d).user ≡ user → (a.user == user) ≡ false
  not_head a rest i d distinct within same =
      ne_eqb a.user user (λ e. AllPairs-head ◌≢◌ a.user (users_of rest) distinct i d.user (rw (length-map rest (λ (b : Account). b.user)) within) (e ∙ sym same ∙ sym (get_or-map (λ (b : Account). b.user) rest i d d.user within)))

  pub own-tail : (what : Quantity) (a : Account) (rest : List Account) → (a.user == user) ≡ false → own what user (a ∷ rest) ≡ own what user rest
  own-tail what a rest other =
      sum_by-cons (λ (b : Account). if b.user == user then amount_in what b.charge else 0) a rest ∙ rw other (omega arith)

  pub own_at : (what : Quantity) (accounts : List Account) (i : ℕ) (d : Account) → IsDistinct accounts → i < length accounts → (get_or accounts i d).user ≡ user → own what user accounts ≡ amount_in what (get_or accounts i d).charge
  own_at what [] i d distinct within same = absurd (omega arith)
  own_at what (a ∷ rest) zero d distinct within same = own-head what a rest distinct (eq-eqb _ _ same)
  own_at what (a ∷ rest) (suc i) d distinct within same =
      own-tail what a rest (not_head a rest i d distinct (omega arith) same)
      ∙ (own_at what rest i d (AllPairs-tail ◌≢◌ a.user (users_of rest) distinct) (omega arith) same)

  pub with_charge_at : (change : Charge → Charge) (accounts : List Account) (i : ℕ) (d : Account) → IsDistinct accounts → i < length accounts → (get_or accounts i d).user ≡ user → set accounts i (recharged change (get_or accounts i d)) ≡ with_charge user change accounts
  with_charge_at change [] i d distinct within same = absurd (omega arith)
  with_charge_at change (a ∷ rest) zero d distinct within same =
      rw (eq-eqb a.user user same) (ap (λ ys. recharged change a ∷ ys) (sym (with_charge-absent change rest (no_other a rest distinct same))))
  with_charge_at change (a ∷ rest) (suc i) d distinct within same =
      rw (not_head a rest i d distinct (omega arith) same)
      (ap (λ ys. a ∷ ys) (with_charge_at change rest i d (AllPairs-tail ◌≢◌ a.user (users_of rest) distinct) (omega arith) same))

  -- the users stay
  pub users_of-with_charge : (change : Charge → Charge) (accounts : List Account) → users_of (with_charge user change accounts) ≡ users_of accounts
  users_of-with_charge change [] = refl
  users_of-with_charge change (a ∷ rest) =
      elim (a.user == user) as (λ b. ◌≡◌ {A = List ℕ} ((if b then recharged change a else a).user ∷ users_of (with_charge user change rest)) (a.user ∷ users_of rest)) [
        | true ↦ ap (λ us. a.user ∷ us) (users_of-with_charge change rest)
        | false ↦ ap (λ us. a.user ∷ us) (users_of-with_charge change rest)
      ]

-- what the users that pass are charged, after one user's charge changed
module _ (what : Quantity) (passes : ℕ → Bool) where
  abbrev part : Account → ℕ
  part a = if passes a.user then amount_in what a.charge else 0

  part-plus : (more : Charge) (a : Account) → part (recharged (plus more) a) ≡ part a + (if passes a.user then amount_in what more else 0)
  part-plus more a =
      elim (passes a.user) as (λ b. (if b then amount_in what (plus more a.charge) else 0) ≡ (if b then amount_in what a.charge else 0) + (if b then amount_in what more else 0)) [
        | true ↦ amount-plus what more a.charge
        | false ↦ refl
      ]

  part-minus : (less : Charge) (a : Account) → amount_in what less ≤ amount_in what a.charge → part (recharged (minus less) a) + (if passes a.user then amount_in what less else 0) ≡ part a
  part-minus less a within =
      elim (passes a.user) as (λ b. (if b then amount_in what (minus less a.charge) else 0) + (if b then amount_in what less else 0) ≡ (if b then amount_in what a.charge else 0)) [
        | true ↦ omega (arith, amount-minus what less a.charge)
        | false ↦ refl
      ]

  changed_head : (user : ℕ) (change : Charge → Charge) (a : Account) (rest : List Account) → IsDistinct (a ∷ rest) → (a.user == user) ≡ true → charged_to what passes (with_charge user change (a ∷ rest)) ≡ part (recharged change a) + charged_to what passes rest
  changed_head user change a rest distinct here =
      sum_by-cons part (if a.user == user then recharged change a else a) (with_charge user change rest)
      ∙ rw (here, with_charge-absent user change rest (no_other user a rest distinct (eqb-true _ _ here))) refl

  changed_tail : (user : ℕ) (change : Charge → Charge) (a : Account) (rest : List Account) → (a.user == user) ≡ false → charged_to what passes (with_charge user change (a ∷ rest)) ≡ part a + charged_to what passes (with_charge user change rest)
  changed_tail user change a rest other =
      sum_by-cons part (if a.user == user then recharged change a else a) (with_charge user change rest) ∙ rw other refl

  pub charged_to-plus : (user : ℕ) (more : Charge) (accounts : List Account) → IsDistinct accounts → has_account user accounts ≡ true → charged_to what passes (with_charge user (plus more) accounts) ≡ charged_to what passes accounts + (if passes user then amount_in what more else 0)
  charged_to-plus user more [] distinct there = cc
  charged_to-plus user more (a ∷ rest) distinct there =
      elim (cases_Bool (a.user == user)) [
        | inl here ↦
            let more_here = ap (λ (u : ℕ). if passes u then amount_in what more else 0) (eqb-true _ _ here) in
            omega (arith, changed_head user (plus more) a rest distinct here, part-plus more a, sum_by-cons part a rest, more_here)
        | inr other ↦
            let ih = charged_to-plus user more rest (AllPairs-tail ◌≢◌ a.user (users_of rest) distinct) (rw other at there) in
            omega (arith, changed_tail user (plus more) a rest other, sum_by-cons part a rest, ih)
      ]

  pub charged_to-minus : (user : ℕ) (less : Charge) (accounts : List Account) → IsDistinct accounts → has_account user accounts ≡ true → amount_in what less ≤ own what user accounts → charged_to what passes (with_charge user (minus less) accounts) + (if passes user then amount_in what less else 0) ≡ charged_to what passes accounts
  charged_to-minus user less [] distinct there within = cc
  charged_to-minus user less (a ∷ rest) distinct there within =
      elim (cases_Bool (a.user == user)) [
        | inl here ↦
            let less_here = ap (λ (u : ℕ). if passes u then amount_in what less else 0) (eqb-true _ _ here) in
            let all : amount_in what less ≤ amount_in what a.charge = rw (own-head user what a rest distinct here) at within in
            omega (arith, changed_head user (minus less) a rest distinct here, part-minus less a all, sum_by-cons part a rest, less_here)
        | inr other ↦
            let ih = charged_to-minus user less rest (AllPairs-tail ◌≢◌ a.user (users_of rest) distinct) (rw other at there) (rw (own-tail user what a rest other) at within) in
            omega (arith, changed_tail user (minus less) a rest other, sum_by-cons part a rest, ih)
      ]

  pub charged_to-cleared : (accounts : List Account) → charged_to what passes (cleared accounts) ≡ 0
  charged_to-cleared [] = refl
  charged_to-cleared (a ∷ rest) =
      sum_by-cons part (recharged (λ c. nothing) a) (cleared rest)
      ∙ rw (charged_to-cleared rest) (elim (passes a.user) as (λ b. (if b then amount_in what nothing else 0) + 0 ≡ 0) [ true ↦ rw (amount-nothing what) refl | false ↦ refl ])

  pub charged_to-uncharged : (accounts : List Account) → cleared accounts ≡ accounts → charged_to what passes accounts ≡ 0
  charged_to-uncharged accounts uncharged = rw (← uncharged) (charged_to-cleared accounts)

-- a user who has no account gets one
pub with_user-uncharged : (user : ℕ) (accounts : List Account) → cleared accounts ≡ accounts → cleared (with_user user accounts) ≡ with_user user accounts
with_user-uncharged user accounts uncharged =
    elim (has_account user accounts) as (λ b. cleared (if b then accounts else accounts ++ record { user = user; charge = nothing } ∷ []) ≡ (if b then accounts else accounts ++ record { user = user; charge = nothing } ∷ [])) [
      | true ↦ uncharged
      | false ↦ map-append (recharged (λ c. nothing)) accounts (record { user = user; charge = nothing } ∷ []) ∙ ap (λ xs. xs ++ record { user = user; charge = nothing } ∷ []) uncharged
    ]

pub with_user-has : (user other : ℕ) (accounts : List Account) → has_account other (with_user user accounts) ≡ (has_account other accounts || (user == other))
with_user-has user other accounts =
    elim (cases_Bool (has_account user accounts)) [
      | inl here ↦ rw here (elim (cases_eq user other) [
        | inl same ↦ let there : has_account other accounts ≡ true = subst (λ (u : ℕ). has_account u accounts ≡ true) same here in rw there refl
        | inr ne ↦ rw (ne_eqb user other ne) (grind (arith, common_steps))
      ])
      | inr none ↦ rw (none, map-append (λ (a : Account). a.user) accounts (record { user = user; charge = nothing } ∷ [])) (list_any-append (λ (u : ℕ). u == other) (users_of accounts) (user ∷ []) ∙ grind (arith, common_steps))
    ]

all_others : (user : ℕ) (accounts : List Account) → has_account user accounts ≡ false → All (λ u. u ≢ user) (users_of accounts)
all_others user [] none = All-nil (λ u. u ≢ user)
all_others user (a ∷ rest) none =
    elim (cases_Bool (a.user == user)) [
      | inl here ↦ let e = rw here at none in cc
      | inr other ↦ All-cons (λ u. u ≢ user) a.user (users_of rest) (λ same. let e = eq-eqb _ _ same in cc) (all_others user rest (rw other at none))
    ]

pub with_user-distinct : (user : ℕ) (accounts : List Account) → IsDistinct accounts → IsDistinct (with_user user accounts)
with_user-distinct user accounts distinct =
    elim (cases_Bool (has_account user accounts)) [
      | inl here ↦ rw here distinct
      | inr none ↦
          rw (none, map-append (λ (a : Account). a.user) accounts (record { user = user; charge = nothing } ∷ []))
          (all_pairs_push ◌≢◌ (users_of accounts) user distinct (all_others user accounts none))
    ]

pub with_user-new : (user : ℕ) (accounts : List Account) → has_account user accounts ≡ false → accounts ++ record { user = user; charge = nothing } ∷ [] ≡ with_user user accounts
with_user-new user accounts none = rw none refl

-- a loop that clears the accounts, one place further
pub cleared_more : (accounts now : List Account) (i : ℕ) → i < length accounts → now ≡ cleared (take i accounts) ++ drop i accounts → set now i (record { user = (get_or now i no_account).user; charge = nothing }) ≡ cleared (take (i + 1) accounts) ++ drop (i + 1) accounts
cleared_more accounts now i within is =
    rw (is, get_or-changed_front (recharged (λ c. nothing)) accounts i no_account within, add-one) (set-changed_front (recharged (λ c. nothing)) accounts i no_account within)

pub users_of-cleared : (accounts : List Account) → users_of (cleared accounts) ≡ users_of accounts
users_of-cleared [] = refl
users_of-cleared (a ∷ rest) = ap (λ us. a.user ∷ us) (users_of-cleared rest)

-- by what a search for the user's account answers
pub found_in : (user : ℕ) (read accounts : List Account) (i : ℕ) (x : Account) → read ≡ accounts → ◌≡◌ {A = Option ℕ} (Some i) (position (λ a. a.user == user) read) → x ≡ get_or accounts i x → (i < length accounts) × (x.user ≡ user)
found_in user read accounts i x same found is =
    let here = position-Some (λ (a : Account). a.user == user) accounts i x (ap (position (λ (a : Account). a.user == user)) (sym same) ∙ sym found) in
    (here.0, ap (λ (a : Account). a.user) is ∙ eqb-true _ _ here.1)

module _ (user : ℕ) (accounts : List Account) (i : ℕ) (x : Account) (distinct : IsDistinct accounts) (within : i < length accounts) (is : x ≡ get_or accounts i x) (same : x.user ≡ user) where
  pub own_read : (what : Quantity) → own what user accounts ≡ amount_in what x.charge
  own_read what =
      own_at user what accounts i x distinct within (ap (λ (a : Account). a.user) (sym is) ∙ same) ∙ ap (λ (a : Account). amount_in what a.charge) (sym is)

  pub with_charge_read : (change : Charge → Charge) → set accounts i (recharged change x) ≡ with_charge user change accounts
  with_charge_read change =
      ap (λ (a : Account). set accounts i (recharged change a)) is ∙ with_charge_at user change accounts i x distinct within (ap (λ (a : Account). a.user) (sym is) ∙ same)

pub absent_in : (user : ℕ) (change : Charge → Charge) (read accounts : List Account) → read ≡ accounts → position (λ a. a.user == user) read ≡ None → accounts ≡ with_charge user change accounts
absent_in user change read accounts same none =
    sym (with_charge-absent user change accounts (list_any-map (λ (u : ℕ). u == user) (λ (a : Account). a.user) accounts ∙ position_none (λ (a : Account). a.user == user) accounts (ap (position (λ (a : Account). a.user == user)) (sym same) ∙ none)))
