-- The stamped calls of events: what the first event makes of them, and what each of them is.
use Rattle.std.proofs.Common.{◌≡◌, ◌≢◌, ◌⊎◌, refl, sym, ap, subst, ◌∙◌, inl, inr, ℕ, ◌+◌, ◌<◌, ◌==◌, Bool, true, false, cond, not, ◌||◌, List, [], ◌∷◌, Option, Some, None}
use Rattle.std.specs.List.{list_any}
use Rattle.std.proofs.lemmas.Bool.{eqb-true, eqb-false}
use native.Mathlib.Omega.{arith}
use Rattle.b1_model.specs.MachineOrder.{Event, is_begin, is_staging, stamp_given, StampedCall, stamped_call, with_call, stamped_calls, shares_party}
use Rattle.b1_step.specs.Rights.{Has}

-- the parties so far, with the peer where an event staged something
abbrev pub parties_with : Event → List ℕ → List ℕ
parties_with e parties = cond (is_staging e.outcome) (e.at ∷ parties) parties

-- a call that has its stamp
abbrev pub with_stamp : ℕ → ℕ → ℕ → List ℕ → StampedCall
with_stamp began origin stamp parties = record { began = began; origin = origin; stamp = stamp; parties = parties }

-- the first event is another driver's, or gives the call its stamp, or the call goes on
abbrev pub NextCall : ℕ → ℕ → List ℕ → Event → List Event → StampedCall → Type 0
NextCall began origin parties e rest m =
    ((e.driver ≢ origin) × (stamped_call began origin parties rest ≡ Some m))
    ⊎ ((e.driver ≡ origin) × (is_begin e.outcome ≡ false)
    × (((stamp : ℕ) × (stamp_given e.outcome ≡ Some stamp) × (with_stamp began origin stamp parties ≡ m)) ⊎ (stamped_call began origin (parties_with e parties) rest ≡ Some m)))

pub next_call : (began origin : ℕ) (parties : List ℕ) (e : Event) (rest : List Event) (m : StampedCall) → stamped_call began origin parties (e ∷ rest) ≡ Some m → NextCall began origin parties e rest m
next_call began origin parties e rest m is = by (e.driver == origin) (is_begin e.outcome) (stamp_given e.outcome) refl refl refl is
  where
    by : (own begins : Bool) (given : Option ℕ) → (e.driver == origin) ≡ own → is_begin e.outcome ≡ begins → stamp_given e.outcome ≡ given
        → cond (not own) (stamped_call began origin parties rest) (cond begins None (elim given [ Some stamp ↦ Some (with_stamp began origin stamp parties) | None ↦ stamped_call began origin (parties_with e parties) rest ])) ≡ Some m
        → NextCall began origin parties e rest m
    by false begins given apart is_begins is_given is = inl (eqb-false e.driver origin apart, is)
    by true true given same is_begins is_given is = absurd (cc is)
    by true false (Some stamp) same is_begins is_given is = inr (eqb-true e.driver origin same, is_begins, inl (stamp, is_given, cc is))
    by true false None same is_begins is_given is = inr (eqb-true e.driver origin same, is_begins, inr is)

-- what a call is: the step at which it began, its driver, and among its parties all those from before
pub record IsCall (began origin : ℕ) (parties : List ℕ) (m : StampedCall) : Type 0 where
  pub began_is : m.began ≡ began
  pub origin_is : m.origin ≡ origin
  pub keeps : (y : ℕ) → Has parties y → Has m.parties y

pub has_with : (e : Event) (parties : List ℕ) (y : ℕ) → Has parties y → Has (parties_with e parties) y
has_with e parties y has = by (is_staging e.outcome)
  where
    by : (b : Bool) → Has (cond b (e.at ∷ parties) parties) y
    by true = inr has
    by false = has

pub call_is : (began origin : ℕ) (parties : List ℕ) (es : List Event) (m : StampedCall) → stamped_call began origin parties es ≡ Some m → IsCall began origin parties m
call_is began origin parties [] m is = absurd (cc is)
call_is began origin parties (e ∷ rest) m is = elim (next_call began origin parties e rest m is) [
  | inl other ↦ call_is began origin parties rest m other.1
  | inr own ↦ elim own.2 [
    | inl given ↦ subst (IsCall began origin parties) given.2 (record { began_is = refl; origin_is = refl; keeps = λ y has. has })
    | inr further ↦
        let k = call_is began origin (parties_with e parties) rest m further in
        record { began_is = k.began_is; origin_is = k.origin_is; keeps = λ y has. k.keeps y (has_with e parties y has) }
  ]
]

-- a call of events begins with the first one, or later
pub next_calls : (here : ℕ) (e : Event) (rest : List Event) (m : StampedCall) → Has (stamped_calls here (e ∷ rest)) m
    → ((is_begin e.outcome ≡ true) × (stamped_call here e.driver (e.driver ∷ []) rest ≡ Some m)) ⊎ Has (stamped_calls (here + 1) rest) m
next_calls here e rest m has = by (is_begin e.outcome) (stamped_call here e.driver (e.driver ∷ []) rest) refl refl has
  where
    by : (begins : Bool) (first : Option StampedCall) → is_begin e.outcome ≡ begins → stamped_call here e.driver (e.driver ∷ []) rest ≡ first → Has (cond begins (with_call first (stamped_calls (here + 1) rest)) (stamped_calls (here + 1) rest)) m
        → ((is_begin e.outcome ≡ true) × (stamped_call here e.driver (e.driver ∷ []) rest ≡ Some m)) ⊎ Has (stamped_calls (here + 1) rest) m
    by true (Some c) begins first (inl same) = inl (begins, first ∙ ap Some (sym same))
    by true (Some c) begins first (inr later) = inr later
    by true None begins first later = inr later
    by false first begins is later = inr later

-- one that begins later isn't the first event's
pub later_calls : (here j : ℕ) (e : Event) (rest : List Event) (m : StampedCall) → Has (stamped_calls here (e ∷ rest)) m → here + j < m.began → Has (stamped_calls (here + 1) rest) m
later_calls here j e rest m has later = elim (next_calls here e rest m has) [
  | inl first ↦ let k = (call_is here e.driver (e.driver ∷ []) rest m first.1).began_is in absurd (omega (arith, later, k))
  | inr behind ↦ behind
]

-- a call's origin is one of its parties
pub own_party : (here : ℕ) (es : List Event) (m : StampedCall) → Has (stamped_calls here es) m → Has m.parties m.origin
own_party here [] m has = absurd has
own_party here (e ∷ rest) m has = elim (next_calls here e rest m has) [
  | inl first ↦ let k = call_is here e.driver (e.driver ∷ []) rest m first.1 in subst (Has m.parties) (sym k.origin_is) (k.keeps e.driver (inl refl))
  | inr behind ↦ own_party (here + 1) rest m behind
]

-- ---- parties in common

-- some number stands in both lists
abbrev pub Shares : List ℕ → List ℕ → Type 0
Shares some others = (y : ℕ) × Has some y × Has others y

any_has : {A : Type 0} (test : A → Bool) (xs : List A) → list_any test xs ≡ true → (a : A) × Has xs a × (test a ≡ true)
any_has test [] is = absurd (cc is)
any_has test (x ∷ rest) is = by (test x) refl is (any_has test rest)
  where
    by : (b : Bool) → test x ≡ b → (b || list_any test rest) ≡ true → (list_any test rest ≡ true → (a : _) × Has rest a × (test a ≡ true)) → (a : _) × Has (x ∷ rest) a × (test a ≡ true)
    by true passes is further = (x, inl refl, passes)
    by false fails is further = let k = further is in (k.0, inr k.1, k.2)

pub shares : (m x : StampedCall) → shares_party m x ≡ true → Shares m.parties x.parties
shares m x is =
    let a = any_has (λ a. list_any (λ b. a == b) x.parties) m.parties is in
    let b = any_has (λ b. a.0 == b) x.parties a.2 in
    (a.0, a.1, subst (Has x.parties) (sym (eqb-true a.0 b.0 b.2)) b.1)
