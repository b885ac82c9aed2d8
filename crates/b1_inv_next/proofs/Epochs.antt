-- Names stand in the order of their epochs: those of the present epoch are the ones from its first node on.
use Rattle.std.proofs.Common.{◌≡◌, ◌⊎◌, refl, sym, ap, subst, ◌∙◌, inl, inr, ℕ, zero, suc, ◌+◌, ◌≤◌, ◌<◌, ◌==◌, Bool, true, false, cond, ◌&&◌, not, nat_lt, List, [], ◌∷◌, ◌++◌, length, filter, map, Some, append-nil}
use Rattle.std.specs.Prelude.{slice_get}
use Rattle.std.proofs.lemmas.Bool.{lt-ltb, ltb-true}
use Rattle.std.proofs.lemmas.List.{append_assoc}
use native.Mathlib.Omega.{arith}
use Rattle.b1_model.specs.declared.naming.Wire.{Wire}
use Rattle.b1_model.specs.declared.answers.Answer.{Answer}
use Rattle.b1_model.specs.declared.answers.Answer.TheVariants as ans
use Rattle.b1_model.specs.declared.records.Call.{Call}
use Rattle.b1_model.specs.Names.{Name, is_own, is_known, wired, add_new, carried_by, next_epoch, made_in, epoch_in}
use Rattle.b1_ledger.proofs.Sequences.{Each, each-at}
use Rattle.b1_ledger.proofs.Made.{each-append, each-more}
use Rattle.b1_inv_record.specs.Epochs.{made_before}

-- names of earlier epochs, and behind them those of an epoch
pub record Split (e : ℕ) (names : List Name) : Type 0 where
  pub older : List Name
  pub newer : List Name
  pub is : names ≡ older ++ newer
  pub before : Each (λ m. m.epoch < e) older
  pub now : Each (λ m. m.epoch ≡ e) newer

split_add : (e : ℕ) (known : List Name) (numbers : List ℕ) → Split e known → Split e (add_new e known numbers)
split_add e known [] s = s
split_add e known (n ∷ rest) s = split_add e (cond (is_own n && not (is_known n known)) (known ++ record { number = n; epoch = e } ∷ []) known) rest (by (is_own n && not (is_known n known)))
  where
    by : (b : Bool) → Split e (cond b (known ++ record { number = n; epoch = e } ∷ []) known)
    by true = record {
      older = s.older;
      newer = s.newer ++ record { number = n; epoch = e } ∷ [];
      is = ap (λ l. l ++ record { number = n; epoch = e } ∷ []) s.is ∙ append_assoc s.older s.newer (record { number = n; epoch = e } ∷ []);
      before = s.before;
      now = each-append (λ m. m.epoch ≡ e) s.newer (record { number = n; epoch = e } ∷ []) s.now (refl, tt);
    }
    by false = s

all_older : (e : ℕ) (names : List Name) → Split e names → Split (suc e) names
all_older e names s = record {
  older = names;
  newer = [];
  is = sym (append-nil names);
  before = subst (Each (λ m. m.epoch < suc e)) (sym s.is)
      (each-append (λ m. m.epoch < suc e) s.older s.newer (each-more (λ m. m.epoch < e) (λ m. m.epoch < suc e) s.older (λ m low. omega (arith, low)) s.before) (each-more (λ m. m.epoch ≡ e) (λ m. m.epoch < suc e) s.newer (λ m same. omega (arith, same)) s.now));
  now = tt;
}

split_next : (e : ℕ) (names : List Name) (answer : Answer) → Split e names → Split (next_epoch e answer) names
split_next e names (ans.Reset stamp) s = all_older e names s
split_next e names answer s = s

split_in : (e : ℕ) (known : List Name) (calls : List Call) → Split e known → Split (epoch_in e calls) (made_in e known calls)
split_in e known [] s = s
split_in e known (c ∷ rest) s = split_in (next_epoch e c.answer) (add_new e known (carried_by c.command c.answer)) rest (split_next e (add_new e known (carried_by c.command c.answer)) c.answer (split_add e known (carried_by c.command c.answer) s))

-- the names after some calls
pub split_names : (ws : List Wire) (p : ℕ) (calls : List Call) → Split (epoch_in 0 calls) (made_in 0 (wired ws p) calls)
split_names ws p calls = split_in 0 (wired ws p) calls (split_add 0 [] (map (λ w. w.number) (filter (λ w. w.from == p) ws)) (record { older = []; newer = []; is = refl; before = tt; now = tt }))

-- ---- how many are earlier

filter_all : (e : ℕ) (names : List Name) → Each (λ m. m.epoch < e) names → filter (λ m. nat_lt m.epoch e) names ≡ names
filter_all e [] h = refl
filter_all e (m ∷ rest) h = ap (λ b. cond b (m ∷ filter (λ k. nat_lt k.epoch e) rest) (filter (λ k. nat_lt k.epoch e) rest)) (lt-ltb m.epoch e h.0) ∙ ap (λ l. m ∷ l) (filter_all e rest h.1)

not_less : (n e : ℕ) → n ≡ e → nat_lt n e ≡ false
not_less n e same = by (nat_lt n e) refl
  where
    by : (b : Bool) → nat_lt n e ≡ b → nat_lt n e ≡ false
    by false is = is
    by true is = let low = ltb-true n e is in absurd (omega (arith, low, same))

filter_none : (e : ℕ) (names : List Name) → Each (λ m. m.epoch ≡ e) names → filter (λ m. nat_lt m.epoch e) names ≡ []
filter_none e [] h = refl
filter_none e (m ∷ rest) h = ap (λ b. cond b (m ∷ filter (λ k. nat_lt k.epoch e) rest) (filter (λ k. nat_lt k.epoch e) rest)) (not_less m.epoch e h.0) ∙ filter_none e rest h.1

filter_append : (test : Name → Bool) (xs ys : List Name) → filter test (xs ++ ys) ≡ filter test xs ++ filter test ys
filter_append test [] ys = refl
filter_append test (x ∷ rest) ys = by (test x) (filter_append test rest ys)
  where
    by : (b : Bool) → filter test (rest ++ ys) ≡ filter test rest ++ filter test ys → cond b (x ∷ filter test (rest ++ ys)) (filter test (rest ++ ys)) ≡ cond b (x ∷ filter test rest) (filter test rest) ++ filter test ys
    by true further = ap (λ l. x ∷ l) further
    by false further = further

as_many_older : (e : ℕ) (names : List Name) → (s : Split e names) → length (filter (λ m. nat_lt m.epoch e) names) ≡ length s.older
as_many_older e names s =
    ap (λ l. length (filter (λ m. nat_lt m.epoch e) l)) s.is
    ∙ ap length (filter_append (λ m. nat_lt m.epoch e) s.older s.newer)
    ∙ ap (λ l. length (l ++ filter (λ m. nat_lt m.epoch e) s.newer)) (filter_all e s.older s.before)
    ∙ ap (λ l. length (s.older ++ l)) (filter_none e s.newer s.now)
    ∙ ap length (append-nil s.older)

at_split : (xs ys : List Name) (i : ℕ) (m : Name) → slice_get (xs ++ ys) i ≡ Some m → ((i < length xs) × (slice_get xs i ≡ Some m)) ⊎ ((j : ℕ) × (slice_get ys j ≡ Some m) × (length xs ≤ i))
at_split [] ys i m is = inr (i, is, omega arith)
at_split (x ∷ rest) ys zero m is = inl (omega arith, is)
at_split (x ∷ rest) ys (suc i) m is = elim (at_split rest ys i m is) [
  | inl (low, at) ↦ inl (omega (arith, low), at)
  | inr (j, at, high) ↦ inr (j, at, omega (arith, high))
]

module _ (ws : List Wire) (p : ℕ) (calls : List Call) where
  s : Split (epoch_in 0 calls) (made_in 0 (wired ws p) calls)
  s = split_names ws p calls

  first : made_before ws p calls ≡ length s.older
  first = as_many_older (epoch_in 0 calls) (made_in 0 (wired ws p) calls) s

  -- a name from the first node of the present epoch on is of that epoch
  pub present_epoch : (serial : ℕ) (m : Name) → slice_get (made_in 0 (wired ws p) calls) serial ≡ Some m → made_before ws p calls ≤ serial → m.epoch ≡ epoch_in 0 calls
  present_epoch serial m at low = elim (at_split s.older s.newer serial m (ap (λ l. slice_get l serial) (sym s.is) ∙ at)) [
    | inl (less, there) ↦ absurd (let same = first in omega (arith, same, less, low))
    | inr (j, there, high) ↦ each-at (λ k. k.epoch ≡ epoch_in 0 calls) s.newer s.now j m there
  ]

  -- and one of that epoch stands there
  pub epoch_present : (serial : ℕ) (m : Name) → slice_get (made_in 0 (wired ws p) calls) serial ≡ Some m → m.epoch ≡ epoch_in 0 calls → made_before ws p calls ≤ serial
  epoch_present serial m at same = elim (at_split s.older s.newer serial m (ap (λ l. slice_get l serial) (sym s.is) ∙ at)) [
    | inl (less, there) ↦ absurd (let low = each-at (λ k. k.epoch < epoch_in 0 calls) s.older s.before serial m there in omega (arith, low, same))
    | inr (j, there, high) ↦ let many = first in omega (arith, many, high)
  ]
