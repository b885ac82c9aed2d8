-- Keys that come last in a queue, and entries that are found in one.
use Rattle.std.proofs.Common.{◌≡◌, refl, sym, ap, ◌∙◌, inl, inr, ◌<◌, Bool, true, false, cond, not, List, [], ◌∷◌, ◌++◌, find, Some, arith}
use Rattle.std.proofs.lemmas.Bool.{false_from_ne_true}
use Rattle.b1_model.specs.declared.naming.Key.{Key}
use Rattle.b1_model.specs.declared.entries.Entry.{Entry}
use Rattle.b1_model.specs.MachineParts.{key_before}
use Rattle.b1_model.specs.MachineTables.{put, without}
use Rattle.b1_step.specs.Rights.{Has}
use Rattle.b1_step.proofs.Orders.{key_trans, key_not_itself, key_before_is_below}

-- ---- the order of keys

pub before_stamp : (a b : Key) → a.stamp < b.stamp → key_before a b ≡ true
before_stamp a b less = key_before_is_below a b ∙ grind (arith, less)

pub before_index : (a b : Key) → a.stamp ≡ b.stamp → a.origin ≡ b.origin → a.index < b.index → key_before a b ≡ true
before_index a b stamps origins less = key_before_is_below a b ∙ grind (arith, stamps, origins, less)

-- of two keys one isn't before the other
pub not_back : (a b : Key) → key_before a b ≡ true → key_before b a ≡ false
not_back a b is = false_from_ne_true (key_before b a) (λ back. let both : true ≡ false = sym (key_trans a b a is back) ∙ key_not_itself a in absurd (cc both))

-- what isn't behind a key isn't behind a later one
pub not_behind_later : (a b k : Key) → key_before a b ≡ true → key_before a k ≡ false → key_before b k ≡ false
not_behind_later a b k is not_behind = false_from_ne_true (key_before b k) (λ behind. let both : true ≡ false = sym (key_trans a b k is behind) ∙ not_behind in absurd (cc both))

-- ---- the last place

-- no entry of a queue is behind a key
abbrev pub IsLast : Key → List (Key × Entry) → Type 0
IsLast k queue = (f : Key × Entry) → Has queue f → key_before k f.0 ≡ false

-- an entry with such a key comes last
pub put_last : (k : Key) (e : Entry) (queue : List (Key × Entry)) → IsLast k queue → put k e queue ≡ queue ++ (k, e) ∷ []
put_last k e [] last = refl
put_last k e (f ∷ rest) last =
    ap (λ b. cond b ((k, e) ∷ f ∷ rest) (f ∷ put k e rest)) (last f (inl refl))
    ∙ ap (λ zs. f ∷ zs) (put_last k e rest (λ g there. last g (inr there)))

-- ---- entries that pass a test

abbrev pub NonePass : (Key × Entry → Bool) → List (Key × Entry) → Type 0
NonePass test queue = (f : Key × Entry) → Has queue f → test f ≡ false

pub find_past : (test : Key × Entry → Bool) (xs : List (Key × Entry)) (f : Key × Entry) (ys : List (Key × Entry)) → NonePass test xs → test f ≡ true → find test (xs ++ f ∷ ys) ≡ Some f
find_past test [] f ys none is = ap (λ b. cond b (Some f) (find test ys)) is
find_past test (x ∷ xs) f ys none is = ap (λ b. cond b (Some x) (find test (xs ++ f ∷ ys))) (none x (inl refl)) ∙ find_past test xs f ys (λ g there. none g (inr there)) is

pub without_none : (test : Key × Entry → Bool) (xs : List (Key × Entry)) → NonePass test xs → without test xs ≡ xs
without_none test [] none = refl
without_none test (x ∷ xs) none = ap (λ b. cond (not b) (x ∷ without test xs) (without test xs)) (none x (inl refl)) ∙ ap (λ zs. x ∷ zs) (without_none test xs (λ g there. none g (inr there)))

pub without_append : (test : Key × Entry → Bool) (xs ys : List (Key × Entry)) → without test (xs ++ ys) ≡ without test xs ++ without test ys
without_append test [] ys = refl
without_append test (x ∷ xs) ys = by (without_append test xs ys) (not (test x))
  where
    by : without test (xs ++ ys) ≡ without test xs ++ without test ys → (b : Bool) → cond b (x ∷ without test (xs ++ ys)) (without test (xs ++ ys)) ≡ cond b (x ∷ without test xs) (without test xs) ++ without test ys
    by further true = ap (λ zs. x ∷ zs) further
    by further false = further

pub without_one : (test : Key × Entry → Bool) (xs : List (Key × Entry)) (f : Key × Entry) (ys : List (Key × Entry)) → NonePass test xs → test f ≡ true → NonePass test ys → without test (xs ++ f ∷ ys) ≡ xs ++ ys
without_one test xs f ys none is others =
    without_append test xs (f ∷ ys)
    ∙ ap (λ zs. zs ++ without test (f ∷ ys)) (without_none test xs none)
    ∙ ap (λ b. xs ++ cond (not b) (f ∷ without test ys) (without test ys)) is
    ∙ ap (λ zs. xs ++ zs) (without_none test ys others)

-- an element that is kept was there
pub without_has : (test : Key × Entry → Bool) (xs : List (Key × Entry)) (f : Key × Entry) → Has (without test xs) f → Has xs f
without_has test [] f there = absurd there
without_has test (x ∷ xs) f there = by (without_has test xs f) (not (test x)) there
  where
    by : (Has (without test xs) f → Has xs f) → (b : Bool) → Has (cond b (x ∷ without test xs) (without test xs)) f → Has (x ∷ xs) f
    by further true (inl same) = inl same
    by further true (inr in_it) = inr (further in_it)
    by further false in_it = inr (further in_it)
