-- Queues of which each key's index is below a bound.
use Rattle.std.proofs.Common.{◌≡◌, ◌==◌, ℕ, ◌<◌, ◌≤◌, not, List, [], ◌∷◌, ◌++◌, get_or, refl, ap, arith, inl, inr, IsSome}
use Rattle.std.specs.Prelude.{All, filter}
use Rattle.std.proofs.lemmas.Bool.{cases_Bool, eq-eqb}
use Rattle.std.proofs.lemmas.List.Elements.{All-append, All-filter}
use Rattle.b1_model.specs.declared.naming.Key.{Key}
use Rattle.b1_queue.specs.Queue.{is_before, with_entry, without, key_of, IsNewKey}
use Rattle.b1_queue.proofs.Entries.{All-middle}

pub numbered_more : (m n : ℕ) (q : List (Key × ℕ)) → m ≤ n → All (λ e. e.0.index < m) q → All (λ e. e.0.index < n) q
numbered_more m n q le h k d lt = let low = h k d lt in omega arith

pub numbered_new : (key : Key) (n : ℕ) (q : List (Key × ℕ)) → n ≤ key.index → All (λ e. e.0.index < n) q → IsNewKey key q
numbered_new key n q le h k d lt same =
    let low = h k d lt in
    let index : (get_or q k d).0.index ≡ key.index = ap (λ (x : Key). x.index) same in
    absurd (omega arith)

pub numbered_without : (item n : ℕ) (q : List (Key × ℕ)) → All (λ e. e.0.index < n) q → All (λ e. e.0.index < n) (without item q)
numbered_without item n q h = All-filter (λ e. not (e.1 == item)) (λ e. e.0.index < n) q h

pub numbered_with : (key : Key) (item n : ℕ) (q : List (Key × ℕ)) → key.index < n → All (λ e. e.0.index < n) q → All (λ e. e.0.index < n) (with_entry key item q)
numbered_with key item n q low h =
    All-middle (λ e. e.0.index < n) (filter (λ e. is_before e.0 key) q) (filter (λ e. is_before key e.0) q) (key, item)
    (All-append (λ e. e.0.index < n) (filter (λ e. is_before e.0 key) q) (filter (λ e. is_before key e.0) q)
    (All-filter (λ e. is_before e.0 key) (λ e. e.0.index < n) q h)
    (All-filter (λ e. is_before key e.0) (λ e. e.0.index < n) q h))
    low

key_found : (key : Key) (item : ℕ) (xs ys : List (Key × ℕ)) → IsSome (key_of item (xs ++ (key, item) ∷ ys))
key_found key item [] ys = rw (eq-eqb item item refl) refl
key_found key item (x ∷ xs) ys =
    elim (cases_Bool (x.1 == item)) [
      | inl here ↦ rw here refl
      | inr other ↦ rw other (key_found key item xs ys)
    ]

-- an item that was put is there
pub put_is_there : (key : Key) (item : ℕ) (q : List (Key × ℕ)) → IsSome (key_of item (with_entry key item q))
put_is_there key item q =
    key_found key item (filter (λ e. is_before e.0 key) q) (filter (λ e. is_before key e.0) q)
