-- What contracts see of a queue: a list of entries, each a key with its item.
use Rattle.std.specs.Prelude.{◌≡◌, ◌≢◌, ◌==◌, ℕ, ◌+◌, ◌<◌, ◌≤◌, Bool, not, List, ◌∷◌, ◌++◌, length, get_or, filter, find, All, AllPairs, Option, None, option_map}
use Rattle.std.specs.Ordering.{is_lt}
use Rattle.std.specs.declared.cmp.Ordering.TheVariants.{Less}
use Rattle.b1_model.specs.Keys.{compare_keys}
use Rattle.b1_model.specs.declared.naming.Key.{Key}

-- the first key stands before the second
abbrev pub is_before : Key → Key → Bool
is_before a b = is_lt (compare_keys a b)

-- the keys rise, no item stands twice, and each item is below the room
pub record IsQueue (room : ℕ) (q : List (Key × ℕ)) : Type 0 where
  pub ascending : AllPairs (λ a b. compare_keys a.0 b.0 ≡ Less) q
  pub distinct : AllPairs (λ a b. a.1 ≢ b.1) q
  pub in_room : All (λ e. e.1 < room) q

-- the entries before a key, that key with its item, and the entries after it
abbrev pub with_entry : {A : Type 0} → Key → A → List (Key × A) → List (Key × A)
with_entry key item q =
    filter (λ e. is_before e.0 key) q ++ (key, item) ∷ filter (λ e. is_before key e.0) q

-- the entries with another item
abbrev pub without : ℕ → List (Key × ℕ) → List (Key × ℕ)
without item q = filter (λ e. not (e.1 == item)) q

-- the same items, of which one has another key
abbrev pub restamped : ℕ → Key → List (Key × ℕ) → List (Key × ℕ)
restamped item key q = with_entry key item (without item q)

-- the key of an item, if the item is there
abbrev pub key_of : ℕ → List (Key × ℕ) → Option Key
key_of item q = option_map (λ e. e.0) (find (λ e. e.1 == item) q)

-- no entry has this key
abbrev pub IsNewKey : {A : Type 0} → Key → List (Key × A) → Type 0
IsNewKey key q = All (λ e. e.0 ≢ key) q

-- no entry has this item
abbrev pub IsNewItem : ℕ → List (Key × ℕ) → Type 0
IsNewItem item q = All (λ e. e.1 ≢ item) q

-- a queue's list of entries, with each item's key in another list, and room for more
pub record IsKept (spare len capacity : ℕ) (q : List (Key × ℕ)) (keys : List (Option Key)) : Type 0 where
  pub in_order : IsQueue (length keys) q
  pub indexed : (item : ℕ) → get_or keys item None ≡ key_of item q
  pub fits : spare + len ≤ capacity
