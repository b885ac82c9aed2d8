-- The kinds of numbers that stand in a text, alone or in a list.
use Rattle.std.specs.Prelude.{◌≡◌, ◌≢◌, ◌⊎◌, ℕ, ◌-◌, ◌%◌, ◌^◌, ◌<◌, ◌≤◌, List, ◌∷◌, length}
use Rattle.std.specs.Fmt.{decimal}
use Rattle.std.specs.List.{AllByRecursion}
use Rattle.b1_text_words.specs.declared.among.Numbers.{Numbers}
use Rattle.b1_text_words.specs.declared.items.Form.TheVariants.{Script, Report}
use Rattle.b1_text_words.specs.declared.items.Item.{Item}
use Rattle.b1_text_words.specs.declared.items.Item.TheVariants.{UpTo, Among, Known, Handle, Offset}
use Rattle.b1_text_words.specs.Numbers.{number_text, handle_text, offset_text, script_handle_text, script_offset_text, list_text}
use Rattle.b1_text_words.specs.Words.{Spells}

-- one of these numbers
pub record IsAmong (numbers : Numbers) (n : ℕ) : Type 0 where
  pub least : numbers.least ≤ n
  pub most : n ≤ numbers.most
  pub step : (n - numbers.least) % numbers.step ≡ 0

-- at most this one
abbrev pub IsUpTo : ℕ → ℕ → Type 0
IsUpTo most n = n ≤ most

-- an odd one of these
abbrev pub IsOddUpTo : ℕ → ℕ → Type 0
IsOddUpTo most n = (n ≤ most) × (n % 2 ≡ 1)

-- no sign of a reference stands first
abbrev pub IsNoReference : List ℕ → Type 0
IsNoReference word = (rest : List ℕ) → word ≢ 64 ∷ rest

-- how an item is written
abbrev pub item_text : Item → ℕ → List ℕ
item_text (UpTo most) = decimal
item_text (Among numbers) = decimal
item_text Known = number_text
item_text (Handle Script) = script_handle_text
item_text (Handle Report) = handle_text
item_text (Offset Script) = script_offset_text
item_text (Offset Report) = offset_text

-- a value of the kind
abbrev pub IsItem : Item → ℕ → Type 0
IsItem (UpTo most) n = IsUpTo most n
IsItem (Among numbers) n = IsAmong numbers n
IsItem Known n = n < 2 ^ 64
IsItem (Handle form) n = n < 2 ^ 64
IsItem (Offset form) n = n < 2 ^ 64

-- a bound that fits a number of 64 bits
abbrev pub IsBounded : Item → Type 0
IsBounded (UpTo most) = most < 2 ^ 64
IsBounded item = Unit {0}

-- so many values of a kind at most
pub record AreItems (item : Item) (most : ℕ) (values : List ℕ) : Type 0 where
  pub items : AllByRecursion (IsItem item) values
  pub few : length values ≤ most

-- the same, and at least one
pub record AreSome (item : Item) (most : ℕ) (values : List ℕ) : Type 0 where
  pub some : 0 < length values
  pub are : AreItems item most values

-- the words of lists that are not empty
abbrev pub SpellsSome : Item → ℕ → List ℕ → Type 0
SpellsSome item most word = Spells (list_text (item_text item)) (AreSome item most) word

-- so many bytes at most
pub record AreBytes (most : ℕ) (bytes : List ℕ) : Type 0 where
  pub items : AllByRecursion (λ b. b < 256) bytes
  pub few : length bytes ≤ most

-- two numbers of 32 bits
abbrev pub IsPair : ℕ × ℕ → Type 0
IsPair pair = (pair.0 < 2 ^ 32) × (pair.1 < 2 ^ 32)

-- a byte that is no decimal digit
abbrev pub IsNoDigit : ℕ → Type 0
IsNoDigit byte = (byte < 48) ⊎ (57 < byte)
