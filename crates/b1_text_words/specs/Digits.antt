-- Digits, and which numbers have digits that begin with given ones.
use Rattle.std.specs.Prelude.{◌≡◌, ℕ, ◌+◌, ◌-◌, ◌*◌, ◌/◌, ◌%◌, ◌^◌, ◌<◌, ◌≤◌, Bool, true, not, ◌&&◌, ◌||◌, ◌==◌, nat_le, if◌then◌else◌, List, [], ◌∷◌, length}
use Rattle.std.specs.List.{list_all}
use Rattle.b1_text_words.specs.declared.among.Numbers.{Numbers}
use Rattle.b1_text_words.specs.Items.{IsAmong}

-- no byte, or a plus, or a zero before another byte
abbrev pub has_sign_or_zero : List ℕ → Bool
has_sign_or_zero [] = true
has_sign_or_zero (first ∷ rest) = (first == 43) || ((first == 48) && not (length rest == 0))

-- one of the numbers stands among so many from here on
pub record HasAmong (numbers : Numbers) (low width : ℕ) : Type 0 where
  pub number : ℕ
  pub among : IsAmong numbers number
  pub above : low ≤ number
  pub below : number < low + width

-- one of them does so once these have some further digits
pub record Reaches (numbers : Numbers) (low width : ℕ) : Type 0 where
  pub digits : ℕ
  pub has : HasAmong numbers (low * 10 ^ digits) (width * 10 ^ digits)

-- a lower-case hexadecimal digit
abbrev pub is_hex_digit : ℕ → Bool
is_hex_digit b = (nat_le 48 b && nat_le b 57) || (nat_le 97 b && nat_le b 102)

-- only such digits
abbrev pub are_hex_digits : List ℕ → Bool
are_hex_digits word = list_all is_hex_digit word

-- pairs of them, at least one and at most so many
pub record ArePairs (most : ℕ) (word : List ℕ) : Type 0 where
  pub digits : are_hex_digits word ≡ true
  pub some : 0 < length word
  pub even : length word % 2 ≡ 0
  pub few : length word / 2 ≤ most

-- the value of a hexadecimal digit
abbrev pub hex_value : ℕ → ℕ
hex_value b = if nat_le b 57 then b - 48 else b - 87

-- the bytes that pairs of digits spell
abbrev pub bytes_of : List ℕ → List ℕ
bytes_of [] = []
bytes_of (a ∷ []) = []
bytes_of (a ∷ b ∷ rest) = (hex_value a * 16 + hex_value b) ∷ bytes_of rest
