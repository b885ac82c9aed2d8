-- Words of a line, one behind the other.
use Rattle.std.specs.Prelude.{◌≡◌, ℕ, Bool, not, ◌||◌, ◌==◌, List, [], ◌∷◌}
use Rattle.std.specs.List.{list_all}
use Rattle.b1_text_words.specs.declared.kinds.Kind.{Kind}
use Rattle.b1_text_words.specs.declared.kinds.Kind.TheVariants as kinds
use Rattle.b1_text_words.specs.Items.{item_text, IsItem, IsBounded, AreItems, AreBytes}
use Rattle.b1_text_words.specs.Numbers.{list_text, hex_text}
use Rattle.b1_text_words.specs.Words.{Spells, Joined}

-- the words of a kind
abbrev pub IsWord : Kind → List ℕ → Type 0
IsWord (kinds.Fixed text) word = word ≡ text.now
IsWord (kinds.One item) word = Spells (item_text item) (IsItem item) word
IsWord (kinds.Several item most) word = Spells (list_text (item_text item)) (AreItems item most) word
IsWord (kinds.Bytes most) word = Spells hex_text (AreBytes most) word

-- one word of each kind, with a separator between them
abbrev pub IsLine : ℕ → List Kind → List ℕ → Type 0
IsLine separator [] line = ⊥
IsLine separator (kind ∷ []) line = IsWord kind line
IsLine separator (kind ∷ next ∷ kinds) line = Joined separator (IsWord kind) (IsLine separator (next ∷ kinds)) line

-- its bound is a number of 64 bits
abbrev pub IsBoundedKind : Kind → Type 0
IsBoundedKind (kinds.One item) = IsBounded item
IsBoundedKind (kinds.Several item most) = IsBounded item
IsBoundedKind kind = Unit {0}

-- a space or a colon
abbrev pub is_separator : ℕ → Bool
is_separator byte = (byte == 32) || (byte == 58)

-- no word of the kind has the separator
abbrev pub is_free_of : ℕ → Kind → Bool
is_free_of separator (kinds.Fixed text) = list_all (λ b. not (b == separator)) text.now
is_free_of separator (kinds.One item) = is_separator separator
is_free_of separator (kinds.Several item most) = is_separator separator
is_free_of separator (kinds.Bytes most) = is_separator separator

abbrev pub are_free_of : ℕ → List Kind → Bool
are_free_of separator kinds = list_all (is_free_of separator) kinds
