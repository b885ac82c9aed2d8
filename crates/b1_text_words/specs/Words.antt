-- What a word spells, and which bytes begin a word.
use Rattle.std.specs.Prelude.{◌≡◌, ◌≢◌, ℕ, List, ◌∷◌, ◌++◌, Option, Some, None, IfSome, []}
use Rattle.std.specs.List.{AllByRecursion}

-- the word is the text of a value of the kind
pub record Spells {A : Type 0} (text : A → List ℕ) (IsOf : A → Type 0) (word : List ℕ) : Type 0 where
  pub value : A
  pub is_of : IsOf value
  pub same : word ≡ text value

-- the value whose text the word is, and none exactly where it is no value's text
pub record Reads {A : Type 0} (text : A → List ℕ) (IsOf : A → Type 0) (word : List ℕ) (r : Option A) : Type 0 where
  pub found : IfSome r (λ x. IsOf x × (word ≡ text x))
  pub whole : (x : A) → IsOf x → word ≡ text x → r ≡ Some x

-- with some bytes behind it, or with none, it is such a word
pub record Begins (IsWord : List ℕ → Type 0) (word : List ℕ) : Type 0 where
  pub rest : List ℕ
  pub whole : IsWord (word ++ rest)

-- a byte that stands nowhere in the word
abbrev pub IsFree : ℕ → List ℕ → Type 0
IsFree byte word = AllByRecursion (λ b. b ≢ byte) word

-- a word, a separator, and what follows it
pub record Joined (separator : ℕ) (IsFirst IsRest : List ℕ → Type 0) (line : List ℕ) : Type 0 where
  pub first : List ℕ
  pub rest : List ℕ
  pub is_first : IsFirst first
  pub is_rest : IsRest rest
  pub whole : line ≡ first ++ separator ∷ rest

-- the values so far with the one that the word spells behind them, and none exactly where it spells none
abbrev pub EndsWith : {A : Type 0} → (A → List ℕ) → (A → Type 0) → List A → List ℕ → Option (List A) → Type 0
EndsWith text IsOf values word None = Reads text IsOf word None
EndsWith {A} text IsOf values word (Some all) = (last : A) × (all ≡ values ++ last ∷ []) × Reads text IsOf word (Some last)
