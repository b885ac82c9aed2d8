-- What the program's words ask for.
use Rattle.std.specs.Prelude.{◌≡◌, ℕ, List, [], ◌∷◌, codes}
use Rattle.b1_model.specs.declared.limits.TheConstants.{MOST_CHECKED, MOST_SCRIPT, MOST_TEXT}
use Rattle.b1_shell.specs.declared.forms.Form.{Form}
use Rattle.b1_shell.specs.declared.forms.Form.TheVariants.{Play, Asm, Dump, Check, Migrate}

-- the word for each
abbrev pub word_of : Form → List ℕ
word_of Play = codes "play"
word_of Asm = codes "asm"
word_of Dump = codes "dump"
word_of Check = codes "check"
word_of Migrate = codes "migrate"

-- the words are that one word
abbrev pub Asks : List (List ℕ) → Form → Type 0
Asks words form = words ≡ word_of form ∷ []

-- the words are of no form
abbrev pub AsksNothing : List (List ℕ) → Type 0
AsksNothing words = (form : Form) → Asks words form → ⊥

-- the words are of a form, of which this holds
pub record AsksFor (words : List (List ℕ)) (P : Form → Type 0) : Type 0 where
  pub form : Form
  pub asks : Asks words form
  pub holds : P form

-- how many bytes the input has at most
abbrev pub most_input : Form → ℕ
most_input Play = MOST_SCRIPT
most_input Asm = MOST_TEXT
most_input Dump = MOST_SCRIPT
most_input Check = MOST_CHECKED
most_input Migrate = MOST_SCRIPT
