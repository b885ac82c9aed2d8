-- What a call of the program leaves behind, by its status.
use Rattle.std.specs.Prelude.{◌≡◌, ◌≤◌, ◌<◌, ◌⊎◌, ℕ, List, [], Option, Some, String, map, length, string_bytes, IfSome}
use Rattle.b1_io.specs.Streams.{Took, TookSuch}
use Rattle.b1_shell.specs.declared.forms.Form.{Form}
use Rattle.b1_shell.specs.Forms.{Asks, AsksFor, AsksNothing, most_input}
use Rattle.b1_shell.specs.Texts.{usage_line}
use Rattle.b1_shell.specs.Answers.{IsAccepted, IsAnswer, IsDone, IsFaulty, HasStalled, IsBroken, IsSaid, TookText, TookPart}

-- the words as bytes
abbrev pub spelled : {A : Type 0} → List (String A) → List (List ℕ)
spelled words = map string_bytes words

-- the words are of a form, and where it is told what was held, a text that says this of it was taken
abbrev pub Tells : (Form → List ℕ → List ℕ → Type 0) → List (List ℕ) → Option (List ℕ) → Option (List ℕ) → Option (List ℕ) → Type 0
Tells Says words held old new = AsksFor words (λ form. IfSome held (λ input. TookText old new (Says form input)))

-- the usage line, for words of no form and for no others: all of it, or a part where the write failed
pub record TellsUsage (words : List (List ℕ)) (old new : Option (List ℕ)) (status : ℕ) : Type 0 where
  pub none_asked : status ≡ 1 → AsksNothing words
  pub only : AsksNothing words → (status ≡ 1) ⊎ (status ≡ 5)
  pub said : status ≡ 1 → Took old new usage_line
  pub part : status ≡ 5 → AsksNothing words → TookSuch old new usage_line (λ n. n < length usage_line)

-- what is said of what the source held: of what was asked for, of a fault, of a stall, of a report that isn't legal; or a part of one of these where the write failed
pub record TellsInput (words : List (List ℕ)) (held old new : Option (List ℕ)) (status : ℕ) : Type 0 where
  pub done : status ≡ 0 → Tells IsDone words held old new
  pub bad : status ≡ 2 → Tells IsFaulty words held old new
  pub stalled : status ≡ 3 → Tells HasStalled words held old new
  pub broken : status ≡ 7 → Tells IsBroken words held old new
  pub part : status ≡ 5 → (AsksNothing words → ⊥) → AsksFor words (λ form. IfSome held (λ input. TookPart old new (IsSaid form input)))

-- the source was read to its end; where the input is refused, unless it is too long
pub record ReadsToEnd (words : List (List ℕ)) (held left : Option (List ℕ)) (status : ℕ) : Type 0 where
  pub done : status ≡ 0 → IfSome held (λ _. left ≡ Some [])
  pub bad : status ≡ 2 → AsksFor words (λ form. IfSome held (λ input. length input ≤ most_input form → left ≡ Some []))
  pub stalled : status ≡ 3 → IfSome held (λ _. left ≡ Some [])
  pub broken : status ≡ 7 → IfSome held (λ _. left ≡ Some [])

-- with words of a form, and an input that it accepts, the status is one of the form's
abbrev pub Completes : List (List ℕ) → Option (List ℕ) → ℕ → Type 0
Completes words held status = (form : Form) → Asks words form → IfSome held (λ input. IsAccepted form input → IsAnswer form status)
