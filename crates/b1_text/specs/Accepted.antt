-- Which texts are accepted, and where the others break.
use Rattle.std.specs.Prelude.{◌≡◌, ◌≢◌, ℕ, ◌<◌, ◌≤◌, ◌⊎◌, List, [], ◌∷◌, ◌++◌, length}
use Rattle.std.specs.List.{AllByRecursion}
use Rattle.b1_model.specs.declared.limits.TheConstants.{MOST_TEXT}
use Rattle.b1_errs.specs.declared.Cause.TheVariants.{Long, Line}
use Rattle.b1_errs.specs.declared.NotRead.{NotRead}
use Rattle.b1_errs.specs.declared.NotRead.TheVariants.{Bad, Memory}
use Rattle.b1_script.specs.declared.script.Script.{Script}
use Rattle.b1_script.specs.Spelling.{HasSpelling, HasFields}
use Rattle.b1_text.specs.Texts.{script_text}

-- a script that a script file can say
pub record IsWritable (s : Script) : Type 0 where
  pub has_spelling : HasSpelling s
  pub fields : HasFields s

-- the bytes are the text of a script
pub record IsText (bytes : List ℕ) (s : Script) : Type 0 where
  pub writable : IsWritable s
  pub spelled : bytes ≡ script_text s

-- the bytes are an accepted text
abbrev pub IsAccepted : List ℕ → Type 0
IsAccepted bytes = (s : Script) × IsText bytes s

-- some accepted text begins with the bytes
abbrev pub CanGoOn : List ℕ → Type 0
CanGoOn bytes = (rest : List ℕ) × IsAccepted (bytes ++ rest)

abbrev pub line_feed : ℕ
line_feed = 10

-- no line feed stands in a line
abbrev pub IsLine : List ℕ → Type 0
IsLine line = AllByRecursion (λ b. b ≢ line_feed) line

-- lines, each with its line feed
abbrev pub AreLines : List ℕ → Type 0
AreLines bytes = (bytes ≡ []) ⊎ ((front : List ℕ) × (bytes ≡ front ++ line_feed ∷ []))

-- the first line after which no accepted text can go on, with its line feed
pub record IsWrong (bytes before line after : List ℕ) : Type 0 where
  pub split : bytes ≡ before ++ line ++ line_feed ∷ after
  pub lines : AreLines before
  pub unbroken : IsLine line
  pub good : CanGoOn before
  pub wrong : ¬ CanGoOn (before ++ line ++ line_feed ∷ [])

-- a last line without line feed, after which no accepted text can go on
pub record IsWrongEnd (bytes before line : List ℕ) : Type 0 where
  pub split : bytes ≡ before ++ line
  pub lines : AreLines before
  pub unbroken : IsLine line
  pub some : line ≢ []
  pub good : CanGoOn before
  pub wrong : ¬ CanGoOn bytes

-- an accepted text was cut off
pub record IsCut (bytes : List ℕ) : Type 0 where
  pub good : CanGoOn bytes
  pub short : ¬ IsAccepted bytes

-- where a text breaks: at the first byte of its first wrong line, or at its end where it was cut off
pub data BreaksAt (bytes : List ℕ) (at : ℕ) : Type 0 where
  line : (before line after : List ℕ) → IsWrong bytes before line after → at ≡ length before → BreaksAt bytes at
  last_line : (before line : List ℕ) → IsWrongEnd bytes before line → at ≡ length before → BreaksAt bytes at
  cut : IsCut bytes → at ≡ length bytes → BreaksAt bytes at

-- why a text isn't read: that it is too long comes first
abbrev pub IsFault : List ℕ → NotRead → Type 0
IsFault bytes Memory = Unit {0}
IsFault bytes (Bad at Long) = (at ≡ MOST_TEXT) × (MOST_TEXT < length bytes)
IsFault bytes (Bad at Line) = BreaksAt bytes at × (length bytes ≤ MOST_TEXT)
IsFault bytes (Bad at _) = ⊥
