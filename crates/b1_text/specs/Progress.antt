-- What reading has found so far, and what it answers.
use Rattle.std.specs.Prelude.{◌≡◌, ℕ, ◌+◌, ◌≤◌, List, ◌∷◌, ◌++◌, length, drop, Option, Some, None, Result, Ok, Err}
use Rattle.std.specs.List.{flat_map, AllByRecursion}
use Rattle.b1_errs.specs.declared.NotRead.{NotRead}
use Rattle.b1_script.specs.declared.script.Script.{Script}
use Rattle.b1_text.specs.declared.draft.Draft.{Draft}
use Rattle.b1_text.specs.declared.draft.Draft.TheVariants.{Empty}
use Rattle.b1_text.specs.declared.statement.Statement.{Statement}
use Rattle.b1_text.specs.Texts.{statement_text, line_text, statements}
use Rattle.b1_text.specs.Accepted.{IsText, IsFault, line_feed, IsLine}
use Rattle.b1_text.specs.Drafts.{Fits, step, run, IsNext}

-- a script's statements are those that were read, and more; the bytes left are the lines of these
pub record GoesOn (read : List Statement) (left : List ℕ) (s : Script) : Type 0 where
  pub more : List Statement
  pub whole : statements s ≡ read ++ more
  pub spelled : left ≡ flat_map line_text more

-- the bytes are the lines of statements that make a draft, and each accepted text that begins with them goes on behind these
pub record Makes (bytes : List ℕ) (d : Draft) : Type 0 where
  pub read : List Statement
  pub spelled : bytes ≡ flat_map line_text read
  pub fits : AllByRecursion Fits read
  pub made : run (Some Empty) read ≡ Some d
  pub only : (left : List ℕ) (s : Script) → IsText (bytes ++ left) s → GoesOn read left s

-- a line says a statement that makes a draft of another one
pub record Leads (d : Draft) (line : List ℕ) (e : Draft) : Type 0 where
  pub statement : Statement
  pub fits : Fits statement
  pub same : line ≡ statement_text statement
  pub goes_on : step d statement ≡ Some e
  pub only : (s : Statement) → Fits s → line ≡ statement_text s → s ≡ statement

-- the draft behind a line, and none where no script goes on so
abbrev pub LeadsTo : Draft → List ℕ → Option Draft → Type 0
LeadsTo d line None = ¬ IsNext d line
LeadsTo d line (Some e) = Leads d line e

-- the first line of the bytes from a place on, and the place behind its line feed
pub record IsFirstLine (bytes : List ℕ) (at : ℕ) (line : List ℕ) (end : ℕ) : Type 0 where
  pub unbroken : IsLine line
  pub split : drop at bytes ≡ line ++ line_feed ∷ drop end bytes
  pub ends : end ≡ at + length line + 1
  pub within : end ≤ length bytes

-- the script whose text the bytes are, or the fault
abbrev pub Answers : List ℕ → Result Script NotRead → Type 0
Answers bytes (Ok s) = IsText bytes s × ((t : Script) → IsText bytes t → t ≡ s)
Answers bytes (Err why) = IsFault bytes why
