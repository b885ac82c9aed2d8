-- What a call of the program says of its input.
use Rattle.std.specs.Prelude.{◌≡◌, ◌⊎◌, ℕ, ◌≤◌, ◌<◌, List, Option, drop, length}
use Rattle.b1_model.specs.declared.limits.TheConstants.{MOST_CHECKED, MOST_SCRIPT}
use Rattle.b1_errs.specs.declared.Cause.{Cause}
use Rattle.b1_io.specs.Streams.{Took, TookSuch}
use Rattle.b1_judge.specs.declared.verdict.Clause.{Clause}
use Rattle.b1_judge.specs.Judged.{AllHold, IsFirstBreak}
use Rattle.b1_model.specs.declared.records.Record.{Record}
use Rattle.b1_report.specs.Parsing as reports
use Rattle.b1_script.specs.declared.script.Script.{Script}
use Rattle.b1_script.specs.Spelling.{IsScript, IsWhole, spelling}
use Rattle.b1_upgrade.specs.Upgraded.{upgraded}
use Rattle.b1_text.specs.Accepted.{IsText}
use Rattle.b1_shell.specs.declared.Said.{Said}
use Rattle.b1_shell.specs.declared.Said.TheVariants.{Done, Bad, Stalled, Broken}
use Rattle.b1_shell.specs.declared.forms.Form.{Form}
use Rattle.b1_shell.specs.declared.forms.Form.TheVariants.{Play, Asm, Dump, Check, Migrate}
use Rattle.b1_shell.specs.Plays.{IsReport, IsStallReport}
use Rattle.b1_shell.specs.Faults.{IsFault}
use Rattle.b1_shell.specs.Forms.{most_input}
use Rattle.b1_shell.specs.Texts.{bad_line, legal_line, broken_line}

-- ---- play

-- the input is a script, and the text is its report
pub record IsPlayed (input text : List ℕ) : Type 0 where
  pub script : Script
  pub spelled : IsWhole input script
  pub report : IsReport script text

-- the input is a script that stalls, and the text tells it
pub record IsStalled (input text : List ℕ) : Type 0 where
  pub script : Script
  pub spelled : IsWhole input script
  pub report : IsStallReport script text

-- ---- asm and dump

-- the input is the text of a script, and the text is that script
pub record IsAssembled (input text : List ℕ) : Type 0 where
  pub script : Script
  pub spelled : IsText input script
  pub written : IsWhole text script

-- the input is a script, and the text is its text
pub record IsDumped (input text : List ℕ) : Type 0 where
  pub script : Script
  pub spelled : IsWhole input script
  pub written : IsText text script

-- ---- migrate

-- the input is a script, and the text is the script of version 2 that it becomes
pub record IsMigrated (input text : List ℕ) : Type 0 where
  pub script : Script
  pub spelled : IsWhole input script
  pub written : IsWhole text (upgraded script)

-- the input is a script that isn't too long with cookies
pub record CanMigrate (input : List ℕ) : Type 0 where
  pub script : Script
  pub spelled : IsWhole input script
  pub short : length (spelling (upgraded script)) ≤ MOST_SCRIPT

-- ---- check

-- the input isn't too long, and is a script and behind it the report of a record of as many peers, to its end
pub record HasReport (input : List ℕ) (s : Script) (r : Record) : Type 0 where
  pub end : ℕ
  pub few : length input ≤ MOST_CHECKED
  pub script : IsScript input s end
  pub report : reports.IsReport s.cookies (length s.opening.peers) (drop end input) r

-- the report behind the script is legal, and the text says so
pub record IsLegal (input text : List ℕ) : Type 0 where
  pub script : Script
  pub outcome : Record
  pub has : HasReport input script outcome
  pub holds : AllHold script outcome
  pub text_is : text ≡ legal_line

-- the report behind the script isn't legal, and the text says which part is broken first, and where
pub record IsIllegal (input text : List ℕ) : Type 0 where
  pub script : Script
  pub outcome : Record
  pub has : HasReport input script outcome
  pub clause : Clause
  pub peer : ℕ
  pub call : ℕ
  pub first : IsFirstBreak script outcome clause peer call
  pub text_is : text ≡ broken_line clause peer call

-- ---- any of them

-- what was asked for is done, and the text is what it gives
abbrev pub IsDone : Form → List ℕ → List ℕ → Type 0
IsDone Play input text = IsPlayed input text
IsDone Asm input text = IsAssembled input text
IsDone Dump input text = IsDumped input text
IsDone Check input text = IsLegal input text
IsDone Migrate input text = IsMigrated input text

-- the input has a fault, and the text says where the first one is, and its cause
pub record IsFaulty (form : Form) (input text : List ℕ) : Type 0 where
  pub at : ℕ
  pub cause : Cause
  pub fault : IsFault form input at cause
  pub text_is : text ≡ bad_line at cause

-- the script stalls, and the text tells it
abbrev pub HasStalled : Form → List ℕ → List ℕ → Type 0
HasStalled Play input text = IsStalled input text
HasStalled form input text = ⊥

-- the report is not legal, and the text says where
abbrev pub IsBroken : Form → List ℕ → List ℕ → Type 0
IsBroken Check input text = IsIllegal input text
IsBroken form input text = ⊥

-- what each kind of text says of an input
abbrev pub Says : Form → List ℕ → Said → List ℕ → Type 0
Says form input Done text = IsDone form input text
Says form input Bad text = IsFaulty form input text
Says form input Stalled text = HasStalled form input text
Says form input Broken text = IsBroken form input text

-- the status with each kind of text
abbrev pub status : Said → ℕ
status Done = 0
status Bad = 2
status Stalled = 3
status Broken = 7

-- the text is what is said of an input
abbrev pub IsSaid : Form → List ℕ → List ℕ → Type 0
IsSaid form input text = (said : Said) × Says form input said text

-- what each kind of text says of a script that is to be played
abbrev pub SaysOf : Script → Said → List ℕ → Type 0
SaysOf s Done text = IsReport s text
SaysOf s Stalled text = IsStallReport s text
SaysOf s said text = ⊥

-- a text of this kind was taken
abbrev pub TookText : Option (List ℕ) → Option (List ℕ) → (List ℕ → Type 0) → Type 0
TookText old new P = (text : List ℕ) × P text × Took old new text

-- a prefix of a text of this kind was taken, and not all of it
abbrev pub TookPart : Option (List ℕ) → Option (List ℕ) → (List ℕ → Type 0) → Type 0
TookPart old new P = (text : List ℕ) × P text × TookSuch old new text (λ n. n < length text)

-- ---- which inputs are accepted

-- the input is what the form asks for: a script, the text of one, or a script with a report of as many peers
abbrev pub IsAsked : Form → List ℕ → Type 0
IsAsked Play input = (script : Script) × IsWhole input script
IsAsked Asm input = (script : Script) × IsText input script
IsAsked Dump input = (script : Script) × IsWhole input script
IsAsked Migrate input = CanMigrate input
IsAsked Check input = (script : Script) × (outcome : Record) × HasReport input script outcome

-- the input is what the form asks for, and no longer than it may be
pub record IsAccepted (form : Form) (input : List ℕ) : Type 0 where
  pub few : length input ≤ most_input form
  pub asked : IsAsked form input

-- the statuses for an accepted input where no read and no write fails: what was asked for, a stall, a report that isn't
-- legal, or want of memory
abbrev pub IsAnswer : Form → ℕ → Type 0
IsAnswer Play status = (status ≡ 0) ⊎ ((status ≡ 3) ⊎ (status ≡ 6))
IsAnswer Asm status = (status ≡ 0) ⊎ (status ≡ 6)
IsAnswer Dump status = (status ≡ 0) ⊎ (status ≡ 6)
IsAnswer Migrate status = (status ≡ 0) ⊎ (status ≡ 6)
IsAnswer Check status = (status ≡ 0) ⊎ ((status ≡ 7) ⊎ (status ≡ 6))
