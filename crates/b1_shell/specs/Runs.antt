-- What `run` and `soak` write.
use Rattle.std.specs.Prelude.{◌≡◌, ◌⊎◌, ℕ, List, [], ◌++◌, Option, Some, length, IfSome, ◌≤◌}
use Rattle.b1_model.specs.declared.limits.TheConstants.{MOST_SCRIPT}
use Rattle.b1_model.specs.declared.records.Record.{Record}
use Rattle.b1_report.specs.Report.{report_text}
use Rattle.b1_report.specs.Parsing as reports
use Rattle.b1_run.specs.Runs as runs
use Rattle.b1_soak.specs.Soaks.{IsSoak}
use Rattle.b1_script.specs.declared.script.Script.{Script}
use Rattle.b1_script.specs.Spelling.{IsWhole}
use Rattle.b1_shell.specs.declared.Said.{Said}
use Rattle.b1_shell.specs.declared.Said.TheVariants.{Done, Bad, Stalled}
use Rattle.b1_shell.specs.declared.forms.Form.TheVariants.{Play}
use Rattle.b1_shell.specs.Answers.{IsAccepted, IsAnswer, IsFaulty, TookText, TookPart}
use Rattle.b1_shell.specs.Texts.{stalled_line}

-- ---- texts

-- the text is the report of a drained state that some list of steps reaches from the script's opening, and is read again as that; the record is legal and whole, and each peer's calls are its commands
pub record IsRunReport (s : Script) (text : List ℕ) : Type 0 where
  pub outcome : Record
  pub run : runs.IsDone s outcome
  pub text_is : text ≡ report_text s.cookies outcome
  pub again : reports.IsReport s.cookies (length outcome.peers) text outcome

-- the text tells a stuck state that some list of steps reaches from the script's opening: which peers wait there, and the report of its legal record, which shows no want of memory, and in which each peer's calls are the first of its commands
pub record IsRunStall (s : Script) (text : List ℕ) : Type 0 where
  pub waiting : List ℕ
  pub outcome : Record
  pub stalls : runs.IsStalled s waiting outcome
  pub text_is : text ≡ stalled_line waiting ++ report_text s.cookies outcome

-- ---- what is said

-- of a script that is run
abbrev pub RunSaysOf : Script → Said → List ℕ → Type 0
RunSaysOf s Done text = IsRunReport s text
RunSaysOf s Stalled text = IsRunStall s text
RunSaysOf s said text = ⊥

-- the input is a script, of which this is said
pub record IsOfScript (input text : List ℕ) (said : Said) : Type 0 where
  pub script : Script
  pub spelled : IsWhole input script
  pub says : RunSaysOf script said text

-- of an input that is to be run
abbrev pub RunSays : List ℕ → Said → List ℕ → Type 0
RunSays input Bad text = IsFaulty Play input text
RunSays input said text = IsOfScript input text said

-- ---- what a call leaves behind

-- `run`: what was said of what the source held, with the source read to its end, or a part of it where the write failed
pub record TellsRun (held left old new : Option (List ℕ)) (status : ℕ) : Type 0 where
  pub done : status ≡ 0 → IfSome held (λ input. TookText old new (RunSays input Done))
  pub bad : status ≡ 2 → IfSome held (λ input. TookText old new (RunSays input Bad))
  pub stalled : status ≡ 3 → IfSome held (λ input. TookText old new (RunSays input Stalled))
  pub part : status ≡ 5 → IfSome held (λ input. TookPart old new (λ text. (said : Said) × RunSays input said text))
  pub read : (status ≡ 0) ⊎ (status ≡ 3) → IfSome held (λ _. left ≡ Some [])
  pub read_bad : status ≡ 2 → IfSome held (λ input. length input ≤ MOST_SCRIPT → left ≡ Some [])
  pub others : (status ≡ 1 → ⊥) × (status ≡ 7 → ⊥)

-- `soak`: the summary, or a part of it where the write failed, or nothing for want of memory
pub record TellsSoak (number : ℕ) (old new : Option (List ℕ)) (status : ℕ) : Type 0 where
  pub done : status ≡ 0 → TookText old new (IsSoak number)
  pub part : status ≡ 5 → TookPart old new (IsSoak number)
  pub only : (status ≡ 0) ⊎ ((status ≡ 5) ⊎ (status ≡ 6))

-- `run` of an accepted script is done, or stalls, or memory is wanting
abbrev pub RunCompletes : Option (List ℕ) → ℕ → Type 0
RunCompletes held status = IfSome held (λ input. IsAccepted Play input → IsAnswer Play status)
