-- The faults of an input, by what is done with it.
use Rattle.std.specs.Prelude.{◌≡◌, ℕ, ◌+◌, ◌<◌, ◌≤◌, List, length, drop, Some}
use Rattle.b1_errs.specs.declared.Cause.{Cause}
use Rattle.b1_errs.specs.declared.Cause.TheVariants.{Long}
use Rattle.b1_errs.specs.declared.NotRead.TheVariants as unread
use Rattle.b1_report.specs.Parsing as reports
use Rattle.b1_script.specs.declared.script.Script.{Script}
use Rattle.b1_script.specs.Reading.{bad, bad_script}
use Rattle.b1_script.specs.Spelling.{IsScript, IsWhole, spelling}
use Rattle.b1_upgrade.specs.Upgraded.{upgraded}
use Rattle.b1_text.specs.Accepted as texts
use Rattle.b1_shell.specs.declared.forms.Form.{Form}
use Rattle.b1_shell.specs.declared.forms.Form.TheVariants.{Play, Asm, Dump, Check, Migrate}
use Rattle.b1_model.specs.declared.limits.TheConstants.{MOST_CHECKED, MOST_SCRIPT}

-- a script with its report is too long; or the script has a fault; or the report behind the script, counted from the start of the input
pub data IsCheckFault (input : List ℕ) (at : ℕ) (cause : Cause) : Type 0 where
  long : MOST_CHECKED < length input → at ≡ MOST_CHECKED → cause ≡ Long → IsCheckFault input at cause
  script : length input ≤ MOST_CHECKED → bad_script input ≡ Some (at, cause) → IsCheckFault input at cause
  report : length input ≤ MOST_CHECKED → (s : Script) (end inner : ℕ) → IsScript input s end → reports.TellsFault s.cookies (length s.opening.peers) (drop end input) (unread.Bad inner cause) → at ≡ end + inner → IsCheckFault input at cause

-- the input is no script; or with cookies it would be longer than a script may be
pub data IsMigrateFault (input : List ℕ) (at : ℕ) (cause : Cause) : Type 0 where
  no_script : bad input ≡ Some (at, cause) → IsMigrateFault input at cause
  too_long : (s : Script) → IsWhole input s → MOST_SCRIPT < length (spelling (upgraded s)) → at ≡ MOST_SCRIPT → cause ≡ Long → IsMigrateFault input at cause

-- the first fault of the input
abbrev pub IsFault : Form → List ℕ → ℕ → Cause → Type 0
IsFault Play input at cause = bad input ≡ Some (at, cause)
IsFault Asm input at cause = texts.IsFault input (unread.Bad at cause)
IsFault Dump input at cause = bad input ≡ Some (at, cause)
IsFault Check input at cause = IsCheckFault input at cause
IsFault Migrate input at cause = IsMigrateFault input at cause
