-- The lines that the program writes.
use Rattle.std.specs.Prelude.{ℕ, List, ◌++◌, codes}
use Rattle.std.specs.Fmt.{decimal}
use Rattle.b1_errs.specs.declared.Cause.{Cause}
use Rattle.b1_errs.specs.Words as causes
use Rattle.b1_judge.specs.declared.verdict.Clause.{Clause}
use Rattle.b1_judge.specs.Words as clauses
use Rattle.b1_text_words.specs.Numbers.{list_text}

-- the line for words that aren't known
abbrev pub usage_line : List ℕ
usage_line = codes "usage: bus1sh play|run|asm|dump|check|migrate|soak N\n"

-- the line for a fault of the input: where it is, in bytes from the start, and its cause
abbrev pub bad_line : ℕ → Cause → List ℕ
bad_line at cause = codes "bad input at " ++ decimal at ++ codes ": " ++ causes.word_of cause ++ codes "\n"

-- the line for a legal report
abbrev pub legal_line : List ℕ
legal_line = codes "legal\n"

-- the line for a report that isn't legal: the first part that is broken, and the first peer and call that break it
abbrev pub broken_line : Clause → ℕ → ℕ → List ℕ
broken_line clause peer call = codes "not legal: " ++ clauses.word_of clause ++ codes " peer " ++ decimal peer ++ codes " call " ++ decimal call ++ codes "\n"

-- the line before the report of a stall: the peers whose commands aren't at their end
abbrev pub stalled_line : List ℕ → List ℕ
stalled_line waiting = codes "stalled " ++ list_text decimal waiting ++ codes "\n"
