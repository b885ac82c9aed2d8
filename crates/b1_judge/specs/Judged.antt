-- What a verdict says of a script and a record.
use Rattle.std.specs.Prelude.{◌≡◌, ℕ, ◌<◌, List, [], ◌∷◌, length, Option, ⊤}
use Rattle.std.specs.List.{AllByRecursion}
use Rattle.b1_model.specs.declared.records.Record.{Record}
use Rattle.b1_model.specs.Legal.{BreaksKeys, BreaksOrder, BreaksPrefix, BreaksContents, BreaksWhole, KeepsKeys, KeepsOrder, KeepsPrefix, KeepsContents, HasNoNext, Legal, Whole}
use Rattle.b1_model.specs.Script as part
use Rattle.b1_script.specs.declared.script.Script.{Script}
use Rattle.b1_judge.specs.Frame.{IsCall, IsCallOrEnd, IsEnd, IsFirstPlace}
use Rattle.b1_judge.specs.declared.verdict.Clause.{Clause}
use Rattle.b1_judge.specs.declared.verdict.Clause.TheVariants as the
use Rattle.b1_judge.specs.declared.verdict.Verdict.{Verdict}
use Rattle.b1_judge.specs.declared.verdict.Verdict.TheVariants as says

-- call k of p breaks a part
abbrev pub Breaks : Clause → Script → Record → ℕ → ℕ → Type 0
Breaks the.Script s r p k = part.BreaksScript s.commands r p k
Breaks the.Keys s r p k = BreaksKeys r p k
Breaks the.Order s r p k = BreaksOrder r p k
Breaks the.Prefix s r p k = BreaksPrefix s.opening.wires r p k
Breaks the.Contents s r p k = BreaksContents s.opening.wires r p k
Breaks the.Whole s r p k = BreaksWhole s.opening.wires r p k

-- no call breaks a part
abbrev pub IsUnbroken : Script → Record → Clause → Type 0
IsUnbroken s r clause = (p k : ℕ) → ¬ Breaks clause s r p k

-- the parts that are tried before a part
abbrev pub earlier : Clause → List Clause
earlier the.Script = []
earlier the.Keys = the.Script ∷ []
earlier the.Order = the.Script ∷ the.Keys ∷ []
earlier the.Prefix = the.Script ∷ the.Keys ∷ the.Order ∷ []
earlier the.Contents = the.Script ∷ the.Keys ∷ the.Order ∷ the.Prefix ∷ []
earlier the.Whole = the.Script ∷ the.Keys ∷ the.Order ∷ the.Prefix ∷ the.Contents ∷ []

-- a part is broken first at call k of p, and no earlier part is broken
pub record IsFirstBreak (s : Script) (r : Record) (clause : Clause) (p k : ℕ) : Type 0 where
  pub breaks : Breaks clause s r p k
  pub earlier_peers : (q j : ℕ) → q < p → ¬ Breaks clause s r q j
  pub earlier_calls : (j : ℕ) → j < k → ¬ Breaks clause s r p j
  pub earlier_parts : AllByRecursion (IsUnbroken s r) (earlier clause)

-- a verdict that names a part, a peer and a call names the first break
abbrev pub SaysBreak : Script → Record → Verdict → Type 0
SaysBreak s r says.Legal = ⊤
SaysBreak s r (says.Broken clause p k) = IsFirstBreak s r clause p k

-- all six parts hold
pub record AllHold (s : Script) (r : Record) : Type 0 where
  pub script : part.Script s.opening s.commands r
  pub legal : Legal s.opening r
  pub whole : Whole s.opening r

-- the places at which a part is tried
abbrev pub Tries : Clause → Record → ℕ → ℕ → Type 0
Tries the.Script r = IsCallOrEnd r
Tries the.Keys r = IsCall r
Tries the.Order r = IsCall r
Tries the.Prefix r = IsCall r
Tries the.Contents r = IsCall r
Tries the.Whole r = IsEnd r

-- what keeps a part there
abbrev pub Keeps : Clause → Script → Record → ℕ → ℕ → Type 0
Keeps the.Script s r = part.KeepsScript s.commands r
Keeps the.Keys s r = KeepsKeys r
Keeps the.Order s r = KeepsOrder r
Keeps the.Prefix s r = KeepsPrefix s.opening.wires r
Keeps the.Contents s r = KeepsContents s.opening.wires r
Keeps the.Whole s r = HasNoNext s.opening.wires r

-- a part is kept wherever it is tried
abbrev pub IsKept : Script → Record → Clause → Type 0
IsKept s r clause = (p k : ℕ) → Tries clause r p k → Keeps clause s r p k

-- the first place at which a part is broken; none where it is kept
abbrev pub IsFirstOf : Script → Record → Clause → Option (ℕ × ℕ) → Type 0
IsFirstOf s r clause found = IsFirstPlace (Tries clause r) (Keeps clause s r) found

-- a list of commands and a list of calls for each peer
pub record HasLists (s : Script) (r : Record) : Type 0 where
  pub commands : length s.commands ≡ length s.opening.peers
  pub calls : length r.peers ≡ length s.opening.peers

-- what a verdict says holds
abbrev pub IsJudged : Script → Record → Verdict → Type 0
IsJudged s r says.Legal = AllHold s r
IsJudged s r (says.Broken clause p k) = IsFirstBreak s r clause p k
