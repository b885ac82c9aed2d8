-- What a peer has made, holds and has received before one of its calls.
use Rattle.std.specs.Prelude.{ℕ, List, [], ◌∷◌, Option, None}
use Rattle.b1_model.specs.declared.naming.Key.{Key}
use Rattle.b1_model.specs.declared.naming.Wire.{Wire}
use Rattle.b1_model.specs.declared.records.Call.{Call}
use Rattle.b1_model.specs.declared.records.Record.{Record}
use Rattle.b1_model.specs.Names.{Node, wired, add_new, carried_by, next_epoch, epoch_at}
use Rattle.b1_model.specs.Ledger.{changed, start, table}
use Rattle.b1_model.specs.Legal.{last_after, last_key}
use Rattle.b1_judge_facts.specs.declared.standing.Standing.{Standing}
use Rattle.b1_judge_facts.specs.Facts.{names_before}
use Rattle.b1_judge_facts.specs.Steps.{slots_for}

-- behind a call, whose slots have these nodes, if it is a message
abbrev pub passed : List (Option Node) → Call → Standing → Standing
passed slots c s = record {
  names = add_new s.epoch s.names (carried_by c.command c.answer);
  table = changed (λ _. slots) c.command c.answer s.table;
  epoch = next_epoch s.epoch c.answer;
  last = last_after s.last c.answer;
}

-- before p's call k
abbrev pub standing : List Wire → Record → ℕ → ℕ → Standing
standing ws r p k = record { names = names_before ws r p k; table = table ws r p k; epoch = epoch_at r p k; last = last_key r p k }

-- before p's first call
abbrev pub begun : List Wire → ℕ → Standing
begun ws p = record { names = wired ws p; table = start ws p; epoch = 0; last = None }

-- behind these calls, by a look-up of the slots of a key
abbrev pub passes : (Key → List (Option Node)) → List Call → Standing → Standing
passes look [] s = s
passes look (c ∷ cs) s = passes look cs (passed (slots_for look c.answer) c s)
