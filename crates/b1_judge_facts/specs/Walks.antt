-- What the definitions of records say where a walk along the calls of one peer stands.
use Rattle.std.specs.Prelude.{ℕ, Bool, List, Option}
use Rattle.b1_model.specs.declared.naming.Key.{Key}
use Rattle.b1_model.specs.declared.naming.Wire.{Wire}
use Rattle.b1_model.specs.declared.records.Record.{Record}
use Rattle.b1_model.specs.Names.{Node}
use Rattle.b1_model.specs.Ledger.{is_late, doomed_at}
use Rattle.b1_judge_facts.specs.Facts.{Place}

-- what is told by the wires, the record, the peer and the number of its next call
abbrev pub at : {A : Type 0} → (List Wire → Record → ℕ → ℕ → A) → Place → A
at told w = told w.wires w.rec w.peer w.call

-- the same of what holds
abbrev pub holds_at : {A : Type 1} → (List Wire → Record → ℕ → ℕ → A) → Place → A
holds_at told w = told w.wires w.rec w.peer w.call

-- a node was destroyed before the entry with a key
abbrev pub is_late_at : Place → Key → Node → Bool
is_late_at w key node = is_late w.wires w.rec node key

-- the node whose destroy notice has a key
abbrev pub doomed_node : Place → Key → Option Node
doomed_node w key = doomed_at w.wires w.rec key
