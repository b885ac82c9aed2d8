-- All that is gathered of a record.
use Rattle.std.specs.Prelude.{◌≡◌, ℕ, length, List, Option}
use Rattle.std.specs.BTreeMap.{BTreeMap}
use Rattle.b1_model.specs.declared.naming.Opening.{Opening}
use Rattle.b1_model.specs.declared.records.Record.{Record}
use Rattle.b1_model.specs.declared.records.Stamp.{Stamp}
use Rattle.b1_model.specs.Names.{Node}
use Rattle.b1_model.specs.Ledger.{Message, order}
use Rattle.b1_model.specs.Opening.{IsOpening}
use Rattle.b1_judge_facts.specs.declared.standing.Standing.{Standing}
use Rattle.b1_judge_facts.specs.Kept.{IsKept}
use Rattle.b1_judge_facts.specs.Epochs.{is_about, AreFirst}
use Rattle.b1_judge_facts.specs.Start.{AreBegun}

-- all of a record with as many peers as its opening
pub record IsFacts (o : Opening) (r : Record) (starts : List Standing) (stamps : List Stamp) (messages : BTreeMap (ℕ × ℕ) Message) (destroyed : BTreeMap (ℕ × ℕ) (List (Option Node))) (first : BTreeMap (ℕ × ℕ) (ℕ × ℕ)) (places : BTreeMap (ℕ × ℕ) ℕ) : Type 0 where
  pub opens : IsOpening o
  pub peers : length r.peers ≡ length o.peers
  pub starts_are : AreBegun o.wires o.wires (length r.peers) starts
  pub kept : IsKept o.wires r stamps messages destroyed first
  pub places_are : AreFirst (is_about o.wires r) (order r) (length (order r)) places
