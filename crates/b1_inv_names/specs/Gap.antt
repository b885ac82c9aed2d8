-- The table of a peer in the gap of a reset.
use Rattle.std.specs.Prelude.{◌≡◌, ℕ, true, []}
use Rattle.b1_model.specs.declared.naming.Opening.{Opening}
use Rattle.b1_model.specs.Ledger.{table}
use Rattle.b1_model.specs.MachineParts.{DriverPart, State}
use Rattle.b1_model.specs.MachineStep.{record_of_state}
use Rattle.b1_inv.specs.Words.{IsDriver}
use Rattle.b1_ledger.specs.Growth.{calls_len}
use Rattle.b1_inv_record.specs.Epochs.{in_gap}

-- in the gap of a reset the table at the end of a peer's calls is empty
abbrev pub GapIsEmpty : Opening → State → Type 0
GapIsEmpty o s = (p : ℕ) (d : DriverPart) → IsDriver s p d → in_gap d ≡ true → (table o.wires (record_of_state s) p (calls_len (record_of_state s) p)).lines ≡ []
