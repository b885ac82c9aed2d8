-- When a bus begins its record has no call.
use Rattle.std.proofs.Common.{◌≡◌, refl, sym, ap, ◌∙◌, ℕ, [], length, Option, Some, None}
use Rattle.std.specs.Prelude.{slice_get}
use Rattle.b1_model.specs.declared.naming.Key.{Key}
use Rattle.b1_model.specs.declared.naming.NodeRef.{NodeRef}
use Rattle.b1_model.specs.declared.naming.Opening.{Opening}
use Rattle.b1_model.specs.Names.{calls_of}
use Rattle.b1_model.specs.Ledger.{destructions_before}
use Rattle.b1_model.specs.MachineParts.{DriverPart}
use Rattle.b1_model.specs.MachineTook.{driver_calls}
use Rattle.b1_model.specs.MachineStep.{opening_state, record_of_state}
use Rattle.b1_step.proofs.Numbers.{opening_numbered}
use Rattle.b1_inv_record.specs.Destructions.{doomed_key}
use Rattle.b1_inv_record.specs.Epochs.{doom_from}
use Rattle.b1_inv_tools.proofs.Openings.{opening_idle}
use Rattle.b1_inv_destroys.proofs.Recorded.{calls_by, recorded}

pub opening_calls : (o : Opening) (q : ℕ) → calls_of (record_of_state (opening_state o)) q ≡ []
opening_calls o q = recorded (opening_state o) q ((opening_numbered o).as_many_peers ∙ sym (opening_numbered o).as_many_drivers) ∙ by (slice_get (opening_state o).drivers q) refl
  where
    by : (d : Option DriverPart) → slice_get (opening_state o).drivers q ≡ d → calls_by d ≡ []
    by None is = refl
    by (Some d) is = ap driver_calls (opening_idle o q d is)

pub opening_dooms : (o : Opening) (node : NodeRef) (key : Key) → doomed_key o (opening_state o) node ≡ Some key → ⊥
opening_dooms o node key is = let none : None ≡ Some key = ap (λ n. doom_from node (destructions_before o.wires (record_of_state (opening_state o)) node.owner n)) (ap length (sym (opening_calls o node.owner))) ∙ is in cc none
