-- No bus begins with a receipt.
use Rattle.std.proofs.Common.{◌≡◌, sym, ap, ◌∙◌, ℕ, [], Some, None}
use Rattle.std.specs.Prelude.{slice_get}
use Rattle.std.proofs.lemmas.Option.{slice_get_within}
use native.Mathlib.Omega.{arith}
use Rattle.b1_model.specs.declared.naming.Opening.{Opening}
use Rattle.b1_model.specs.declared.records.Call.{Call}
use Rattle.b1_model.specs.Names.{calls_of}
use Rattle.b1_model.specs.MachineParts.{PeerPart}
use Rattle.b1_model.specs.MachineTook.{driver_calls}
use Rattle.b1_model.specs.MachineStep.{opening_state, record_of_state}
use Rattle.b1_step.proofs.Numbers.{opening_numbered}
use Rattle.b1_inv.specs.Words.{IsPeer}
use Rattle.b1_inv_record.specs.Holders.{SeenTravels, SeenCollected}
use Rattle.b1_inv_tools.proofs.Openings.{opening_idle}
use Rattle.b1_inv_notices.proofs.Turns.{get_there}
use Rattle.b1_inv_names.proofs.Recorded.{recorded_calls}

-- no peer has a call
no_call : (o : Opening) (q k : ℕ) (x : PeerPart) (one : Call) → IsPeer (opening_state o) q x → slice_get (calls_of (record_of_state (opening_state o)) q) k ≡ Some one → ⊥
no_call o q k x one is_peer at =
    let n = opening_numbered o in
    let d = get_there (opening_state o).drivers q (let within = slice_get_within (opening_state o).peers q x is_peer in omega (arith, within, n.as_many_drivers, n.as_many_peers)) in
    let none : calls_of (record_of_state (opening_state o)) q ≡ [] = recorded_calls (opening_state o) q x d.0 is_peer d.1 ∙ ap driver_calls (opening_idle o q d.0 d.1) in
    let both : None ≡ Some one = sym (ap (λ calls. slice_get calls k) none) ∙ at in
    absurd (cc both)

-- so what holders took travels
pub travels_begin : (o : Opening) → SeenTravels o (opening_state o)
travels_begin o = record { travels = λ q k x d one key n y is_peer is_driver at got seen is_owner alive. absurd (no_call o q k x one is_peer at) }

-- and is collected
pub collected_begins : (o : Opening) → SeenCollected o (opening_state o)
collected_begins o = record { collected = λ q k x one key n y e is_peer at got seen is_owner is_driver dies. absurd (no_call o q k x one is_peer at) }
