-- The record after a step: it grows by a call at most, and the tables, messages and destructions that it showed stay.
use Rattle.std.proofs.Common.{◌≡◌, refl, sym, ap, ◌∙◌, ℕ, suc, ◌≤◌, List, [], ◌∷◌, length, Option, Some}
use native.Mathlib.Omega.{arith}
use Rattle.b1_model.specs.declared.commands.Command.{Command}
use Rattle.b1_model.specs.declared.naming.Opening.{Opening}
use Rattle.b1_model.specs.Ledger.{Message, message, table}
use Rattle.b1_model.specs.Legal.{Legal}
use Rattle.b1_model.specs.MachineParts.{PeerPart, DriverPart, State}
use Rattle.b1_model.specs.MachineStep.{Step, peer_records, record_of_state}
use Rattle.b1_step.proofs.Locality.{as_many_drivers, as_many_peers}
use Rattle.b1_ledger.specs.Growth.{Extends, calls_len}
use Rattle.b1_ledger.proofs.Grows.{Found, keeps_found, found_of_message}
use Rattle.b1_ledger.proofs.Stable.{Keeps, table_same, message_same}
use Rattle.b1_inv.specs.Sound.{IsSound}
use Rattle.b1_inv_destroys.proofs.Recorded.{as_many, record_grows}

-- the record has as many peers as the state
pub records_len : (xs : List PeerPart) (ds : List DriverPart) → length xs ≡ length ds → length (peer_records xs ds) ≡ length xs
records_len [] ds same = refl
records_len (x ∷ xs) [] same = absurd (omega (arith, same))
records_len (x ∷ xs) (d ∷ ds) same = ap suc (records_len xs ds (omega (arith, same)))

module _ {o : Opening} {s : State} {p : ℕ} {c : Option Command} {t : State} (sound : IsSound o s) (step : Step o s p c t) where
  -- the record after the step has more calls, at most
  pub extends : Extends (record_of_state s) (record_of_state t)
  extends = record {
    peers =
        records_len t.peers t.drivers (as_many_peers step ∙ as_many sound step ∙ sym (as_many_drivers step))
        ∙ as_many_peers step ∙ sym (records_len s.peers s.drivers (as_many sound step));
    grows = record_grows sound step;
  }

  module _ (legal : Legal o (record_of_state s)) where
    -- what these calls change nothing of
    pub kept : Keeps (Found (record_of_state s)) (record_of_state s) (record_of_state t)
    kept = keeps_found o (record_of_state s) (record_of_state t) legal extends

    -- a table before a call stays
    pub table_stays : (q k : ℕ) → k ≤ calls_len (record_of_state s) q → table o.wires (record_of_state t) q k ≡ table o.wires (record_of_state s) q k
    table_stays q k low = table_same o.wires (Found (record_of_state s)) (record_of_state s) (record_of_state t) kept q k low

    -- a message stays
    pub message_stays : (stamp q : ℕ) (m : Message) → message o.wires (record_of_state s) stamp q ≡ Some m → message o.wires (record_of_state t) stamp q ≡ Some m
    message_stays stamp q m is = message_same o.wires (Found (record_of_state s)) (record_of_state s) (record_of_state t) kept stamp q (found_of_message o.wires (record_of_state s) stamp q m is) ∙ is
