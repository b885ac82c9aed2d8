-- A node's key and a key's node are inverse, over every step.
use Rattle.std.proofs.Common.{◌≡◌, refl, sym, ap, ◌∙◌, Bool, true, false, ℕ, length, Option, Some, None, option_map}
use Rattle.b1_model.specs.declared.commands.Command.{Command}
use Rattle.b1_model.specs.declared.naming.Key.{Key}
use Rattle.b1_model.specs.declared.naming.Opening.{Opening}
use Rattle.b1_model.specs.Names.{Node}
use Rattle.b1_model.specs.Ledger.{destructions_before, doomed_at}
use Rattle.b1_model.specs.MachineParts.{PeerPart, State}
use Rattle.b1_model.specs.MachineStep.{Step, opening_state, record_of_state}
use Rattle.b1_inv.specs.Words.{IsPeer}
use Rattle.b1_inv.specs.Sound.{IsSound}
use Rattle.b1_inv_record.specs.Destructions.{own_ref, doomed_key, DoomKeysRight}
use Rattle.b1_inv_record.specs.Epochs.{ref_of}
use Rattle.b1_inv_record.specs.Right.{IsRight}
use Rattle.b1_inv_notices.proofs.Turns.{parts, going_answer}
use Rattle.b1_inv_doomed.proofs.CalmCalls.{NoStamp}
use Rattle.b1_inv_doomed.proofs.KeyPlaces.{at_in}
use Rattle.b1_inv_doomed.proofs.Records.{calm_dooms, calm_keys}
use Rattle.b1_inv_doomed.proofs.Dying.{stamps_now, stamping_is, calm_answer}
use Rattle.b1_inv_doomed.proofs.DyingKept.{opening_calls, opening_keys}
use Rattle.b1_inv_doomed.proofs.KeysStamped.{node_before, stamped_node, stamped_key}

module _ {o : Opening} {s : State} {p : ℕ} {c : Option Command} {t : State} (sound : IsSound o s) (right : IsRight o s) (step : Step o s p c t) where
  module _ (none : NoStamp (parts step).phase (going_answer step)) where
    calm_at : (key : Key) → doomed_at o.wires (record_of_state t) key ≡ doomed_at o.wires (record_of_state s) key
    calm_at key = ap (λ ds. at_in ds key.stamp key.index) (calm_dooms sound right.destructions.numbers step none key.origin)

    calm_node : (q serial : ℕ) (y : PeerPart) (key : Key) → IsPeer t q y → doomed_key o t (own_ref q serial) ≡ Some key → option_map ref_of (doomed_at o.wires (record_of_state t) key) ≡ Some (own_ref q serial)
    calm_node q serial y key is has =
        ap (option_map ref_of) (calm_at key)
        ∙ node_before sound right step q serial y key is (sym (calm_keys sound right.destructions.numbers step none (own_ref q serial)) ∙ has)

    calm_key : (key : Key) (x : Node) → doomed_at o.wires (record_of_state t) key ≡ Some x → doomed_key o t (ref_of x) ≡ Some key
    calm_key key x is = calm_keys sound right.destructions.numbers step none (ref_of x) ∙ right.destructions.keys.key key x (sym (calm_at key) ∙ is)

  pub keys_kept : DoomKeysRight o t
  keys_kept = by (stamps_now (parts step).phase step.driver.owed step.peer.late) refl
    where
      by : (b : Bool) → stamps_now (parts step).phase step.driver.owed step.peer.late ≡ b → DoomKeysRight o t
      by true now =
          let k = stamping_is (parts step).phase step.driver.owed step.peer.late now in
          record {
            node = λ q serial x n key is at. stamped_node sound right step k.0 k.1 k.2 k.3 q serial x key is;
            key = λ key x. stamped_key sound right step k.0 k.1 k.2 k.3 key x;
          }
      by false calm =
          let none = calm_answer o step.local.memory step.driver (parts step).command step.peer (parts step).phase step.driver.owed calm in
          record {
            node = λ q serial x n key is at. calm_node none q serial x key is;
            key = λ key x. calm_key none key x;
          }

-- ---- the beginning

opening_at : (o : Opening) (key : Key) → doomed_at o.wires (record_of_state (opening_state o)) key ≡ None
opening_at o key = ap (λ n. at_in (destructions_before o.wires (record_of_state (opening_state o)) key.origin n) key.stamp key.index) (ap length (opening_calls o key.origin))

pub keys_begin : (o : Opening) → DoomKeysRight o (opening_state o)
keys_begin o = record {
  node = λ q serial x n key is at has. let both : None ≡ Some key = sym (opening_keys o (own_ref q serial)) ∙ has in absurd (cc both);
  key = λ key x is. let both : None ≡ Some x = sym (opening_at o key) ∙ is in absurd (cc both);
}
