-- A step keeps the lines of every peer's table its numbered records.
use Rattle.std.proofs.Common.{◌≡◌, ◌≢◌, refl, sym, ap, subst, ◌∙◌, inl, inr, ℕ, Bool, true, false, length, Option, Some}
use Rattle.std.proofs.lemmas.Option.{slice_get_within}
use native.Mathlib.Omega.{arith}
use Rattle.b1_model.specs.declared.commands.Command.{Command}
use Rattle.b1_model.specs.declared.naming.Opening.{Opening}
use Rattle.b1_model.specs.Names.{calls_of}
use Rattle.b1_model.specs.Ledger.{table}
use Rattle.b1_model.specs.MachineParts.{PeerPart, DriverPart, State}
use Rattle.b1_model.specs.MachineStep.{Step, record_of_state}
use Rattle.b1_step.specs.Rights.{may_be_elsewhere}
use Rattle.b1_step.proofs.Locality.{as_many_drivers, as_many_peers, own_place}
use Rattle.b1_ledger.specs.Growth.{calls_len}
use Rattle.b1_inv.specs.Words.{IsPeer, IsDriver}
use Rattle.b1_inv.specs.Sound.{IsSound}
use Rattle.b1_inv_record.specs.Epochs.{in_gap}
use Rattle.b1_inv_record.specs.Names.{TableIsLines}
use Rattle.b1_inv_record.specs.Right.{IsRight}
use Rattle.b1_inv_tools.proofs.Leaves.{driver_cases, peer_cases}
use Rattle.b1_inv_notices.proofs.Turns.{parts, going, going_doing, going_action, get_there}
use Rattle.b1_inv_names.proofs.Recorded.{recorded_calls}
use Rattle.b1_inv_names.proofs.Gaps.{gaps_kept}
use Rattle.b1_inv_tables.proofs.Agrees.{IsTable, kept_table}
use Rattle.b1_inv_tables.proofs.Plain.{SameTable, same_table, other_event}
use Rattle.b1_inv_tables.proofs.Grown.{table_stays}
use Rattle.b1_inv_tables.proofs.Kept.{end_table, table_before, numbered, own_after}

module _ {o : Opening} {s : State} {p : ℕ} {c : Option Command} {t : State} (sound : IsSound o s) (right : IsRight o s) (step : Step o s p c t) where
  -- a peer's part before the step
  pub part_before : (q : ℕ) (y : PeerPart) → IsPeer t q y → (x : PeerPart) × IsPeer s q x
  part_before q y now = elim (peer_cases step q y now) [
    | inl here ↦ (step.peer, subst (λ r. IsPeer s r step.peer) (sym here.0) step.is_peer)
    | inr there ↦ (y, there.1)
  ]

  -- a peer's driver after the step
  pub driver_there : (q : ℕ) (y : PeerPart) → IsPeer t q y → (d : DriverPart) × IsDriver t q d
  driver_there q y now =
      let within = slice_get_within t.peers q y now in
      get_there t.drivers q (omega (arith, within, as_many_peers step, as_many_drivers step, sound.numbered.as_many_drivers, sound.numbered.as_many_peers))

  -- the peer of another driver: its table stays, and its records as a table sees them
  module _ (q : ℕ) (apart : q ≢ p) (d : DriverPart) (x y : PeerPart) (is_driver : IsDriver s q d) (also : IsDriver t q d) (was : IsPeer s q x) (now : IsPeer t q y) where
    -- its table stays
    pub other_end : end_table o t q ≡ end_table o s q
    other_end =
        let calls : calls_of (record_of_state t) q ≡ calls_of (record_of_state s) q = recorded_calls t q y d now also ∙ sym (recorded_calls s q x d was is_driver) in
        ap (λ cs. table o.wires (record_of_state t) q (length cs)) calls ∙ table_stays sound step right.legal q (calls_len (record_of_state s) q) (omega arith)

    -- an event there is one that may be elsewhere
    elsewhere : step.at ≡ q → may_be_elsewhere (going_action step) ≡ true
    elsewhere at = by (may_be_elsewhere step.action) refl
      where
        same : may_be_elsewhere (going_action step) ≡ may_be_elsewhere step.action
        same = ap may_be_elsewhere (parts step).is_action

        by : (b : Bool) → may_be_elsewhere step.action ≡ b → may_be_elsewhere (going_action step) ≡ true
        by true is = same ∙ is
        by false is = absurd (apart (sym at ∙ own_place step is ∙ sound.numbered.drivers p step.driver step.is_driver))

    -- its records stay as a table sees them
    pub other_same : SameTable x y
    other_same = elim (peer_cases step q y now) [
      | inl here ↦
          let before : Some step.peer ≡ Some x = sym (subst (λ r. IsPeer s r step.peer) (sym here.0) step.is_peer) ∙ was in
          let same : step.peer ≡ x = cc before in
          subst (λ z. SameTable z y) same (subst (SameTable step.peer) ((parts step).is_peer ∙ sym here.1) (other_event o step.local.memory (going step) (going_doing step) step.peer (going_action step) (elsewhere (sym here.0))))
      | inr there ↦ let both : Some x ≡ Some y = sym was ∙ there.1 in let same : x ≡ y = cc both in subst (SameTable x) same (same_table x)
    ]

    -- as many numbers were given
    pub other_given : y.given ≡ (end_table o t q).given
    other_given = other_same.0 ∙ right.names.lines.given q x was ∙ ap (λ z. z.given) (sym other_end)

    -- its table has the lines of its records
    pub other_table : in_gap d ≡ false → IsTable (end_table o t q) y.given y.handles
    other_table none =
        subst (λ u. IsTable u y.given y.handles) (sym other_end) (subst (λ g. IsTable (end_table o s q) g y.handles) (sym other_same.0)
        (kept_table (end_table o s q) x.given x.handles y.handles (numbered sound right q x was) other_same.1 (table_before sound right q d x is_driver was none)))

  -- as many numbers were given as each peer's table says
  given_after : (q : ℕ) (y : PeerPart) → IsPeer t q y → y.given ≡ (end_table o t q).given
  given_after q y now = by (driver_there q y now)
    where
      by : (d : DriverPart) × IsDriver t q d → y.given ≡ (end_table o t q).given
      by (d, is_driver) = elim (driver_cases step q d is_driver) [
        | inl own ↦ subst (λ r. y.given ≡ (end_table o t r).given) (sym own.0) (own_after sound right step (part_before p y (subst (λ r. IsPeer t r y) own.0 now)).0 y (part_before p y (subst (λ r. IsPeer t r y) own.0 now)).1 (subst (λ r. IsPeer t r y) own.0 now)).0
        | inr other ↦ other_given q other.0 d (part_before q y now).0 y other.1 is_driver (part_before q y now).1 now
      ]

  -- the table of each peer out of a gap
  pub table_behind : (q : ℕ) (d : DriverPart) (y : PeerPart) → IsDriver t q d → IsPeer t q y → in_gap d ≡ false → IsTable (end_table o t q) y.given y.handles
  table_behind q d y is_driver now none = elim (driver_cases step q d is_driver) [
    | inl own ↦ subst (λ r. IsTable (end_table o t r) y.given y.handles) (sym own.0) ((own_after sound right step (part_before p y (subst (λ r. IsPeer t r y) own.0 now)).0 y (part_before p y (subst (λ r. IsPeer t r y) own.0 now)).1 (subst (λ r. IsPeer t r y) own.0 now)).1 (sym (ap in_gap own.1) ∙ none))
    | inr other ↦ other_table q other.0 d (part_before q y now).0 y other.1 is_driver (part_before q y now).1 now none
  ]

  -- a step keeps it
  pub lines_kept : TableIsLines o t
  lines_kept = record {
    given = given_after;
    gap = gaps_kept sound step;
    lines = λ q d y l is_driver now none there. (table_behind q d y is_driver now none).lines l there;
    records = λ q number d y h is_driver now none there is. (table_behind q d y is_driver now none).records h number there is;
  }
