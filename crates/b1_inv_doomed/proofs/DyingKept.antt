-- Nodes are destroyed exactly where the record has their destructions, over every step.
use Rattle.std.proofs.Common.{◌≡◌, refl, sym, ap, ◌∙◌, inl, inr, ℕ, ◌<◌, Bool, true, false, cond, [], length, Option, Some, None}
use Rattle.std.specs.Prelude.{slice_get}
use Rattle.std.proofs.lemmas.Bool.{cases_lt}
use Rattle.std.proofs.lemmas.Option.{slice_get_within}
use native.Mathlib.Omega.{arith}
use Rattle.b1_model.specs.declared.naming.NodeRef.{NodeRef}
use Rattle.b1_model.specs.Names.{is_own, calls_of}
use Rattle.b1_model.specs.Ledger.{destructions_before}
use Rattle.b1_model.specs.MachineTables.{counted, with_made}
use Rattle.b1_model.specs.MachineTook.{driver_calls}
use Rattle.b1_step.proofs.Numbers.{opening_numbered}
use Rattle.b1_inv_tools.proofs.Facts.{no_stamp}
use Rattle.b1_inv_tools.proofs.Openings.{opening_each, opening_idle}
use Rattle.b1_inv_notices.proofs.Nodes.{NodesKept, node_kept, made_kept}
use Rattle.b1_inv_record.specs.Epochs.{doom_from}
use Rattle.b1_inv_destroys.proofs.Recorded.{calls_by, recorded}
use Rattle.b1_inv.specs.Words.{IsPeer}
use Rattle.b1_model.specs.declared.commands.Command.{Command}
use Rattle.b1_model.specs.declared.naming.Opening.{Opening}
use Rattle.b1_model.specs.declared.parts.NodeState.TheVariants.{Live, Destroyed}
use Rattle.b1_model.specs.MachineParts.{PeerPart, DriverPart, State, is_destroyed, node_at}
use Rattle.b1_model.specs.MachineStep.{Step, opening_state, wire_made, wire_counted, record_of_state}
use Rattle.b1_inv.specs.Sound.{IsSound}
use Rattle.b1_inv_record.specs.Destructions.{own_ref, doomed_key, DyingIsDoomed}
use Rattle.b1_inv_record.specs.Right.{IsRight}
use Rattle.b1_inv_notices.proofs.Turns.{parts}
use Rattle.b1_inv_destroys.proofs.DoomedNow.{doomed_present, doomed_begins}
use Rattle.b1_inv_doomed.proofs.Dying.{life_at, stamps_now, stamping_is, calm_answer, calm_gone, calm_recorded, calm_placed}
use Rattle.b1_inv_doomed.proofs.DyingStamped.{stamped_gone, stamped_recorded, stamped_placed}

module _ {o : Opening} {s : State} {p : ℕ} {c : Option Command} {t : State} (sound : IsSound o s) (right : IsRight o s) (step : Step o s p c t) where
  pub dying_kept : DyingIsDoomed o t
  dying_kept = by (stamps_now (parts step).phase step.driver.owed step.peer.late) refl
    where
      by : (b : Bool) → stamps_now (parts step).phase step.driver.owed step.peer.late ≡ b → DyingIsDoomed o t
      by true now =
          let k = stamping_is (parts step).phase step.driver.owed step.peer.late now in
          record {
            destroyed = λ q serial stamp x n. stamped_gone sound right step k.0 k.1 k.2 k.3 q serial stamp x n;
            recorded = λ q serial x n key. stamped_recorded sound right step k.0 k.1 k.2 k.3 q serial x n key;
            present = λ q serial d. doomed_present sound right step q serial d;
            placed = λ q i serial stamp d. stamped_placed sound right step k.0 k.1 k.2 k.3 q i serial stamp d;
          }
      by false calm =
          let none = calm_answer o step.local.memory step.driver (parts step).command step.peer (parts step).phase step.driver.owed calm in
          record {
            destroyed = λ q serial stamp x n. calm_gone sound right step none q serial stamp x n;
            recorded = λ q serial x n key. calm_recorded sound right step none q serial x n key;
            present = λ q serial d. doomed_present sound right step q serial d;
            placed = λ q i serial stamp d. calm_placed sound right step none q i serial stamp d;
          }

-- ---- the beginning

-- all nodes of a part are live
abbrev AllLive : PeerPart → Type 0
AllLive x = (serial : ℕ) → serial < length x.nodes → (node_at x serial).state ≡ Live

still_live : (x y : PeerPart) → NodesKept x.nodes y.nodes → AllLive x → AllLive y
still_live x y kept live serial low = elim (cases_lt serial (length x.nodes)) [
  | inl old ↦ kept.state serial old ∙ live serial old
  | inr new ↦ kept.live serial new low
]

made_live : (number : ℕ) (x : PeerPart) → AllLive x → AllLive (wire_made number x)
made_live number x live = by (is_own number)
  where
    by : (b : Bool) → AllLive (cond b (record x { nodes = with_made x.peers number x.nodes }) x)
    by true = still_live x (record x { nodes = with_made x.peers number x.nodes }) (made_kept x.peers number x.nodes) live
    by false = live

counted_live : (node : NodeRef) (dest : ℕ) (x : PeerPart) → AllLive x → AllLive (wire_counted node dest x)
counted_live node dest x live = still_live x (wire_counted node dest x) (node_kept (counted dest) (λ n. refl) node.serial x.nodes) live

opening_live : (o : Opening) (q : ℕ) (x : PeerPart) → IsPeer (opening_state o) q x → AllLive x
opening_live o = opening_each AllLive made_live counted_live (λ node x live. live) o (λ me spec serial low. absurd (omega (arith, low)))

pub opening_calls : (o : Opening) (p : ℕ) → calls_of (record_of_state (opening_state o)) p ≡ []
opening_calls o p = recorded (opening_state o) p (let k = opening_numbered o in k.as_many_peers ∙ sym k.as_many_drivers) ∙ by (slice_get (opening_state o).drivers p) refl
  where
    by : (d : Option DriverPart) → slice_get (opening_state o).drivers p ≡ d → calls_by d ≡ []
    by None is = refl
    by (Some d) is = ap driver_calls (opening_idle o p d is)

pub opening_keys : (o : Opening) (node : NodeRef) → doomed_key o (opening_state o) node ≡ None
opening_keys o node = ap (λ n. doom_from node (destructions_before o.wires (record_of_state (opening_state o)) node.owner n)) (ap length (opening_calls o node.owner))

pub dying_begins : (o : Opening) → DyingIsDoomed o (opening_state o)
dying_begins o = record {
  destroyed = λ q serial stamp x n is at state.
      let low = slice_get_within x.nodes serial n at in
      let both : Live ≡ Destroyed stamp = sym (opening_live o q x is serial low) ∙ life_at x serial n at ∙ state in
      let wrong : false ≡ true = ap is_destroyed both in absurd (cc wrong);
  recorded = λ q serial x n key is at has. let both : None ≡ Some key = sym (opening_keys o (own_ref q serial)) ∙ has in absurd (cc both);
  present = λ q serial d. doomed_begins o q serial d;
  placed = λ q i serial stamp d is fixed at. absurd (no_stamp d stamp (ap (λ e. e.doing) (opening_idle o q d is)) fixed);
}
