-- Nodes are destroyed exactly where the record has their destructions, over a step.
use Rattle.std.proofs.Common.{◌≡◌, refl, sym, ap, subst, ◌∙◌, inl, inr, ℕ, suc, ◌==◌, ◌<◌, Bool, true, false, List, [], ◌∷◌, length, Option, Some, None, Ok, Err}
use Rattle.std.specs.Prelude.{slice_get, position}
use Rattle.std.proofs.lemmas.Bool.{and_parts, eqb-true}
use Rattle.std.proofs.lemmas.Option.{slice_get_within, get_or_from_slice_get}
use native.Mathlib.Omega.{arith}
use Rattle.b1_model.specs.declared.commands.Command.{Command}
use Rattle.b1_model.specs.declared.naming.Key.{Key}
use Rattle.b1_model.specs.declared.naming.Opening.{Opening}
use Rattle.b1_model.specs.declared.naming.Wire.{Wire}
use Rattle.b1_model.specs.declared.parts.NodeState.TheVariants.{Destroyed}
use Rattle.b1_model.specs.declared.events.Destruction.{Destruction}
use Rattle.b1_model.specs.declared.events.Doing.{Doing}
use Rattle.b1_model.specs.declared.events.Outcome.TheVariants as out
use Rattle.b1_model.specs.declared.events.OwedDrop.{OwedDrop}
use Rattle.b1_model.specs.declared.events.Phase.{Phase}
use Rattle.b1_model.specs.declared.events.Phase.TheVariants.{Dooming}
use Rattle.b1_model.specs.declared.records.Record.{Record}
use Rattle.b1_model.specs.Names.{Node, Name, add_new}
use Rattle.b1_model.specs.Ledger.{Destruction as Doom, destructions_of}
use Rattle.b1_model.specs.MachineParts.{PeerPart, DriverPart, NodePart, State, no_node, node_at}
use Rattle.b1_model.specs.MachineSend.{final_stamp}
use Rattle.b1_model.specs.MachineEvents.{doomed_of}
use Rattle.b1_model.specs.MachineStep.{Step, record_of_state}
use Rattle.b1_ledger.specs.Growth.{all_names}
use Rattle.b1_ledger.proofs.Made.{IsMadeIn, DestructionsMade, destructions_made, add_new_keeps}
use Rattle.b1_ledger.proofs.Sequences.{each-at}
use Rattle.b1_inv.specs.Words.{IsPeer, IsDriver, stamp_of_phase, fixed_stamp}
use Rattle.b1_inv.specs.Notices.{doomed_now}
use Rattle.b1_inv.specs.Sound.{IsSound}
use Rattle.b1_inv_record.specs.Destructions.{own_ref, doomed_key}
use Rattle.b1_inv_record.specs.Epochs.{is_ref, doom_from}
use Rattle.b1_inv_record.specs.Names.{open_numbers}
use Rattle.b1_inv_record.specs.Right.{IsRight}
use Rattle.b1_inv_tools.proofs.Leaves.{driver_cases, peer_cases}
use Rattle.b1_inv_notices.proofs.Turns.{answered, took_leaves, parts, going_answer, get_there}
use Rattle.b1_inv_notices.proofs.StampsLaw.{fixed_before}
use Rattle.b1_inv_names.proofs.Numbers.{name_numbers, node_numbers}
use Rattle.b1_inv_doomed.proofs.Indices.{position_is, index_at}
use Rattle.b1_inv_doomed.proofs.CalmCalls.{NoStamp}
use Rattle.b1_inv_doomed.proofs.Records.{calm_keys}
use Rattle.b1_inv_doomed.proofs.Lives.{SameDestroyed, calm_destroyed}
use Rattle.b1_inv_doomed.proofs.Placed.{PlacedBy, WasPlaced, placed_turn}

-- the life of a node at its place
pub life_at : (x : PeerPart) (serial : ℕ) (n : NodePart) → slice_get x.nodes serial ≡ Some n → (node_at x serial).state ≡ n.state
life_at x serial n at = ap (λ m. m.state) (get_or_from_slice_get x.nodes serial n no_node at)

-- ---- nodes that the record destroys were made

pub as_long : (ms : List Name) (ns : List NodePart) → name_numbers ms ≡ node_numbers ns → length ms ≡ length ns
as_long [] [] same = refl
as_long [] (n ∷ ns) same = absurd (cc same)
as_long (m ∷ ms) [] same = absurd (cc same)
as_long (m ∷ ms) (n ∷ ns) same = ap suc (as_long ms ns (ap (λ l. elim l [ [] ↦ [] | k ∷ rest ↦ rest ]) same))

module _ (ws : List Wire) (r : Record) (p serial : ℕ) where
  abbrev HasName : Type 0
  HasName = (m : Name) × (slice_get (all_names ws r p) serial ≡ Some m)

  name_of : (y : Option Node) → is_ref (own_ref p serial) y ≡ true → IsMadeIn (all_names ws r) y → HasName
  name_of None is made = absurd (cc is)
  name_of (Some x) is made =
      let k = and_parts (x.owner == p) (x.serial == serial) is in
      (made.0, ap (λ q. slice_get (all_names ws r q) serial) (sym (eqb-true x.owner p k.0)) ∙ ap (slice_get (all_names ws r x.owner)) (sym (eqb-true x.serial serial k.1)) ∙ made.1)

  pub name_in : (ds : List Doom) (key : Key) → DestructionsMade ws r ds → doom_from (own_ref p serial) ds ≡ Some key → HasName
  name_in [] key made is = absurd (cc is)
  name_in (d ∷ rest) key made is = by (position (is_ref (own_ref p serial)) d.nodes) refl is (name_in rest key made.1)
    where
      by : (i : Option ℕ) → position (is_ref (own_ref p serial)) d.nodes ≡ i → elim i [ Some j ↦ Some (record { stamp = d.stamp; origin = d.origin; index = j }) | None ↦ doom_from (own_ref p serial) rest ] ≡ Some key
          → (doom_from (own_ref p serial) rest ≡ Some key → HasName) → HasName
      by (Some i) at some further =
          let k = index_at (is_ref (own_ref p serial)) d.nodes i (sym (position_is (is_ref (own_ref p serial)) d.nodes) ∙ at) in
          name_of k.0 k.2 (each-at (IsMadeIn (all_names ws r)) d.nodes made.0 i k.0 k.1)
      by None at none further = further none

-- ---- where a destruction gets its stamp

pub stamps_now : Phase → List OwedDrop → List ℕ → Bool
stamps_now (Dooming destruction) [] [] = true
stamps_now phase owed late = false

pub stamping_is : (phase : Phase) (owed : List OwedDrop) (late : List ℕ) → stamps_now phase owed late ≡ true → (destruction : Destruction) × (phase ≡ Dooming destruction) × (owed ≡ []) × (late ≡ [])
unfolding stamps_now
stamping_is (Dooming destruction) [] [] is = (destruction, refl, refl, refl)
stamping_is (Dooming destruction) [] (peer ∷ rest) is = absurd (cc is)
stamping_is (Dooming destruction) (one ∷ more) late is = absurd (cc is)
stamping_is phase owed late is = absurd (cc is)

pub calm_answer : (o : Opening) (memory : Bool) (d : DriverPart) (command : Command) (x : PeerPart) (phase : Phase) (owed : List OwedDrop) → stamps_now phase owed x.late ≡ false → NoStamp phase (answered o memory d command phase owed x).0
unfolding stamps_now
calm_answer o memory d command x (Dooming destruction) [] is = by x.late is
  where
    by : (late : List ℕ) → stamps_now (Dooming destruction) [] late ≡ false → NoStamp (Dooming destruction) (out.StampDestroy (elim late [ [] ↦ Ok (final_stamp x destruction.collected) | peer ∷ rest ↦ Err (peer ∷ rest) ]))
    by [] no_stamp = absurd (cc no_stamp)
    by (peer ∷ rest) no_stamp = tt
calm_answer o memory d command x (Dooming destruction) (one ∷ more) is = tt
calm_answer o memory d command x phase owed is = tt

-- what is open has a stamp and dooms a node as it is placed
pub placed_open : (P : ℕ → ℕ → ℕ → Type 0) (doing : Option Doing) (stamp i serial : ℕ) → PlacedBy P doing
    → elim doing [ None ↦ None | Some one ↦ stamp_of_phase one.phase ] ≡ Some stamp → slice_get (elim doing [ None ↦ [] | Some one ↦ doomed_of one.phase ]) i ≡ Some serial → P stamp i serial
placed_open P None stamp i serial h is at = absurd (cc is)
placed_open P (Some doing) stamp i serial h is at = h stamp i serial is at

-- a node that the record destroys was made
pub doomed_made : {o : Opening} {s : State} → IsSound o s → IsRight o s → (q serial : ℕ) (x : PeerPart) (key : Key) → IsPeer s q x → doomed_key o s (own_ref q serial) ≡ Some key → serial < length x.nodes
doomed_made {o} {s} sound right q serial x key is has =
    let name = name_in o.wires (record_of_state s) q serial (destructions_of o.wires (record_of_state s) q) key (destructions_made o.wires (record_of_state s) q _) has in
    let many : length s.peers ≡ length s.drivers = sound.numbered.as_many_peers ∙ sym sound.numbered.as_many_drivers in
    let d = get_there s.drivers q (let within = slice_get_within s.peers q x is in omega (arith, within, many)) in
    let numbers = right.names.made.made q d.0 x d.1 is in
    let long = as_long (add_new x.epoch (all_names o.wires (record_of_state s) q) (open_numbers d.0)) x.nodes (sym numbers) in
    let within = slice_get_within (add_new x.epoch (all_names o.wires (record_of_state s) q) (open_numbers d.0)) serial name.0 (add_new_keeps x.epoch (all_names o.wires (record_of_state s) q) (open_numbers d.0) serial name.0 name.1) in
    omega (arith, long, within)

module _ {o : Opening} {s : State} {p : ℕ} {c : Option Command} {t : State} (sound : IsSound o s) (right : IsRight o s) (step : Step o s p c t) where
  pub made_before : (q serial : ℕ) (x : PeerPart) (key : Key) → IsPeer s q x → doomed_key o s (own_ref q serial) ≡ Some key → serial < length x.nodes
  made_before q serial x key is has = doomed_made sound right q serial x key is has

  -- a fixed stamp and the place of a doomed node, by the phase that goes on
  pub placed_before : (stamp i serial : ℕ) → WasPlaced (parts step).phase stamp i serial → (fixed_stamp step.driver ≡ Some stamp) × (slice_get (doomed_now step.driver) i ≡ Some serial)
  placed_before stamp i serial was = elim (parts step).was [
    | inl open_is ↦ (fixed_before sound step stamp was.0, ap (λ doing. slice_get (elim doing [ None ↦ [] | Some one ↦ doomed_of one.phase ]) i) open_is ∙ was.1)
    | inr new ↦ let both : None ≡ Some stamp = ap stamp_of_phase (sym new.1) ∙ was.0 in absurd (cc both)
  ]

  module _ (none : NoStamp (parts step).phase (going_answer step)) where
    lives : SameDestroyed step.peer step.new_peer
    lives = subst (SameDestroyed step.peer) (parts step).is_peer (calm_destroyed o step.local.memory step.driver (parts step).command step.peer (parts step).phase step.driver.owed none)

    pub calm_gone : (q serial stamp : ℕ) (y : PeerPart) (n : NodePart) → IsPeer t q y → slice_get y.nodes serial ≡ Some n → n.state ≡ Destroyed stamp → (key : Key) × (doomed_key o t (own_ref q serial) ≡ Some key) × (key.stamp ≡ stamp)
    calm_gone q serial stamp y n is at state = elim (peer_cases step q y is) [
      | inr other ↦
          let k = right.destructions.dying.destroyed q serial stamp y n other.1 at state in
          (k.0, calm_keys sound right.destructions.numbers step none (own_ref q serial) ∙ k.1, k.2)
      | inl here ↦
          let within = slice_get_within y.nodes serial n at in
          let was = lives.was serial stamp (subst (λ z. serial < length z.nodes) here.1 within) (ap (λ z. (node_at z serial).state) (sym here.1) ∙ life_at y serial n at ∙ state) in
          let m = get_there step.peer.nodes serial was.0 in
          let k = right.destructions.dying.destroyed q serial stamp step.peer m.0 (subst (λ r. IsPeer s r step.peer) (sym here.0) step.is_peer) m.1 (sym (life_at step.peer serial m.0 m.1) ∙ was.1) in
          (k.0, calm_keys sound right.destructions.numbers step none (own_ref q serial) ∙ k.1, k.2)
    ]

    pub calm_recorded : (q serial : ℕ) (y : PeerPart) (n : NodePart) (key : Key) → IsPeer t q y → slice_get y.nodes serial ≡ Some n → doomed_key o t (own_ref q serial) ≡ Some key → n.state ≡ Destroyed key.stamp
    calm_recorded q serial y n key is at has =
        let was = sym (calm_keys sound right.destructions.numbers step none (own_ref q serial)) ∙ has in
        elim (peer_cases step q y is) [
          | inr other ↦ right.destructions.dying.recorded q serial y n key other.1 at was
          | inl here ↦
              let there = subst (λ r. IsPeer s r step.peer) (sym here.0) step.is_peer in
              let within = made_before q serial step.peer key there was in
              let m = get_there step.peer.nodes serial within in
              let state = right.destructions.dying.recorded q serial step.peer m.0 key there m.1 was in
              sym (life_at y serial n at) ∙ ap (λ z. (node_at z serial).state) here.1 ∙ lives.stays serial key.stamp within (life_at step.peer serial m.0 m.1 ∙ state)
        ]

    placed_now : PlacedBy (WasPlaced (parts step).phase) step.new_driver.doing
    placed_now =
        subst (λ e. PlacedBy (WasPlaced (parts step).phase) e.doing) (parts step).is_driver
        (took_leaves (PlacedBy (WasPlaced (parts step).phase)) (parts step).command (λ phase may k. tt) step.driver (parts step).phase step.driver.owed (going_answer step)
        (placed_turn (parts step).command step.driver.me (parts step).phase (going_answer step) none))

    pub calm_placed : (r i serial stamp : ℕ) (e : DriverPart) → IsDriver t r e → fixed_stamp e ≡ Some stamp → slice_get (doomed_now e) i ≡ Some serial → doomed_key o t (own_ref r serial) ≡ Some (record { stamp = stamp; origin = r; index = i })
    calm_placed r i serial stamp e is fixed at =
        calm_keys sound right.destructions.numbers step none (own_ref r serial)
        ∙ elim (driver_cases step r e is) as (λ z. doomed_key o s (own_ref r serial) ≡ Some (record { stamp = stamp; origin = r; index = i })) [
          | inr other ↦ right.destructions.dying.placed r i serial stamp e other.1 fixed at
          | inl own ↦
              let k = placed_before stamp i serial (placed_open (WasPlaced (parts step).phase) step.new_driver.doing stamp i serial placed_now (ap fixed_stamp (sym own.1) ∙ fixed) (ap (λ d. slice_get (doomed_now d) i) (sym own.1) ∙ at)) in
              right.destructions.dying.placed r i serial stamp step.driver (subst (λ q. IsDriver s q step.driver) (sym own.0) step.is_driver) k.0 k.1
        ]
