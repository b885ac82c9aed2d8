-- Nodes are destroyed exactly where the record has their destructions, where one gets its stamp.
use Rattle.std.proofs.Common.{◌≡◌, ◌≢◌, ◌⊎◌, refl, sym, ap, subst, ◌∙◌, inl, inr, ℕ, ◌==◌, ◌<◌, true, false, [], length, Option, Some, None, option_map}
use Rattle.std.specs.Prelude.{slice_get, is_some}
use Rattle.std.proofs.lemmas.Bool.{ne_eqb}
use Rattle.std.proofs.lemmas.Option.{same_Some, slice_get_within}
use native.Mathlib.Omega.{arith}
use Rattle.b1_model.specs.declared.commands.Command.{Command}
use Rattle.b1_model.specs.declared.naming.Key.{Key}
use Rattle.b1_model.specs.declared.naming.Opening.{Opening}
use Rattle.b1_model.specs.declared.parts.NodeState.TheVariants.{Destroyed}
use Rattle.b1_model.specs.declared.events.Destruction.{Destruction}
use Rattle.b1_model.specs.declared.events.Phase.TheVariants.{Dooming}
use Rattle.b1_model.specs.Ledger.{destructions_of}
use Rattle.b1_model.specs.MachineParts.{PeerPart, DriverPart, NodePart, State, is_destroyed, node_at}
use Rattle.b1_model.specs.MachineTables.{with_nodes, in_state}
use Rattle.b1_model.specs.MachineStep.{Step, record_of_state}
use Rattle.b1_step.specs.Rights.{Has}
use Rattle.b1_step.proofs.Lists.{has_at}
use Rattle.b1_inv.specs.Words.{IsPeer, IsDriver, fixed_stamp}
use Rattle.b1_inv.specs.Notices.{doomed_now}
use Rattle.b1_inv.specs.Sound.{IsSound}
use Rattle.b1_inv_record.specs.Destructions.{own_ref, doomed_key}
use Rattle.b1_inv_record.specs.Epochs.{doom_from}
use Rattle.b1_inv_record.specs.Right.{IsRight}
use Rattle.b1_inv_tools.proofs.Leaves.{driver_cases, peer_cases}
use Rattle.b1_inv_notices.proofs.Nodes.{doomed_length, doomed_state, undoomed_state}
use Rattle.b1_inv_notices.proofs.Sets.{in_or_not, has_index}
use Rattle.b1_inv_notices.proofs.Turns.{OnTurn, took_leaves, parts, going_answer, get_there}
use Rattle.b1_inv_destroys.proofs.Stays.{doomed_stays}
use Rattle.b1_inv_doomed.proofs.Indices.{index, index_none, index_once}
use Rattle.b1_inv_doomed.proofs.Refs.{ref_index, doom_end}
use Rattle.b1_inv_doomed.proofs.Records.{other_dooms}
use Rattle.b1_inv_doomed.proofs.Placed.{PlacedBy, placed_notices}
use Rattle.b1_inv_doomed.proofs.Stamped.{given, peer_is, turn_is, at_is, is_peer, shape, new_doom, gone_recorded}
use Rattle.b1_inv_doomed.proofs.Dying.{life_at, placed_open}

module _ {o : Opening} {s : State} {p : ℕ} {c : Option Command} {t : State} (sound : IsSound o s) (right : IsRight o s) (step : Step o s p c t)
    (destruction : Destruction) (dooming : (parts step).phase ≡ Dooming destruction) (none_owed : step.driver.owed ≡ []) (none_late : step.peer.late ≡ []) where
  abbrev stamp : ℕ
  stamp = given sound right step destruction dooming none_owed none_late

  abbrev here_at : step.at ≡ p
  here_at = at_is sound right step destruction dooming none_owed none_late

  pub there : IsPeer s p step.peer
  there = is_peer sound right step destruction dooming none_owed none_late

  key_at : ℕ → Key
  key_at i = record { stamp = stamp; origin = p; index = i }

  -- a node of p without a key has the one of its place, if it is doomed
  new_key : (serial : ℕ) → doomed_key o s (own_ref p serial) ≡ None → doomed_key o t (own_ref p serial) ≡ option_map key_at (index (λ j. j == serial) destruction.doomed)
  unfolding key_at
  new_key serial none =
      let k = new_doom sound right step destruction dooming none_owed none_late in
      ap (doom_from (own_ref p serial)) k.1
      ∙ doom_end (own_ref p serial) (destructions_of o.wires (record_of_state s) p) (record { stamp = stamp; origin = p; nodes = k.0 }) none
      ∙ ap (option_map (λ i. record { stamp = stamp; origin = p; index = i })) (ref_index p serial k.0 destruction.doomed k.2)

  -- a doomed node has none before
  none_before : (serial : ℕ) → Has destruction.doomed serial → doomed_key o s (own_ref p serial) ≡ None
  none_before serial h = by (doomed_key o s (own_ref p serial)) refl
    where
      by : (r : Option Key) → doomed_key o s (own_ref p serial) ≡ r → r ≡ None
      by None is = refl
      by (Some key) is =
          let made = (shape sound right step destruction dooming none_owed none_late).1.made serial h in
          let n = get_there step.peer.nodes serial made.0 in
          let both : true ≡ false = ap is_some (sym is) ∙ gone_recorded right.destructions.dying p serial step.peer n.0 there n.1 ∙ ap is_destroyed (sym (life_at step.peer serial n.0 n.1) ∙ made.1) in
          absurd (cc both)

  -- and that of its place afterwards
  doomed_has : (i serial : ℕ) → slice_get destruction.doomed i ≡ Some serial → Has destruction.doomed serial → doomed_key o t (own_ref p serial) ≡ Some (key_at i)
  doomed_has i serial at h =
      new_key serial (none_before serial h)
      ∙ ap (option_map key_at) (index_once destruction.doomed i serial (shape sound right step destruction dooming none_owed none_late).1.apart at)

  pub doomed_key_now : (i serial : ℕ) → slice_get destruction.doomed i ≡ Some serial → doomed_key o t (own_ref p serial) ≡ Some (record { stamp = stamp; origin = p; index = i })
  unfolding key_at
  doomed_key_now i serial at = doomed_has i serial at (has_at destruction.doomed i serial at)

  -- ---- the nodes

  nodes_are : step.new_peer.nodes ≡ with_nodes destruction.doomed (in_state (Destroyed stamp)) step.peer.nodes
  nodes_are = ap (λ z. z.nodes) (peer_is sound right step destruction dooming none_owed none_late)

  pub as_before : (q : ℕ) (y : PeerPart) → IsPeer t q y → ((q ≡ p) × (y.nodes ≡ with_nodes destruction.doomed (in_state (Destroyed stamp)) step.peer.nodes)) ⊎ ((q ≢ p) × IsPeer s q y)
  as_before q y is = elim (peer_cases step q y is) [
    | inl here ↦ inl (here.0 ∙ here_at, ap (λ z. z.nodes) here.1 ∙ nodes_are)
    | inr other ↦ inr (λ same. other.0 (same ∙ sym here_at), other.1)
  ]

  module _ (serial : ℕ) (y : PeerPart) (n : NodePart) (nodes : y.nodes ≡ with_nodes destruction.doomed (in_state (Destroyed stamp)) step.peer.nodes) (at : slice_get y.nodes serial ≡ Some n) where
    low : serial < length step.peer.nodes
    low = let within = slice_get_within y.nodes serial n at in let long = ap length nodes in let same = doomed_length (Destroyed stamp) destruction.doomed step.peer.nodes in omega (arith, within, long, same)

    life : n.state ≡ (node_at (record step.peer { nodes = with_nodes destruction.doomed (in_state (Destroyed stamp)) step.peer.nodes }) serial).state
    life = sym (life_at y serial n at) ∙ ap (λ ns. (node_at (record step.peer { nodes = ns }) serial).state) nodes

    now_gone : Has destruction.doomed serial → n.state ≡ Destroyed stamp
    now_gone h = life ∙ doomed_state (Destroyed stamp) destruction.doomed step.peer.nodes serial h low

    as_was : (Has destruction.doomed serial → ⊥) → (m : NodePart) × (slice_get step.peer.nodes serial ≡ Some m) × (n.state ≡ m.state)
    as_was none =
        let m = get_there step.peer.nodes serial low in
        (m.0, m.1, life ∙ ap (λ k. k.state) (undoomed_state (Destroyed stamp) destruction.doomed step.peer.nodes serial none) ∙ life_at step.peer serial m.0 m.1)

    own_gone : (given_stamp : ℕ) → n.state ≡ Destroyed given_stamp → (key : Key) × (doomed_key o t (own_ref p serial) ≡ Some key) × (key.stamp ≡ given_stamp)
    unfolding key_at
    own_gone given_stamp state = elim (in_or_not serial destruction.doomed) [
      | inl h ↦
          let i = has_index destruction.doomed serial h in
          let same : Destroyed stamp ≡ Destroyed given_stamp = sym (now_gone h) ∙ state in
          (key_at i.0, doomed_has i.0 serial i.1 h, cc same)
      | inr none ↦
          let m = as_was none in
          let k = right.destructions.dying.destroyed p serial given_stamp step.peer m.0 there m.1 (sym m.2 ∙ state) in
          (k.0, doomed_stays sound right.destructions.numbers step (own_ref p serial) k.0 k.1, k.2)
    ]

    own_recorded : (key : Key) → doomed_key o t (own_ref p serial) ≡ Some key → n.state ≡ Destroyed key.stamp
    unfolding key_at
    own_recorded key has = elim (in_or_not serial destruction.doomed) [
      | inl h ↦
          let i = has_index destruction.doomed serial h in
          let same : key_at i.0 ≡ key = same_Some (key_at i.0) key (sym (doomed_has i.0 serial i.1 h) ∙ has) in
          now_gone h ∙ ap (λ k. Destroyed k.stamp) same
      | inr none ↦ by none (doomed_key o s (own_ref p serial)) refl
    ]
      where
        by : (Has destruction.doomed serial → ⊥) → (r : Option Key) → doomed_key o s (own_ref p serial) ≡ r → n.state ≡ Destroyed key.stamp
        by none (Some k) is =
            let m = as_was none in
            let same : k ≡ key = same_Some k key (sym (doomed_stays sound right.destructions.numbers step (own_ref p serial) k is) ∙ has) in
            m.2 ∙ right.destructions.dying.recorded p serial step.peer m.0 k there m.1 is ∙ ap (λ l. Destroyed l.stamp) same
        by none None is =
            let absent : index (λ j. j == serial) destruction.doomed ≡ None = index_none (λ j. j == serial) destruction.doomed (λ j h. ne_eqb j serial (λ same. none (subst (Has destruction.doomed) same h))) in
            let both : None ≡ Some key = sym (new_key serial is ∙ ap (option_map key_at) absent) ∙ has in
            absurd (cc both)

  -- ---- the facts

  pub stamped_gone : (q serial given_stamp : ℕ) (y : PeerPart) (n : NodePart) → IsPeer t q y → slice_get y.nodes serial ≡ Some n → n.state ≡ Destroyed given_stamp → (key : Key) × (doomed_key o t (own_ref q serial) ≡ Some key) × (key.stamp ≡ given_stamp)
  stamped_gone q serial given_stamp y n is at state = elim (as_before q y is) [
    | inl own ↦ subst (λ r. (key : Key) × (doomed_key o t (own_ref r serial) ≡ Some key) × (key.stamp ≡ given_stamp)) (sym own.0) (own_gone serial y n own.1 at given_stamp state)
    | inr other ↦
        let k = right.destructions.dying.destroyed q serial given_stamp y n other.1 at state in
        (k.0, doomed_stays sound right.destructions.numbers step (own_ref q serial) k.0 k.1, k.2)
  ]

  pub stamped_recorded : (q serial : ℕ) (y : PeerPart) (n : NodePart) (key : Key) → IsPeer t q y → slice_get y.nodes serial ≡ Some n → doomed_key o t (own_ref q serial) ≡ Some key → n.state ≡ Destroyed key.stamp
  stamped_recorded q serial y n key is at has = elim (as_before q y is) [
    | inl own ↦ own_recorded serial y n own.1 at key (subst (λ r. doomed_key o t (own_ref r serial) ≡ Some key) own.0 has)
    | inr other ↦ right.destructions.dying.recorded q serial y n key other.1 at (sym (ap (doom_from (own_ref q serial)) (other_dooms sound right.destructions.numbers step q other.0)) ∙ has)
  ]

  -- the new stamp, and the nodes that were doomed
  abbrev IsGiven : ℕ → ℕ → ℕ → Type 0
  IsGiven other i serial = (other ≡ stamp) × (slice_get destruction.doomed i ≡ Some serial)

  given_now : PlacedBy IsGiven step.new_driver.doing
  given_now =
      subst (λ e. PlacedBy IsGiven e.doing) (parts step).is_driver
      (took_leaves (PlacedBy IsGiven) (parts step).command (λ phase may k. tt) step.driver (parts step).phase step.driver.owed (going_answer step)
      (subst (OnTurn (parts step).command (PlacedBy IsGiven)) (sym (turn_is sound right step destruction dooming none_owed none_late))
      (placed_notices IsGiven (parts step).command destruction stamp 0 (λ i serial at. (refl, at)))))

  pub stamped_placed : (r i serial other : ℕ) (e : DriverPart) → IsDriver t r e → fixed_stamp e ≡ Some other → slice_get (doomed_now e) i ≡ Some serial → doomed_key o t (own_ref r serial) ≡ Some (record { stamp = other; origin = r; index = i })
  unfolding key_at
  stamped_placed r i serial other e is fixed at = elim (driver_cases step r e is) [
    | inr away ↦ doomed_stays sound right.destructions.numbers step (own_ref r serial) (record { stamp = other; origin = r; index = i }) (right.destructions.dying.placed r i serial other e away.1 fixed at)
    | inl own ↦
        let k = placed_open IsGiven step.new_driver.doing other i serial given_now (ap fixed_stamp (sym own.1) ∙ fixed) (ap (λ d. slice_get (doomed_now d) i) (sym own.1) ∙ at) in
        subst (λ q. doomed_key o t (own_ref q serial) ≡ Some (record { stamp = other; origin = q; index = i })) (sym own.0)
        (doomed_has i serial k.1 (has_at destruction.doomed i serial k.1) ∙ ap (λ n. Some (record { stamp = n; origin = p; index = i })) (sym k.0))
  ]

  -- a node that isn't doomed has its key from before
  pub stamped_key_before : (serial : ℕ) (key : Key) → (Has destruction.doomed serial → ⊥) → doomed_key o t (own_ref p serial) ≡ Some key → doomed_key o s (own_ref p serial) ≡ Some key
  stamped_key_before serial key none has = by (doomed_key o s (own_ref p serial)) refl
    where
      by : (r : Option Key) → doomed_key o s (own_ref p serial) ≡ r → r ≡ Some key
      by (Some k) is = ap Some (same_Some k key (sym (doomed_stays sound right.destructions.numbers step (own_ref p serial) k is) ∙ has))
      by None is =
          let absent : index (λ j. j == serial) destruction.doomed ≡ None = index_none (λ j. j == serial) destruction.doomed (λ j h. ne_eqb j serial (λ same. none (subst (Has destruction.doomed) same h))) in
          let both : None ≡ Some key = sym (new_key serial is ∙ ap (option_map key_at) absent) ∙ has in
          absurd (cc both)
