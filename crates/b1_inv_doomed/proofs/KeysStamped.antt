-- A node's key and a key's node are inverse, where a destruction gets its stamp.
use Rattle.std.proofs.Common.{◌≡◌, refl, sym, ap, subst, ◌∙◌, inl, inr, ℕ, ◌<◌, ◌==◌, [], ◌∷◌, ◌++◌, length, find, Option, Some, None, option_map, List}
use Rattle.std.proofs.lemmas.Bool.{cases_eq}
use Rattle.std.proofs.lemmas.Option.{same_Some}
use native.Mathlib.Omega.{arith}
use Rattle.b1_model.specs.declared.commands.Command.{Command}
use Rattle.b1_model.specs.declared.naming.Key.{Key}
use Rattle.b1_model.specs.declared.naming.Opening.{Opening}
use Rattle.b1_model.specs.declared.events.Destruction.{Destruction}
use Rattle.b1_model.specs.declared.events.Phase.TheVariants.{Dooming}
use Rattle.b1_model.specs.Names.{Node, calls_of}
use Rattle.b1_model.specs.Ledger.{Destruction as Doom, destructions_of, doomed_at}
use Rattle.b1_model.specs.MachineParts.{PeerPart, State}
use Rattle.b1_model.specs.MachineSend.{final_stamp}
use Rattle.b1_model.specs.MachineStep.{Step, record_of_state}
use Rattle.b1_step.proofs.Lists.{has_at}
use Rattle.b1_ledger.proofs.Bound.{seen_of_stamp}
use Rattle.b1_ledger.proofs.Plain.{destruction_source}
use Rattle.b1_inv.specs.Words.{IsPeer}
use Rattle.b1_inv.specs.Sound.{IsSound}
use Rattle.b1_inv_record.specs.Destructions.{own_ref, doomed_key}
use Rattle.b1_inv_record.specs.Epochs.{ref_of, doom_from}
use Rattle.b1_inv_record.specs.Right.{IsRight}
use Rattle.b1_inv_tools.proofs.Leaves.{peer_cases}
use Rattle.b1_inv_notices.proofs.Sets.{in_or_not, has_index}
use Rattle.b1_inv_notices.proofs.Turns.{parts, get_there}
use Rattle.b1_inv_destroys.proofs.Stays.{doomed_stays}
use Rattle.b1_inv_doomed.proofs.KeyPlaces.{at_in, at_kept, at_end, at_last, node_there, there_node}
use Rattle.b1_inv_doomed.proofs.Records.{other_dooms}
use Rattle.b1_inv_doomed.proofs.Stamped.{given, new_doom}
use Rattle.b1_inv_doomed.proofs.Dying.{made_before}
use Rattle.b1_inv_doomed.proofs.DyingStamped.{there, doomed_key_now, stamped_key_before}

above_clock : (x : PeerPart) (collected : ℕ) → x.clock < final_stamp x collected
above_clock x collected = omega arith

module _ {o : Opening} {s : State} {p : ℕ} {c : Option Command} {t : State} (sound : IsSound o s) (right : IsRight o s) (step : Step o s p c t) where
  -- the peer of a state after was one before
  pub was_peer : (q : ℕ) (y : PeerPart) → IsPeer t q y → (x : PeerPart) × IsPeer s q x
  was_peer q y is = elim (peer_cases step q y is) [
    | inl here ↦ (step.peer, subst (λ r. IsPeer s r step.peer) (sym here.0) step.is_peer)
    | inr other ↦ (y, other.1)
  ]

  -- a node with a key before is the key's node
  pub node_before : (q serial : ℕ) (y : PeerPart) (key : Key) → IsPeer t q y → doomed_key o s (own_ref q serial) ≡ Some key → option_map ref_of (doomed_at o.wires (record_of_state s) key) ≡ Some (own_ref q serial)
  node_before q serial y key is has =
      let x = was_peer q y is in
      let n = get_there x.0.nodes serial (made_before sound right step q serial x.0 key x.1 has) in
      right.destructions.keys.node q serial x.0 n.0 key x.1 n.1 has

  module _ (destruction : Destruction) (dooming : (parts step).phase ≡ Dooming destruction) (none_owed : step.driver.owed ≡ []) (none_late : step.peer.late ≡ []) where
    abbrev stamp : ℕ
    stamp = given sound right step destruction dooming none_owed none_late

    abbrev before : List Doom
    before = destructions_of o.wires (record_of_state s) p

    abbrev named : List (Option Node)
    named = (new_doom sound right step destruction dooming none_owed none_late).0

    abbrev new : Doom
    new = record { stamp = stamp; origin = p; nodes = named }

    after : destructions_of o.wires (record_of_state t) p ≡ before ++ new ∷ []
    after = (new_doom sound right step destruction dooming none_owed none_late).1

    -- the stamp is new
    is_new : find (λ d. d.stamp == stamp) before ≡ None
    is_new = by (find (λ d. d.stamp == stamp) before) refl
      where
        by : (r : Option Doom) → find (λ d. d.stamp == stamp) before ≡ r → r ≡ None
        by None is = refl
        by (Some d) is =
            let k = destruction_source o.wires (record_of_state s) p (length (calls_of (record_of_state s) p)) stamp d is in
            let low = right.clocks.listed.below p step.peer k.1 stamp (there sound right step destruction dooming none_owed none_late)
            (has_at (calls_of (record_of_state s) p) k.0 k.1 k.2) (seen_of_stamp k.1.answer stamp k.3) in
            let high = above_clock step.peer destruction.collected in
            absurd (omega (arith, low, high))

    -- the nodes at old keys stay
    at_stays : (key : Key) (x : Node) → doomed_at o.wires (record_of_state s) key ≡ Some x → doomed_at o.wires (record_of_state t) key ≡ Some x
    at_stays key x is = elim (cases_eq key.origin p) [
      | inr apart ↦ ap (λ ds. at_in ds key.stamp key.index) (other_dooms sound right.destructions.numbers step key.origin apart) ∙ is
      | inl here ↦
          ap (λ q. at_in (destructions_of o.wires (record_of_state t) q) key.stamp key.index) here ∙ ap (λ ds. at_in ds key.stamp key.index) after
          ∙ at_kept before new key.stamp key.index x (sym (ap (λ q. at_in (destructions_of o.wires (record_of_state s) q) key.stamp key.index) here) ∙ is)
    ]

    ref_stays : (key : Key) (q serial : ℕ) → option_map ref_of (doomed_at o.wires (record_of_state s) key) ≡ Some (own_ref q serial) → option_map ref_of (doomed_at o.wires (record_of_state t) key) ≡ Some (own_ref q serial)
    ref_stays key q serial is = by (doomed_at o.wires (record_of_state s) key) refl
      where
        by : (r : Option Node) → doomed_at o.wires (record_of_state s) key ≡ r → option_map ref_of (doomed_at o.wires (record_of_state t) key) ≡ Some (own_ref q serial)
        by None at = let none : None ≡ Some (own_ref q serial) = sym (ap (option_map ref_of) at) ∙ is in absurd (cc none)
        by (Some x) at = ap (option_map ref_of) (at_stays key x at) ∙ sym (ap (option_map ref_of) at) ∙ is

    -- a node without a key before is one that is doomed
    own_now : (serial : ℕ) (key : Key) → doomed_key o s (own_ref p serial) ≡ None → doomed_key o t (own_ref p serial) ≡ Some key → option_map ref_of (doomed_at o.wires (record_of_state t) key) ≡ Some (own_ref p serial)
    own_now serial key none has = elim (in_or_not serial destruction.doomed) [
      | inl h ↦
          let i = has_index destruction.doomed serial h in
          let same : record { stamp = stamp; origin = p; index = i.0 } ≡ key = same_Some _ key (sym (doomed_key_now sound right step destruction dooming none_owed none_late i.0 serial i.1) ∙ has) in
          ap (λ k. option_map ref_of (doomed_at o.wires (record_of_state t) k)) (sym same)
          ∙ ap (λ ds. option_map ref_of (at_in ds stamp i.0)) after
          ∙ ap (option_map ref_of) (at_last before new i.0 is_new)
          ∙ node_there p stamp named destruction.doomed (new_doom sound right step destruction dooming none_owed none_late).2 i.0 serial i.1
      | inr out ↦
          let both : None ≡ Some key = sym none ∙ stamped_key_before sound right step destruction dooming none_owed none_late serial key out has in
          absurd (cc both)
    ]

    pub stamped_node : (q serial : ℕ) (y : PeerPart) (key : Key) → IsPeer t q y → doomed_key o t (own_ref q serial) ≡ Some key → option_map ref_of (doomed_at o.wires (record_of_state t) key) ≡ Some (own_ref q serial)
    stamped_node q serial y key is has = by (doomed_key o s (own_ref q serial)) refl
      where
        by : (r : Option Key) → doomed_key o s (own_ref q serial) ≡ r → option_map ref_of (doomed_at o.wires (record_of_state t) key) ≡ Some (own_ref q serial)
        by (Some k) was =
            let same : k ≡ key = same_Some k key (sym (doomed_stays sound right.destructions.numbers step (own_ref q serial) k was) ∙ has) in
            ref_stays key q serial (node_before q serial y key is (was ∙ ap Some same))
        by None was = elim (cases_eq q p) [
          | inl here ↦
              subst (λ r. option_map ref_of (doomed_at o.wires (record_of_state t) key) ≡ Some (own_ref r serial)) (sym here)
              (own_now serial key (subst (λ r. doomed_key o s (own_ref r serial) ≡ None) here was) (subst (λ r. doomed_key o t (own_ref r serial) ≡ Some key) here has))
          | inr apart ↦
              let both : None ≡ Some key = sym was ∙ sym (ap (doom_from (own_ref q serial)) (other_dooms sound right.destructions.numbers step q apart)) ∙ has in
              absurd (cc both)
        ]

    pub stamped_key : (key : Key) (x : Node) → doomed_at o.wires (record_of_state t) key ≡ Some x → doomed_key o t (ref_of x) ≡ Some key
    stamped_key key x is = elim (cases_eq key.origin p) [
      | inr apart ↦ old (sym (ap (λ ds. at_in ds key.stamp key.index) (other_dooms sound right.destructions.numbers step key.origin apart)) ∙ is)
      | inl here ↦
          elim (at_end before new key.stamp key.index x (sym (ap (λ q. at_in (destructions_of o.wires (record_of_state t) q) key.stamp key.index) here ∙ ap (λ ds. at_in ds key.stamp key.index) after) ∙ is)) [
            | inl was ↦ old (ap (λ q. at_in (destructions_of o.wires (record_of_state s) q) key.stamp key.index) here ∙ was)
            | inr last ↦
                let k = there_node p stamp named destruction.doomed (new_doom sound right step destruction dooming none_owed none_late).2 key.index x last.1 in
                ap (doomed_key o t) (sym k.2)
                ∙ doomed_key_now sound right step destruction dooming none_owed none_late key.index k.0 k.1
                ∙ ap (λ n. Some (record { stamp = n; origin = p; index = key.index })) last.0
                ∙ ap (λ q. Some (record { stamp = key.stamp; origin = q; index = key.index })) (sym here)
          ]
    ]
      where
        old : doomed_at o.wires (record_of_state s) key ≡ Some x → doomed_key o t (ref_of x) ≡ Some key
        old was = doomed_stays sound right.destructions.numbers step (ref_of x) key (right.destructions.keys.key key x was)
