-- A step keeps what holders took travelling to the owners of their nodes.
use Rattle.std.proofs.Common.{◌≡◌, ◌⊎◌, refl, sym, ap, subst, ◌∙◌, inl, inr, ℕ, suc, ◌≤◌, ◌<◌, Bool, true, false, [], ◌∷◌, length, Option, Some}
use Rattle.std.specs.Prelude.{slice_get}
use Rattle.std.proofs.lemmas.List.{length-append}
use Rattle.std.proofs.lemmas.Option.{slice_get_within}
use native.Mathlib.Omega.{arith}
use Rattle.b1_model.specs.declared.commands.Command.{Command}
use Rattle.b1_model.specs.declared.naming.Key.{Key}
use Rattle.b1_model.specs.declared.naming.Opening.{Opening}
use Rattle.b1_model.specs.declared.events.Action.TheVariants as act
use Rattle.b1_model.specs.declared.records.Call.{Call}
use Rattle.b1_model.specs.Names.{Node, calls_of}
use Rattle.b1_model.specs.Ledger.{Line, got_key, table}
use Rattle.b1_model.specs.MachineParts.{PeerPart, DriverPart, State, is_destroyed, node_at}
use Rattle.b1_model.specs.MachineReceive.{received_part}
use Rattle.b1_model.specs.MachineDriver.{peer_of}
use Rattle.b1_model.specs.MachineEvents.{happens}
use Rattle.b1_model.specs.MachineStep.{Step, record_of_state}
use Rattle.b1_step.specs.Rights.{Has}
use Rattle.b1_step.proofs.Lists.{has_at}
use Rattle.b1_ledger.specs.Growth.{calls_len}
use Rattle.b1_ledger.proofs.Grows.{old_or_new}
use Rattle.b1_law.proofs.Reached.{step_sound}
use Rattle.b1_inv.specs.Words.{IsPeer, IsDriver}
use Rattle.b1_inv.specs.Sound.{IsSound}
use Rattle.b1_inv_record.specs.Epochs.{in_gap, ref_of}
use Rattle.b1_inv_record.specs.Holders.{IsSeen, Travels, SeenTravels}
use Rattle.b1_inv_record.specs.Right.{IsRight}
use Rattle.b1_inv_tools.proofs.Leaves.{driver_cases, peer_cases}
use Rattle.b1_inv_notices.proofs.Turns.{parts, going, going_doing, going_action, get_there}
use Rattle.b1_inv_names.proofs.Staying.{destroyed_stay}
use Rattle.b1_inv_tables.proofs.Grown.{table_stays}
use Rattle.b1_inv_tables.proofs.Kept.{end_table, table_before}
use Rattle.b1_inv_tables.proofs.LinesKept.{part_before, table_behind, lines_kept}
use Rattle.b1_inv_entries.proofs.NewCalls.{NewCall, new_call}
use Rattle.b1_inv_entries.proofs.Receipts.{receipt_taken}
use Rattle.b1_inv_refs.proofs.Arrivals.{held_in}
use Rattle.b1_inv_seen.proofs.Holds.{recv_holds}
use Rattle.b1_inv_seen.proofs.Lined.{seen_got, line_made, line_held}
use Rattle.b1_inv_seen.proofs.Travelling.{travels_on}

module _ {o : Opening} {s : State} {p : ℕ} {c : Option Command} {t : State} (sound : IsSound o s) (right : IsRight o s) (step : Step o s p c t) where
  -- a peer's driver before the step
  pub driver_before : (q : ℕ) (d : DriverPart) → IsDriver t q d → (e : DriverPart) × IsDriver s q e
  driver_before q d now = elim (driver_cases step q d now) [
    | inl own ↦ (step.driver, subst (λ r. IsDriver s r step.driver) (sym own.0) step.is_driver)
    | inr other ↦ (d, other.1)
  ]

  -- a peer's driver
  pub driver_of : (q : ℕ) (x : PeerPart) → IsPeer s q x → (e : DriverPart) × IsDriver s q e
  driver_of q x is = get_there s.drivers q (let within = slice_get_within s.peers q x is in omega (arith, within, sound.numbered.as_many_peers, sound.numbered.as_many_drivers))

  -- a receipt that was there before, and what its peer saw with it
  module _ (q k : ℕ) (one : Call) (key : Key) (n : Node) (there : slice_get (calls_of (record_of_state s) q) k ≡ Some one) (got : got_key one.answer ≡ Some key) (seen : IsSeen o t q k n) where
    -- the call is one of those before the step
    low_call : k < calls_len (record_of_state s) q
    low_call = slice_get_within (calls_of (record_of_state s) q) k one there

    -- the node stood in the table before the step
    pub seen_before : IsSeen o s q k n
    seen_before = elim seen.1 [
      | inl before ↦ (seen.0, inl (subst (λ z. Has z.lines seen.0) (table_stays sound step right.legal q k (let low = low_call in omega (arith, low))) before), seen.2)
      | inr behind ↦ (seen.0, inr (subst (λ z. Has z.lines seen.0) (table_stays sound step right.legal q (suc k) (let low = low_call in omega (arith, low))) behind), seen.2)
    ]

    -- the receipt is at most its peer's clock
    pub listed_low : (x : PeerPart) → IsPeer s q x → key.stamp ≤ x.clock
    listed_low x is = right.clocks.listed.below q x one key.stamp is (has_at (calls_of (record_of_state s) q) k one there) (seen_got one.answer key got)

    -- its node was made
    pub node_made : (y : PeerPart) → IsPeer s n.owner y → n.serial < length y.nodes
    node_made y is = let e = driver_of n.owner y is in elim seen_before.1 [
      | inl before ↦ line_made o s q k seen_before.0 n e.0 y right.names.made before seen_before.2 e.1 is
      | inr behind ↦ line_made o s q (suc k) seen_before.0 n e.0 y right.names.made behind seen_before.2 e.1 is
    ]

    -- a node that isn't destroyed wasn't
    pub alive_before : (y y_then : PeerPart) → IsPeer s n.owner y → IsPeer t n.owner y_then → is_destroyed (node_at y_then n.serial).state ≡ false → is_destroyed (node_at y n.serial).state ≡ false
    alive_before y y_then was now alive = by (is_destroyed (node_at y n.serial).state) refl
      where
        by : (b : Bool) → is_destroyed (node_at y n.serial).state ≡ b → is_destroyed (node_at y n.serial).state ≡ false
        by false is = is
        by true is = let both : true ≡ false = sym (destroyed_stay step n.owner n.serial y y_then was now (node_made y was) is) ∙ alive in absurd (cc both)

    -- what was taken before travels on
    old_travels : (x : PeerPart) (d : DriverPart) (y : PeerPart) → IsPeer t q x → IsDriver t q d → IsPeer t n.owner y → is_destroyed (node_at y n.serial).state ≡ false → Travels key.stamp q x d y (ref_of n)
    old_travels x d y is_peer is_driver is_owner alive =
        let x_was = part_before sound right step q x is_peer in
        let d_was = driver_before q d is_driver in
        let y_was = part_before sound right step n.owner y is_owner in
        travels_on sound step key.stamp q x_was.0 x d_was.0 d (ref_of n) y_was.0 y x_was.1 is_peer d_was.1 is_driver y_was.1 is_owner (listed_low x_was.0 x_was.1)
        (right.holders.travels.travels q k x_was.0 d_was.0 one key n y_was.0 x_was.1 d_was.1 there got seen_before y_was.1 (alive_before y_was.0 y y_was.1 is_owner alive))

  -- a new receipt: the nodes of the table before it and behind it are held
  module _ (new : NewCall step) (key : Key) (got : got_key new.call.answer ≡ Some key) where
    -- the event is a RECV
    receives : going_action step ≡ act.Recv
    receives = (receipt_taken step new key got).0

    -- it is at the own peer
    pub at_own : step.at ≡ p
    at_own = sym (parts step).is_at ∙ ap (peer_of step.driver.me) receives ∙ sound.numbered.drivers p step.driver step.is_driver

    -- there is one call more
    longer : calls_len (record_of_state t) p ≡ suc (calls_len (record_of_state s) p)
    longer = ap length new.appends.here ∙ length-append (calls_of (record_of_state s) p) (new.call ∷ []) ∙ omega arith

    -- the part after it
    pub new_part : (x : PeerPart) → IsPeer t p x → x ≡ received_part step.peer
    new_part x now = elim (peer_cases step p x now) [
      | inl here ↦ here.1 ∙ sym (parts step).is_peer ∙ ap (λ a. (happens o step.local.memory (going step) (going_doing step) a step.peer).1) receives
      | inr there ↦ absurd (there.0 (sym at_own))
    ]

    -- the part that it is at is the own one
    pub own_peer : IsPeer s p step.peer
    own_peer = subst (λ r. IsPeer s r step.peer) at_own step.is_peer

    -- nodes of the table before the receipt were held
    held_of_end : (l : Line) (n : Node) → Has (end_table o s p).lines l → l.node ≡ Some n → 1 ≤ held_in (ref_of n) step.peer.handles
    held_of_end l n there is = by (in_gap step.driver) refl
      where
        by : (b : Bool) → in_gap step.driver ≡ b → 1 ≤ held_in (ref_of n) step.peer.handles
        by true gap = absurd (subst (λ ls. Has ls l) (right.names.lines.gap p step.driver step.is_driver gap) there)
        by false out =
            let k = (table_before sound right p step.driver step.peer step.is_driver own_peer out).lines l there in
            line_held step.peer.given step.peer.handles k.0 l n (sound.rising step.at step.peer step.is_peer) (sound.numbers.numbered step.at step.peer step.is_peer) k.1 k.2 is

    -- nodes of the table behind it are held
    held_behind : (x : PeerPart) (d : DriverPart) (l : Line) (n : Node) → IsPeer t p x → IsDriver t p d → Has (end_table o t p).lines l → l.node ≡ Some n → 1 ≤ held_in (ref_of n) x.handles
    held_behind x d l n is_peer is_driver there is = by (in_gap d) refl
      where
        after : IsSound o t
        after = step_sound o s p c t sound step

        by : (b : Bool) → in_gap d ≡ b → 1 ≤ held_in (ref_of n) x.handles
        by true gap = absurd (subst (λ ls. Has ls l) ((lines_kept sound right step).gap p d is_driver gap) there)
        by false out =
            let k = (table_behind sound right step p d x is_driver is_peer out).lines l there in
            line_held x.given x.handles k.0 l n (after.rising p x is_peer) (after.numbers.numbered p x is_peer) k.1 k.2 is

    -- so nodes of either are held
    pub new_held : (x : PeerPart) (d : DriverPart) (n : Node) → IsPeer t p x → IsDriver t p d → IsSeen o t p (calls_len (record_of_state s) p) n → 1 ≤ held_in (ref_of n) x.handles
    new_held x d n is_peer is_driver seen = elim seen.1 [
      | inl before ↦
          let some = held_of_end seen.0 n (subst (λ z. Has z.lines seen.0) (table_stays sound step right.legal p (calls_len (record_of_state s) p) (omega arith)) before) seen.2 in
          let more = recv_holds (ref_of n) step.peer (sound.rising step.at step.peer step.is_peer) in
          let same = ap (λ z. held_in (ref_of n) z.handles) (new_part x is_peer) in
          omega (arith, some, more, same)
      | inr behind ↦ held_behind x d seen.0 n is_peer is_driver (subst (λ m. Has (table o.wires (record_of_state t) p m).lines seen.0) (sym longer) behind) seen.2
    ]

  -- a receipt was there, or is the new one
  pub receipt_cases : (q k : ℕ) (one : Call) → slice_get (calls_of (record_of_state t) q) k ≡ Some one → (slice_get (calls_of (record_of_state s) q) k ≡ Some one) ⊎ ((new : NewCall step) × (q ≡ p) × (k ≡ calls_len (record_of_state s) p) × (one ≡ new.call))
  receipt_cases q k one at = elim (new_call sound step) [
    | inl same ↦ inl (ap (λ calls. slice_get calls k) (sym (same q)) ∙ at)
    | inr new ↦ elim (old_or_new o (record_of_state s) (record_of_state t) p new.call new.appends right.legal q k one at) [
      | inl old ↦ inl old
      | inr (own, last, is) ↦ inr (new, own, last, is)
    ]
  ]

  -- a step keeps it
  pub travels_kept : SeenTravels o t
  travels_kept = record {
    travels = λ q k x d one key n y is_peer is_driver at got seen is_owner alive. elim (receipt_cases q k one at) [
      | inl old ↦ old_travels q k one key n old got seen x d y is_peer is_driver is_owner alive
      | inr (new, own, last, is) ↦
          inl (inr (new_held new key (ap (λ z. got_key z.answer) (sym is) ∙ got) x d n (subst (λ r. IsPeer t r x) own is_peer) (subst (λ r. IsDriver t r d) own is_driver)
          (subst (λ r. IsSeen o t r (calls_len (record_of_state s) p) n) own (subst (λ m. IsSeen o t q m n) last seen))))
    ];
  }
