-- Own notices that are queued are of nodes of the epoch of their peer's part.
use Rattle.std.proofs.Common.{◌≡◌, refl, sym, ap, subst, ◌∙◌, inl, inr, ℕ, ◌≤◌, Bool, true, false, [], ◌++◌, Option, Some, None}
use Rattle.std.specs.Prelude.{slice_get}
use Rattle.std.proofs.lemmas.Bool.{cases_lt}
use Rattle.std.proofs.lemmas.Option.{get_or_from_slice_get}
use native.Mathlib.Omega.{arith}
use Rattle.b1_model.specs.declared.commands.Command.{Command}
use Rattle.b1_model.specs.declared.naming.Key.{Key}
use Rattle.b1_model.specs.declared.naming.Opening.{Opening}
use Rattle.b1_model.specs.declared.entries.Entry.TheVariants.{OwnNotice}
use Rattle.b1_model.specs.declared.events.Action.{Action}
use Rattle.b1_model.specs.declared.events.Action.TheVariants as act
use Rattle.b1_model.specs.MachineParts.{PeerPart, State, no_node, node_at, is_live}
use Rattle.b1_model.specs.MachineTables.{is_stage}
use Rattle.b1_model.specs.MachineTook.{open_by, driver_calls}
use Rattle.b1_model.specs.MachineDriver.{peer_of}
use Rattle.b1_model.specs.MachineEvents.{happens, begin_serials, slots_at}
use Rattle.b1_model.specs.MachineStep.{Step, opening_state}
use Rattle.b1_step.specs.Rights.{Has}
use Rattle.b1_step.proofs.Lists.{has_at}
use Rattle.b1_step.proofs.Orders.{find_has}
use Rattle.b1_inv.specs.Words.{IsPeer}
use Rattle.b1_inv.specs.Sound.{IsSound}
use Rattle.b1_inv_record.specs.Destructions.{own_ref}
use Rattle.b1_inv_record.specs.Epochs.{first_now, first_done, made_before}
use Rattle.b1_inv_record.specs.Right.{IsRight}
use Rattle.b1_inv_sends.proofs.StagesKept.{opening_queue}
use Rattle.b1_inv_tools.proofs.Comes.{Comes}
use Rattle.b1_inv_tools.proofs.Leaves.{peer_cases}
use Rattle.b1_inv_notices.proofs.Turns.{doing_in, parts, going, going_doing, going_action}
use Rattle.b1_inv_destroys.specs.OwnNotices.{OwnPresent}
use Rattle.b1_inv_destroys.proofs.Recorded.{calls_by, recorded, as_many}
use Rattle.b1_inv_destroys.proofs.Keyed.{stage_is_message, message_none, notice_node}
use Rattle.b1_inv_destroys.proofs.Nodes.{begun_live, live_apart}
use Rattle.b1_inv_destroys.proofs.Taken.{is_own_notice, own_serial, at_or_none, is_starting, BeginPhase, starting_is, number, under, came, begins_here}
use Rattle.b1_inv_destroys.proofs.FirstNode.{left_of, is_flush_action, flushed_before, first_other, first_driver, first_same}

module _ {o : Opening} {s : State} {p : ℕ} {c : Option Command} {t : State} (sound : IsSound o s) (right : IsRight o s) (step : Step o s p c t) where
  -- ---- where a destruction begins, no flush is awaited

  none_open : is_starting (parts step).phase ≡ true → driver_calls step.driver ≡ step.driver.calls ++ []
  none_open starting = elim (parts step).was [
    | inl open_is ↦ ap (λ z. step.driver.calls ++ open_by z) (open_is ∙ ap (λ z. Some (doing_in (parts step).command z)) (starting_is (parts step).phase starting))
    | inr new ↦ ap (λ z. step.driver.calls ++ open_by z) new.0
  ]

  pub first_begins : is_starting (parts step).phase ≡ true → first_done o s p ≡ first_now o s p
  first_begins starting =
      first_driver step
      ∙ ap (made_before o.wires p) (flushed_before step ∙ ap (λ z. step.driver.calls ++ left_of (parts step).command z) (starting_is (parts step).phase starting) ∙ sym (none_open starting))
      ∙ ap (λ z. made_before o.wires p (calls_by z)) (sym step.is_driver)
      ∙ ap (made_before o.wires p) (sym (recorded s p (as_many sound step)))

  -- a live node is of the present epoch
  pub live_present : (q serial : ℕ) (x : PeerPart) → IsPeer s q x → is_live (node_at x serial).state ≡ true → first_now o s q ≤ serial
  live_present q serial x is live = elim (cases_lt serial (first_now o s q)) [
    | inr high ↦ high
    | inl low ↦ elim (at_or_none x.nodes serial) [
      | inl (n, at) ↦
          let same = get_or_from_slice_get x.nodes serial n no_node at in
          absurd (live_apart n.state (ap (λ m. is_live m.state) (sym same) ∙ live) (right.names.old.destroyed q serial x n is at low))
      | inr none ↦ let no : false ≡ true = ap (λ m. is_live m.state) (sym none) ∙ live in absurd (cc no)
    ]
  ]

  pub begun_present : (index serial : ℕ) → is_starting (parts step).phase ≡ true → step.at ≡ p → slice_get (begin_serials (parts step).command step.peer) index ≡ Some serial → first_done o s p ≤ serial
  begun_present index serial starting here there =
      let live = begun_live step.peer (parts step).command serial (has_at (begin_serials (parts step).command step.peer) index serial there) in
      let low = live_present p serial step.peer (subst (λ r. IsPeer s r step.peer) here step.is_peer) live in
      let same = first_begins starting in omega (arith, low, same)

  -- ---- entries

  new_present : (action : Action) (k : Key) (i serial : ℕ) → BeginPhase (parts step).phase action → peer_of step.driver.me action ≡ step.at → Comes o (going step) (going_doing step) step.peer action (k, OwnNotice serial i) → first_done o s step.at ≤ serial
  new_present (act.Stage peer place) k i serial begins at comes = let none : Some (own_ref 0 serial) ≡ None = ap (λ z. notice_node 0 z.1) comes in absurd (cc none)
  new_present (act.Commit peer place stamp) k i serial begins at (g, found, same) =
      let message = stage_is_message step.driver.me place g (find_has (is_stage step.driver.me place) step.peer.queue g found).1 in
      let none : Some (own_ref 0 serial) ≡ None = ap (λ z. notice_node 0 z.1) same ∙ message_none 0 (slots_at (parts step).phase place) g.1 message in absurd (cc none)
  new_present (act.CommitNotices peer stamp) k i serial begins at (g, there, staged, same) = right.destructions.own.present step.at i serial step.peer g.0 step.is_peer (under sound right step k serial i stamp g same there)
  new_present (act.DropRefs peer one holder n clock) k i serial begins at comes = let none : Some (own_ref 0 serial) ≡ None = ap (λ z. notice_node 0 z.1) comes.0 in absurd (cc none)
  new_present act.BeginDestroy k i serial begins at (index, one, there, same, accepted) =
      let mine : serial ≡ one = ap (λ z. own_serial z.1) same in
      let here : step.at ≡ p = sym at ∙ number sound right step in
      subst (λ r. first_done o s r ≤ serial) (sym here) (begun_present index serial begins here (there ∙ ap Some (sym mine)))
  new_present (act.Visit peer) k i serial begins at (index, one, there, same) = let no : true ≡ false = ap (λ z. is_own_notice z.1) same in absurd (cc no)
  new_present action k i serial begins at comes = absurd comes

  here_present : (k : Key) (i serial : ℕ) → Has step.new_peer.queue (k, OwnNotice serial i) → first_done o s step.at ≤ serial
  here_present k i serial has = elim (came sound right step (k, OwnNotice serial i) has) [
    | inl old ↦ right.destructions.own.present step.at i serial step.peer k step.is_peer old.0
    | inr new ↦ new_present (going_action step) k i serial (begins_here sound right step) (parts step).is_at new
  ]

  -- a flush is at its driver's peer, and leaves no entry
  flush_at : (action : Action) → is_flush_action action ≡ true → peer_of step.driver.me action ≡ step.at → step.at ≡ p
  flush_at act.Flush is at = sym at ∙ number sound right step
  flush_at action is at = absurd (cc is)

  flush_empty : (action : Action) → is_flush_action action ≡ true → (happens o step.local.memory (going step) (going_doing step) action step.peer).1.queue ≡ []
  flush_empty act.Flush is = refl
  flush_empty action is = absurd (cc is)

  before_present : (q : ℕ) (y : PeerPart) (k : Key) (i serial : ℕ) → IsPeer t q y → Has y.queue (k, OwnNotice serial i) → first_done o s q ≤ serial
  before_present q y k i serial is has = elim (peer_cases step q y is) [
    | inr other ↦ right.destructions.own.present q i serial y k other.1 has
    | inl here ↦ subst (λ r. first_done o s r ≤ serial) (sym here.0) (here_present k i serial (subst (λ z. Has z.queue (k, OwnNotice serial i)) here.1 has))
  ]

  flushed_present : is_flush_action (going_action step) ≡ true → (q : ℕ) (y : PeerPart) (k : Key) (i serial : ℕ) → IsPeer t q y → Has y.queue (k, OwnNotice serial i) → first_done o t q ≡ first_done o s q
  flushed_present flush q y k i serial is has = elim (peer_cases step q y is) [
    | inr other ↦ first_other step q (λ same. other.0 (same ∙ sym (flush_at (going_action step) flush (parts step).is_at)))
    | inl here ↦ absurd (subst (λ queue. Has queue (k, OwnNotice serial i)) (ap (λ z. z.queue) (here.1 ∙ sym (parts step).is_peer) ∙ flush_empty (going_action step) flush) has)
  ]

  pub own_present : OwnPresent o t
  own_present q i serial y k is has =
      let low = before_present q y k i serial is has in
      let same = by (is_flush_action (going_action step)) refl in omega (arith, low, same)
    where
      by : (b : Bool) → is_flush_action (going_action step) ≡ b → first_done o t q ≡ first_done o s q
      by true flush = flushed_present flush q y k i serial is has
      by false calm = first_same step calm q

pub present_begins : (o : Opening) → OwnPresent o (opening_state o)
present_begins o q i serial x k is has = absurd (subst (λ queue. Has queue (k, OwnNotice serial i)) (opening_queue o q x is) has)
