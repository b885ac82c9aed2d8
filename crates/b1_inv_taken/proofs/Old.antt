-- Nodes of earlier epochs are destroyed: where a flush gets its answer, all nodes of its peer are.
use Rattle.std.proofs.Common.{◌≡◌, ◌≢◌, refl, sym, ap, subst, ◌∙◌, inl, inr, ℕ, ◌+◌, ◌<◌, ◌≤◌, Bool, true, false, cond, ◌&&◌, not, nat_lt, List, [], ◌∷◌, ◌++◌, length, filter, find, Option, Some, None, Ok, Err, option_map, append-nil}
use Rattle.std.specs.Prelude.{slice_get}
use Rattle.std.specs.Bool.{then_some}
use Rattle.std.proofs.lemmas.List.{length-append, length-map}
use Rattle.std.proofs.lemmas.List.Filters.{length-filter_both}
use Rattle.std.proofs.lemmas.Bool.{cases_eq, ltb-true}
use Rattle.std.proofs.lemmas.Option.{slice_get_within, get_or_from_slice_get}
use native.Mathlib.Omega.{arith}
use Rattle.b1_model.specs.declared.commands.Command.{Command}
use Rattle.b1_model.specs.declared.commands.Command.TheVariants as cmd
use Rattle.b1_model.specs.declared.commands.SendCmd.{SendCmd}
use Rattle.b1_model.specs.declared.naming.Opening.{Opening}
use Rattle.b1_model.specs.declared.answers.Answer.{Answer}
use Rattle.b1_model.specs.declared.answers.Reason.{Reason}
use Rattle.b1_model.specs.declared.answers.Reason.TheVariants as reason
use Rattle.b1_model.specs.declared.parts.NodeState.{NodeState}
use Rattle.b1_model.specs.declared.parts.NodeState.TheVariants.{Live, Dying, Destroyed}
use Rattle.b1_model.specs.declared.events.Action.TheVariants as act
use Rattle.b1_model.specs.declared.events.Destruction.{Destruction}
use Rattle.b1_model.specs.declared.events.OwedDrop.{OwedDrop}
use Rattle.b1_model.specs.declared.events.Outcome.TheVariants as out
use Rattle.b1_model.specs.declared.events.Phase.{Phase}
use Rattle.b1_model.specs.declared.events.Phase.TheVariants.{Starting, Dooming}
use Rattle.b1_model.specs.Names.{Name, calls_of, is_own, is_known, add_new, epoch_in, wired}
use Rattle.b1_model.specs.MachineParts.{PeerPart, NodePart, DriverPart, State, is_live, is_dying, is_destroyed, no_node, node_at}
use Rattle.b1_model.specs.MachineSend.{first_reason, final_stamp, send_refusal}
use Rattle.b1_model.specs.MachineDestroy.{is_bad_destroy, overflow_reason, is_not_live, live_serial, live_serials, destroy_refusal, destroy_serials, doom_by}
use Rattle.b1_model.specs.MachineDriver.{is_flushing, first_action, next_action, peer_of, turn, Turn, Goes, Ends}
use Rattle.b1_model.specs.MachineTook.{answer_of, call_of, fixed_call, is_done, goes_by, turned, with_facts, open_by, driver_calls}
use Rattle.b1_model.specs.MachineEvents.{happens, begin_by, destroy_by, begin_refusal, begin_serials}
use Rattle.b1_model.specs.MachineStep.{Step, opening_state, record_of_state}
use Rattle.b1_step.specs.Rights.{Has}
use Rattle.b1_step.proofs.Locality.{own_driver, other_driver, as_many_peers}
use Rattle.b1_inv.specs.Words.{IsPeer, IsDriver}
use Rattle.b1_inv.specs.Notices.{DestructionShape, dying_of, dying_now}
use Rattle.b1_inv.specs.Sound.{IsSound}
use Rattle.b1_ledger.specs.Growth.{all_names}
use Rattle.b1_inv_record.specs.Dooming.{NoneLive, is_ending}
use Rattle.b1_inv_record.specs.Epochs.{first_now, made_before}
use Rattle.b1_inv_record.specs.Names.{OldNodesDestroyed, open_numbers}
use Rattle.b1_inv_record.specs.Right.{IsRight}
use Rattle.b1_inv_tools.proofs.Leaves.{peer_cases}
use Rattle.b1_inv_notices.proofs.Nodes.{undoomed_state, doomed_state}
use Rattle.b1_inv_notices.proofs.Sets.{in_or_not}
use Rattle.b1_inv_notices.proofs.Turns.{doing_in, opened, answered, parts, going, going_doing, going_action, going_answer, get_there}
use Rattle.b1_inv_destroys.proofs.FirstNode.{Adds, brings_mild, all_mild}
use Rattle.b1_inv_destroys.proofs.Recorded.{recorded, calls_by, as_many, as_many_after}
use Rattle.b1_inv_names.proofs.Dooming.{live_there}
use Rattle.b1_inv_names.proofs.Recorded.{recorded_calls}
use Rattle.b1_step.proofs.Numbers.{opening_numbered}
use Rattle.b1_inv_tools.proofs.Openings.{opening_idle}
use Rattle.b1_inv_names.proofs.Staying.{destroyed_stay}
use Rattle.b1_inv_taken.proofs.FlushTurns.{open_turn, IsFlushTurn, turn_calls}

-- ---- where a flush gets its answer, all nodes are destroyed

abbrev pub AllGone : PeerPart → Type 0
AllGone x = (serial : ℕ) → is_destroyed (node_at x serial).state ≡ true

-- a node that is neither live nor dying
rests : (state : NodeState) → is_live state ≡ false → (is_dying state ≡ true → ⊥) → is_destroyed state ≡ true
rests Live live dying = absurd (cc live)
rests Dying live dying = absurd (dying refl)
rests (Destroyed stamp) live dying = refl

-- an accepted NODES_DESTROY dooms a node
last_none : (a b c : Option Reason) → first_reason (a ∷ b ∷ c ∷ []) ≡ None → c ≡ None
last_none (Some r) b c is = absurd (cc is)
last_none None (Some r) c is = absurd (cc is)
last_none None None (Some r) is = absurd (cc is)
last_none None None None is = refl

found_first : (test : ℕ → Bool) (n : ℕ) (rest : List ℕ) → test n ≡ true → find test (n ∷ rest) ≡ Some n
found_first test n rest is = ap (λ b. cond b (Some n) (find test rest)) is

none_named : (x : PeerPart) (numbers : List ℕ) → destroy_refusal x numbers ≡ None → destroy_serials x numbers ≡ [] → ⊥
none_named x [] none is = absurd (cc none)
none_named x (n ∷ rest) none is = by (live_serial x n) refl (last_none (then_some (is_bad_destroy (n ∷ rest)) reason.Invalid) (overflow_reason x) (option_map (λ number. reason.Unknown number) (find (is_not_live x) (n ∷ rest))) none)
  where
    by : (r : Option ℕ) → live_serial x n ≡ r → option_map (λ number. reason.Unknown number) (find (is_not_live x) (n ∷ rest)) ≡ None → ⊥
    by None at found = let some : option_map (λ number. reason.Unknown number) (find (is_not_live x) (n ∷ rest)) ≡ Some (reason.Unknown n) = ap (option_map (λ number. reason.Unknown number)) (found_first (is_not_live x) n rest (ap (λ r. elim r [ None ↦ true | Some serial ↦ false ]) at)) in let both : Some (reason.Unknown n) ≡ None = sym some ∙ found in absurd (cc both)
    by (Some serial) at found = let some : destroy_serials x (n ∷ rest) ≡ serial ∷ destroy_serials x rest = rw at refl in let both : serial ∷ destroy_serials x rest ≡ [] = sym some ∙ is in absurd (cc both)

flush_empty : (command : Command) (x : PeerPart) → begin_refusal command x ≡ None → begin_serials command x ≡ [] → live_serials 0 x.nodes ≡ []
flush_empty (cmd.Destroy numbers) x none empty = absurd (none_named x numbers none empty)
flush_empty command x none empty = empty

no_live : (x : PeerPart) → live_serials 0 x.nodes ≡ [] → NoneLive x.nodes
no_live x none serial = by (is_live (node_at x serial).state) refl
  where
    by : (b : Bool) → is_live (node_at x serial).state ≡ b → is_live (node_at x serial).state ≡ false
    by false is = is
    by true is = absurd (subst (λ l. Has l (0 + serial)) none (live_there 0 x.nodes serial is).0)

module _ (x : PeerPart) where
  all_rest : NoneLive x.nodes → ((serial : ℕ) → is_dying (node_at x serial).state ≡ true → ⊥) → AllGone x
  all_rest live dying serial = rests (node_at x serial).state (live serial) (dying serial)

  begun_gone : (command : Command) (r : Option Reason) → begin_refusal command x ≡ r → (doomed : List ℕ) → begin_serials command x ≡ doomed → ((serial : ℕ) → is_dying (node_at x serial).state ≡ true → ⊥)
      → IsFlushTurn command Starting (destroy_by r doomed x).0 → AllGone (destroy_by r doomed x).1
  begun_gone command (Some r) refusal doomed serials dying flush = absurd flush
  begun_gone command None refusal [] serials dying flush = all_rest (no_live x (flush_empty command x refusal serials)) dying
  begun_gone command None refusal (one ∷ rest) serials dying flush = absurd flush

  doomed_gone : (command : Command) (d : Destruction) (late : List ℕ) → x.late ≡ late → NoneLive x.nodes → ((serial : ℕ) → is_dying (node_at x serial).state ≡ true → Has d.doomed serial) → ((serial : ℕ) → Has d.doomed serial → serial < length x.nodes) → AllGone (doom_by [] x d.collected d.doomed)
  doomed_gone command d late is live dying made serial = elim (in_or_not serial d.doomed) [
    | inl h ↦ ap is_destroyed (doomed_state (Destroyed (final_stamp x d.collected)) d.doomed x.nodes serial h (made serial h))
    | inr out ↦ ap (λ n. is_destroyed n.state) (undoomed_state (Destroyed (final_stamp x d.collected)) d.doomed x.nodes serial out) ∙ rests (node_at x serial).state (live serial) (λ is. out (dying serial is))
  ]

begin_no_flush : (command : Command) (r : Option Reason) (memory : Bool) (c : SendCmd) (x : PeerPart) → IsFlushTurn command Starting (begin_by r memory c x).0 → ⊥
begin_no_flush command (Some r) memory c x is = is
begin_no_flush command None true c x is = is
begin_no_flush command None false c x is = is

module _ (o : Opening) (memory : Bool) (d : DriverPart) (x : PeerPart) where
  module _ (dying : (serial : ℕ) → is_dying (node_at x serial).state ≡ true → ⊥) where
    first_gone : (command : Command) (shut : Bool) → IsFlushTurn command Starting (happens o memory (opened d command Starting []) (doing_in command Starting) (cond shut act.Local (first_action command)) x).0
        → AllGone (happens o memory (opened d command Starting []) (doing_in command Starting) (cond shut act.Local (first_action command)) x).1
    first_gone command true flush = absurd flush
    first_gone cmd.Disconnect false flush = begun_gone x cmd.Disconnect (begin_refusal cmd.Disconnect x) refl (begin_serials cmd.Disconnect x) refl dying flush
    first_gone (cmd.Reset limits) false flush = begun_gone x (cmd.Reset limits) (begin_refusal (cmd.Reset limits) x) refl (begin_serials (cmd.Reset limits) x) refl dying flush
    first_gone (cmd.Destroy numbers) false flush = begun_gone x (cmd.Destroy numbers) (begin_refusal (cmd.Destroy numbers) x) refl (begin_serials (cmd.Destroy numbers) x) refl dying flush
    first_gone (cmd.Send c) false flush = absurd (begin_no_flush (cmd.Send c) (send_refusal x c) memory c x flush)
    first_gone command false flush = absurd flush

  stamp_gone : (command : Command) (destruction : Destruction) (late : List ℕ) → x.late ≡ late → NoneLive x.nodes → ((serial : ℕ) → is_dying (node_at x serial).state ≡ true → Has destruction.doomed serial)
      → ((serial : ℕ) → Has destruction.doomed serial → serial < length x.nodes)
      → IsFlushTurn command (Dooming destruction) (out.StampDestroy (elim late [ [] ↦ Ok (final_stamp x destruction.collected) | peer ∷ rest ↦ Err (peer ∷ rest) ])) → AllGone (doom_by late x destruction.collected destruction.doomed)
  stamp_gone command destruction [] is live dying made flush = doomed_gone x command destruction [] is live dying made
  stamp_gone command destruction (peer ∷ rest) is live dying made flush = absurd flush

  stamp_flushes : (command : Command) (destruction : Destruction) (late : List ℕ) → IsFlushTurn command (Dooming destruction) (out.StampDestroy (elim late [ [] ↦ Ok (final_stamp x destruction.collected) | peer ∷ rest ↦ Err (peer ∷ rest) ])) → is_flushing command ≡ true
  stamp_flushes command destruction [] is = is
  stamp_flushes command destruction (peer ∷ rest) is = absurd is

  event_gone : (command : Command) (phase : Phase) (owed : List OwedDrop) → ((serial : ℕ) → is_dying (node_at x serial).state ≡ true → Has (dying_of phase) serial)
      → (is_flushing command ≡ true → is_ending phase ≡ true → NoneLive x.nodes) → DestructionShape x.peers x command phase
      → IsFlushTurn command phase (answered o memory d command phase owed x).0 → AllGone (answered o memory d command phase owed x).1
  event_gone command Starting (one ∷ rest) dying live shape flush = absurd flush
  event_gone command Starting [] dying live shape flush = first_gone dying command d.shut flush
  event_gone command (Dooming destruction) (one ∷ rest) dying live shape flush = absurd flush
  event_gone command (Dooming destruction) [] dying live shape flush =
      stamp_gone command destruction x.late refl (live (stamp_flushes command destruction x.late flush) refl) dying (λ serial h. (shape.1.made serial h).0) flush
  event_gone command phase owed dying live shape flush = absurd flush

-- ---- the calls of the record

turned_calls : (d : DriverPart) (command : Command) (to : Turn) → driver_calls (turned d command to) ≡ d.calls ++ open_turn command to
turned_calls d command (Goes phase) = by (is_done d.owed d.told phase) (answer_of command phase) refl
  where
    by : (b : Bool) (got : Option Answer) → answer_of command phase ≡ got → driver_calls (goes_by b got d command phase) ≡ d.calls ++ fixed_call command (answer_of command phase)
    by false got is = refl
    by true None is = refl
    by true (Some got) is = append-nil (d.calls ++ call_of command got) ∙ ap (λ a. d.calls ++ fixed_call command a) (sym is)
turned_calls d command (Ends got) = append-nil (d.calls ++ call_of command got)

-- the first node of the present epoch isn't above the nodes that were made
pub names_grow : (e : ℕ) (known : List Name) (ns : List ℕ) → length known ≤ length (add_new e known ns)
names_grow e known [] = omega arith
names_grow e known (n ∷ rest) =
    let more = names_grow e (cond (is_own n && not (is_known n known)) (known ++ record { number = n; epoch = e } ∷ []) known) rest in
    let one = by (is_own n && not (is_known n known)) in omega (arith, more, one)
  where
    by : (b : Bool) → length known ≤ length (cond b (known ++ record { number = n; epoch = e } ∷ []) known)
    by true = let same = length-append known (record { number = n; epoch = e } ∷ []) in omega (arith, same)
    by false = omega arith

first_here : (me : ℕ) (command : Command) (shut : Bool) → peer_of me (cond shut act.Local (first_action command)) ≡ me
first_here me command true = refl
first_here me cmd.Disconnect false = refl
first_here me command false = refl

module _ {o : Opening} {s : State} (right : IsRight o s) where
  first_low : (p : ℕ) (d : DriverPart) (x : PeerPart) → IsDriver s p d → IsPeer s p x → first_now o s p ≤ length x.nodes
  first_low p d x is_driver is_peer =
      let names = all_names o.wires (record_of_state s) p in
      let few = length-filter_both (λ m. nat_lt m.epoch (epoch_in 0 (calls_of (record_of_state s) p))) (λ m. not (nat_lt m.epoch (epoch_in 0 (calls_of (record_of_state s) p)))) (λ m. refl) names in
      let more = names_grow x.epoch names (open_numbers d) in
      let same = sym (length-map x.nodes (λ n. n.number)) ∙ ap length (right.names.made.made p d x is_driver is_peer) ∙ length-map (add_new x.epoch names (open_numbers d)) (λ m. m.number) in
      omega (arith, few, more, same)

-- ---- a step

module _ {o : Opening} {s : State} {p : ℕ} {c : Option Command} {t : State} (sound : IsSound o s) (right : IsRight o s) (step : Step o s p c t) where
  abbrev now : Phase
  now = (parts step).phase

  pub calls_before : driver_calls step.driver ≡ step.driver.calls ++ fixed_call (parts step).command (answer_of (parts step).command now)
  calls_before = elim (parts step).was [
    | inl open_is ↦ ap (λ z. step.driver.calls ++ open_by z) open_is
    | inr new ↦ ap (λ z. step.driver.calls ++ open_by z) new.0 ∙ ap (λ z. step.driver.calls ++ fixed_call (parts step).command (answer_of (parts step).command z)) (sym new.1)
  ]

  pub calls_after : driver_calls step.new_driver ≡ step.driver.calls ++ open_turn (parts step).command (turn step.driver.me (parts step).command now (going_answer step))
  calls_after =
      ap driver_calls (sym (parts step).is_driver)
      ∙ turned_calls (with_facts (going step) (going_doing step) (going_answer step)) (parts step).command (turn step.driver.me (parts step).command now (going_answer step))

  abbrev first_by : ℕ → Option DriverPart → ℕ
  first_by q d = made_before o.wires q (calls_by d)

  first_of : (u : State) (q : ℕ) (d : Option DriverPart) → length u.peers ≡ length u.drivers → slice_get u.drivers q ≡ d → first_now o u q ≡ first_by q d
  first_of u q d same is = ap (made_before o.wires q) (recorded u q same) ∙ ap (first_by q) is

  other_first : (q : ℕ) → q ≢ p → first_now o t q ≡ first_now o s q
  other_first q apart = first_of t q (slice_get s.drivers q) (as_many_after sound step) (other_driver step q apart) ∙ sym (first_of s q (slice_get s.drivers q) (as_many sound step) refl)

  same_first : Adds (fixed_call (parts step).command (answer_of (parts step).command now)) (open_turn (parts step).command (turn step.driver.me (parts step).command now (going_answer step))) → first_now o t p ≡ first_now o s p
  same_first adds =
      first_of t p (Some step.new_driver) (as_many_after sound step) (own_driver step) ∙ by adds
      ∙ sym (first_of s p (Some step.driver) (as_many sound step) step.is_driver)
    where
      by : Adds (fixed_call (parts step).command (answer_of (parts step).command now)) (open_turn (parts step).command (turn step.driver.me (parts step).command now (going_answer step)))
          → made_before o.wires p (driver_calls step.new_driver) ≡ made_before o.wires p (driver_calls step.driver)
      by (inl same) = ap (made_before o.wires p) (calls_after ∙ ap (λ more. step.driver.calls ++ more) same ∙ sym calls_before)
      by (inr (none, mild)) =
          ap (made_before o.wires p) calls_after ∙ all_mild o.wires p (open_turn (parts step).command (turn step.driver.me (parts step).command now (going_answer step))) step.driver.calls mild
          ∙ ap (made_before o.wires p) (sym (append-nil step.driver.calls) ∙ ap (λ more. step.driver.calls ++ more) (sym none) ∙ sym calls_before)

  me_is : step.driver.me ≡ p
  me_is = sound.numbered.drivers p step.driver step.is_driver

  -- nodes that were there and are of an epoch before the record's
  stays_old : (q serial : ℕ) (y : PeerPart) (n : NodePart) → IsPeer t q y → slice_get y.nodes serial ≡ Some n → serial < first_now o s q → is_destroyed n.state ≡ true
  stays_old q serial y n is at low =
      let x = get_there s.peers q (let within = slice_get_within t.peers q y is in let same = as_many_peers step in omega (arith, within, same)) in
      let d = get_there s.drivers q (let within = slice_get_within s.peers q x.0 x.1 in let same = as_many sound step in omega (arith, within, same)) in
      let few = first_low right q d.0 x.0 d.1 x.1 in
      let there : serial < length x.0.nodes = omega (arith, low, few) in
      let m = get_there x.0.nodes serial there in
      let gone = right.names.old.destroyed q serial x.0 m.0 x.1 m.1 low in
      let was : is_destroyed (node_at x.0 serial).state ≡ true = ap (λ k. is_destroyed k.state) (get_or_from_slice_get x.0.nodes serial m.0 no_node m.1) ∙ gone in
      ap (λ k. is_destroyed k.state) (sym (get_or_from_slice_get y.nodes serial n no_node at)) ∙ destroyed_stay step q serial x.0 y x.1 is there was

  -- an event that fixes the answer of a flush is at its driver's own peer
  flush_here : (phase : Phase) (owed : List OwedDrop) → IsFlushTurn (parts step).command phase (answered o step.local.memory step.driver (parts step).command phase owed step.peer).0
      → peer_of step.driver.me (next_action (opened step.driver (parts step).command phase owed)) ≡ step.driver.me
  flush_here Starting (one ∷ rest) flush = absurd flush
  flush_here Starting [] flush = first_here step.driver.me (parts step).command step.driver.shut
  flush_here (Dooming d) (one ∷ rest) flush = absurd flush
  flush_here (Dooming d) [] flush = refl
  flush_here phase owed flush = absurd flush

  module _ (flush : IsFlushTurn (parts step).command now (going_answer step)) where
    at_own : step.at ≡ p
    at_own = sym (parts step).is_at ∙ flush_here now step.driver.owed flush ∙ me_is

    own_peer : IsPeer s p step.peer
    own_peer = subst (λ q. IsPeer s q step.peer) at_own step.is_peer

    dying_here : (serial : ℕ) → is_dying (node_at step.peer serial).state ≡ true → Has (dying_of now) serial
    dying_here serial is = subst (λ list. Has list serial) by (sound.notices.dying p step.driver step.peer serial step.is_driver own_peer is)
      where
        by : dying_now step.driver ≡ dying_of now
        by = elim (parts step).was [
          | inl open_is ↦ ap (λ z. elim z [ None ↦ [] | Some doing ↦ dying_of doing.phase ]) open_is
          | inr new ↦ ap (λ z. elim z [ None ↦ [] | Some doing ↦ dying_of doing.phase ]) new.0 ∙ ap dying_of (sym new.1)
        ]

    live_here : is_flushing (parts step).command ≡ true → is_ending now ≡ true → NoneLive step.peer.nodes
    live_here flushing ends = elim (parts step).was [
      | inl open_is ↦ right.destructions.all.none p step.driver step.peer (going_doing step) step.is_driver own_peer open_is flushing ends
      | inr new ↦ let both : false ≡ true = ap is_ending (sym new.1) ∙ ends in absurd (cc both)
    ]

    shape_here : DestructionShape step.peer.peers step.peer (parts step).command now
    shape_here = elim (parts step).was [
      | inl open_is ↦ sound.notices.shape p step.driver step.peer (going_doing step) step.is_driver own_peer open_is
      | inr new ↦ subst (DestructionShape step.peer.peers step.peer (parts step).command) (sym new.1) tt
    ]

    flush_gone : AllGone step.new_peer
    flush_gone = subst AllGone (parts step).is_peer (event_gone o step.local.memory step.driver step.peer (parts step).command now step.driver.owed dying_here live_here shape_here flush)

    gone_after : (serial : ℕ) (y : PeerPart) (n : NodePart) → IsPeer t p y → slice_get y.nodes serial ≡ Some n → is_destroyed n.state ≡ true
    gone_after serial y n is at = elim (peer_cases step p y is) [
      | inl here ↦ ap (λ k. is_destroyed k.state) (sym (get_or_from_slice_get y.nodes serial n no_node at)) ∙ subst (λ z. is_destroyed (node_at z serial).state ≡ true) (sym here.1) (flush_gone serial)
      | inr away ↦ absurd (away.0 (sym at_own))
    ]

  own_old : (serial : ℕ) (y : PeerPart) (n : NodePart) → IsPeer t p y → slice_get y.nodes serial ≡ Some n → serial < first_now o t p → is_destroyed n.state ≡ true
  own_old serial y n is at low =
      elim (turn_calls (parts step).command step.driver.me now (going_answer step) (brings_mild o step.local.memory (going step) (going_doing step) (going_action step) step.peer)) [
        | inl adds ↦ stays_old p serial y n is at (let same = same_first adds in omega (arith, low, same))
        | inr flush ↦ gone_after flush serial y n is at
      ]

  pub old_kept : OldNodesDestroyed o t
  old_kept = record {
    destroyed = λ q serial y n is at low. elim (cases_eq q p) [
      | inl here ↦ own_old serial y n (subst (λ r. IsPeer t r y) here is) at (subst (λ r. serial < first_now o t r) here low)
      | inr apart ↦ stays_old q serial y n is at (let same = other_first q apart in omega (arith, low, same))
    ];
  }

-- when a bus begins no epoch is past
none_below : (names : List Name) → length (filter (λ m. nat_lt m.epoch 0) names) ≡ 0
none_below [] = refl
none_below (m ∷ rest) = by (nat_lt m.epoch 0) refl (none_below rest)
  where
    by : (b : Bool) → nat_lt m.epoch 0 ≡ b → length (filter (λ k. nat_lt k.epoch 0) rest) ≡ 0 → length (cond b (m ∷ filter (λ k. nat_lt k.epoch 0) rest) (filter (λ k. nat_lt k.epoch 0) rest)) ≡ 0
    by true is none = let low = ltb-true m.epoch 0 is in absurd (omega (arith, low))
    by false is none = none

first_begins : (o : Opening) (q : ℕ) (x : PeerPart) → IsPeer (opening_state o) q x → first_now o (opening_state o) q ≡ 0
first_begins o q x is =
    let k = opening_numbered o in
    let d = get_there (opening_state o).drivers q (let within = slice_get_within (opening_state o).peers q x is in omega (arith, within, k.as_many_drivers, k.as_many_peers)) in
    let none : driver_calls d.0 ≡ [] = ap driver_calls (opening_idle o q d.0 d.1) in
    ap (made_before o.wires q) (recorded_calls (opening_state o) q x d.0 is d.1 ∙ none) ∙ none_below (wired o.wires q)

pub old_begins : (o : Opening) → OldNodesDestroyed o (opening_state o)
old_begins o = record { destroyed = λ q serial x n is at low. absurd (let zero = first_begins o q x is in omega (arith, low, zero)) }
