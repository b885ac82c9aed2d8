-- An open command whose answer is fixed has something left; and a peer's epoch is at most the number of its driver's calls.
use Rattle.std.proofs.Common.{◌≡◌, ◌≢◌, ◌⊎◌, refl, sym, ap, ◌∙◌, inl, inr, subst, ℕ, zero, suc, ◌+◌, ◌≤◌, Bool, true, false, ◌&&◌, cond, List, [], ◌∷◌, ◌++◌, fold, get_or, set, length, Option, Some, None, slice_get}
use Rattle.std.proofs.lemmas.List.{length-append}
use native.Mathlib.Omega.{arith}
use Rattle.b1_model.specs.declared.naming.Opening.{Opening}
use Rattle.b1_model.specs.declared.naming.PeerSpec.{PeerSpec}
use Rattle.b1_model.specs.declared.commands.Command.{Command}
use Rattle.b1_model.specs.declared.commands.Command.TheVariants as cmd
use Rattle.b1_model.specs.declared.answers.Answer.{Answer}
use Rattle.b1_model.specs.declared.answers.Answer.TheVariants as answer
use Rattle.b1_model.specs.declared.records.Call.{Call}
use Rattle.b1_model.specs.declared.events.Action.{Action}
use Rattle.b1_model.specs.declared.events.Action.TheVariants as act
use Rattle.b1_model.specs.declared.events.Doing.{Doing}
use Rattle.b1_model.specs.declared.events.Outcome.{Outcome}
use Rattle.b1_model.specs.declared.events.Outcome.TheVariants as out
use Rattle.b1_model.specs.declared.events.OwedDrop.{OwedDrop}
use Rattle.b1_model.specs.declared.events.Phase.{Phase}
use Rattle.b1_model.specs.declared.events.Phase.TheVariants as phase
use Rattle.b1_model.specs.MachineParts.{PeerPart, DriverPart, State}
use Rattle.b1_model.specs.MachineDriver.{phase_action, next_action, Turn, Goes, Ends, turn}
use Rattle.b1_model.specs.MachineTook.{is_await, with_facts, answer_of, is_done, as_call, call_of, goes_by, turned, took, took_by}
use Rattle.b1_model.specs.MachineReceive.{has_dead}
use Rattle.b1_model.specs.MachineDestroy.{flushed}
use Rattle.b1_model.specs.MachineEvents.{limits_after, happens}
use Rattle.b1_model.specs.declared.naming.NodeRef.{NodeRef}
use Rattle.b1_model.specs.declared.naming.Wire.{Wire}
use Rattle.b1_model.specs.Names.{is_own}
use Rattle.b1_model.specs.MachineTables.{node_named, with_made}
use Rattle.b1_model.specs.MachineStep.{Label, Leads, Reached, Step, no_peer, with_part, wire_made, wire_counted, wire_held, wired, peer_before, peers_before, idle_driver, idle_drivers, opening_state}
use Rattle.b1_step.specs.Rights.{Has, Changes, may_be_elsewhere}
use Rattle.b1_step.specs.Fixed.{IsNumbered}
use Rattle.b1_step.proofs.Lists.{set_cases}
use Rattle.b1_step.proofs.Locality.{step_changes, step_keeps, own_place}
use Rattle.b1_step.proofs.Numbers.{opening_numbered, step_numbered}
use Rattle.b1_event.proofs.Opened.{begins, opened, effect_is, aimed_at}
use Rattle.b1_event.proofs.Aims.{drop_of, next_of}

-- ---- what is left

-- an open command has no fixed answer, or something is left of it
abbrev pub IsLeft : DriverPart → Type 0
IsLeft d = (doing : Doing) → d.doing ≡ Some doing → (answer_of doing.command doing.phase ≡ None) ⊎ (is_done d.owed d.told doing.phase ≡ false)

goes_left : (b : Bool) (got : Option Answer) (d : DriverPart) (command : Command) (p : Phase) → is_done d.owed d.told p ≡ b → answer_of command p ≡ got → IsLeft (goes_by b got d command p)
goes_left false got d command p done fixed = λ doing is. let same : record { command = command; phase = p } ≡ doing = cc is in inr (ap (λ z. is_done d.owed d.told z.phase) (sym same) ∙ done)
goes_left true None d command p done fixed = λ doing is. let same : record { command = command; phase = p } ≡ doing = cc is in inl (ap (λ z. answer_of z.command z.phase) (sym same) ∙ fixed)
goes_left true (Some got) d command p done fixed = λ doing is. absurd (cc is)

turned_left : (d : DriverPart) (command : Command) (t : Turn) → IsLeft (turned d command t)
turned_left d command (Goes p) = goes_left (is_done d.owed d.told p) (answer_of command p) d command p refl refl
turned_left d command (Ends got) = λ doing is. absurd (cc is)

pub took_left : (d : DriverPart) (outcome : Outcome) (doing : Doing) → d.doing ≡ Some doing → IsLeft (took d outcome)
took_left d outcome doing is = subst IsLeft (sym (ap (λ o. took_by d o outcome) is)) (turned_left (with_facts d doing outcome) doing.command (turn d.me doing.command doing.phase outcome))

-- ---- epochs

-- a flush was done whose call isn't in the list yet
abbrev flushed_phase : Phase → ℕ
flushed_phase (phase.Reaping (answer.Reset stamp)) = 1
flushed_phase p = 0

abbrev pub flushed_open : Option Doing → ℕ
flushed_open None = 0
flushed_open (Some doing) = flushed_phase doing.phase

-- how many calls a driver's part has, with that one
abbrev pub weight : DriverPart → ℕ
weight d = length d.calls + flushed_open d.doing

call_weight : (command : Command) (p : Phase) (got : Answer) → answer_of command p ≡ Some got → flushed_phase p ≤ length (call_of command got)
call_weight command (phase.Reaping (answer.Reset stamp)) got is =
    let same : answer.Reset stamp ≡ got = cc is in
    subst (λ a. 1 ≤ length (call_of command a)) same (reset_call (is_await command))
  where
    reset_call : (b : Bool) → 1 ≤ length {A = Call} (cond (b && false) [] (record { command = as_call command; answer = answer.Reset stamp } ∷ []))
    reset_call true = omega arith
    reset_call false = omega arith
call_weight command p got is = omega arith

goes_weight : (b : Bool) (got : Option Answer) (d : DriverPart) (command : Command) (p : Phase) → answer_of command p ≡ got → length d.calls + flushed_phase p ≤ weight (goes_by b got d command p)
goes_weight false got d command p is = omega arith
goes_weight true None d command p is = omega arith
goes_weight true (Some got) d command p is =
    let one = call_weight command p got is in
    let more : length (d.calls ++ call_of command got) ≡ length d.calls + length (call_of command got) = length-append d.calls (call_of command got) in
    omega (arith, one, more)

turned_grows : (d : DriverPart) (command : Command) (t : Turn) → length d.calls ≤ weight (turned d command t)
turned_grows d command (Goes p) = let k = goes_weight (is_done d.owed d.told p) (answer_of command p) d command p refl in omega (arith, k)
turned_grows d command (Ends got) = let more : length (d.calls ++ call_of command got) ≡ length d.calls + length (call_of command got) = length-append d.calls (call_of command got) in omega (arith, more)

turned_weight : (d : DriverPart) (command : Command) (p : Phase) (outcome : Outcome) → length d.calls + flushed_phase p ≤ weight (turned d command (turn d.me command p outcome))
turned_weight d command (phase.Reaping got) outcome = goes_weight (is_done d.owed d.told (phase.Reaping got)) (Some got) d command (phase.Reaping got) refl
turned_weight d command p outcome = let k = turned_grows d command (turn d.me command p outcome) in omega (arith, k)

-- an answer lowers no weight, and a flush raises it
took_rises : (d : DriverPart) (outcome : Outcome) (command : Command) (p : Phase) → d.doing ≡ Some (record { command = command; phase = p }) → weight d ≤ weight (took d outcome)
took_rises d outcome command p is =
    let k = turned_weight (with_facts d (record { command = command; phase = p }) outcome) command p outcome in
    let before : weight d ≡ length d.calls + flushed_phase p = ap (λ o. length d.calls + flushed_open o) is in
    subst (λ e. weight d ≤ weight e) (sym (ap (λ o. took_by d o outcome) is)) (omega (arith, k, before))

flush_rises : (d : DriverPart) (dead : Bool) (command : Command) (stamp : Option ℕ) → d.doing ≡ Some (record { command = command; phase = phase.Flushing stamp }) → weight d + 1 ≤ weight (took d (out.Flush dead))
flush_rises d dead command stamp is =
    let w = with_facts d (record { command = command; phase = phase.Flushing stamp }) (out.Flush dead) in
    let k = goes_weight (is_done w.owed w.told (phase.Reaping (answer.Reset stamp))) (Some (answer.Reset stamp)) w command (phase.Reaping (answer.Reset stamp)) refl in
    let before : weight d ≡ length d.calls + 0 = ap (λ o. length d.calls + flushed_open o) is in
    subst (λ e. weight d + 1 ≤ weight e) (sym (ap (λ o. took_by d o (out.Flush dead)) is)) (omega (arith, k, before))

-- only a flush raises the epoch
same_epoch : (action : Action) (x y : PeerPart) → Changes action x y → (action ≡ act.Flush) ⊎ (y.epoch ≡ x.epoch)
same_epoch act.Flush x y e = inl refl
same_epoch act.Rest x y e = inr (ap (λ z. z.epoch) e)
same_epoch act.Begin x y e = inr (ap (λ z. z.epoch) e)
same_epoch (act.Stage peer place) x y e = inr (ap (λ z. z.epoch) e)
same_epoch (act.Unstage peer place) x y e = inr (ap (λ z. z.epoch) e)
same_epoch (act.Attach peer serial dest) x y e = inr (ap (λ z. z.epoch) e)
same_epoch act.Stamp x y e = inr (ap (λ z. z.epoch) e)
same_epoch (act.Sync peer stamp) x y e = inr (ap (λ z. z.epoch) e)
same_epoch (act.Commit peer place stamp) x y e = inr (ap (λ z. z.epoch) e)
same_epoch (act.CommitNotices peer stamp) x y e = inr (ap (λ z. z.epoch) e)
same_epoch act.Recv x y e = inr (ap (λ z. z.epoch) e)
same_epoch act.Reap x y e = inr (ap (λ z. z.epoch) e)
same_epoch act.Release x y e = inr (ap (λ z. z.epoch) e)
same_epoch (act.DropRefs peer serial holder k clock) x y e = inr (ap (λ z. z.epoch) e)
same_epoch act.BeginDestroy x y e = inr (ap (λ z. z.epoch) e)
same_epoch (act.Visit peer) x y e = inr (ap (λ z. z.epoch) e)
same_epoch act.StampDestroy x y e = inr (ap (λ z. z.epoch) e)
same_epoch act.Local x y e = inr (ap (λ z. z.epoch) e)

-- a flush is next only in its phase
first_no_flush : (shut : Bool) (c : Command) (me : ℕ) → phase_action me shut c phase.Starting ≢ act.Flush
first_no_flush true c me is = absurd (cc is)
first_no_flush false cmd.Disconnect me is = absurd (cc is)
first_no_flush false cmd.Query me is = absurd (cc is)
first_no_flush false (cmd.Reset limits) me is = absurd (cc is)
first_no_flush false (cmd.Limit limits) me is = absurd (cc is)
first_no_flush false (cmd.Release number) me is = absurd (cc is)
first_no_flush false (cmd.Destroy numbers) me is = absurd (cc is)
first_no_flush false (cmd.SliceRelease offset) me is = absurd (cc is)
first_no_flush false (cmd.Send c) me is = absurd (cc is)
first_no_flush false cmd.Recv me is = absurd (cc is)
first_no_flush false cmd.Await me is = absurd (cc is)

flush_phase : (me : ℕ) (shut : Bool) (command : Command) (p : Phase) → phase_action me shut command p ≡ act.Flush → (stamp : Option ℕ) × (p ≡ phase.Flushing stamp)
flush_phase me shut command phase.Starting is = absurd (first_no_flush shut command me is)
flush_phase me shut command (phase.Flushing stamp) is = (stamp, refl)
flush_phase me shut command p is = absurd (cc is)

-- ---- one event

pub record Weighs (d e : DriverPart) (x y : PeerPart) : Type 0 where
  pub rises : weight d ≤ weight e
  pub epoch : y.epoch + weight d ≤ x.epoch + weight e

module _ (o : Opening) (memory : Bool) (d : DriverPart) (doing : Doing) (x : PeerPart) (is : d.doing ≡ Some doing) where
  flushes : (action : Action) → next_action d ≡ action → action ≡ act.Flush → Weighs d (took d (happens o memory d doing action x).0) x (happens o memory d doing action x).1
  flushes action next flush = by (next_of d doing is).next
    where
      no_drop : (one : OwedDrop) → drop_of one ≡ act.Flush → ⊥
      no_drop one same = cc same

      by : ((one : OwedDrop) × Has d.owed one × (next_action d ≡ drop_of one)) ⊎ ((d.owed ≡ []) × (next_action d ≡ phase_action d.me d.shut doing.command doing.phase)) → Weighs d (took d (happens o memory d doing action x).0) x (happens o memory d doing action x).1
      by (inl drop) = absurd (no_drop drop.0 (sym drop.2 ∙ next ∙ flush))
      by (inr own) =
          let (stamp, at) = flush_phase d.me d.shut doing.command doing.phase (sym own.1 ∙ next ∙ flush) in
          let open_is : d.doing ≡ Some (record { command = doing.command; phase = phase.Flushing stamp }) = is ∙ ap (λ p. Some (record { command = doing.command; phase = p })) at in
          subst (λ a. Weighs d (took d (happens o memory d doing a x).0) x (happens o memory d doing a x).1) (sym flush)
          (let k = flush_rises d (has_dead (flushed x (limits_after doing.command x.limits))) doing.command stamp open_is in record { rises = omega (arith, k); epoch = omega (arith, k) })

  weighs : (action : Action) → next_action d ≡ action → Changes action x (happens o memory d doing action x).1 → Weighs d (took d (happens o memory d doing action x).0) x (happens o memory d doing action x).1
  weighs action next changed = elim (same_epoch action x (happens o memory d doing action x).1 changed) [
    | inl flush ↦ flushes action next flush
    | inr same ↦ let k = took_rises d (happens o memory d doing action x).0 doing.command doing.phase is in record { rises = k; epoch = omega (arith, k, same) }
  ]

-- ---- steps

pub record Holds (s : State) : Type 0 where
  pub left : (p : ℕ) (d : DriverPart) → slice_get s.drivers p ≡ Some d → IsLeft d
  pub low : (p : ℕ) (d : DriverPart) (x : PeerPart) → slice_get s.drivers p ≡ Some d → slice_get s.peers p ≡ Some x → x.epoch ≤ weight d

begun_weight : (d : DriverPart) (c : Command) → d.doing ≡ None → weight (begins d c) ≡ weight d
begun_weight d c none = ap (λ o. length d.calls + flushed_open o) (sym none)

module _ {o : Opening} {s : State} {p : ℕ} {command : Option Command} {t : State} (numbered : IsNumbered o s) (holds : Holds s) (step : Step o s p command t) where
  step_weighs : Weighs step.driver step.new_driver step.peer step.new_peer
  step_weighs =
      let a = aimed_at step.driver command step.action step.at step.is_target in
      let one = opened step.driver a.part command a.is_begun in
      let after = sym (effect_is o step.local.memory step.driver a.part command one.doing step.peer a.is_begun one.is_doing) ∙ step.local.after in
      let new : took a.part (happens o step.local.memory a.part one.doing (next_action a.part) step.peer).0 ≡ step.new_driver = ap (λ z. z.0) after in
      let peer : (happens o step.local.memory a.part one.doing (next_action a.part) step.peer).1 ≡ step.new_peer = ap (λ z. z.1) after in
      let changed : Changes (next_action a.part) step.peer step.new_peer = subst (λ b. Changes b step.peer step.new_peer) (sym a.is_next) (step_changes step) in
      let k = weighs o step.local.memory a.part one.doing step.peer one.is_doing (next_action a.part) refl (subst (Changes (next_action a.part) step.peer) (sym peer) changed) in
      let same : weight a.part ≡ weight step.driver = elim one.old_or_new [ inl old ↦ ap weight old | inr began ↦ ap weight began.2 ∙ begun_weight step.driver began.0 began.1 ] in
      let l : Weighs a.part step.new_driver step.peer step.new_peer = subst (λ e. Weighs a.part e step.peer step.new_peer) new (subst (λ y. Weighs a.part (took a.part (happens o step.local.memory a.part one.doing (next_action a.part) step.peer).0) step.peer y) peer k) in
      record { rises = omega (arith, l.rises, same); epoch = omega (arith, l.epoch, same) }

  step_left : IsLeft step.new_driver
  step_left =
      let a = aimed_at step.driver command step.action step.at step.is_target in
      let one = opened step.driver a.part command a.is_begun in
      let after = sym (effect_is o step.local.memory step.driver a.part command one.doing step.peer a.is_begun one.is_doing) ∙ step.local.after in
      subst IsLeft (ap (λ z. z.0) after) (took_left a.part _ one.doing one.is_doing)

  elsewhere : step.at ≢ p → step.new_peer.epoch ≡ step.peer.epoch
  elsewhere apart = by (may_be_elsewhere step.action) refl
    where
      by : (b : Bool) → may_be_elsewhere step.action ≡ b → step.new_peer.epoch ≡ step.peer.epoch
      by true is = (step_keeps step is).epoch
      by false is = absurd (apart (own_place step is ∙ numbered.drivers p step.driver step.is_driver))

  left_at : (r : ℕ) (e : DriverPart) → ((r ≡ p) × (e ≡ step.new_driver)) ⊎ ((r ≢ p) × (slice_get s.drivers r ≡ Some e)) → IsLeft e
  left_at r e (inl here) = subst IsLeft (sym here.1) step_left
  left_at r e (inr other) = holds.left r e other.1

  low_at : (r : ℕ) (e : DriverPart) (y : PeerPart) → ((r ≡ p) × (e ≡ step.new_driver)) ⊎ ((r ≢ p) × (slice_get s.drivers r ≡ Some e)) → ((r ≡ step.at) × (y ≡ step.new_peer)) ⊎ ((r ≢ step.at) × (slice_get s.peers r ≡ Some y)) → y.epoch ≤ weight e
  low_at r e y (inl here) (inl there) =
      let before = holds.low p step.driver step.peer step.is_driver (subst (λ n. slice_get s.peers n ≡ Some step.peer) (sym there.0 ∙ here.0) step.is_peer) in
      let k = step_weighs.epoch in
      let a = ap weight here.1 in
      let b = ap (λ z. z.epoch) there.1 in
      omega (arith, before, k, a, b)
  low_at r e y (inl here) (inr there) =
      let before = holds.low p step.driver y step.is_driver (subst (λ n. slice_get s.peers n ≡ Some y) here.0 there.1) in
      let k = step_weighs.rises in
      let a = ap weight here.1 in
      omega (arith, before, k, a)
  low_at r e y (inr here) (inl there) =
      let before = holds.low r e step.peer here.1 (subst (λ n. slice_get s.peers n ≡ Some step.peer) (sym there.0) step.is_peer) in
      let k = elsewhere (λ same. here.0 (there.0 ∙ same)) in
      let b = ap (λ z. z.epoch) there.1 in
      omega (arith, before, k, b)
  low_at r e y (inr here) (inr there) = holds.low r e y here.1 there.1

  still_holds : Holds t
  still_holds = record {
    left = λ r e is. left_at r e (set_cases s.drivers p r step.new_driver e (ap (λ ds. slice_get ds r) (sym step.drivers) ∙ is));
    low = λ r e y is there. low_at r e y (set_cases s.drivers p r step.new_driver e (ap (λ ds. slice_get ds r) (sym step.drivers) ∙ is)) (set_cases s.peers step.at r step.new_peer y (ap (λ xs. slice_get xs r) (sym step.peers) ∙ there));
  }

led_holds : (o : Opening) (steps : List Label) (s t : State) → IsNumbered o s → Holds s → Leads o s steps t → Holds t
led_holds o [] s t numbered holds same = subst Holds same holds
led_holds o (l ∷ rest) s t numbered holds run = led_holds o rest run.0 t (step_numbered numbered run.1) (still_holds numbered holds run.1) run.2

idle_holds : (here : ℕ) (specs : List PeerSpec) (p : ℕ) (d : DriverPart) → slice_get (idle_drivers here specs) p ≡ Some d → d.doing ≡ None
idle_holds here [] p d is = absurd (cc is)
idle_holds here (spec ∷ rest) zero d is = let same : idle_driver here ≡ d = cc is in ap (λ e. e.doing) (sym same)
idle_holds here (spec ∷ rest) (suc p) d is = idle_holds (here + 1) rest p d is

-- ---- the opening

abbrev Fresh : List PeerPart → Type 0
Fresh xs = (q : ℕ) (x : PeerPart) → slice_get xs q ≡ Some x → x.epoch ≡ 0

before_fresh : (o : Opening) (here : ℕ) (specs : List PeerSpec) → Fresh (peers_before o here specs)
before_fresh o here [] q x is = absurd (cc is)
before_fresh o here (spec ∷ rest) zero x is = let same : peer_before o here spec ≡ x = cc is in ap (λ z. z.epoch) (sym same)
before_fresh o here (spec ∷ rest) (suc q) x is = before_fresh o (here + 1) rest q x is

read_before : (xs : List PeerPart) (i : ℕ) (v y : PeerPart) → slice_get (set xs i v) i ≡ Some y → slice_get xs i ≡ Some (get_or xs i no_peer)
read_before [] i v y is = absurd (cc is)
read_before (x ∷ rest) zero v y is = refl
read_before (x ∷ rest) (suc i) v y is = read_before rest i v y is

module _ (f : PeerPart → PeerPart) (keeps : (x : PeerPart) → (f x).epoch ≡ x.epoch) (xs : List PeerPart) (i : ℕ) (fresh : Fresh xs) where
  fresh_at : (q : ℕ) (y : PeerPart) → slice_get (set xs i (f (get_or xs i no_peer))) q ≡ Some y → ((q ≡ i) × (y ≡ f (get_or xs i no_peer))) ⊎ ((q ≢ i) × (slice_get xs q ≡ Some y)) → y.epoch ≡ 0
  fresh_at q y is (inl here) =
      ap (λ z. z.epoch) here.1 ∙ keeps (get_or xs i no_peer) ∙ fresh i (get_or xs i no_peer) (read_before xs i (f (get_or xs i no_peer)) y (ap (slice_get (set xs i (f (get_or xs i no_peer)))) (sym here.0) ∙ is))
  fresh_at q y is (inr other) = fresh q y other.1

  fresh_part : Fresh (with_part i f xs)
  fresh_part q y is = fresh_at q y is (set_cases xs i q (f (get_or xs i no_peer)) y is)

made_epoch : (number : ℕ) (x : PeerPart) → (wire_made number x).epoch ≡ x.epoch
made_epoch number x = elim (is_own number) as (λ b. (cond b (record x { nodes = with_made x.peers number x.nodes }) x).epoch ≡ x.epoch) [ true ↦ refl | false ↦ refl ]

wired_fresh : (peers : List PeerPart) (w : Wire) (node : Option NodeRef) → Fresh peers → Fresh (elim node [ None ↦ peers | Some n ↦ with_part w.to (wire_held n) (with_part n.owner (wire_counted n w.to) peers) ])
wired_fresh peers w None fresh = fresh
wired_fresh peers w (Some n) fresh = fresh_part (wire_held n) (λ x. refl) (with_part n.owner (wire_counted n w.to) peers) w.to (fresh_part (wire_counted n w.to) (λ x. refl) peers n.owner fresh)

wires_fresh : (ws : List Wire) (peers : List PeerPart) → Fresh peers → Fresh (fold wired peers ws)
wires_fresh [] peers fresh = fresh
wires_fresh (w ∷ rest) peers fresh =
    wires_fresh rest (wired peers w)
    (wired_fresh (with_part w.from (wire_made w.number) peers) w (node_named (get_or (with_part w.from (wire_made w.number) peers) w.from no_peer) w.number)
    (fresh_part (wire_made w.number) (made_epoch w.number) peers w.from fresh))

opening_holds : (o : Opening) → Holds (opening_state o)
opening_holds o = record {
  left = λ p d is doing doing_is. absurd (cc (sym (idle_holds 0 o.peers p d is) ∙ doing_is));
  low = λ p d x is there. let k = wires_fresh o.wires (peers_before o 0 o.peers) (before_fresh o 0 o.peers) p x there in omega (arith, k);
}

-- in every reached state
pub reached_holds : (o : Opening) (s : State) → Reached o s → Holds s
reached_holds o s r = led_holds o r.steps (opening_state o) s (opening_numbered o) (opening_holds o) r.run
