-- The events of an attempt to receive: its gain, and the level that they leave.
use Rattle.std.proofs.Common.{◌≡◌, ◌⊎◌, refl, sym, ap, ◌∙◌, inl, inr, subst, arith, ℕ, zero, suc, ◌+◌, ◌≤◌, ◌<◌, Bool, true, false, ◌&&◌, ◌==◌, nat_lt, if◌then◌else◌, List, [], ◌∷◌, ◌++◌, length, sum_by, append-nil, Option, Some, None, Ok, Err, Result, option_map}
use Rattle.std.specs.Prelude.{slice_get}
use Rattle.std.proofs.lemmas.List.{length-append}
use Rattle.std.proofs.lemmas.List.Sums.{sum_by-cons}
use Rattle.std.proofs.lemmas.Option.{same_Some}
use Rattle.b1_model.specs.declared.naming.Opening.{Opening}
use Rattle.b1_model.specs.declared.naming.PeerSpec.{PeerSpec}
use Rattle.b1_model.specs.declared.answers.Answer.{Answer}
use Rattle.b1_model.specs.declared.answers.Front.{Front}
use Rattle.b1_model.specs.declared.answers.Receipt.{Receipt}
use Rattle.b1_model.specs.declared.answers.Reason.TheVariants as reason
use Rattle.b1_model.specs.declared.commands.Command.{Command}
use Rattle.b1_model.specs.declared.commands.Command.TheVariants as cmd
use Rattle.b1_model.specs.declared.records.Call.{Call}
use Rattle.b1_model.specs.declared.events.Action.{Action}
use Rattle.b1_model.specs.declared.events.Action.TheVariants as act
use Rattle.b1_model.specs.declared.events.Outcome.{Outcome}
use Rattle.b1_model.specs.declared.events.Outcome.TheVariants as out
use Rattle.b1_model.specs.declared.events.Doing.{Doing}
use Rattle.b1_model.specs.declared.events.OwedDrop.{OwedDrop}
use Rattle.b1_model.specs.declared.events.Phase.{Phase}
use Rattle.b1_model.specs.declared.events.Phase.TheVariants.{Starting, Reaping}
use Rattle.b1_model.specs.MachineParts.{PeerPart, DriverPart, State, same_ref, node_at}
use Rattle.b1_model.specs.MachineTables.{count_of}
use Rattle.b1_model.specs.MachineCounts.{fresh, driver_amount, owed_amount}
use Rattle.b1_model.specs.MachineDriver.{next_action, phase_action, peer_of, recv_answer, refused_at, Goes, turn}
use Rattle.b1_model.specs.MachineReceive.{received, received_part, has_dead, reaped, reaped_part}
use Rattle.b1_model.specs.MachineTook.{is_waiting, goes_by, is_done, with_facts, took, took_by}
use Rattle.b1_model.specs.MachineEvents.{happens, local_answer, local_part}
use Rattle.b1_model.specs.MachineStep.{Step, begun_by, aimed, done_by, effect_by, effect, idle_drivers, opening_state}
use Rattle.b1_step.specs.Rights.{Has}
use Rattle.b1_step.proofs.Lists.{sum_set}
use Rattle.b1_step.proofs.Orders.{same_ref_itself}
use Rattle.b1_inv.specs.References.{ReferencesRight}
use Rattle.b1_inv.specs.Sound.{IsSound}
use Rattle.b1_schedule.specs.Schedule.{Ending, Open, Called, Waits, removed_by}
use Rattle.b1_inv_tools.proofs.Leaves.{Did, step_did, turned_open, driver_cases}
use Rattle.b1_progress.specs.Level.{peer_level, level, some_removed, gain_shown, gain_in, gain_so_far, gain_after, IsAttempt, AttemptsAnswered}
use Rattle.b1_progress.proofs.PeerLevels.{some_taken, recv_level, drop_level}

-- ---- what an attempt's end shows

removed_few : (n : ℕ) → (some_removed n ≤ 1) × (some_removed n ≤ n)
removed_few zero = (omega arith, omega arith)
removed_few (suc n) = (grind arith, grind arith)

-- a gain of an end, by how it ended
abbrev end_gain : DriverPart → Ending → ℕ
end_gain d how = elim how [ Open ↦ 0 | Called ↦ if d.shut then 0 else 1 | Waits removed ↦ some_removed removed ]

called_gain : (b : Bool) → (if b then 0 else 1) ≤ 1
called_gain true = omega arith
called_gain false = omega arith

end_few : (d : DriverPart) (longer : Bool) (removed : ℕ) → end_gain d (if longer then Called else Waits removed) ≤ 1
end_few d true removed = called_gain d.shut
end_few d false removed = (removed_few removed).0

no_longer : {X : Type 0} (xs ys : List X) → ys ≡ xs → nat_lt (length xs) (length (ys ++ [])) ≡ false
no_longer xs ys same = let k : length (ys ++ []) ≡ length xs = ap length (append-nil ys ∙ same) in grind (arith, k)

one_longer : {X : Type 0} (xs ys : List X) (x : X) → ys ≡ xs → nat_lt (length xs) (length (ys ++ x ∷ [])) ≡ true
one_longer xs ys x same = let k : length (ys ++ x ∷ []) ≡ length ys + 1 = length-append ys (x ∷ []) in let l : length ys ≡ length xs = ap length same in grind (arith, k, l)

-- a command that ended with a call, or an attempt that waits
ended_gain : (d e : DriverPart) (waits : Bool) (c : Call) → e.calls ≡ d.calls → end_gain d (if nat_lt (length d.calls) (length (e.calls ++ (if waits then [] else c ∷ []))) then Called else Waits (removed_by e)) ≤ (if waits then some_removed (removed_by e) else 1)
ended_gain d e true c same = rw (no_longer d.calls e.calls same) (omega arith)
ended_gain d e false c same = end_few d (nat_lt (length d.calls) (length (e.calls ++ c ∷ []))) (removed_by e)

-- an attempt with its answer goes on, or ends
gain_kept : (done : Bool) (d e : DriverPart) (got : Answer) → e.calls ≡ d.calls → gain_after d (goes_by done (Some got) e cmd.Await (Reaping got)) ≤ gain_shown e got
gain_kept false d e got same = omega arith
gain_kept true d e got same = ended_gain d e (is_waiting cmd.Await got) (record { command = cmd.Recv; answer = got }) same

-- ---- the two parts

effect_open : (o : Opening) (memory : Bool) (d : DriverPart) (doing : Doing) (x : PeerPart) → d.doing ≡ Some doing → effect o memory d None x ≡ (took d (happens o memory d doing (next_action d) x).0, (happens o memory d doing (next_action d) x).1)
effect_open o memory d doing x is = ap (λ one. effect_by o memory d (begun_by d one None) x) is ∙ ap (λ one. done_by o memory d one x) is

-- the part of a driver that begins a command
abbrev begun_with : DriverPart → Command → DriverPart
begun_with d c = record d { doing = Some (record { command = c; phase = Starting }) }

effect_begin : (o : Opening) (memory : Bool) (d : DriverPart) (c : Command) (x : PeerPart) → d.doing ≡ None → effect o memory d (Some c) x ≡ (took (begun_with d c) (happens o memory (begun_with d c) (record { command = c; phase = Starting }) (next_action (begun_with d c)) x).0, (happens o memory (begun_with d c) (record { command = c; phase = Starting }) (next_action (begun_with d c)) x).1)
effect_begin o memory d c x is = ap (λ one. effect_by o memory d (begun_by d one (Some c)) x) is

-- an AWAIT of a driver that has not disconnected begins with a RECV
module _ (o : Opening) (memory : Bool) (d : DriverPart) (x : PeerPart) (none : d.doing ≡ None) (owed : d.owed ≡ []) where
  -- the two parts after an event
  abbrev Lowers : DriverPart × PeerPart → Type 0
  Lowers r = peer_level r.1 + gain_after d r.0 ≤ peer_level x

  abbrev parts_by : Action → DriverPart × PeerPart
  parts_by action = (took (begun_with d cmd.Await) (happens o memory (begun_with d cmd.Await) (record { command = cmd.Await; phase = Starting }) action x).0, (happens o memory (begun_with d cmd.Await) (record { command = cmd.Await; phase = Starting }) action x).1)

  front_gain : (front : Result Receipt Front) (removed : ℕ) (dead : Bool) → gain_shown (with_facts (begun_with d cmd.Await) (record { command = cmd.Await; phase = Starting }) (out.Recv (record { front = front; removed = removed }) dead)) (recv_answer (record { front = front; removed = removed })) ≤ some_taken front + removed
  front_gain (Ok receipt) removed dead = omega arith
  front_gain (Err front) removed dead = omega (arith, (removed_few removed).1)

  received_lowers : d.shut ≡ false → Lowers (parts_by act.Recv)
  received_lowers there =
      let got = received x in
      let dead = has_dead (received_part x) in
      let e = with_facts (begun_with d cmd.Await) (record { command = cmd.Await; phase = Starting }) (out.Recv got dead) in
      omega (arith, recv_level x, front_gain got.front got.removed dead, gain_kept (is_done e.owed e.told (Reaping (recv_answer got))) d e (recv_answer got) refl)

  -- the two parts after a local event, by whether the driver has disconnected
  abbrev local_parts : Bool → DriverPart × PeerPart
  local_parts shut = (took (begun_with d cmd.Await) (out.Local (local_answer shut cmd.Await x)), local_part shut cmd.Await x)

  refused_gain : d.shut ≡ true → gain_after d (local_parts true).0 ≡ 0
  refused_gain shut =
      ap (λ longer. end_gain d (if longer then Called else Waits (removed_by (local_parts true).0))) (one_longer d.calls d.calls (record { command = cmd.Recv; answer = refused_at reason.Shutdown None }) refl)
      ∙ ap (λ b. if b then 0 else 1) shut

  shut_lowers : d.shut ≡ true → Lowers (parts_by act.Local)
  shut_lowers shut = subst (λ b. Lowers (local_parts b)) (sym shut) (omega (arith, refused_gain shut))

  by_shut : (shut : Bool) → d.shut ≡ shut → Lowers (parts_by (if shut then act.Local else act.Recv))
  by_shut true is = shut_lowers is
  by_shut false is = received_lowers is

  first_event : next_action (begun_with d cmd.Await) ≡ (if d.shut then act.Local else act.Recv)
  first_event = ap (λ owed. elim owed [ [] ↦ phase_action d.me d.shut cmd.Await Starting | drop ∷ rest ↦ act.DropRefs drop.node.owner drop.node.serial drop.holder drop.amount drop.clock ]) owed

  pub begin_lowers : Lowers (effect o memory d (Some cmd.Await) x)
  begin_lowers = subst Lowers (sym (effect_begin o memory d cmd.Await x none ∙ ap parts_by first_event)) (by_shut d.shut refl)

-- ---- an attempt with its answer

-- a driver has at least as much for a holder as each drop that it owes
owed_enough : (one : OwedDrop) (rest : List OwedDrop) → one.amount ≤ owed_amount one.node one.holder (one ∷ rest)
owed_enough one rest =
    let sum = sum_by-cons (λ other. if same_ref other.node one.node && (other.holder == one.holder) then other.amount else 0) one rest in
    let same = same_ref_itself one.node in
    grind (arith, sum, same)

part_of_sum : {X : Type 0} (f : X → ℕ) (xs : List X) (i : ℕ) (x : X) → slice_get xs i ≡ Some x → f x ≤ sum_by f xs
part_of_sum f [] i x is = absurd (cc is)
part_of_sum f (y ∷ rest) zero x is = let same : y ≡ x = same_Some y x is in omega (arith, ap f same, sum_by-cons f y rest)
part_of_sum f (y ∷ rest) (suc i) x is = omega (arith, part_of_sum f rest i x is, sum_by-cons f y rest)

-- the owner counts a reference that is to be dropped
drop_counted : (s : State) (p : ℕ) (d : DriverPart) (one : OwedDrop) (rest : List OwedDrop) (x : PeerPart) → ReferencesRight s → slice_get s.drivers p ≡ Some d → d.owed ≡ one ∷ rest → slice_get s.peers one.node.owner ≡ Some x
    → (one.node.serial < length x.nodes) × (1 ≤ count_of (node_at x one.node.serial) one.holder) × (1 ≤ one.amount)
drop_counted s p d one rest x right is_driver owed is_peer =
    let drop = right.owed p d one is_driver (subst (λ list. Has list one) (sym owed) (inl refl)) in
    let same : drop.made.0 ≡ x = same_Some drop.made.0 x (sym drop.made.1 ∙ is_peer) in
    let counted : count_of (node_at x one.node.serial) one.holder ≡ fresh s one.node one.holder = sym (ap (λ found. elim found [ None ↦ 0 | Some y ↦ count_of (node_at y one.node.serial) one.holder ]) is_peer) ∙ right.counts one.node one.holder in
    let enough : one.amount ≤ owed_amount one.node one.holder d.owed = subst (λ list. one.amount ≤ owed_amount one.node one.holder list) (sym owed) (owed_enough one rest) in
    (subst (λ y. one.node.serial < length y.nodes) same drop.made.2, omega (arith, counted, enough, drop.some, part_of_sum (driver_amount one.node one.holder) s.drivers p d is_driver), drop.some)

-- an event of an attempt with its answer
module _ (o : Opening) (memory : Bool) (s : State) (p : ℕ) (d : DriverPart) (got : Answer) (at : ℕ) (x : PeerPart) (right : ReferencesRight s) (is_driver : slice_get s.drivers p ≡ Some d) (is_open : d.doing ≡ Some (record { command = cmd.Await; phase = Reaping got })) (is_peer : slice_get s.peers at ≡ Some x) where
  abbrev answered : Doing
  answered = record { command = cmd.Await; phase = Reaping got }

  abbrev Keeps : DriverPart × PeerPart → Type 0
  Keeps r = peer_level r.1 + gain_after d r.0 ≤ peer_level x + gain_shown d got

  abbrev parts_of : Action → DriverPart × PeerPart
  parts_of action = (took d (happens o memory d answered action x).0, (happens o memory d answered action x).1)

  -- an answer that tells nothing of the front
  abbrev Tells : Outcome → Type 0
  Tells outcome = (with_facts d answered outcome).attempted ≡ d.attempted

  driver_kept : (outcome : Outcome) → Tells outcome → gain_after d (took d outcome) ≤ gain_shown d got
  driver_kept outcome tells =
      let e = with_facts d answered outcome in
      subst (λ one. gain_after d (took_by d one outcome) ≤ gain_shown d got) (sym is_open)
      (subst (λ found. gain_after d (goes_by (is_done e.owed e.told (Reaping got)) (Some got) e cmd.Await (Reaping got)) ≤ (if is_waiting cmd.Await got then some_removed (elim found [ None ↦ 0 | Some pair ↦ pair.1 ]) else 1)) tells
      (gain_kept (is_done e.owed e.told (Reaping got)) d e got refl))

  reap_keeps : Keeps (parts_of act.Reap)
  reap_keeps = omega (arith, driver_kept (out.Reap (reaped x) (has_dead (reaped_part x))) refl)

  drop_keeps : (one : OwedDrop) (rest : List OwedDrop) → d.owed ≡ one ∷ rest → at ≡ one.node.owner → Keeps (parts_of (act.DropRefs one.node.owner one.node.serial one.holder one.amount one.clock))
  drop_keeps one rest owed here =
      let counted = drop_counted s p d one rest x right is_driver owed (ap (slice_get s.peers) (sym here) ∙ is_peer) in
      omega (arith, driver_kept out.DropRefs refl, drop_level x one.node.serial one.holder one.amount one.clock counted.0 counted.1 counted.2)

  by_owed : (owed : List OwedDrop) → d.owed ≡ owed → at ≡ peer_of d.me (elim owed [ [] ↦ act.Reap | one ∷ rest ↦ act.DropRefs one.node.owner one.node.serial one.holder one.amount one.clock ])
      → Keeps (parts_of (elim owed [ [] ↦ act.Reap | one ∷ rest ↦ act.DropRefs one.node.owner one.node.serial one.holder one.amount one.clock ]))
  by_owed [] is here = reap_keeps
  by_owed (one ∷ rest) is here = drop_keeps one rest is here

  next_event : next_action d ≡ elim d.owed [ [] ↦ act.Reap | one ∷ rest ↦ act.DropRefs one.node.owner one.node.serial one.holder one.amount one.clock ]
  next_event = ap (λ doing. elim doing [ None ↦ act.Rest | Some one ↦ elim d.owed [ [] ↦ phase_action d.me d.shut one.command one.phase | drop ∷ rest ↦ act.DropRefs drop.node.owner drop.node.serial drop.holder drop.amount drop.clock ] ]) is_open

  pub goes_lower : at ≡ peer_of d.me (next_action d) → Keeps (effect o memory d None x)
  goes_lower here = subst Keeps (sym (effect_open o memory d answered x is_open ∙ ap parts_of next_event)) (by_owed d.owed refl (here ∙ ap (peer_of d.me) next_event))

-- ---- a step of a state

module _ {o : Opening} {s : State} {p : ℕ} {command : Option Command} {t : State} (step : Step o s p command t) where
  levels : level t + peer_level step.peer ≡ level s + peer_level step.new_peer
  levels = ap (λ xs. sum_by peer_level xs + peer_level step.peer) step.peers ∙ sum_set peer_level s.peers step.at step.peer step.new_peer step.is_peer

pub begins_lower : (o : Opening) (s : State) (p : ℕ) (t : State) → IsSound o s → (step : Step o s p (Some cmd.Await) t) → level t + gain_after step.driver step.new_driver ≤ level s
begins_lower o s p t sound step = omega (arith, levels step, lower)
  where
    none : step.driver.doing ≡ None
    none = by_doing step.driver.doing refl
      where
        by_doing : (doing : Option Doing) → step.driver.doing ≡ doing → doing ≡ None
        by_doing None is = refl
        by_doing (Some one) is = absurd (cc (sym (ap (λ found. option_map aimed (begun_by step.driver found (Some cmd.Await))) is) ∙ step.is_target))

    owed : step.driver.owed ≡ []
    owed = elim (sound.references.owing p step.driver step.is_driver) [
      | inl nothing ↦ nothing
      | inr some ↦ absurd (cc (sym (ap (λ doing. elim doing [ None ↦ None | Some one ↦ Some one.phase ]) none) ∙ some.1))
    ]

    lower : peer_level step.new_peer + gain_after step.driver step.new_driver ≤ peer_level step.peer
    lower = subst (λ r. peer_level r.1 + gain_after step.driver r.0 ≤ peer_level step.peer) step.local.after (begin_lowers o step.local.memory step.driver step.peer none owed)

pub goes_on_lower : (o : Opening) (s : State) (p : ℕ) (t : State) → IsSound o s → (step : Step o s p None t) → IsAttempt step.driver → level t + gain_after step.driver step.new_driver ≤ level s + gain_so_far step.driver
goes_on_lower o s p t sound step (got, is_open) = omega (arith, levels step, lower, so_far)
  where
    here : step.at ≡ peer_of step.driver.me (next_action step.driver)
    here = sym (ap (λ pair. pair.1) (same_Some (aimed step.driver) (step.action, step.at) (sym (ap (λ doing. option_map aimed (begun_by step.driver doing None)) is_open) ∙ step.is_target)))

    lower : peer_level step.new_peer + gain_after step.driver step.new_driver ≤ peer_level step.peer + gain_shown step.driver got
    lower = subst (λ r. peer_level r.1 + gain_after step.driver r.0 ≤ peer_level step.peer + gain_shown step.driver got) step.local.after
        (goes_lower o step.local.memory s p step.driver got step.at step.peer sound.references step.is_driver is_open step.is_peer here)

    so_far : gain_so_far step.driver ≡ gain_shown step.driver got
    so_far = ap (λ doing. elim doing [ None ↦ 0 | Some one ↦ gain_in step.driver one.phase ]) is_open

-- ---- open attempts have their answers

idle_open : (specs : List PeerSpec) (me p : ℕ) (d : DriverPart) → slice_get (idle_drivers me specs) p ≡ Some d → d.doing ≡ None
idle_open [] me p d is = absurd (cc is)
idle_open (spec ∷ rest) me zero d is = sym (ap (λ e. e.doing) (same_Some _ d is))
idle_open (spec ∷ rest) me (suc p) d is = idle_open rest (me + 1) p d is

pub starts_answered : (o : Opening) → AttemptsAnswered (opening_state o)
starts_answered o p d doing is_driver is_open is = absurd (cc (idle_open o.peers 0 p d is_driver, is_open))

-- the first event of an AWAIT leaves its answer, or ends it
started_answered : (o : Opening) (memory : Bool) (e : DriverPart) (x : PeerPart) (shut : Bool) (phase : Phase) → turn e.me cmd.Await Starting (happens o memory e (record { command = cmd.Await; phase = Starting }) (if shut then act.Local else act.Recv) x).0 ≡ Goes phase → (got : Answer) × (phase ≡ Reaping got)
started_answered o memory e x true phase is = absurd (cc is)
started_answered o memory e x false phase is = (recv_answer (received x), cc is)

pub stays_answered : (o : Opening) (s : State) (p : ℕ) (c : Option Command) (t : State) → IsSound o s → Step o s p c t → AttemptsAnswered s → AttemptsAnswered t
stays_answered o s p c t sound step answered r d doing is_driver is_open is = elim (driver_cases step r d is_driver) [
  | inr other ↦ answered r d doing other.1 is_open is
  | inl own ↦ subst IsAttempt (sym own.1) (new_attempt doing (subst (λ e. e.doing ≡ Some doing) own.1 is_open) is)
]
  where
    did : Did o step.local.memory step.driver c step.peer step.action step.at step.new_driver step.new_peer
    did = step_did step

    outcome : Outcome
    outcome = (happens o step.local.memory did.e did.doing step.action step.peer).0

    -- an open attempt goes on with its answer
    by_from : (phase : Phase) → did.doing.command ≡ cmd.Await → turn did.e.me did.doing.command did.doing.phase outcome ≡ Goes phase → (step.driver.doing ≡ Some did.doing) ⊎ ((step.driver.doing ≡ None) × (c ≡ Some did.doing.command) × (did.doing.phase ≡ Starting)) → (got : Answer) × (phase ≡ Reaping got)
    by_from phase is to (inl open_already) =
        let attempt = answered p step.driver did.doing step.is_driver open_already is in
        let doing_is : did.doing ≡ record { command = cmd.Await; phase = Reaping attempt.0 } = same_Some _ _ (sym open_already ∙ attempt.1) in
        (attempt.0, goes_same (Reaping attempt.0) phase (subst (λ one. turn did.e.me one.command one.phase outcome ≡ Goes phase) doing_is to))
      where
        goes_same : (a b : Phase) → Goes a ≡ Goes b → b ≡ a
        goes_same a b same = cc same
    by_from phase is to (inr begins) = started_answered o step.local.memory did.e step.peer did.e.shut phase (subst (λ action. turn did.e.me cmd.Await Starting (happens o step.local.memory did.e (record { command = cmd.Await; phase = Starting }) action step.peer).0 ≡ Goes phase) action_is to_first)
      where
        doing_is : did.doing ≡ record { command = cmd.Await; phase = Starting }
        doing_is = λ i. record { command = is i; phase = begins.2 i }

        to_first : turn did.e.me cmd.Await Starting (happens o step.local.memory did.e (record { command = cmd.Await; phase = Starting }) step.action step.peer).0 ≡ Goes phase
        to_first = subst (λ one. turn did.e.me one.command one.phase (happens o step.local.memory did.e one step.action step.peer).0 ≡ Goes phase) doing_is to

        owed : did.e.owed ≡ []
        owed = did.opened.owed ∙ elim (sound.references.owing p step.driver step.is_driver) [
          | inl nothing ↦ nothing
          | inr some ↦ absurd (cc (sym (ap (λ doing. elim doing [ None ↦ None | Some one ↦ Some one.phase ]) begins.0) ∙ some.1))
        ]

        action_is : step.action ≡ (if did.e.shut then act.Local else act.Recv)
        action_is = did.is_action
            ∙ ap (λ doing. elim doing [ None ↦ act.Rest | Some one ↦ elim did.e.owed [ [] ↦ phase_action did.e.me did.e.shut one.command one.phase | drop ∷ rest ↦ act.DropRefs drop.node.owner drop.node.serial drop.holder drop.amount drop.clock ] ]) (did.opened.is_open ∙ ap Some doing_is)
            ∙ ap (λ owed. elim owed [ [] ↦ phase_action did.e.me did.e.shut cmd.Await Starting | drop ∷ rest ↦ act.DropRefs drop.node.owner drop.node.serial drop.holder drop.amount drop.clock ]) owed

    new_attempt : (doing : Doing) → step.new_driver.doing ≡ Some doing → doing.command ≡ cmd.Await → IsAttempt step.new_driver
    new_attempt doing is_open is =
        let opened = turned_open (with_facts did.e did.doing outcome) did.doing.command (turn did.e.me did.doing.command did.doing.phase outcome) doing (subst (λ f. f.doing ≡ Some doing) did.driver is_open) in
        let found = by_from doing.phase (sym opened.0 ∙ is) opened.1 did.opened.from in
        (found.0, is_open ∙ ap Some (λ i. record { command = is i; phase = found.1 i }))
