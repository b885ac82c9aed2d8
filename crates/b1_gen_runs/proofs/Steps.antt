-- Every step of a run of a generated script leaves its state well.
use Rattle.std.proofs.Common.{◌≡◌, ◌≢◌, ◌⊎◌, inl, inr, refl, sym, ap, ◌∙◌, subst, ℕ, ◌+◌, ◌*◌, ◌≤◌, ◌==◌, Bool, true, false, List, [], ◌∷◌, length, get_or, sum_by, Option, Some, None}
use Rattle.std.proofs.lemmas.Option.{slice_get_within, slice_get-get_or}
use Rattle.std.proofs.lemmas.Bool.{ne_eqb, eq-eqb}
use Rattle.std.proofs.lemmas.List.{length-map}
use Rattle.std.proofs.lemmas.List.FromFn.{length-range_with_len}
use native.Mathlib.Omega.{arith}
use Rattle.b1_model.specs.declared.naming.Key.{Key}
use Rattle.b1_model.specs.declared.entries.Entry.{Entry}
use Rattle.b1_model.specs.declared.entries.Entry.TheVariants.{Message, OwnNotice, ForeignNotice, ReleaseNotice}
use Rattle.b1_model.specs.declared.naming.Opening.{Opening}
use Rattle.b1_model.specs.declared.commands.Command.{Command}
use Rattle.b1_model.specs.declared.events.Action.{Action}
use Rattle.b1_model.specs.declared.events.Doing.{Doing}
use Rattle.b1_model.specs.declared.events.Phase.TheVariants.{Starting, Staging, Stamping, Syncing, Committing}
use Rattle.b1_model.specs.declared.events.Phase.{Phase}
use Rattle.b1_model.specs.declared.records.Call.{Call}
use Rattle.b1_model.specs.MachineParts.{PeerPart, DriverPart, State, NodePart, no_node, is_live, is_data}
use Rattle.b1_model.specs.MachineTables.{held_node}
use Rattle.b1_model.specs.MachineDriver.{turn, phase_action, peer_of, next_action}
use Rattle.b1_model.specs.MachineTook.{turned, with_facts}
use Rattle.b1_model.specs.MachineEvents.{happens}
use Rattle.b1_model.specs.MachineStep.{Step, idle_driver}
use Rattle.b1_step.specs.Rights.{Has}
use Rattle.b1_step.proofs.Lists.{sum_set}
use Rattle.b1_step.proofs.Locality.{own_driver}
use Rattle.b1_model.specs.declared.events.OwedDrop.{OwedDrop}
use Rattle.std.proofs.lemmas.List.Sums.{sum_by-cons}
use Rattle.b1_inv.specs.Words.{IsPeer, IsDriver}
use Rattle.b1_inv.specs.Sound.{IsSound}
use Rattle.b1_inv.specs.Sends.{SendShape}
use Rattle.b1_inv_record.specs.Parts.{PoolRight}
use Rattle.b1_inv_tools.proofs.Leaves.{Did, step_did, driver_cases, peer_cases}
use Rattle.b1_gen.specs.Generated.{peer_count, peer_spec, below, opening_of, handle_at}
use Rattle.b1_gen_runs.specs.Parts.{Stands, HasPlain, IsPlainEntry}
use Rattle.b1_gen_runs.specs.Sums.{where_true, brought_by, brought_so_far, got_by, sends, sent, all_sent, queued_one, queued, got, stamps, all_stamps, is_stamped}
use Rattle.b1_gen_runs.specs.Phases.{IsPlain, IsPlainDriver, IsGoing, GoesWell}
use Rattle.b1_gen_runs.specs.States.{AllPlain, RunsWell, one}
use Rattle.b1_gen_runs.proofs.Events.{Weight}
use Rattle.b1_gen_runs.proofs.Refusals.{HasRoom}
use Rattle.b1_gen_runs.proofs.Turns.{driver_at, Moves}
use Rattle.b1_gen_runs.proofs.Locals.{local}
use Rattle.b1_gen_runs.proofs.Bounds.{sent_few, stamps_few, sum_few}
use Rattle.b1_gen_runs.proofs.Back.{plain_command}

-- ---- bounds of a state

few_peers : (number : ℕ) → length (opening_of (peer_count number)).peers ≤ 8
few_peers number = let k = length-map (below (peer_count number)) peer_spec in let l = length-range_with_len 0 (peer_count number) in omega (arith, k, l)

-- as many messages as the queue is long
entry_weighs : (f : Key × Entry) → IsPlainEntry f → queued_one one f ≡ 1
entry_weighs (k, Message origin user index serial offset len nodes slots handles payload) plain = refl
entry_weighs (k, OwnNotice serial index) plain = absurd plain
entry_weighs (k, ForeignNotice node index) plain = absurd plain
entry_weighs (k, ReleaseNotice serial) plain = absurd plain

queue_weighs : (queue : List (Key × Entry)) → ((f : Key × Entry) → Has queue f → IsPlainEntry f) → sum_by (queued_one one) queue ≡ length queue
queue_weighs [] plain = refl
queue_weighs (f ∷ rest) plain =
    let k = sum_by-cons (queued_one one) f rest in
    let l = entry_weighs f (plain f (inl refl)) in
    let m = queue_weighs rest (λ g has. plain g (inr has)) in
    omega (arith, k, l, m)

plain_is_data : (k : Key) (e : Entry) → IsPlainEntry (k, e) → is_data e ≡ true
plain_is_data k (Message origin user index serial offset len nodes slots handles payload) plain = refl
plain_is_data k (OwnNotice serial index) plain = absurd plain
plain_is_data k (ForeignNotice node index) plain = absurd plain
plain_is_data k (ReleaseNotice serial) plain = absurd plain

module _ (number : ℕ) (s : State) (sound : IsSound (opening_of (peer_count number)) s) (right : PoolRight s) (well : RunsWell number s) (plain : AllPlain number s) where
  few_drivers : length s.drivers ≤ 8
  few_drivers = let k = sound.numbered.as_many_drivers in let l = few_peers number in omega (arith, k, l)

  pub all_sent_few : (q : ℕ) → all_sent one q s ≤ 2056
  all_sent_few q = let k = sum_few (sent one q) s.drivers (λ p d is. sent_few number p q d (sound.numbered.drivers p d is) (plain p d is)) in let l = few_drivers in omega (arith, k, l)

  pub all_stamps_few : all_stamps s ≤ 2056
  all_stamps_few = let k = sum_few stamps s.drivers (λ p d is. stamps_few number p d (plain p d is)) in let l = few_drivers in omega (arith, k, l)

  pub driver_there : (q : ℕ) (x : PeerPart) → IsPeer s q x → (d : DriverPart) × IsDriver s q d
  driver_there q x is =
      let less = slice_get_within s.peers q x is in
      (get_or s.drivers q (idle_driver 0), slice_get-get_or s.drivers q (idle_driver 0) (let k = sound.numbered.as_many_drivers in let l = sound.numbered.as_many_peers in omega (arith, k, l, less)))

  pub room_at : (q : ℕ) (x : PeerPart) → IsPeer s q x → HasRoom (peer_count number) q (2 * all_stamps s) x
  room_at q x is = record {
    stands = well.stands q x is;
    plain = well.plain q x is;
    cover = right.cover q x is;
    queued =
        let d = driver_there q x is in
        let k = well.balance one q x d.0 is d.1 in
        let l = queue_weighs x.queue (well.plain q x is).queue in
        let m = all_sent_few q in
        omega (arith, k, l, m);
    pieces = let k = well.pieces q x is in let m = all_sent_few q in omega (arith, k, m);
    clock = well.clocks q x is;
    low = let m = all_stamps_few in omega (arith, m);
  }

-- ---- what a step moves

-- the same part with the command that begins
same_driver : (e : DriverPart) (doing : Doing) → e.shut ≡ false → e.owed ≡ [] → e.told ≡ false → e.doing ≡ Some doing → e ≡ driver_at e.me e.calls (Some doing) e.attempted e.attempts
same_driver e doing shut owed told is =
    ap (λ (b : Bool). record e { shut = b }) shut
    ∙ ap (λ (l : List OwedDrop). record e { shut = false; owed = l }) owed
    ∙ ap (λ (b : Bool). record e { shut = false; owed = []; told = b }) told
    ∙ ap (λ (d : Option Doing). record e { shut = false; owed = []; told = false; doing = d }) is

module _ (bound at : ℕ) (d e : DriverPart) (x : PeerPart) (f : DriverPart) (y : PeerPart) (me : e.me ≡ d.me) (sends : (w : Weight) (q : ℕ) → sent w q e ≡ sent w q d) (gets : (w : Weight) → got w e ≡ got w d) (gives : stamps e ≡ stamps d) where
  moves_from : Moves bound at e x f y → Moves bound at d x f y
  moves_from m = record {
    came = m.came;
    left = m.left;
    effect = m.effect;
    brings = λ w q. let k = m.brings w q in let l = sends w q in omega (arith, k, l);
    takes = λ w. let k = m.takes w in let l = gets w in omega (arith, k, l);
    own = elim m.own [ inl same ↦ inl (same ∙ me) | inr none ↦ inr none ];
    given = let k = m.given in omega (arith, k, gives);
    clock = let k = m.clock in omega (arith, k, gives);
    goes = λ above same. m.goes above (omega (arith, same, gives));
  }

module _ (number : ℕ) {s : State} {p : ℕ} {command : Option Command} {t : State} (step : Step (opening_of (peer_count number)) s p command t)
    (sound : IsSound (opening_of (peer_count number)) s) (right : PoolRight s) (well : RunsWell number s) (plain : AllPlain number s) (plain_after : AllPlain number t) where
  abbrev o : Opening
  o = opening_of (peer_count number)

  abbrev bound : ℕ
  bound = 2 * all_stamps s

  abbrev K : Type 0
  K = Did o step.local.memory step.driver command step.peer step.action step.at step.new_driver step.new_peer

  goes : GoesWell bound step.driver
  goes = well.drivers p step.driver step.is_driver

  module _ (k : K) (commands : IsPlain number p k.doing.command) where
    me_is : k.e.me ≡ p
    me_is = k.opened.me ∙ sound.numbered.drivers p step.driver step.is_driver

    concrete : k.e ≡ driver_at k.e.me k.e.calls (Some k.doing) k.e.attempted k.e.attempts
    concrete = same_driver k.e k.doing (k.opened.shut ∙ goes.shut) (k.opened.owed ∙ goes.owed) (k.opened.told ∙ goes.told) k.opened.is_open

    abbrev E : DriverPart
    E = driver_at k.e.me k.e.calls (Some k.doing) k.e.attempted k.e.attempts

    in_phase : (k.doing.phase ≡ Starting) ⊎ (IsGoing bound k.e.me k.doing.command k.doing.phase × SendShape s k.doing.command k.doing.phase)
    in_phase = elim k.opened.from [
      | inl is_open ↦ inr (subst (λ n. IsGoing bound n k.doing.command k.doing.phase) (sym k.opened.me) (goes.going k.doing is_open), sound.sends.shape p step.driver k.doing step.is_driver is_open)
      | inr (none, begins, starts) ↦ inl starts
    ]

    -- the action and the place, by the concrete part
    action_is : step.action ≡ phase_action k.e.me false k.doing.command k.doing.phase
    action_is = k.is_action ∙ ap next_action concrete

    at_is : step.at ≡ peer_of k.e.me (phase_action k.e.me false k.doing.command k.doing.phase)
    at_is = k.is_at ∙ ap (peer_of k.e.me) action_is

    abbrev after_of : DriverPart → Action → DriverPart
    after_of e action = turned (with_facts e k.doing (happens o step.local.memory e k.doing action step.peer).0) k.doing.command (turn e.me k.doing.command k.doing.phase (happens o step.local.memory e k.doing action step.peer).0)

    new_is : step.new_driver ≡ after_of E (phase_action k.e.me false k.doing.command k.doing.phase)
    new_is = k.driver ∙ ap (λ a. after_of k.e a) action_is ∙ ap (λ e. after_of e (phase_action k.e.me false k.doing.command k.doing.phase)) concrete

    part_is : step.new_peer ≡ (happens o step.local.memory E k.doing (phase_action k.e.me false k.doing.command k.doing.phase) step.peer).1
    part_is = k.peer ∙ ap (λ a. (happens o step.local.memory k.e k.doing a step.peer).1) action_is ∙ ap (λ e. (happens o step.local.memory e k.doing (phase_action k.e.me false k.doing.command k.doing.phase) step.peer).1) concrete

    moved : Moves bound (peer_of k.e.me (phase_action k.e.me false k.doing.command k.doing.phase)) E step.peer (after_of E (phase_action k.e.me false k.doing.command k.doing.phase)) (happens o step.local.memory E k.doing (phase_action k.e.me false k.doing.command k.doing.phase) step.peer).1
    moved =
        local o step.local.memory number bound k.e.me k.e.calls (λ c has. goes.calls c (subst (λ l. Has l c) k.opened.calls has)) k.e.attempted k.e.attempts s step.peer
        (sound.stages.once step.at step.peer step.is_peer) (λ f has. right.sliced step.at step.peer f step.is_peer has (plain_is_data f.0 f.1 ((well.plain step.at step.peer step.is_peer).queue f has)))
        k.doing.command k.doing.phase (subst (λ n. IsPlain number n k.doing.command) (sym me_is) commands) in_phase
        (subst (λ q. HasRoom (peer_count number) q bound step.peer) at_is (room_at number s sound right well plain step.at step.peer step.is_peer))
        (subst (λ n. IsPlainDriver number n (after_of E (phase_action k.e.me false k.doing.command k.doing.phase))) (sym me_is) (subst (IsPlainDriver number p) new_is (plain_after p step.new_driver (own_driver step))))

    -- the command that begins has brought nothing
    abbrev open_sent : Weight → ℕ → ℕ → Option Doing → ℕ
    open_sent w q me doing = elim doing [ None ↦ 0 | Some one_open ↦ brought_so_far w q me one_open.command one_open.phase ]

    abbrev open_stamps : Option Doing → ℕ
    open_stamps doing = elim doing [ None ↦ 0 | Some one_open ↦ where_true (is_stamped one_open.phase) 1 ]

    opens_sent : (w : Weight) (q : ℕ) → open_sent w q k.e.me (Some k.doing) ≡ open_sent w q k.e.me step.driver.doing
    opens_sent w q = elim k.opened.from [
      | inl is_open ↦ ap (open_sent w q k.e.me) (sym is_open)
      | inr (none, begins, starts) ↦ ap (brought_so_far w q k.e.me k.doing.command) starts ∙ sym (ap (open_sent w q k.e.me) none)
    ]

    opens_stamps : open_stamps (Some k.doing) ≡ open_stamps step.driver.doing
    opens_stamps = elim k.opened.from [
      | inl is_open ↦ ap open_stamps (sym is_open)
      | inr (none, begins, starts) ↦ ap (λ phase. where_true (is_stamped phase) 1) starts ∙ sym (ap open_stamps none)
    ]

    sent_same : (w : Weight) (q : ℕ) → sent w q E ≡ sent w q step.driver
    sent_same w q =
        ap (λ (calls : List Call). sum_by (λ (c : Call). brought_by w q k.e.me c.command) calls + open_sent w q k.e.me (Some k.doing)) k.opened.calls
        ∙ ap (λ n. sum_by (λ (c : Call). brought_by w q k.e.me c.command) step.driver.calls + n) (opens_sent w q)
        ∙ ap (λ me. sum_by (λ (c : Call). brought_by w q me c.command) step.driver.calls + open_sent w q me step.driver.doing) k.opened.me

    stamps_same : stamps E ≡ stamps step.driver
    stamps_same = ap (λ (calls : List Call). sends calls + open_stamps (Some k.doing)) k.opened.calls ∙ ap (λ n. sends step.driver.calls + n) opens_stamps

    moves_open : Moves bound step.at step.driver step.peer step.new_driver step.new_peer
    moves_open =
        subst (λ q. Moves bound q step.driver step.peer step.new_driver step.new_peer) (sym at_is)
        (subst (λ f. Moves bound (peer_of k.e.me (phase_action k.e.me false k.doing.command k.doing.phase)) step.driver step.peer f step.new_peer) (sym new_is)
        (subst (λ y. Moves bound (peer_of k.e.me (phase_action k.e.me false k.doing.command k.doing.phase)) step.driver step.peer (after_of E (phase_action k.e.me false k.doing.command k.doing.phase)) y) (sym part_is)
        (moves_from bound (peer_of k.e.me (phase_action k.e.me false k.doing.command k.doing.phase)) step.driver E step.peer (after_of E (phase_action k.e.me false k.doing.command k.doing.phase)) (happens o step.local.memory E k.doing (phase_action k.e.me false k.doing.command k.doing.phase) step.peer).1
        k.opened.me sent_same (λ w. ap (λ (calls : List Call). sum_by (λ (c : Call). got_by w c.answer) calls) k.opened.calls) stamps_same moved)))

  pub moves : Moves bound step.at step.driver step.peer step.new_driver step.new_peer
  moves = moves_open (step_did step) (plain_command number step plain_after)

  -- ---- the state after it

  abbrev M : Type 0
  M = Moves bound step.at step.driver step.peer step.new_driver step.new_peer

  module _ (m : M) where
    sent_after : (w : Weight) (q : ℕ) → all_sent w q t ≡ all_sent w q s + where_true (step.at == q) (m.came w)
    sent_after w q =
        let k = ap (sum_by (sent w q)) step.drivers in
        let l = sum_set (sent w q) s.drivers p step.driver step.new_driver step.is_driver in
        let n = m.brings w q in
        omega (arith, k, l, n)

    stamps_after : all_stamps t + stamps step.driver ≡ all_stamps s + stamps step.new_driver
    stamps_after =
        let k = ap (sum_by stamps) step.drivers in
        let l = sum_set stamps s.drivers p step.driver step.new_driver step.is_driver in
        omega (arith, k, l)

    here : (q n : ℕ) → step.at ≡ q → where_true (step.at == q) n ≡ n
    here q n same = rw (eq-eqb step.at q same) refl

    elsewhere : (q n : ℕ) → step.at ≢ q → where_true (step.at == q) n ≡ 0
    elsewhere q n apart = rw (ne_eqb step.at q apart) refl

    stands_after : Stands (peer_count number) step.at step.new_peer
    stands_after =
        let old = well.stands step.at step.peer step.is_peer in
        record {
          live = ap (λ (nodes : List NodePart). is_live (get_or nodes 0 no_node).state) m.effect.nodes ∙ old.live;
          taken = λ serial. ap (λ (nodes : List NodePart). (get_or nodes serial no_node).taken) m.effect.nodes ∙ old.taken serial;
          held = λ r less apart. ap (held_node (handle_at step.at r)) m.effect.handles ∙ old.held r less apart;
          limits = m.effect.limits ∙ old.limits;
          pool = m.effect.pool ∙ old.pool;
          dead = m.effect.dead ∙ old.dead;
        }

    stamps_rise : all_stamps s ≤ all_stamps t
    stamps_rise = let k = stamps_after in let l = m.given in omega (arith, k, l)

    balance_by : (w : Weight) (q : ℕ) (x : PeerPart) (d : DriverPart) → ((q ≡ step.at) × (x ≡ step.new_peer)) ⊎ ((q ≢ step.at) × IsPeer s q x) → ((q ≡ p) × (d ≡ step.new_driver)) ⊎ ((q ≢ p) × IsDriver s q d) → queued w x + got w d ≡ all_sent w q t
    balance_by w q x d (inl (at, part)) (inl (by, driver)) =
        let old = well.balance w q step.peer step.driver (subst (λ n. IsPeer s n step.peer) (sym at) step.is_peer) (subst (λ n. IsDriver s n step.driver) (sym by) step.is_driver) in
        let a = ap (queued w) part in
        let b = ap (got w) driver in
        let e = m.effect.weight w in
        let g = m.takes w in
        let h = sent_after w q in
        let i = here q (m.came w) (sym at) in
        omega (arith, old, a, b, e, g, h, i)
    balance_by w q x d (inl (at, part)) (inr (apart, is)) =
        let old = well.balance w q step.peer d (subst (λ n. IsPeer s n step.peer) (sym at) step.is_peer) is in
        let a = ap (queued w) part in
        let e = m.effect.weight w in
        let h = sent_after w q in
        let i = here q (m.came w) (sym at) in
        let none : m.left w ≡ 0 = elim m.own [ inl own ↦ absurd (apart (at ∙ own ∙ sound.numbered.drivers p step.driver step.is_driver)) | inr none ↦ none w ] in
        omega (arith, old, a, e, h, i, none)
    balance_by w q x d (inr (apart, is)) (inl (by, driver)) =
        let old = well.balance w q x step.driver is (subst (λ n. IsDriver s n step.driver) (sym by) step.is_driver) in
        let b = ap (got w) driver in
        let g = m.takes w in
        let h = sent_after w q in
        let i = elsewhere q (m.came w) (λ e. apart (sym e)) in
        let none : m.left w ≡ 0 = elim m.own [ inl own ↦ absurd (apart (by ∙ sym (own ∙ sound.numbered.drivers p step.driver step.is_driver))) | inr none ↦ none w ] in
        omega (arith, old, b, g, h, i, none)
    balance_by w q x d (inr (apart, is)) (inr (other, is_driver)) =
        let old = well.balance w q x d is is_driver in
        let h = sent_after w q in
        let i = elsewhere q (m.came w) (λ e. apart (sym e)) in
        omega (arith, old, h, i)

    goes_above : (low high : ℕ) (d : DriverPart) → low ≤ high → GoesWell low d → GoesWell high d
    goes_above low high d less g = record { shut = g.shut; owed = g.owed; told = g.told; calls = g.calls; going = λ doing is. phase_above d.me doing.command doing.phase (g.going doing is) }
      where
        phase_above : (me : ℕ) (command : Command) (phase : Phase) → IsGoing low me command phase → IsGoing high me command phase
        phase_above me command (Staging begun places collected) g = (g.0, g.1, g.2, omega (arith, less, g.3), g.4)
        phase_above me command (Stamping sending) g = (g.0, g.1, omega (arith, less, g.2))
        phase_above me command (Syncing sending stamp place) g = (g.0, g.1, omega (arith, less, g.2))
        phase_above me command (Committing sending stamp place) g = (g.0, g.1, omega (arith, less, g.2))
        phase_above me command phase g = absurd g

    well_after : RunsWell number t
    well_after = record {
      stands = λ q x is. elim (peer_cases step q x is) [
        | inl (at, part) ↦ subst (λ n. Stands (peer_count number) n x) (sym at) (subst (Stands (peer_count number) step.at) (sym part) stands_after)
        | inr (apart, old) ↦ well.stands q x old
      ];
      plain = λ q x is. elim (peer_cases step q x is) [ inl (at, part) ↦ subst HasPlain (sym part) m.effect.plain | inr (apart, old) ↦ well.plain q x old ];
      pieces = λ q x is. elim (peer_cases step q x is) [
        | inl (at, part) ↦
            let k = well.pieces step.at step.peer step.is_peer in
            let l = m.effect.pieces in
            let a = ap (λ (z : PeerPart). length z.slices) part in
            let h = sent_after one q in
            let i = here q (m.came one) (sym at) in
            let j = ap (λ n. all_sent one n s) at in
            omega (arith, k, l, a, h, i, j)
        | inr (apart, old) ↦ let k = well.pieces q x old in let h = sent_after one q in omega (arith, k, h)
      ];
      clocks = λ q x is. elim (peer_cases step q x is) [
        | inl (at, part) ↦ let k = m.clock in let l = stamps_after in let a = ap (λ (z : PeerPart). z.clock) part in omega (arith, k, l, a)
        | inr (apart, old) ↦ let k = well.clocks q x old in let l = stamps_rise in omega (arith, k, l)
      ];
      drivers = λ r d is. elim (driver_cases step r d is) [
        | inl (by, driver) ↦ subst (GoesWell (2 * all_stamps t)) (sym driver) (m.goes (2 * all_stamps t) (let l = stamps_after in omega (arith, l)))
        | inr (apart, old) ↦ goes_above (2 * all_stamps s) (2 * all_stamps t) d (let l = stamps_rise in omega (arith, l)) (well.drivers r d old)
      ];
      balance = λ w q x d is is_driver. balance_by w q x d (peer_cases step q x is) (driver_cases step q d is_driver);
    }

  pub well_kept : RunsWell number t
  well_kept = well_after moves
