-- The machine within a command of one driver that owes nothing: its phase, and what each peer has become since the rest before.
use Rattle.std.proofs.Common.{◌≡◌, ◌≢◌, refl, sym, ap, ◌∙◌, inl, inr, ℕ, zero, suc, ◌==◌, Bool, false, cond, [], ◌++◌, Option, Some, None, option_map}
use Rattle.std.specs.Prelude.{slice_get}
use Rattle.std.proofs.lemmas.Option.{same_Some}
use Rattle.std.proofs.lemmas.Bool.{cases_eq, eq-eqb, ne_eqb}
use Rattle.b1_model.specs.declared.naming.Opening.{Opening}
use Rattle.b1_model.specs.declared.commands.Command.{Command}
use Rattle.b1_model.specs.declared.answers.Answer.{Answer}
use Rattle.b1_model.specs.declared.events.Action.{Action}
use Rattle.b1_model.specs.declared.events.Outcome.{Outcome}
use Rattle.b1_model.specs.declared.events.Doing.{Doing}
use Rattle.b1_model.specs.declared.events.Phase.{Phase}
use Rattle.b1_model.specs.MachineParts.{PeerPart, DriverPart, State}
use Rattle.b1_model.specs.MachineDriver.{Goes, Ends, turn, phase_action, next_action, peer_of}
use Rattle.b1_model.specs.MachineTook.{owed_after, shut_after, with_facts, is_done, answer_of, call_of, goes_by, turned}
use Rattle.b1_model.specs.MachineEvents.{happens}
use Rattle.b1_model.specs.MachineStep.{Step, Reached}
use Rattle.b1_step.proofs.Steps.{reached_more}
use Rattle.b1_step.proofs.Locality.{own_driver, other_driver, at_peer, other_peer}
use Rattle.b1_inv.specs.Words.{IsPeer, IsDriver}
use Rattle.b1_inv_tools.proofs.Facts.{next_of}
use Rattle.b1_serial_whole.proofs.Whole.{GoesOn}
use Rattle.b1_serial_own.proofs.Moved.{Moved, moved_at, moved_driver, moved_peer, further_moved, no_further}

-- what each peer has become
abbrev pub Become : Type 0
Become = ℕ → PeerPart → PeerPart

-- one of them changes
abbrev pub updated : ℕ → (PeerPart → PeerPart) → Become → Become
updated q f g r x = cond (r == q) (f (g r x)) (g r x)

module _ (o : Opening) (s : State) (p : ℕ) (d : DriverPart) (command : Command) where
  -- within the command
  pub record Amid (u : State) (phase : Phase) (g : Become) : Type 0 where
    pub reached : Reached o u
    pub driver : DriverPart
    pub is_driver : IsDriver u p driver
    pub me : driver.me ≡ p
    pub is_open : driver.doing ≡ Some (record { command = command; phase = phase })
    pub paid : driver.owed ≡ []
    pub calls : driver.calls ≡ d.calls
    pub shut : driver.shut ≡ d.shut
    pub others : (r : ℕ) → r ≢ p → slice_get u.drivers r ≡ slice_get s.drivers r
    pub peers : (q : ℕ) → slice_get u.peers q ≡ option_map (g q) (slice_get s.peers q)

  -- at its end
  pub record Ended (u : State) (answer : Answer) (g : Become) : Type 0 where
    pub reached : Reached o u
    pub driver : DriverPart
    pub is_driver : IsDriver u p driver
    pub idle : driver.doing ≡ None
    pub calls : driver.calls ≡ d.calls ++ call_of command answer
    pub shut : driver.shut ≡ d.shut
    pub others : (r : ℕ) → r ≢ p → slice_get u.drivers r ≡ slice_get s.drivers r
    pub peers : (q : ℕ) → slice_get u.peers q ≡ option_map (g q) (slice_get s.peers q)

  same_become : (g h : Become) → ((q : ℕ) (x : PeerPart) → IsPeer s q x → g q x ≡ h q x) → (q : ℕ) → option_map (g q) (slice_get s.peers q) ≡ option_map (h q) (slice_get s.peers q)
  same_become g h same q = by (slice_get s.peers q) refl
    where
      by : (r : Option PeerPart) → slice_get s.peers q ≡ r → option_map (g q) r ≡ option_map (h q) r
      by None is = refl
      by (Some x) is = ap Some (same q x is)

  -- the same, said otherwise
  pub recast : {u : State} {phase : Phase} (g h : Become) → ((q : ℕ) (x : PeerPart) → IsPeer s q x → g q x ≡ h q x) → Amid u phase g → Amid u phase h
  recast g h same at = record {
    reached = at.reached;
    driver = at.driver;
    is_driver = at.is_driver;
    me = at.me;
    is_open = at.is_open;
    paid = at.paid;
    calls = at.calls;
    shut = at.shut;
    others = at.others;
    peers = λ q. at.peers q ∙ same_become g h same q;
  }

  pub recast_end : {u : State} {answer : Answer} (g h : Become) → ((q : ℕ) (x : PeerPart) → IsPeer s q x → g q x ≡ h q x) → Ended u answer g → Ended u answer h
  recast_end g h same at = record {
    reached = at.reached;
    driver = at.driver;
    is_driver = at.is_driver;
    idle = at.idle;
    calls = at.calls;
    shut = at.shut;
    others = at.others;
    peers = λ q. at.peers q ∙ same_become g h same q;
  }

  -- a step of it, which is at peer q
  module _ {u v : State} {c : Option Command} (reached : Reached o u) (step : Step o u p c v) (phase : Phase) (m : Moved o step.driver step.peer command phase step.at step.new_driver step.new_peer)
      (me : step.driver.me ≡ p) (paid : step.driver.owed ≡ []) (calls : step.driver.calls ≡ d.calls) (shut : step.driver.shut ≡ d.shut)
      (others : (r : ℕ) → r ≢ p → slice_get u.drivers r ≡ slice_get s.drivers r) (g : Become) (peers : (q : ℕ) → slice_get u.peers q ≡ option_map (g q) (slice_get s.peers q))
      (action : Action) (q : ℕ) (x : PeerPart) (is_x : IsPeer s q x) (outcome : Outcome) (f : PeerPart → PeerPart)
      (next : phase_action p d.shut command phase ≡ action) (is_at : peer_of p action ≡ q)
      (does : (memory : Bool) (e : DriverPart) → e.me ≡ p → happens o memory e (record { command = command; phase = phase }) action (g q x) ≡ (outcome, f (g q x)))
      (owes : owed_after p phase [] outcome ≡ []) (shuts : (b : Bool) → shut_after command b outcome ≡ b) where
    abbrev doing : Doing
    doing = record { command = command; phase = phase }

    m_me : m.e.me ≡ p
    m_me = m.me ∙ me

    next_is : next_action m.e ≡ action
    next_is =
        next_of m.e doing m.is_open (m.owed ∙ paid)
        ∙ ap (λ n. phase_action n m.e.shut command phase) m_me
        ∙ ap (λ b. phase_action p b command phase) (m.shut ∙ shut)
        ∙ next

    at_is : step.at ≡ q
    at_is = moved_at m action next_is ∙ ap (λ n. peer_of n action) m_me ∙ is_at

    peer_is : step.peer ≡ g q x
    peer_is = same_Some step.peer (g q x) (sym step.is_peer ∙ ap (slice_get u.peers) at_is ∙ peers q ∙ ap (option_map (g q)) is_x)

    did : happens o m.memory m.e doing action step.peer ≡ (outcome, f (g q x))
    did = ap (happens o m.memory m.e doing action) peer_is ∙ does m.memory m.e m_me

    new_peer_is : step.new_peer ≡ f (g q x)
    new_peer_is = moved_peer m action next_is ∙ ap (λ r. r.1) did

    -- the driver's part, by what it was told and by the turn
    abbrev facts : DriverPart
    facts = with_facts m.e doing outcome

    new_driver_is : step.new_driver ≡ turned facts command (turn p command phase outcome)
    new_driver_is =
        moved_driver m action next_is
        ∙ ap (λ r. turned (with_facts m.e doing r.0) command (turn m.e.me command phase r.0)) did
        ∙ ap (λ n. turned facts command (turn n command phase outcome)) m_me

    facts_owed : facts.owed ≡ []
    facts_owed = ap (λ l. owed_after m.e.me phase l outcome) (m.owed ∙ paid) ∙ ap (λ n. owed_after n phase [] outcome) m_me ∙ owes

    facts_shut : facts.shut ≡ d.shut
    facts_shut = shuts m.e.shut ∙ m.shut ∙ shut

    peers_then : (r : ℕ) → slice_get v.peers r ≡ option_map (updated q f g r) (slice_get s.peers r)
    peers_then r = elim (cases_eq r q) [ inl same ↦ here r same | inr apart ↦ there r apart ]
      where
        here : (r : ℕ) → r ≡ q → slice_get v.peers r ≡ option_map (updated q f g r) (slice_get s.peers r)
        here r same =
            ap (slice_get v.peers) (same ∙ sym at_is) ∙ at_peer step ∙ ap Some new_peer_is
            ∙ ap (λ b. Some (cond b (f (g q x)) (g q x))) (sym (eq-eqb q q refl))
            ∙ ap (option_map (updated q f g q)) (sym is_x)
            ∙ ap (λ n. option_map (updated q f g n) (slice_get s.peers n)) (sym same)

        there : (r : ℕ) → r ≢ q → slice_get v.peers r ≡ option_map (updated q f g r) (slice_get s.peers r)
        there r apart =
            other_peer step r (λ e. apart (e ∙ at_is)) ∙ peers r
            ∙ same_at (slice_get s.peers r)
          where
            same_at : (found : Option PeerPart) → option_map (g r) found ≡ option_map (updated q f g r) found
            same_at None = refl
            same_at (Some z) = ap (λ b. Some (cond b (f (g r z)) (g r z))) (sym (ne_eqb r q apart))

    others_then : (r : ℕ) → r ≢ p → slice_get v.drivers r ≡ slice_get s.drivers r
    others_then r apart = other_driver step r apart ∙ others r apart

    -- it goes on in another phase
    pub advanced : (to : Phase) → turn p command phase outcome ≡ Goes to → ((told : Bool) → is_done [] told to ≡ false) → Amid v to (updated q f g)
    advanced to goes left = record {
      reached = reached_more o u v p c reached step;
      driver = step.new_driver;
      is_driver = own_driver step;
      me = ap (λ z. z.me) driver_is ∙ m_me;
      is_open = ap (λ z. z.doing) driver_is;
      paid = ap (λ z. z.owed) driver_is ∙ facts_owed;
      calls = ap (λ z. z.calls) driver_is ∙ m.calls ∙ calls;
      shut = ap (λ z. z.shut) driver_is ∙ facts_shut;
      others = others_then;
      peers = peers_then;
    }
      where
        driver_is : step.new_driver ≡ record facts { doing = Some (record { command = command; phase = to }) }
        driver_is =
            new_driver_is ∙ ap (turned facts command) goes
            ∙ ap (λ b. goes_by b (answer_of command to) facts command to) (ap (λ l. is_done l facts.told to) facts_owed ∙ left facts.told)

    -- or it ends
    pub finished : (answer : Answer) → turn p command phase outcome ≡ Ends answer → Ended v answer (updated q f g)
    finished answer ends = record {
      reached = reached_more o u v p c reached step;
      driver = step.new_driver;
      is_driver = own_driver step;
      idle = ap (λ z. z.doing) driver_is;
      calls = ap (λ z. z.calls) driver_is ∙ ap (λ l. l ++ call_of command answer) (m.calls ∙ calls);
      shut = ap (λ z. z.shut) driver_is ∙ facts_shut;
      others = others_then;
      peers = peers_then;
    }
      where
        driver_is : step.new_driver ≡ record facts { doing = None; calls = facts.calls ++ call_of command answer }
        driver_is = new_driver_is ∙ ap (turned facts command) ends

  -- ---- from a phase on

  -- another step follows
  pub record Further (u t : State) : Type 0 where
    pub left : ℕ
    pub middle : State
    pub step : Step o u p None middle
    pub goes_on : GoesOn o p left middle t

  -- where a command is open and none is in the end
  pub steps_on : {u t : State} {phase : Phase} {g : Become} → Amid u phase g → ((e : DriverPart) → IsDriver t p e → e.doing ≡ None) → (n : ℕ) → GoesOn o p n u t → Further u t
  steps_on at ends zero same = absurd (cc (sym at.is_open ∙ ends at.driver (ap (λ w. slice_get w.drivers p) (sym same) ∙ at.is_driver)))
  steps_on at ends (suc n) run = record { left = n; middle = run.0; step = run.1; goes_on = run.2 }

  module _ {u : State} {phase : Phase} {g : Become} (at : Amid u phase g) where
    -- what it does
    driver_of : {v : State} (step : Step o u p None v) → step.driver ≡ at.driver
    driver_of step = same_Some step.driver at.driver (sym step.is_driver ∙ at.is_driver)

    pub moved_on : {v : State} (step : Step o u p None v) → Moved o step.driver step.peer command phase step.at step.new_driver step.new_peer
    moved_on step = further_moved step (record { command = command; phase = phase }) (ap (λ z. z.doing) (driver_of step) ∙ at.is_open)

    module _ {v : State} (step : Step o u p None v) (action : Action) (q : ℕ) (x : PeerPart) (is_x : IsPeer s q x) (outcome : Outcome) (f : PeerPart → PeerPart)
        (next : phase_action p d.shut command phase ≡ action) (is_at : peer_of p action ≡ q)
        (does : (memory : Bool) (e : DriverPart) → e.me ≡ p → happens o memory e (record { command = command; phase = phase }) action (g q x) ≡ (outcome, f (g q x)))
        (owes : owed_after p phase [] outcome ≡ []) (shuts : (b : Bool) → shut_after command b outcome ≡ b) where
      pub advance : (to : Phase) → turn p command phase outcome ≡ Goes to → ((told : Bool) → is_done [] told to ≡ false) → Amid v to (updated q f g)
      advance to goes left =
          advanced at.reached step phase (moved_on step) (ap (λ z. z.me) (driver_of step) ∙ at.me) (ap (λ z. z.owed) (driver_of step) ∙ at.paid) (ap (λ z. z.calls) (driver_of step) ∙ at.calls) (ap (λ z. z.shut) (driver_of step) ∙ at.shut)
          at.others g at.peers action q x is_x outcome f next is_at does owes shuts to goes left

      pub finish : (answer : Answer) → turn p command phase outcome ≡ Ends answer → Ended v answer (updated q f g)
      finish answer over =
          finished at.reached step phase (moved_on step) (ap (λ z. z.me) (driver_of step) ∙ at.me) (ap (λ z. z.owed) (driver_of step) ∙ at.paid) (ap (λ z. z.calls) (driver_of step) ∙ at.calls) (ap (λ z. z.shut) (driver_of step) ∙ at.shut)
          at.others g at.peers action q x is_x outcome f next is_at does owes shuts answer over

  -- nothing follows the end
  pub end_is : {u t : State} {answer : Answer} {g : Become} → Ended u answer g → (n : ℕ) → GoesOn o p n u t → u ≡ t
  end_is at zero same = same
  end_is at (suc n) run = absurd (no_further run.1 refl (ap (λ z. z.doing) (same_Some run.1.driver at.driver (sym run.1.is_driver ∙ at.is_driver)) ∙ at.idle))
