-- The flush of a peer, and the drops behind it, to the end of the command.
use Rattle.std.proofs.Common.{◌≡◌, ◌≢◌, ◌⊎◌, refl, sym, ap, ◌∙◌, subst, inl, inr, ℕ, zero, suc, Bool, true, false, not, List, [], ◌∷◌, ◌++◌, drop, Option, Some, None, append-nil, append_assoc, length, ◌<◌}
use Rattle.std.specs.Prelude.{slice_get}
use Rattle.std.proofs.lemmas.Option.{same_Some}
use Rattle.std.proofs.lemmas.Bool.{cases_eq}
use Rattle.b1_model.specs.declared.naming.NodeRef.{NodeRef}
use Rattle.b1_model.specs.declared.naming.Opening.{Opening}
use Rattle.b1_model.specs.Opening.{IsOpening}
use Rattle.b1_model.specs.declared.commands.Command.{Command}
use Rattle.b1_model.specs.declared.answers.Answer.{Answer}
use Rattle.b1_model.specs.declared.answers.Answer.TheVariants as ans
use Rattle.b1_model.specs.declared.events.Action.TheVariants as act
use Rattle.b1_model.specs.declared.events.Doing.{Doing}
use Rattle.b1_model.specs.declared.events.OwedDrop.{OwedDrop}
use Rattle.b1_model.specs.declared.events.Outcome.TheVariants as out
use Rattle.b1_model.specs.declared.events.Phase.TheVariants.{Reaping}
use Rattle.b1_model.specs.MachineParts.{PeerPart, DriverPart, State}
use Rattle.b1_model.specs.MachineReceive.{has_dead, reaped, reaped_part, dropped}
use Rattle.b1_model.specs.MachineDriver.{Goes, next_action}
use Rattle.b1_model.specs.MachineTook.{drops_of, is_done, call_of, goes_by, with_facts, turned}
use Rattle.b1_model.specs.MachineStep.{Step, Reached}
use Rattle.b1_step.specs.Rights.{Has}
use Rattle.b1_step.proofs.Steps.{reached_more}
use Rattle.b1_step.proofs.Locality.{own_driver, other_driver, at_peer, other_peer}
use Rattle.b1_inv.specs.Words.{IsPeer, IsDriver, fixed_stamp, stamp_of_phase}
use Rattle.b1_inv.specs.Sound.{IsSound}
use Rattle.b1_inv_record.specs.Right.{IsRight}
use Rattle.b1_inv_tools.proofs.Facts.{next_of, next_owed}
use Rattle.b1_law.proofs.Reached.{reached_sound}
use Rattle.b1_legal.proofs.Reached.{reached_right}
use Rattle.b1_serial_whole.proofs.Whole.{GoesOn}
use Rattle.b1_serial_own.proofs.Moved.{Moved, moved_at, moved_driver, moved_peer, further_moved, no_further}
use Rattle.b1_serial_own.proofs.Dropped.{drop_at, drop_peer, owner_apart, none_queued}
use Rattle.b1_serial_own.proofs.Drops.{Refs, DropsAt, drop_beside, drop_here}

abbrev pub Items : Type 0
Items = List Refs

-- all references of items
abbrev pub all_refs : Items → Refs
all_refs [] = []
all_refs (item ∷ rest) = item ++ all_refs rest

-- some items are left
abbrev pub some_items : Items → Bool
some_items items = elim items [ [] ↦ false | item ∷ rest ↦ true ]

-- a drop is owed, or an item is left
abbrev pub some_left : Refs → Items → Bool
some_left [] items = some_items items
some_left (r ∷ rest) items = true

module _ (o : Opening) (s : State) (p : ℕ) (d : DriverPart) (command : Command) (opens : IsOpening o) (stamp : Option ℕ) (v : State) (flat : PeerPart) (shut : Bool) where
  abbrev pub answer : Answer
  answer = ans.Reset stamp

  -- the machine behind the flush: drops that are owed, items that are left, and references that were dropped
  pub record Giving (u : State) (owed : Refs) (items : Items) (done : Refs) : Type 0 where
    pub reached : Reached o u
    pub driver : DriverPart
    pub is_driver : IsDriver u p driver
    pub me : driver.me ≡ p
    pub shut_is : driver.shut ≡ shut
    pub others : (r : ℕ) → r ≢ p → slice_get u.drivers r ≡ slice_get s.drivers r
    pub own : IsPeer u p (record flat { dead = items })
    pub going : some_left owed items ≡ true → (driver.doing ≡ Some (record { command = command; phase = Reaping answer })) × (driver.owed ≡ drops_of p flat.clock owed) × (driver.told ≡ some_items items) × (driver.calls ≡ d.calls)
    pub over : some_left owed items ≡ false → (driver.doing ≡ None) × (driver.calls ≡ d.calls ++ call_of command answer)
    pub peers : (q : ℕ) (z : PeerPart) → q ≢ p → IsPeer v q z → (w : PeerPart) × IsPeer u q w × DropsAt flat.clock q done z w

  -- the driver's part behind an event, where so much is left
  module _ (facts : DriverPart) (owed : Refs) (items : Items) (owes : facts.owed ≡ drops_of p flat.clock owed) (told : facts.told ≡ some_items items) (calls : facts.calls ≡ d.calls) where
    abbrev then_part : List OwedDrop → Bool → DriverPart
    then_part l b = goes_by (is_done l b (Reaping answer)) (Some answer) facts command (Reaping answer)

    done_is : is_done (drops_of p flat.clock owed) (some_items items) (Reaping answer) ≡ not (some_left owed items)
    done_is = by owed items
      where
        by : (owed : Refs) (items : Items) → is_done (drops_of p flat.clock owed) (some_items items) (Reaping answer) ≡ not (some_left owed items)
        by [] [] = refl
        by [] (item ∷ rest) = refl
        by (r ∷ more) items = refl

    part_is : turned facts command (Goes (Reaping answer)) ≡ goes_by (not (some_left owed items)) (Some answer) facts command (Reaping answer)
    part_is = ap (λ l. then_part l facts.told) owes ∙ ap (then_part (drops_of p flat.clock owed)) told ∙ ap (λ b. goes_by b (Some answer) facts command (Reaping answer)) done_is

    pub goes_then : (f : DriverPart) → f ≡ turned facts command (Goes (Reaping answer)) → some_left owed items ≡ true → (f.doing ≡ Some (record { command = command; phase = Reaping answer })) × (f.owed ≡ drops_of p flat.clock owed) × (f.told ≡ some_items items) × (f.calls ≡ d.calls)
    goes_then f is some =
        let whole : f ≡ record facts { doing = Some (record { command = command; phase = Reaping answer }) } = is ∙ part_is ∙ ap (λ b. goes_by (not b) (Some answer) facts command (Reaping answer)) some in
        (ap (λ z. z.doing) whole, ap (λ z. z.owed) whole ∙ owes, ap (λ z. z.told) whole ∙ told, ap (λ z. z.calls) whole ∙ calls)

    pub ends_then : (f : DriverPart) → f ≡ turned facts command (Goes (Reaping answer)) → some_left owed items ≡ false → (f.doing ≡ None) × (f.calls ≡ d.calls ++ call_of command answer)
    ends_then f is none =
        let whole : f ≡ record facts { doing = None; calls = facts.calls ++ call_of command answer } = is ∙ part_is ∙ ap (λ b. goes_by (not b) (Some answer) facts command (Reaping answer)) none in
        (ap (λ z. z.doing) whole, ap (λ z. z.calls) whole ∙ ap (λ l. l ++ call_of command answer) calls)

    pub same_then : (f : DriverPart) → f ≡ turned facts command (Goes (Reaping answer)) → (f.me ≡ facts.me) × (f.shut ≡ facts.shut)
    same_then f is = let whole = is ∙ part_is in by (some_left owed items) whole
      where
        by : (b : Bool) → f ≡ goes_by (not b) (Some answer) facts command (Reaping answer) → (f.me ≡ facts.me) × (f.shut ≡ facts.shut)
        by true whole = (ap (λ z. z.me) whole, ap (λ z. z.shut) whole)
        by false whole = (ap (λ z. z.me) whole, ap (λ z. z.shut) whole)

  -- ---- one item is reaped

  module _ {u w : State} {item : Refs} {rest : Items} {done : Refs} (at : Giving u [] (item ∷ rest) done) (step : Step o u p None w) where
    driver_is : step.driver ≡ at.driver
    driver_is = same_Some step.driver at.driver (sym step.is_driver ∙ at.is_driver)

    abbrev doing : Doing
    doing = record { command = command; phase = Reaping answer }

    m : Moved o step.driver step.peer command (Reaping answer) step.at step.new_driver step.new_peer
    m = further_moved step doing (ap (λ z. z.doing) driver_is ∙ (at.going refl).0)

    m_me : m.e.me ≡ p
    m_me = m.me ∙ ap (λ z. z.me) driver_is ∙ at.me

    next : next_action m.e ≡ act.Reap
    next = next_of m.e doing m.is_open (m.owed ∙ ap (λ z. z.owed) driver_is ∙ (at.going refl).1)

    at_is : step.at ≡ p
    at_is = moved_at m act.Reap next ∙ m_me

    peer_is : step.peer ≡ record flat { dead = item ∷ rest }
    peer_is = same_Some step.peer (record flat { dead = item ∷ rest }) (sym step.is_peer ∙ ap (slice_get u.peers) at_is ∙ at.own)

    new_peer : step.new_peer ≡ record flat { dead = rest }
    new_peer = moved_peer m act.Reap next ∙ ap reaped_part peer_is

    abbrev facts_of : PeerPart → DriverPart
    facts_of x = with_facts m.e doing (out.Reap (reaped x) (has_dead (reaped_part x)))

    new_driver : step.new_driver ≡ turned (with_facts m.e doing (out.Reap (reaped (record flat { dead = item ∷ rest })) (some_items rest))) command (Goes (Reaping answer))
    new_driver = moved_driver m act.Reap next ∙ ap (λ x. turned (facts_of x) command (Goes (Reaping answer))) peer_is

    pub one_reaped : Giving w item rest done
    one_reaped =
        let f = with_facts m.e doing (out.Reap (reaped (record flat { dead = item ∷ rest })) (some_items rest)) in
        let owes : f.owed ≡ drops_of p flat.clock item = ap (λ n. drops_of n flat.clock item) m_me in
        let calls : f.calls ≡ d.calls = m.calls ∙ ap (λ z. z.calls) driver_is ∙ (at.going refl).3 in
        let same = same_then f item rest owes refl calls step.new_driver new_driver in
        record {
          reached = reached_more o u w p None at.reached step;
          driver = step.new_driver;
          is_driver = own_driver step;
          me = same.0 ∙ m_me;
          shut_is = same.1 ∙ m.shut ∙ ap (λ z. z.shut) driver_is ∙ at.shut_is;
          others = λ r apart. other_driver step r apart ∙ at.others r apart;
          own = ap (slice_get w.peers) (sym at_is) ∙ at_peer step ∙ ap Some new_peer;
          going = goes_then f item rest owes refl calls step.new_driver new_driver;
          over = ends_then f item rest owes refl calls step.new_driver new_driver;
          peers = λ q z apart is_z. let k = at.peers q z apart is_z in (k.0, other_peer step q (λ e. apart (e ∙ at_is)) ∙ k.1, k.2);
        }

  -- ---- one reference is dropped

  module _ {u w : State} {r : NodeRef × ℕ} {more : Refs} {items : Items} {done : Refs} (at : Giving u (r ∷ more) items done) (step : Step o u p None w) where
    drop_driver : step.driver ≡ at.driver
    drop_driver = same_Some step.driver at.driver (sym step.is_driver ∙ at.is_driver)

    abbrev dropping : Doing
    dropping = record { command = command; phase = Reaping answer }

    open_then : step.driver.doing ≡ Some (record { command = command; phase = Reaping answer })
    open_then = ap (λ z. z.doing) drop_driver ∙ (at.going refl).0

    abbrev one : OwedDrop
    one = record { node = r.0; holder = p; amount = r.1; clock = flat.clock }

    owed_then : step.driver.owed ≡ one ∷ drops_of p flat.clock more
    owed_then = ap (λ z. z.owed) drop_driver ∙ (at.going refl).1

    unfixed : fixed_stamp step.driver ≡ None
    unfixed = ap (λ r. elim r [ None ↦ None | Some doing ↦ stamp_of_phase doing.phase ]) open_then

    sound : IsSound o u
    sound = reached_sound o u opens at.reached

    right : IsRight o u
    right = reached_right o u opens at.reached

    b : Moved o step.driver step.peer command (Reaping answer) step.at step.new_driver step.new_peer
    b = further_moved step (record { command = command; phase = Reaping answer }) open_then

    b_me : b.e.me ≡ p
    b_me = b.me ∙ ap (λ z. z.me) drop_driver ∙ at.me

    drop_next : next_action b.e ≡ act.DropRefs r.0.owner r.0.serial p r.1 flat.clock
    drop_next = next_owed b.e (record { command = command; phase = Reaping answer }) one (drops_of p flat.clock more) b.is_open (b.owed ∙ owed_then)

    dropped_driver : step.new_driver ≡ turned (with_facts b.e (record { command = command; phase = Reaping answer }) out.DropRefs) command (Goes (Reaping answer))
    dropped_driver = moved_driver b (act.DropRefs r.0.owner r.0.serial p r.1 flat.clock) drop_next

    owner_is : step.at ≡ r.0.owner
    owner_is = drop_at sound right step dropping open_then one (drops_of p flat.clock more) owed_then unfixed (record flat { dead = items }) at.own

    apart_p : step.at ≢ p
    apart_p = owner_apart sound right step dropping open_then one (drops_of p flat.clock more) owed_then unfixed (record flat { dead = items }) at.own

    peer_then : step.new_peer ≡ dropped step.peer r.0.serial p r.1 flat.clock
    peer_then = drop_peer sound right step dropping open_then one (drops_of p flat.clock more) owed_then unfixed (record flat { dead = items }) at.own

    made_here : {q : ℕ} (y : PeerPart) → r.0.owner ≡ q → IsPeer u q y → r.0.serial < length y.nodes
    made_here y own is_y =
        let made = (sound.references.owed p step.driver one step.is_driver (subst (λ l. Has l one) (sym owed_then) (inl refl))).made in
        subst (λ x. r.0.serial < length x.nodes) (same_Some made.0 y (sym made.1 ∙ ap (slice_get u.peers) own ∙ is_y)) made.2

    peers_then : (q : ℕ) (z : PeerPart) → q ≢ p → IsPeer v q z → (y : PeerPart) × IsPeer w q y × DropsAt flat.clock q (done ++ r ∷ []) z y
    peers_then q z apart is_z = by (at.peers q z apart is_z) (cases_eq q step.at)
      where
        by : (y : PeerPart) × IsPeer u q y × DropsAt flat.clock q done z y → (q ≡ step.at) ⊎ (q ≢ step.at) → (y : PeerPart) × IsPeer w q y × DropsAt flat.clock q (done ++ r ∷ []) z y
        by k (inl same) =
            let peer : step.peer ≡ k.0 = same_Some step.peer k.0 (sym step.is_peer ∙ ap (slice_get u.peers) (sym same) ∙ k.1) in (
              dropped k.0 r.0.serial p r.1 flat.clock,
              ap (slice_get w.peers) same ∙ at_peer step ∙ ap Some (peer_then ∙ ap (λ x. dropped x r.0.serial p r.1 flat.clock) peer),
              drop_here flat.clock q done z k.0 r k.2 p (sym owner_is ∙ sym same) (λ f queued.
                  none_queued sound right step dropping open_then one (drops_of p flat.clock more) owed_then unfixed (record flat { dead = items }) at.own f (subst (λ x. Has x.queue f) (sym peer) queued)) (made_here k.0 (sym owner_is ∙ sym same) k.1),
            )
        by k (inr other) = (k.0, other_peer step q other ∙ k.1, drop_beside flat.clock q done z k.0 r k.2 (λ e. other (sym e ∙ sym owner_is)))

    pub one_dropped : Giving w more items (done ++ r ∷ [])
    one_dropped =
        let f = with_facts b.e (record { command = command; phase = Reaping answer }) out.DropRefs in
        let owes : f.owed ≡ drops_of p flat.clock more = ap (λ l. drop 1 l) (b.owed ∙ owed_then) in
        let told : f.told ≡ some_items items = b.told ∙ ap (λ z. z.told) drop_driver ∙ (at.going refl).2 in
        let calls : f.calls ≡ d.calls = b.calls ∙ ap (λ z. z.calls) drop_driver ∙ (at.going refl).3 in
        let same = same_then f more items owes told calls step.new_driver dropped_driver in
        record {
          reached = reached_more o u w p None at.reached step;
          driver = step.new_driver;
          is_driver = own_driver step;
          me = same.0 ∙ b_me;
          shut_is = same.1 ∙ b.shut ∙ ap (λ z. z.shut) drop_driver ∙ at.shut_is;
          others = λ q apart. other_driver step q apart ∙ at.others q apart;
          own = other_peer step p (λ e. apart_p (sym e)) ∙ at.own;
          going = goes_then f more items owes told calls step.new_driver dropped_driver;
          over = ends_then f more items owes told calls step.new_driver dropped_driver;
          peers = peers_then;
        }

  -- ---- to the end

  module _ (t : State) (idle_end : (e : DriverPart) → IsDriver t p e → e.doing ≡ None) where
    -- a state on the way
    pub record Comes (owed : Refs) (items : Items) (done : Refs) : Type 0 where
      pub state : State
      pub at : Giving state owed items done
      pub left : ℕ
      pub goes_on : GoesOn o p left state t

    -- another step follows where something is left
    pub record Next (u : State) : Type 0 where
      pub left : ℕ
      pub middle : State
      pub step : Step o u p None middle
      pub goes_on : GoesOn o p left middle t

    next_of_open : (u : State) (e : DriverPart) (doing : Doing) → IsDriver u p e → e.doing ≡ Some doing → (n : ℕ) → GoesOn o p n u t → Next u
    next_of_open u e doing is_e is_open zero same = absurd (cc (sym is_open ∙ idle_end e (ap (λ w. slice_get w.drivers p) (sym same) ∙ is_e)))
    next_of_open u e doing is_e is_open (suc n) run = record { left = n; middle = run.0; step = run.1; goes_on = run.2 }

    drop_all : (owed : Refs) (items : Items) (done : Refs) → Comes owed items done → Comes [] items (done ++ owed)
    drop_all [] items done c = subst (Comes [] items) (sym (append-nil done)) c
    drop_all (r ∷ more) items done c =
        let k = next_of_open c.state c.at.driver (record { command = command; phase = Reaping answer }) c.at.is_driver (c.at.going refl).0 c.left c.goes_on in
        subst (Comes [] items) (append_assoc done (r ∷ []) more)
        (drop_all more items (done ++ r ∷ []) (record { state = k.middle; at = one_dropped c.at k.step; left = k.left; goes_on = k.goes_on }))

    pub give_all : (items : Items) (done : Refs) → Comes [] items done → Comes [] [] (done ++ all_refs items)
    give_all [] done c = subst (Comes [] []) (sym (append-nil done)) c
    give_all (item ∷ rest) done c =
        let k = next_of_open c.state c.at.driver (record { command = command; phase = Reaping answer }) c.at.is_driver (c.at.going refl).0 c.left c.goes_on in
        subst (Comes [] []) (append_assoc done item (all_refs rest))
        (give_all rest (done ++ item) (drop_all item rest done (record { state = k.middle; at = one_reaped c.at k.step; left = k.left; goes_on = k.goes_on })))

    -- then the command is over
    pub given_end : (done : Refs) (c : Comes [] [] done) → c.state ≡ t
    given_end done c = by c.left c.goes_on
      where
        by : (n : ℕ) → GoesOn o p n c.state t → c.state ≡ t
        by zero same = same
        by (suc n) run = absurd (no_further run.1 refl (ap (λ z. z.doing) (same_Some run.1.driver c.at.driver (sym run.1.is_driver ∙ c.at.is_driver)) ∙ (c.at.over refl).0))
