-- A whole RECV, and an attempt at AWAIT, lead from rest to rest.
use Rattle.std.proofs.Common.{◌≡◌, refl, sym, ap, ◌∙◌, subst, ℕ, ◌==◌, Bool, true, false, cond, not, nat_lt, List, [], ◌∷◌, ◌++◌, length, Option, Some, None, Ok, Err, Result, if◌then◌else◌, append-nil, arith}
use Rattle.std.specs.Prelude.{slice_get}
use Rattle.std.proofs.lemmas.Option.{same_Some}
use Rattle.std.proofs.lemmas.Bool.{eqb-true, eqb-false, lt-ltb}
use Rattle.b1_model.specs.declared.naming.Key.{Key}
use Rattle.b1_model.specs.declared.naming.Opening.{Opening}
use Rattle.b1_model.specs.Opening.{IsOpening}
use Rattle.b1_model.specs.declared.entries.Entry.{Entry}
use Rattle.b1_model.specs.declared.commands.Command.{Command}
use Rattle.b1_model.specs.declared.commands.Command.TheVariants as cmd
use Rattle.b1_model.specs.declared.answers.Answer.{Answer}
use Rattle.b1_model.specs.declared.answers.Answer.TheVariants as ans
use Rattle.b1_model.specs.declared.answers.Reason.TheVariants as reason
use Rattle.b1_model.specs.declared.answers.Front.{Front}
use Rattle.b1_model.specs.declared.answers.Receipt.{Receipt}
use Rattle.b1_model.specs.declared.answers.Front.TheVariants.{Absent}
use Rattle.b1_model.specs.declared.events.Action.TheVariants as act
use Rattle.b1_model.specs.declared.events.Outcome.{Outcome}
use Rattle.b1_model.specs.declared.events.Outcome.TheVariants as out
use Rattle.b1_model.specs.declared.events.Doing.{Doing}
use Rattle.b1_model.specs.declared.events.OwedDrop.{OwedDrop}
use Rattle.b1_model.specs.declared.events.Phase.TheVariants.{Starting, Reaping}
use Rattle.b1_model.specs.MachineParts.{PeerPart, DriverPart, State}
use Rattle.b1_model.specs.MachineReceive as machine
use Rattle.b1_model.specs.MachineReceive.{has_dead, received_part, discards}
use Rattle.b1_model.specs.MachineDriver.{first_action, next_action, recv_answer, refused_at, turn}
use Rattle.b1_model.specs.MachineTook.{as_call, is_await, call_of, is_waiting, is_done, goes_by, with_facts, turned}
use Rattle.b1_model.specs.MachineStep.{Step, Reached}
use Rattle.b1_schedule.specs.Shortage.{Shortage}
use Rattle.b1_schedule.specs.Schedule.{removed_by}
use Rattle.b1_step.specs.Ordered.{Ascending}
use Rattle.b1_step.proofs.Locality.{own_driver}
use Rattle.b1_inv.specs.Words.{IsDriver}
use Rattle.b1_inv.specs.Sound.{IsSound}
use Rattle.b1_inv_record.specs.Right.{IsRight}
use Rattle.b1_inv_tools.proofs.Facts.{next_of}
use Rattle.b1_law.proofs.Reached.{reached_sound}
use Rattle.b1_legal.proofs.Reached.{reached_right}
use Rattle.b1_serial_bus.specs.Parts.{Part, Bus, at_peer}
use Rattle.b1_serial_bus.specs.Receive.{is_empty, cleared, received}
use Rattle.b1_serial_rest.specs.Standing.{part_of, bus_of}
use Rattle.b1_serial_rest.specs.Rest.{BoxesRight, AtRest}
use Rattle.b1_serial_rest.proofs.Own.{Parts, parts_at}
use Rattle.b1_serial_whole.proofs.Whole.{Whole}
use Rattle.b1_serial_whole.proofs.Determined.{whole_rests}
use Rattle.b1_serial_own.proofs.Shows.{own_shows}
use Rattle.b1_serial_own.proofs.Moved.{Moved, moved_at, moved_driver, moved_peer, begin_moved}
use Rattle.b1_serial_own.proofs.BoxKept.{boxes_kept}
use Rattle.b1_serial_own.proofs.OneStep.{first_is}
use Rattle.b1_serial_own.proofs.Suffix.{cleared_kept, received_kept}
use Rattle.b1_serial_own.proofs.Receives.{cleared_alike, received_alike, received_none, nothing_left, something_left}

above_not : (n : ℕ) → nat_lt 0 n ≡ not (n == 0)
above_not n = by (n == 0) refl
  where
    by : (b : Bool) → (n == 0) ≡ b → nat_lt 0 n ≡ not b
    by true is = ap (nat_lt 0) (eqb-true n 0 is)
    by false is = let apart = eqb-false n 0 is in lt-ltb 0 n (omega (arith, apart))

module _ (o : Opening) (s : State) (bus : Bus) (p : ℕ) (y : Part) (command : Command) (m : Shortage) (t : State)
    (opens : IsOpening o) (reached : Reached o s) (rest : AtRest o s bus) (is : slice_get bus p ≡ Some y) (is_open : y.shut ≡ false)
    (first_event : first_action command ≡ act.Recv) (whole : Whole o s p command t) where
  pub here : Parts s.peers s.drivers p y
  here = parts_at s.peers s.drivers p y (ap (λ b. slice_get b p) (sym rest.is_bus) ∙ is)

  abbrev pub x : PeerPart
  x = here.0

  abbrev pub d : DriverPart
  d = here.1

  sound : IsSound o s
  sound = reached_sound o s opens reached

  right : IsRight o s
  right = reached_right o s opens reached

  abbrev begins : Step o s p (Some command) whole.first
  begins = whole.begins

  driver_is : begins.driver ≡ d
  driver_is = same_Some begins.driver d (sym begins.is_driver ∙ here.3)

  abbrev doing : Doing
  doing = record { command = command; phase = Starting }

  a : Moved o begins.driver begins.peer command Starting begins.at begins.new_driver begins.new_peer
  a = begin_moved begins command refl (ap (λ z. z.doing) driver_is ∙ rest.quiet.idle p d here.3)

  owed_none : a.e.owed ≡ []
  owed_none = a.owed ∙ ap (λ z. z.owed) driver_is ∙ rest.quiet.paid p d here.3

  next : next_action a.e ≡ act.Recv
  next =
      next_of a.e doing a.is_open owed_none
      ∙ ap (λ b. cond b act.Local (first_action command)) (a.shut ∙ ap (λ z. z.shut) driver_is ∙ sym (ap (λ z. z.shut) here.4) ∙ is_open)
      ∙ first_event

  at_is : begins.at ≡ p
  at_is = moved_at a act.Recv next ∙ a.me ∙ ap (λ z. z.me) driver_is ∙ rest.numbered.drivers p d here.3

  peer_is : begins.peer ≡ x
  peer_is = same_Some begins.peer x (sym begins.is_peer ∙ ap (slice_get s.peers) at_is ∙ here.2)

  new_peer : begins.new_peer ≡ received_part x
  new_peer = moved_peer a act.Recv next ∙ ap received_part peer_is

  abbrev pub got : Answer
  got = recv_answer (machine.received x)

  abbrev outcome : Bool → Outcome
  outcome dead = out.Recv (machine.received x) dead

  -- the driver's part, by what it owes and what is to be given up
  abbrev ended_as : List OwedDrop → Bool → DriverPart
  ended_as owed dead = goes_by (is_done owed dead (Reaping got)) (Some got) (record (with_facts a.e doing (outcome dead)) { owed = owed }) command (Reaping got)

  none_dead : has_dead (received_part x) ≡ false
  none_dead = ap (λ l. elim l [ [] ↦ false | item ∷ more ↦ true ]) (received_none p x d sound right rest here.2 here.3)

  new_driver : begins.new_driver ≡ ended_as [] false
  new_driver =
      moved_driver a act.Recv next
      ∙ ap (λ v. turned (with_facts a.e doing (out.Recv (machine.received v) (has_dead (received_part v)))) command (turn a.e.me command Starting (out.Recv (machine.received v) (has_dead (received_part v))))) peer_is
      ∙ ap (λ b. ended_as a.e.owed b) none_dead
      ∙ ap (λ l. ended_as l false) owed_none

  ends : begins.new_driver.doing ≡ None
  ends = ap (λ z. z.doing) new_driver

  calls_are : begins.new_driver.calls ≡ d.calls ++ call_of command got
  calls_are = ap (λ z. z.calls) new_driver ∙ ap (λ l. l ++ call_of command got) (a.calls ∙ ap (λ z. z.calls) driver_is)

  shut_is : begins.new_driver.shut ≡ d.shut
  shut_is = ap (λ z. z.shut) new_driver ∙ a.shut ∙ ap (λ z. z.shut) driver_is

  me_is : y.me ≡ p
  me_is = ap (λ z. z.me) here.4 ∙ (rest.numbered.peers p x here.2).me

  ordered : Ascending x.queue
  ordered = right.parts.keys.ascending p x here.2

  is_here : (z : Part) → slice_get bus p ≡ Some z → z ≡ part_of x d
  is_here z there = same_Some z y (sym there ∙ is) ∙ here.4

  -- the part of the bus after it
  part_after : begins.new_peer ≡ received_part x → part_of begins.new_peer begins.new_driver ≡ record (part_of (received_part x) d) { calls = d.calls ++ call_of command got }
  part_after is =
      ap (λ z. part_of z begins.new_driver) is
      ∙ ap (λ b. record (part_of (received_part x) d) { shut = b; calls = begins.new_driver.calls }) shut_is
      ∙ ap (λ cs. record (part_of (received_part x) d) { calls = cs }) calls_are

  -- ---- an attempt that is a call

  module _ (call_is : call_of command got ≡ record { command = cmd.Recv; answer = got } ∷ []) where
    receives : received (part_of begins.peer begins.driver) ≡ part_of begins.new_peer begins.new_driver
    receives =
        ap (λ z. received (part_of z begins.driver)) peer_is ∙ ap (λ e. received (part_of x e)) driver_is
        ∙ received_alike p x d sound right rest here.2 here.3
        ∙ ap (λ cs. record (part_of (received_part x) d) { calls = d.calls ++ cs }) (sym call_is)
        ∙ sym (part_after new_peer)

    shows : at_peer p received bus ≡ bus_of t
    shows = ap (at_peer p received) rest.is_bus ∙ sym (own_shows begins received at_is receives) ∙ ap bus_of (first_is whole ends)

    boxes : BoxesRight (at_peer p received bus)
    boxes = boxes_kept received p bus (λ z there. received_kept z (subst (λ v. Ascending v.box) (sym (is_here z there)) ordered)) rest.boxes

    pub receive_rests : AtRest o t (at_peer p received bus)
    receive_rests = whole_rests whole bus (at_peer p received bus) opens reached rest shows boxes

  -- ---- an attempt that finds something

  module _ (call_got : (r : Receipt) → call_of command (ans.Got r) ≡ record { command = cmd.Recv; answer = ans.Got r } ∷ []) (some : is_empty (cleared y).box ≡ false) where
    got_some : (queue : List (Key × Entry)) → (machine.cleared x).queue ≡ queue → (r : Receipt) × (got ≡ ans.Got r)
    got_some [] none =
        let empty : (cleared y).box ≡ [] = ap (λ z. (cleared z).box) here.4 ∙ ap (λ z. z.box) (cleared_alike p x d sound right rest here.2 here.3) ∙ none in
        absurd (cc (sym some ∙ ap is_empty empty))
    got_some (f ∷ behind) is =
        let k = something_left p x d sound right rest here.2 here.3 f behind is in
        (k.0, ap (λ r. elim r [ Ok receipt ↦ ans.Got receipt | Err front ↦ refused_at (reason.Again front) None ]) k.1)

    call_some : call_of command got ≡ record { command = cmd.Recv; answer = got } ∷ []
    call_some =
        let k = got_some (machine.cleared x).queue refl in
        ap (call_of command) k.1 ∙ call_got k.0 ∙ ap (λ g. record { command = cmd.Recv; answer = g } ∷ []) (sym k.1)

    pub some_rests : AtRest o t (at_peer p received bus)
    some_rests = receive_rests call_some

  -- ---- an attempt that waits

  module _ (none : (cleared y).box ≡ []) (waiting : is_waiting command (refused_at (reason.Again Absent) None) ≡ true) where
    none_here : (cleared (part_of x d)).box ≡ []
    none_here = ap (λ z. (cleared z).box) (sym here.4) ∙ none

    nothing : ((machine.received x).front ≡ Err Absent) × (received_part x ≡ machine.cleared x) × (length x.queue ≡ length (discards x))
    nothing = nothing_left p x d sound right rest here.2 here.3 none_here

    got_is : got ≡ refused_at (reason.Again Absent) None
    got_is = ap (λ r. elim r [ Ok receipt ↦ ans.Got receipt | Err front ↦ refused_at (reason.Again front) None ]) nothing.0

    no_call : call_of command got ≡ []
    no_call = ap (call_of command) got_is ∙ ap (λ b. cond b [] (record { command = as_call command; answer = refused_at (reason.Again Absent) None } ∷ [])) waiting

    clears : cleared (part_of begins.peer begins.driver) ≡ part_of begins.new_peer begins.new_driver
    clears =
        ap (λ z. cleared (part_of z begins.driver)) peer_is ∙ ap (λ e. cleared (part_of x e)) driver_is
        ∙ cleared_alike p x d sound right rest here.2 here.3
        ∙ ap (λ z. part_of z d) (sym nothing.1)
        ∙ ap (λ cs. record (part_of (received_part x) d) { calls = cs }) (sym (ap (λ cs. d.calls ++ cs) no_call ∙ append-nil d.calls))
        ∙ sym (part_after new_peer)

    shows_cleared : at_peer p cleared bus ≡ bus_of t
    shows_cleared = ap (at_peer p cleared) rest.is_bus ∙ sym (own_shows begins cleared at_is clears) ∙ ap bus_of (first_is whole ends)

    boxes_cleared : BoxesRight (at_peer p cleared bus)
    boxes_cleared = boxes_kept cleared p bus (λ z there. cleared_kept z (subst (λ v. Ascending v.box) (sym (is_here z there)) ordered)) rest.boxes

    pub attempt_rests : AtRest o t (at_peer p cleared bus)
    attempt_rests = whole_rests whole bus (at_peer p cleared bus) opens reached rest shows_cleared boxes_cleared

    -- what it found and removed, by whether it is an AWAIT and by its front
    abbrev found_at : Result Receipt Front → Option (Front × ℕ)
    found_at front = elim front [ Ok receipt ↦ None | Err f ↦ Some (f, length (discards x)) ]

    abbrev found_then : Bool → Result Receipt Front → Option (Front × ℕ)
    found_then b front = if b then found_at front else None

    abbrev attempted_then : Option (Front × ℕ) → Option (Front × ℕ)
    attempted_then r = elim r [ None ↦ a.e.attempted | Some found ↦ Some found ]

    abbrev removed_then : Option (Front × ℕ) → ℕ
    removed_then r = elim r [ None ↦ 0 | Some found ↦ found.1 ]

    removed_is : is_await command ≡ true → removed_by begins.new_driver ≡ length (discards x)
    removed_is await = ap removed_by new_driver ∙ ap (λ b. removed_then (attempted_then (found_then b (machine.received x).front))) await ∙ ap (λ r. removed_then (attempted_then (found_then true r))) nothing.0

    -- it removed something where there was something
    pub attempt_removed : is_await command ≡ true → (e : DriverPart) → IsDriver t p e → nat_lt 0 (removed_by e) ≡ not (is_empty y.box)
    attempt_removed await e there =
        let same : e ≡ begins.new_driver = same_Some e begins.new_driver (sym there ∙ ap (λ u. slice_get u.drivers p) (sym (first_is whole ends)) ∙ own_driver begins) in
        ap (λ z. nat_lt 0 (removed_by z)) same
        ∙ ap (nat_lt 0) (removed_is await ∙ sym nothing.2)
        ∙ above_not (length x.queue)
        ∙ ap (λ z. not (is_empty z.box)) (sym here.4)
