-- A whole HANDLE_RELEASE leads from rest to rest.
use Rattle.std.proofs.Common.{◌≡◌, ◌≢◌, refl, sym, ap, ◌∙◌, subst, inl, ℕ, zero, suc, ◌<◌, max, drop, Bool, true, false, cond, ◌&&◌, not, List, [], ◌∷◌, ◌++◌, length, map, Some, None, Ok, is_none}
use Rattle.std.specs.Prelude.{slice_get}
use Rattle.std.proofs.lemmas.Option.{same_Some}
use Rattle.b1_model.specs.declared.naming.NodeRef.{NodeRef}
use Rattle.b1_model.specs.declared.naming.Opening.{Opening}
use Rattle.b1_model.specs.Opening.{IsOpening}
use Rattle.b1_model.specs.declared.commands.Command.{Command}
use Rattle.b1_model.specs.declared.commands.Command.TheVariants as cmd
use Rattle.b1_model.specs.declared.parts.Owed.{Owed}
use Rattle.b1_model.specs.declared.answers.Answer.TheVariants as ans
use Rattle.b1_model.specs.declared.answers.Reason.TheVariants as reason
use Rattle.b1_model.specs.declared.events.Action.TheVariants as act
use Rattle.b1_model.specs.declared.events.Outcome.TheVariants as out
use Rattle.b1_model.specs.declared.events.Doing.{Doing}
use Rattle.b1_model.specs.declared.events.OwedDrop.{OwedDrop}
use Rattle.b1_model.specs.declared.events.Phase.TheVariants.{Starting, Dropping}
use Rattle.b1_model.specs.Names.{is_given}
use Rattle.b1_model.specs.MachineParts.{PeerPart, DriverPart, State, is_live, node_at, no_node}
use Rattle.b1_model.specs.MachineTables as tables
use Rattle.b1_model.specs.MachineTables.{changed, less_held, is_unheld}
use Rattle.b1_model.specs.MachineReceive as machine
use Rattle.b1_model.specs.MachineReceive.{dropped, dropped_refs}
use Rattle.b1_model.specs.MachineDriver.{next_action, refused_at}
use Rattle.b1_model.specs.MachineTook.{with_facts, turned}
use Rattle.b1_model.specs.MachineDriver.{Goes, turn}
use Rattle.b1_model.specs.MachineStep.{Step, Reached}
use Rattle.b1_schedule.specs.Shortage.{Shortage}
use Rattle.b1_step.proofs.Lists.{has_within}
use Rattle.b1_step.proofs.Locality.{own_driver}
use Rattle.b1_step.specs.Rights.{Has}
use Rattle.b1_inv.specs.Words.{IsPeer, IsDriver, fixed_stamp, stamp_of_phase}
use Rattle.b1_inv_record.specs.Right.{IsRight}
use Rattle.b1_inv.specs.Sound.{IsSound}
use Rattle.b1_inv_tools.proofs.Leaves.{new_peer}
use Rattle.b1_inv_tools.proofs.Facts.{next_of, next_owed}
use Rattle.b1_inv_tools.proofs.Grows.{made_stays}
use Rattle.b1_law.proofs.Reached.{reached_sound}
use Rattle.b1_legal.proofs.Reached.{reached_right}
use Rattle.b1_serial_bus.specs.Parts.{Part, Bus, at_peer, called}
use Rattle.b1_serial_bus.specs.Lives.{destroyed_at}
use Rattle.b1_serial_bus.specs.Named.{held_node}
use Rattle.b1_serial_bus.specs.References.{lowered, is_abroad}
use Rattle.b1_serial_bus.specs.GivenUp.{noticed, told, given_up}
use Rattle.b1_serial_bus.specs.Small.{not_released, with_released, after_release}
use Rattle.b1_serial_bus.specs.Commands.{after_command}
use Rattle.b1_serial_rest.specs.Standing.{own_of, lines_of, part_of, bus_of}
use Rattle.b1_serial_rest.specs.Rest.{IsQuiet, BoxesRight, AtRest}
use Rattle.b1_serial_rest.proofs.Records.{lines_name}
use Rattle.b1_serial_rest.proofs.Own.{Parts, parts_at}
use Rattle.b1_serial_whole.proofs.Whole.{GoesOn, Whole}
use Rattle.b1_serial_whole.proofs.Quiet.{is_quiet, driver_beside}
use Rattle.b1_serial_whole.proofs.Determined.{whole_rests, first_reached, end_reached, end_idle}
use Rattle.b1_serial_own.proofs.Shows.{at_twice, at_same, read_beside, own_shows, part_there}
use Rattle.b1_serial_own.proofs.Moved.{Moved, moved_at, moved_driver, moved_peer, begin_moved, further_moved, no_further}
use Rattle.b1_serial_own.proofs.Lowered.{released_lines}
use Rattle.b1_serial_own.proofs.Abroad.{unheld_abroad}
use Rattle.b1_serial_own.proofs.Dropped.{noticed_refers, abroad_at, live_is, dropped_nodes, dropped_node, comes, owner_apart, drop_at, drop_peer, drop_shows}
use Rattle.b1_serial_own.proofs.Given.{given_boxes}
use Rattle.b1_serial_own.proofs.BoxKept.{stamp_in, boxes_kept}

module _ (o : Opening) (s : State) (bus : Bus) (p : ℕ) (y : Part) (number : ℕ) (node : NodeRef) (m : Shortage) (t : State)
    (opens : IsOpening o) (reached : Reached o s) (rest : AtRest o s bus) (is : slice_get bus p ≡ Some y) (is_open : y.shut ≡ false)
    (given : is_given number ≡ true) (held : held_node y number ≡ Some node) (whole : Whole o s p (cmd.Release number) t) where
  abbrev command : Command
  command = cmd.Release number

  here : Parts s.peers s.drivers p y
  here = parts_at s.peers s.drivers p y (ap (λ b. slice_get b p) (sym rest.is_bus) ∙ is)

  abbrev x : PeerPart
  x = here.0

  abbrev d : DriverPart
  d = here.1

  valid : IsSound o s
  valid = reached_sound o s opens reached

  idle : d.doing ≡ None
  idle = rest.quiet.idle p d here.3

  paid : d.owed ≡ []
  paid = rest.quiet.paid p d here.3

  open_driver : d.shut ≡ false
  open_driver = sym (ap (λ z. z.shut) here.4) ∙ is_open

  named : tables.held_node number x.handles ≡ Some node
  named = sym (lines_name number x.handles) ∙ sym (ap (λ z. held_node z number) here.4) ∙ held

  -- ---- the step that begins it

  abbrev first : State
  first = whole.first

  abbrev begins : Step o s p (Some command) first
  begins = whole.begins

  driver_is : begins.driver ≡ d
  driver_is = same_Some begins.driver d (sym begins.is_driver ∙ here.3)

  a : Moved o begins.driver begins.peer command Starting begins.at begins.new_driver begins.new_peer
  a = begin_moved begins command refl (ap (λ z. z.doing) driver_is ∙ idle)

  next : next_action a.e ≡ act.Release
  next =
      next_of a.e (record { command = command; phase = Starting }) a.is_open (a.owed ∙ ap (λ z. z.owed) driver_is ∙ paid)
      ∙ ap (λ b. cond b act.Local act.Release) (a.shut ∙ ap (λ z. z.shut) driver_is ∙ open_driver)

  at_is : begins.at ≡ p
  at_is = moved_at a act.Release next ∙ a.me ∙ ap (λ z. z.me) driver_is ∙ rest.numbered.drivers p d here.3

  peer_is : begins.peer ≡ x
  peer_is = same_Some begins.peer x (sym begins.is_peer ∙ ap (slice_get s.peers) at_is ∙ here.2)

  abbrev one : Owed
  one = record { node = node; clock = x.clock }

  released : machine.released begins.peer number ≡ Ok one
  released =
      ap (λ v. machine.released v number) peer_is
      ∙ ap (λ b. machine.released_by b (tables.held_node number x.handles) x number) given
      ∙ ap (λ r. machine.released_by true r x number) named

  abbrev owing : OwedDrop
  owing = record { node = node; holder = a.e.me; amount = 1; clock = x.clock }

  abbrev opened : DriverPart
  opened = turned (with_facts a.e (record { command = command; phase = Starting }) (out.Release (Ok one))) command (turn a.e.me command Starting (out.Release (Ok one)))

  new_driver : begins.new_driver ≡ opened
  new_driver = moved_driver a act.Release next ∙ ap (λ r. turned (with_facts a.e (record { command = command; phase = Starting }) (out.Release r)) command (turn a.e.me command Starting (out.Release r))) released

  abbrev lowered_peer : PeerPart
  lowered_peer = record x { handles = changed node less_held x.handles }

  peer_after : begins.new_peer ≡ lowered_peer
  peer_after =
      moved_peer a act.Release next
      ∙ ap (λ v. machine.released_part v number) peer_is
      ∙ ap (λ b. machine.given_up b (tables.held_node number x.handles) x) given
      ∙ ap (λ r. machine.given_up true r x) named

  -- the bus then
  abbrev lower : Part → Part
  lower z = record z { lines = lowered number z.lines }

  lines_are : lowered number (lines_of x.handles) ≡ lines_of (changed node less_held x.handles)
  lines_are = released_lines x.given number node x.handles (valid.rising p x here.2) (valid.numbers.numbered p x here.2) named

  first_shows : bus_of first ≡ at_peer p lower bus
  first_shows =
      own_shows begins lower at_is
      (ap (λ v. lower (part_of v begins.driver)) peer_is ∙ ap (λ v. lower (part_of x v)) driver_is
      ∙ ap (λ ls. record (part_of x d) { lines = ls }) lines_are
      ∙ sym (ap (λ v. part_of v begins.new_driver) peer_after
      ∙ ap (part_of lowered_peer) new_driver
      ∙ ap (λ b. record (part_of lowered_peer d) { shut = b; calls = a.e.calls }) (a.shut ∙ ap (λ z. z.shut) driver_is)
      ∙ ap (λ cs. record (part_of lowered_peer d) { calls = cs }) (a.calls ∙ ap (λ z. z.calls) driver_is)))
      ∙ ap (at_peer p lower) (sym rest.is_bus)

  -- ---- the step that ends it

  peer_first : IsPeer first p lowered_peer
  peer_first = ap (slice_get first.peers) (sym at_is) ∙ new_peer begins ∙ ap Some peer_after

  first_sound : IsSound o first
  first_sound = reached_sound o first opens (first_reached whole reached)

  first_right : IsRight o first
  first_right = reached_right o first opens (first_reached whole reached)

  module _ (ends : State) (step : Step o first p None ends) where
    abbrev dropping : Doing
    dropping = record { command = command; phase = Dropping }

    from : step.driver ≡ opened
    from = same_Some step.driver opened (sym step.is_driver ∙ own_driver begins ∙ ap Some new_driver)

    open_then : step.driver.doing ≡ Some dropping
    open_then = ap (λ z. z.doing) from

    owed_then : step.driver.owed ≡ owing ∷ []
    owed_then = ap (λ z. z.owed) from

    b : Moved o step.driver step.peer command Dropping step.at step.new_driver step.new_peer
    b = further_moved step dropping open_then

    -- by what is owed
    abbrev ending : List OwedDrop → DriverPart
    ending owed = turned (record (with_facts b.e dropping out.DropRefs) { owed = drop 1 owed }) command (Goes Dropping)

    ends_so : step.new_driver ≡ ending (owing ∷ [])
    ends_so =
        moved_driver b (act.DropRefs owing.node.owner owing.node.serial owing.holder owing.amount owing.clock) (next_owed b.e dropping owing [] b.is_open (b.owed ∙ owed_then))
        ∙ ap ending (b.owed ∙ owed_then)

    abbrev call_it : Part → Part
    call_it = called command ans.Done

    called_so : call_it (part_of lowered_peer step.driver) ≡ part_of lowered_peer step.new_driver
    called_so = sym (
        ap (part_of lowered_peer) ends_so
        ∙ ap (λ v. record (part_of lowered_peer step.driver) { shut = v; calls = b.e.calls ++ record { command = command; answer = ans.Done } ∷ [] }) b.shut
        ∙ ap (λ cs. record (part_of lowered_peer step.driver) { calls = cs ++ record { command = command; answer = ans.Done } ∷ [] }) b.calls)

    unfixed : fixed_stamp step.driver ≡ None
    unfixed = ap (λ r. elim r [ None ↦ None | Some doing ↦ stamp_of_phase doing.phase ]) open_then

    owner_at : step.at ≡ node.owner
    owner_at = drop_at first_sound first_right step dropping open_then owing [] owed_then unfixed lowered_peer peer_first

    owner_is : IsPeer first node.owner step.peer
    owner_is = ap (slice_get first.peers) (sym owner_at) ∙ step.is_peer

    beside : (e : DriverPart) × IsDriver first node.owner e
    beside = driver_beside first_sound.numbered node.owner step.peer owner_is

    abbrev e : DriverPart
    e = beside.0

    abbrev bus_then : Bus
    bus_then = at_peer p call_it (bus_of first)

    abbrev comes_then : Bool
    comes_then = comes first_sound first_right step dropping open_then owing [] owed_then unfixed lowered_peer peer_first

    abbrev told_so : Part → Part
    told_so z = noticed comes_then node.serial (record z { clock = max z.clock x.clock })

    shows : bus_of ends ≡ at_peer node.owner told_so bus_then
    shows = drop_shows first_sound first_right step dropping open_then owing [] owed_then unfixed lowered_peer peer_first call_it e beside.1 called_so

    module _ (same : ends ≡ t) where
      ends_reached : Reached o ends
      ends_reached = subst (Reached o) (sym same) (end_reached whole reached)

      ends_sound : IsSound o ends
      ends_sound = reached_sound o ends opens ends_reached

      ends_quiet : IsQuiet ends
      ends_quiet = subst IsQuiet (sym same) (is_quiet opens (end_reached whole reached) (end_idle whole rest.quiet))

      owner_then : IsPeer ends node.owner step.new_peer
      owner_then = ap (slice_get ends.peers) (sym owner_at) ∙ new_peer step

      made : node.serial < length step.new_peer.nodes
      made =
          let k = made_stays step node (first_sound.references.owed p step.driver owing step.is_driver (subst (λ l. Has l owing) (sym owed_then) (inl refl))).made in
          subst (λ z. node.serial < length z.nodes) (same_Some k.0 step.new_peer (sym k.1 ∙ owner_then)) k.2

      peer_dropped : step.new_peer ≡ dropped step.peer node.serial a.e.me 1 x.clock
      peer_dropped = drop_peer first_sound first_right step dropping open_then owing [] owed_then unfixed lowered_peer peer_first

      node_is : node_at (dropped_refs step.peer node.serial a.e.me 1 x.clock) node.serial ≡ node_at step.new_peer node.serial
      node_is = sym (ap (λ z. node_at z node.serial) peer_dropped ∙ dropped_node step.peer e node.serial a.e.me 1 x.clock)

      nodes_are : map own_of step.new_peer.nodes ≡ map own_of step.peer.nodes
      nodes_are = ap (λ z. map own_of z.nodes) peer_dropped ∙ dropped_nodes step.peer e node.serial a.e.me 1 x.clock

      live_so : is_live (node_at step.new_peer node.serial).state ≡ is_none (destroyed_at (part_of step.peer e) node.serial)
      live_so =
          live_is step.new_peer e node.serial made (ends_quiet.stamped node.owner step.new_peer (node_at step.new_peer node.serial) owner_then (has_within step.new_peer.nodes node.serial no_node made))
          ∙ ap (λ nodes. is_none (stamp_in nodes node.serial)) nodes_are

      unheld_so : is_unheld (node_at step.new_peer node.serial) ≡ not (is_abroad node bus_then)
      unheld_so =
          unheld_abroad ends_sound ends_quiet node step.new_peer owner_then made
          ∙ ap (λ z. not (is_abroad node z)) shows
          ∙ ap not (abroad_at node told_so node.owner bus_then (λ z. noticed_refers node comes_then node.serial (record z { clock = max z.clock x.clock })))

      comes_so : comes_then ≡ is_none (destroyed_at (part_of step.peer e) node.serial) && not (is_abroad node bus_then)
      comes_so =
          ap (λ n. is_live n.state && is_unheld n) node_is
          ∙ ap (λ v. v && is_unheld (node_at step.new_peer node.serial)) live_so
          ∙ ap (λ v. is_none (destroyed_at (part_of step.peer e) node.serial) && v) unheld_so

      apart : p ≢ node.owner
      apart is = owner_apart first_sound first_right step dropping open_then owing [] owed_then unfixed lowered_peer peer_first (owner_at ∙ sym is)

      owner_shown : (z : Part) → slice_get bus_then node.owner ≡ Some z → z ≡ part_of step.peer e
      owner_shown z there = same_Some z (part_of step.peer e) (sym there ∙ read_beside p node.owner call_it (bus_of first) apart ∙ part_there first.peers first.drivers node.owner step.peer e owner_is beside.1)

      given_shows : bus_of ends ≡ given_up x.clock bus_then node
      given_shows =
          shows
          ∙ at_same node.owner told_so (told x.clock (is_abroad node bus_then) node.serial) bus_then
          (λ z there. ap (λ v. noticed v node.serial (record z { clock = max z.clock x.clock })) (comes_so ∙ ap (λ w. is_none (destroyed_at w node.serial) && not (is_abroad node bus_then)) (sym (owner_shown z there))))

      bus_is : bus_then ≡ at_peer p (with_released number) bus
      bus_is = ap (at_peer p call_it) first_shows ∙ at_twice p lower call_it bus

      me_is : y.me ≡ p
      me_is = ap (λ z. z.me) here.4 ∙ (rest.numbered.peers p x here.2).me

      after_is : after_command m command y bus ≡ given_up x.clock (at_peer p (with_released number) bus) node
      after_is =
          ap (λ v. cond v (at_peer y.me (called command (refused_at reason.Shutdown None)) bus) (after_release number y bus)) is_open
          ∙ ap (λ v. cond (not v) (at_peer y.me (not_released number reason.Invalid) bus) (elim (held_node y number) [ None ↦ at_peer y.me (not_released number (reason.Unknown number)) bus | Some one ↦ given_up y.clock (at_peer y.me (with_released number) bus) one ])) given
          ∙ ap (λ r. elim r [ None ↦ at_peer y.me (not_released number (reason.Unknown number)) bus | Some one ↦ given_up y.clock (at_peer y.me (with_released number) bus) one ]) held
          ∙ ap (λ q. given_up y.clock (at_peer q (with_released number) bus) node) me_is
          ∙ ap (λ z. given_up z.clock (at_peer p (with_released number) bus) node) here.4

      boxes : BoxesRight (given_up x.clock (at_peer p (with_released number) bus) node)
      boxes =
          given_boxes x.clock (at_peer p (with_released number) bus) node
          (boxes_kept (with_released number) p bus (λ z there. record { me = refl; nodes = refl; comes = λ f in_it. inl in_it; noticed = λ f n in_it before is. is }) rest.boxes)

      rests : AtRest o t (after_command m command y bus)
      rests =
          whole_rests whole bus (after_command m command y bus) opens reached rest
          (after_is ∙ ap (λ z. given_up x.clock z node) (sym bus_is) ∙ sym given_shows ∙ ap bus_of same)
          (subst BoxesRight (sym after_is) boxes)

  by_count : (n : ℕ) → GoesOn o p n first t → AtRest o t (after_command m command y bus)
  by_count zero same = absurd (cc (sym (ap (λ z. z.doing) new_driver) ∙ whole.ends begins.new_driver (ap (λ u. slice_get u.drivers p) (sym same) ∙ own_driver begins)))
  by_count (suc zero) run = rests run.0 run.1 run.2
  by_count (suc (suc n)) run =
      let second = run.2.1 in
      let same = same_Some second.driver run.1.new_driver (sym second.is_driver ∙ own_driver run.1) in
      absurd (no_further second refl (ap (λ z. z.doing) same ∙ ap (λ z. z.doing) (ends_so run.0 run.1)))

  -- at rest again
  pub release_rests : AtRest o t (after_command m command y bus)
  release_rests = by_count whole.further whole.goes_on
