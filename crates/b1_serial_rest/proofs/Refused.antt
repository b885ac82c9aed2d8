-- A refused HANDLE_RELEASE is one step of the machine, which leads from rest to rest.
use Rattle.std.proofs.Common.{◌≡◌, refl, sym, ap, ◌∙◌, subst, ℕ, Bool, true, false, cond, not, List, [], ◌∷◌, ◌++◌, Option, Some, None, Err}
use Rattle.std.specs.Prelude.{slice_get, is_none}
use Rattle.std.proofs.lemmas.Option.{same_Some}
use Rattle.b1_model.specs.declared.naming.NodeRef.{NodeRef}
use Rattle.b1_model.specs.declared.naming.Opening.{Opening}
use Rattle.b1_model.specs.declared.commands.Command.{Command}
use Rattle.b1_model.specs.declared.commands.Command.TheVariants as cmd
use Rattle.b1_model.specs.declared.answers.Reason.{Reason}
use Rattle.b1_model.specs.declared.answers.Reason.TheVariants as reason
use Rattle.b1_model.specs.declared.events.Action.{Action}
use Rattle.b1_model.specs.declared.events.Action.TheVariants as act
use Rattle.b1_model.specs.declared.events.Outcome.TheVariants as out
use Rattle.b1_model.specs.declared.events.OwedDrop.{OwedDrop}
use Rattle.b1_model.specs.declared.events.Phase.TheVariants.{Starting}
use Rattle.b1_model.specs.Names.{is_given}
use Rattle.b1_model.specs.MachineParts.{PeerPart, DriverPart, State}
use Rattle.b1_model.specs.MachineTables as tables
use Rattle.b1_model.specs.MachineReceive.{released_by, released_part}
use Rattle.b1_model.specs.MachineReceive as machine
use Rattle.b1_model.specs.MachineDriver.{phase_action, next_action, peer_of, refused_at}
use Rattle.b1_model.specs.MachineTook.{took, call_of}
use Rattle.b1_model.specs.MachineEvents.{happens}
use Rattle.b1_model.specs.MachineStep.{begun_by, aimed, target, effect_by, effect, Step}
use Rattle.b1_schedule.specs.Shortage.{Shortage}
use Rattle.b1_serial_bus.specs.Parts.{Part, Bus, at_peer}
use Rattle.b1_serial_bus.specs.Named.{held_node}
use Rattle.b1_serial_bus.specs.GivenUp.{given_up}
use Rattle.b1_serial_bus.specs.Small.{not_released, with_released, after_release}
use Rattle.b1_serial_bus.specs.Commands.{after_command}
use Rattle.b1_serial_rest.specs.Standing.{part_of}
use Rattle.b1_serial_rest.specs.Rest.{AtRest}
use Rattle.b1_serial_rest.specs.Unheld.{is_unheld}
use Rattle.b1_serial_rest.proofs.Records.{lines_name}
use Rattle.b1_serial_rest.proofs.Own.{Parts, parts_at, left, own_step_rests}

-- why a number is refused
abbrev pub refusal : Bool → ℕ → Reason
refusal given number = cond given (reason.Unknown number) reason.Invalid

-- the machine refuses it
machine_refuses : (x : PeerPart) (number : ℕ) (given : Bool) (held : Option NodeRef) → is_none (cond given held None) ≡ true → released_by given held x number ≡ Err (refusal given number)
machine_refuses x number false held none = refl
machine_refuses x number true None none = refl
machine_refuses x number true (Some node) none = absurd (cc none)

-- and changes nothing
part_stays : (x : PeerPart) (given : Bool) (held : Option NodeRef) → is_none (cond given held None) ≡ true → machine.given_up given held x ≡ x
part_stays x false held none = refl
part_stays x true None none = refl
part_stays x true (Some node) none = absurd (cc none)

-- the serial bus refuses it
bus_refuses : (y : Part) (bus : Bus) (number : ℕ) (given : Bool) (held : Option NodeRef) → is_none (cond given held None) ≡ true
    → cond (not given) (at_peer y.me (not_released number reason.Invalid) bus) (elim held [ None ↦ at_peer y.me (not_released number (reason.Unknown number)) bus | Some node ↦ given_up y.clock (at_peer y.me (with_released number) bus) node ]) ≡ at_peer y.me (not_released number (refusal given number)) bus
bus_refuses y bus number false held none = refl
bus_refuses y bus number true None none = refl
bus_refuses y bus number true (Some node) none = absurd (cc none)

-- the driver's part after it
abbrev pub refused_driver : DriverPart → Command → Reason → DriverPart
refused_driver d command r = record d { doing = None; calls = d.calls ++ call_of command (refused_at r None) }

module _ (d : DriverPart) (number : ℕ) (x : PeerPart) (idle : d.doing ≡ None) (paid : d.owed ≡ []) (is_open : d.shut ≡ false) (unheld : is_none (cond (is_given number) (tables.held_node number x.handles) None) ≡ true) where
  abbrev beginning : DriverPart
  beginning = record d { doing = Some (record { command = cmd.Release number; phase = Starting }) }

  abbrev next_by : List OwedDrop → Action
  next_by owed = elim owed [
    | [] ↦ phase_action d.me d.shut (cmd.Release number) Starting
    | drop ∷ rest ↦ act.DropRefs drop.node.owner drop.node.serial drop.holder drop.amount drop.clock
  ]

  next_is : next_action beginning ≡ act.Release
  next_is = ap next_by paid ∙ ap (λ b. cond b act.Local act.Release) is_open

  release_target : target d (Some (cmd.Release number)) ≡ Some (act.Release, d.me)
  release_target =
      ap (λ r. elim (begun_by d r (Some (cmd.Release number))) [ None ↦ None | Some e ↦ Some (aimed e) ]) idle
      ∙ ap (λ a. Some (a, peer_of d.me a)) next_is

  release_effect : (o : Opening) (memory : Bool) → effect o memory d (Some (cmd.Release number)) x ≡ (refused_driver d (cmd.Release number) (refusal (is_given number) number), x)
  release_effect o memory =
      ap (λ r. effect_by o memory d (begun_by d r (Some (cmd.Release number))) x) idle
      ∙ ap (λ a. (took beginning (happens o memory beginning (record { command = cmd.Release number; phase = Starting }) a x).0, (happens o memory beginning (record { command = cmd.Release number; phase = Starting }) a x).1)) next_is
      ∙ ap (λ r. (took beginning (out.Release r), released_part x number)) (machine_refuses x number (is_given number) (tables.held_node number x.handles) unheld)
      ∙ ap (λ z. (refused_driver d (cmd.Release number) (refusal (is_given number) number), z)) (part_stays x (is_given number) (tables.held_node number x.handles) unheld)

module _ (o : Opening) (s : State) (bus : Bus) (p : ℕ) (y : Part) (number : ℕ) (m : Shortage) (t : State)
    (rest : AtRest o s bus) (is : slice_get bus p ≡ Some y) (is_open : y.shut ≡ false) (unheld : is_unheld y number ≡ true) (step : Step o s p (Some (cmd.Release number)) t) where
  here : Parts s.peers s.drivers p y
  here = parts_at s.peers s.drivers p y (ap (λ b. slice_get b p) (sym rest.is_bus) ∙ is)

  abbrev d : DriverPart
  d = step.driver

  abbrev x : PeerPart
  x = here.0

  driver_is : here.1 ≡ d
  driver_is = same_Some here.1 d (sym here.3 ∙ step.is_driver)

  idle : d.doing ≡ None
  idle = rest.quiet.idle p d step.is_driver

  paid : d.owed ≡ []
  paid = rest.quiet.paid p d step.is_driver

  part_is : y ≡ part_of x d
  part_is = here.4 ∙ ap (part_of x) driver_is

  opened_driver : d.shut ≡ false
  opened_driver = sym (ap (λ z. z.shut) part_is) ∙ is_open

  none_held : is_none (cond (is_given number) (tables.held_node number x.handles) None) ≡ true
  none_held = ap (λ held. is_none (cond (is_given number) held None)) (sym (lines_name number x.handles)) ∙ sym (ap (λ z. is_unheld z number) part_is) ∙ unheld

  at_is : step.at ≡ p
  at_is =
      ap (λ r. elim r [ None ↦ 0 | Some a ↦ a.1 ]) (sym step.is_target ∙ release_target d number x idle paid opened_driver none_held)
      ∙ rest.numbered.drivers p d step.is_driver

  peer_is : step.peer ≡ x
  peer_is = same_Some step.peer x (sym step.is_peer ∙ ap (slice_get s.peers) at_is ∙ here.2)

  abbrev r : Reason
  r = refusal (is_given number) number

  moved : ◌≡◌ {A = DriverPart × PeerPart} (step.new_driver, step.new_peer) (refused_driver d (cmd.Release number) r, x)
  moved = sym step.local.after ∙ ap (effect o step.local.memory d (Some (cmd.Release number))) peer_is ∙ release_effect d number x idle paid opened_driver none_held o step.local.memory

  new_driver : step.new_driver ≡ refused_driver d (cmd.Release number) r
  new_driver = ap (λ z. z.0) moved

  new_peer : step.new_peer ≡ step.peer
  new_peer = ap (λ z. z.1) moved ∙ sym peer_is

  after_is : after_command m (cmd.Release number) y bus ≡ at_peer p (not_released number r) bus
  after_is =
      ap (λ b. cond b (at_peer y.me (λ z. record z { calls = z.calls ++ record { command = cmd.Release number; answer = refused_at reason.Shutdown None } ∷ [] }) bus) (after_release number y bus)) is_open
      ∙ bus_refuses y bus number (is_given number) (held_node y number) unheld
      ∙ ap (λ q. at_peer q (not_released number r) bus) (ap (λ z. z.me) part_is ∙ (rest.numbered.peers p x here.2).me)

  changed : not_released number r (part_of step.peer d) ≡ part_of step.new_peer step.new_driver
  changed = ap (λ z. part_of z (refused_driver d (cmd.Release number) r)) (sym new_peer) ∙ ap (part_of step.new_peer) (sym new_driver)

  -- at rest again
  pub refused_rests : AtRest o t (after_command m (cmd.Release number) y bus)
  refused_rests =
      subst (AtRest o t) (sym after_is)
      (own_step_rests o s bus p (Some (cmd.Release number)) t rest step at_is (not_released number r) (λ z. refl) changed (ap left new_peer) (ap (λ z. z.doing) new_driver) (ap (λ z. z.owed) new_driver ∙ paid))
