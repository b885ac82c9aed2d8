-- A command of one step that leaves its peer's queue and nodes leads from rest to rest.
use Rattle.std.proofs.Common.{◌≡◌, refl, sym, ap, ◌∙◌, subst, ℕ, Bool, true, false, cond, ◌||◌, [], Some, None}
use Rattle.std.specs.Prelude.{slice_get}
use Rattle.std.proofs.lemmas.Option.{same_Some}
use Rattle.b1_model.specs.declared.naming.Opening.{Opening}
use Rattle.b1_model.specs.declared.commands.Command.{Command}
use Rattle.b1_model.specs.declared.commands.Command.TheVariants as cmd
use Rattle.b1_model.specs.declared.answers.Reason.TheVariants as reason
use Rattle.b1_model.specs.MachinePool.{is_received}
use Rattle.b1_model.specs.MachineParts.{PeerPart, DriverPart, State}
use Rattle.b1_model.specs.MachineDriver.{refused_at}
use Rattle.b1_model.specs.MachineReceive.{slice_given_back}
use Rattle.b1_model.specs.MachineEvents.{local_part}
use Rattle.b1_model.specs.MachineStep.{Step}
use Rattle.b1_schedule.specs.Shortage.{Shortage}
use Rattle.b1_serial_bus.specs.Parts.{Part, Bus, at_peer, called}
use Rattle.b1_serial_bus.specs.Commands.{as_called, after_open, after_command}
use Rattle.b1_serial_rest.specs.Standing.{part_of}
use Rattle.b1_serial_rest.specs.Rest.{AtRest}
use Rattle.b1_serial_rest.specs.Alone.{is_small, is_alone}
use Rattle.b1_serial_rest.proofs.Own.{Parts, parts_at, left, own_step_rests}
use Rattle.b1_serial_rest.proofs.Local.{alone_change, local_driver, alone_same, local_target, local_effect}
use Rattle.b1_serial_rest.proofs.Shown.{alone_shown}

-- what a small command leaves of its peer's part
local_left : (shut : Bool) (command : Command) (x : PeerPart) → left (local_part shut command x) ≡ left x
local_left true command x = refl
local_left false (cmd.Send c) x = refl
local_left false cmd.Recv x = refl
local_left false cmd.Await x = refl
local_left false (cmd.Release number) x = refl
local_left false (cmd.Destroy numbers) x = refl
local_left false (cmd.Reset limits) x = refl
local_left false cmd.Disconnect x = refl
local_left false (cmd.SliceRelease offset) x = elim (is_received offset x.slices) as (λ b. left (slice_given_back b x offset) ≡ left x) [ true ↦ refl | false ↦ refl ]
local_left false cmd.Query x = refl
local_left false (cmd.Limit limits) x = refl

-- ---- the bus after it

-- the command changes its own peer of the bus
after_alone : (m : Shortage) (command : Command) (y : Part) (bus : Bus) → is_alone command y ≡ true → after_command m command y bus ≡ at_peer y.me (alone_change y.shut command) bus
after_alone m command y bus alone = by y.shut alone
  where
    small : (command : Command) → is_small command ≡ true → after_open m command y bus ≡ at_peer y.me (alone_change false command) bus
    small (cmd.Send c) none = absurd (cc none)
    small cmd.Recv none = absurd (cc none)
    small cmd.Await none = absurd (cc none)
    small (cmd.Release number) none = absurd (cc none)
    small (cmd.Destroy numbers) none = absurd (cc none)
    small (cmd.Reset limits) none = absurd (cc none)
    small cmd.Disconnect none = absurd (cc none)
    small (cmd.SliceRelease offset) one = refl
    small cmd.Query one = refl
    small (cmd.Limit limits) one = refl

    by : (shut : Bool) → shut || is_small command ≡ true → cond shut (at_peer y.me (called (as_called command) (refused_at reason.Shutdown None)) bus) (after_open m command y bus) ≡ at_peer y.me (alone_change shut command) bus
    by true alone = refl
    by false alone = small command alone

-- ---- the command

module _ (o : Opening) (s : State) (bus : Bus) (p : ℕ) (y : Part) (command : Command) (m : Shortage) (t : State)
    (rest : AtRest o s bus) (is : slice_get bus p ≡ Some y) (alone : is_alone command y ≡ true) (step : Step o s p (Some command) t) where
  here : Parts s.peers s.drivers p y
  here = parts_at s.peers s.drivers p y (ap (λ b. slice_get b p) (sym rest.is_bus) ∙ is)

  abbrev d : DriverPart
  d = step.driver

  abbrev x : PeerPart
  x = step.peer

  driver_is : here.1 ≡ d
  driver_is = same_Some here.1 d (sym here.3 ∙ step.is_driver)

  idle : d.doing ≡ None
  idle = rest.quiet.idle p d step.is_driver

  paid : d.owed ≡ []
  paid = rest.quiet.paid p d step.is_driver

  shut_is : y.shut ≡ d.shut
  shut_is = ap (λ z. z.shut) here.4 ∙ ap (λ z. z.shut) driver_is

  small : d.shut || is_small command ≡ true
  small = ap (λ b. b || is_small command) (sym shut_is) ∙ alone

  at_is : step.at ≡ p
  at_is =
      ap (λ r. elim r [ None ↦ 0 | Some a ↦ a.1 ]) (sym step.is_target ∙ local_target d command idle paid small)
      ∙ rest.numbered.drivers p d step.is_driver

  peer_there : slice_get s.peers p ≡ Some x
  peer_there = ap (slice_get s.peers) (sym at_is) ∙ step.is_peer

  part_is : y ≡ part_of x d
  part_is = here.4 ∙ ap (λ z. part_of z here.1) (same_Some here.0 x (sym here.2 ∙ peer_there)) ∙ ap (part_of x) driver_is

  moved : ◌≡◌ {A = DriverPart × PeerPart} (step.new_driver, step.new_peer) (local_driver d command x, local_part d.shut command x)
  moved = sym step.local.after ∙ local_effect d command idle paid small o step.local.memory x

  new_driver : step.new_driver ≡ local_driver d command x
  new_driver = ap (λ z. z.0) moved

  new_peer : step.new_peer ≡ local_part d.shut command x
  new_peer = ap (λ z. z.1) moved

  new_left : left step.new_peer ≡ left x
  new_left = ap left new_peer ∙ local_left d.shut command x

  -- the bus after the command is the state's after the step
  abbrev change : Part → Part
  change = alone_change y.shut command

  after_is : after_command m command y bus ≡ at_peer p change bus
  after_is = after_alone m command y bus alone ∙ ap (λ q. at_peer q change bus) (ap (λ z. z.me) part_is ∙ (rest.numbered.peers p x peer_there).me)

  changed : change (part_of x d) ≡ part_of step.new_peer step.new_driver
  changed =
      alone_same command x d y.shut (sym shut_is) alone
      ∙ ap (λ z. part_of z (local_driver d command x)) (sym new_peer) ∙ ap (part_of step.new_peer) (sym new_driver)

  -- at rest again
  pub rests : AtRest o t (after_command m command y bus)
  rests =
      subst (AtRest o t) (sym after_is)
      (own_step_rests o s bus p (Some command) t rest step at_is change (λ z. alone_shown y.shut command z) changed new_left (ap (λ z. z.doing) new_driver) (ap (λ z. z.owed) new_driver ∙ paid))
