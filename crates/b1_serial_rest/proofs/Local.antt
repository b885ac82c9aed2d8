-- A SLICE_RELEASE, a PEER_QUERY, a PEER_RESET without flush, and any command of a shut peer, is one step of the machine.
use Rattle.std.proofs.Common.{◌≡◌, refl, sym, ap, ◌∙◌, ℕ, Bool, true, false, cond, ◌||◌, List, [], ◌∷◌, ◌++◌, Some, None}
use Rattle.b1_model.specs.declared.naming.Opening.{Opening}
use Rattle.b1_model.specs.declared.commands.Command.{Command}
use Rattle.b1_model.specs.declared.commands.Command.TheVariants as cmd
use Rattle.b1_model.specs.declared.answers.Reason.TheVariants as reason
use Rattle.b1_model.specs.declared.events.Action.{Action}
use Rattle.b1_model.specs.declared.events.Action.TheVariants as act
use Rattle.b1_model.specs.declared.events.OwedDrop.{OwedDrop}
use Rattle.b1_model.specs.declared.events.Phase.TheVariants.{Starting}
use Rattle.b1_model.specs.MachineParts.{PeerPart, DriverPart}
use Rattle.b1_model.specs.MachinePool.{is_received}
use Rattle.b1_model.specs.MachineDriver.{first_action, phase_action, next_action, peer_of, refused_at}
use Rattle.b1_model.specs.MachineTook.{took, call_of}
use Rattle.b1_model.specs.MachineEvents.{happens, local_answer, local_part}
use Rattle.b1_model.specs.MachineStep.{begun_by, aimed, target, effect_by, effect}
use Rattle.b1_serial_bus.specs.Parts.{Part, called}
use Rattle.b1_serial_bus.specs.Small.{slice_released, queried, limited}
use Rattle.b1_serial_bus.specs.Commands.{as_called}
use Rattle.b1_serial_rest.specs.Standing.{part_of}
use Rattle.b1_serial_rest.specs.Alone.{is_small}

-- what the command makes of its peer of the serial bus
abbrev pub small_change : Command → Part → Part
small_change command y = elim command [
  | cmd.SliceRelease offset ↦ slice_released offset y
  | cmd.Query ↦ queried y
  | cmd.Limit limits ↦ limited limits y
  | other ↦ y
]

abbrev pub alone_change : Bool → Command → Part → Part
alone_change shut command y = cond shut (called (as_called command) (refused_at reason.Shutdown None) y) (small_change command y)

-- the driver's part after it
abbrev pub local_driver : DriverPart → Command → PeerPart → DriverPart
local_driver d command x = record d { doing = None; calls = d.calls ++ call_of command (local_answer d.shut command x) }

-- ---- the calls

-- a refusal for a shutdown is a call
refused_call : (command : Command) → call_of command (refused_at reason.Shutdown None) ≡ record { command = as_called command; answer = refused_at reason.Shutdown None } ∷ []
refused_call (cmd.Send c) = refl
refused_call cmd.Recv = refl
refused_call cmd.Await = refl
refused_call (cmd.Release number) = refl
refused_call (cmd.Destroy numbers) = refl
refused_call (cmd.Reset limits) = refl
refused_call cmd.Disconnect = refl
refused_call (cmd.SliceRelease offset) = refl
refused_call cmd.Query = refl
refused_call (cmd.Limit limits) = refl

-- ---- the parts

-- the peer's part and the driver's part then are the peer of the serial bus then
pub alone_same : (command : Command) (x : PeerPart) (d : DriverPart) (shut : Bool) → d.shut ≡ shut → shut || is_small command ≡ true → alone_change shut command (part_of x d) ≡ part_of (local_part d.shut command x) (local_driver d command x)
alone_same command x d shut is alone = by shut alone is ∙ ap (λ b. part_of (local_part b command x) (record d { doing = None; calls = d.calls ++ call_of command (local_answer b command x) })) (sym is)
  where
    released : (offset : ℕ) (b : Bool) → is_received offset x.slices ≡ b → slice_released offset (part_of x d) ≡ part_of (local_part false (cmd.SliceRelease offset) x) (record d { doing = None; calls = d.calls ++ call_of (cmd.SliceRelease offset) (local_answer false (cmd.SliceRelease offset) x) })
    released offset true inside = rw inside refl
    released offset false outside = rw outside refl

    small : (command : Command) → is_small command ≡ true → small_change command (part_of x d) ≡ part_of (local_part false command x) (record d { doing = None; calls = d.calls ++ call_of command (local_answer false command x) })
    small (cmd.Send c) none = absurd (cc none)
    small cmd.Recv none = absurd (cc none)
    small cmd.Await none = absurd (cc none)
    small (cmd.Release number) none = absurd (cc none)
    small (cmd.Destroy numbers) none = absurd (cc none)
    small (cmd.Reset limits) none = absurd (cc none)
    small cmd.Disconnect none = absurd (cc none)
    small (cmd.SliceRelease offset) one = released offset (is_received offset x.slices) refl
    small cmd.Query one = refl
    small (cmd.Limit limits) one = refl

    by : (shut : Bool) → shut || is_small command ≡ true → d.shut ≡ shut → alone_change shut command (part_of x d) ≡ part_of (local_part shut command x) (record d { doing = None; calls = d.calls ++ call_of command (local_answer shut command x) })
    by true alone is = ap (λ calls. record (part_of x d) { calls = d.calls ++ calls }) (sym (refused_call command))
    by false alone is = small command alone

-- ---- the step

-- the first event is the command's only one
local_first : (shut : Bool) (command : Command) → shut || is_small command ≡ true → cond shut act.Local (first_action command) ≡ act.Local
local_first true command alone = refl
local_first false (cmd.Send c) none = absurd (cc none)
local_first false cmd.Recv none = absurd (cc none)
local_first false cmd.Await none = absurd (cc none)
local_first false (cmd.Release number) none = absurd (cc none)
local_first false (cmd.Destroy numbers) none = absurd (cc none)
local_first false (cmd.Reset limits) none = absurd (cc none)
local_first false cmd.Disconnect none = absurd (cc none)
local_first false (cmd.SliceRelease offset) alone = refl
local_first false cmd.Query alone = refl
local_first false (cmd.Limit limits) alone = refl

module _ (d : DriverPart) (command : Command) (idle : d.doing ≡ None) (paid : d.owed ≡ []) (alone : d.shut || is_small command ≡ true) where
  -- the driver's part as the command begins
  abbrev beginning : DriverPart
  beginning = record d { doing = Some (record { command = command; phase = Starting }) }

  abbrev next_by : List OwedDrop → Action
  next_by owed = elim owed [
    | [] ↦ phase_action d.me d.shut command Starting
    | drop ∷ rest ↦ act.DropRefs drop.node.owner drop.node.serial drop.holder drop.amount drop.clock
  ]

  next_is : next_action beginning ≡ act.Local
  next_is = ap next_by paid ∙ local_first d.shut command alone

  pub local_target : target d (Some command) ≡ Some (act.Local, d.me)
  local_target =
      ap (λ r. elim (begun_by d r (Some command)) [ None ↦ None | Some e ↦ Some (aimed e) ]) idle
      ∙ ap (λ a. Some (a, peer_of d.me a)) next_is

  pub local_effect : (o : Opening) (memory : Bool) (x : PeerPart) → effect o memory d (Some command) x ≡ (local_driver d command x, local_part d.shut command x)
  local_effect o memory x =
      ap (λ r. effect_by o memory d (begun_by d r (Some command)) x) idle
      ∙ ap (λ a. (took beginning (happens o memory beginning (record { command = command; phase = Starting }) a x).0, (happens o memory beginning (record { command = command; phase = Starting }) a x).1)) next_is
