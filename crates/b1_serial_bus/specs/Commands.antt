-- Any whole command of a peer.
use Rattle.std.specs.Prelude.{ℕ, if◌then◌else◌, None, Some, length, slice_get}
use Rattle.b1_model.specs.declared.commands.Command.{Command}
use Rattle.b1_model.specs.declared.commands.Command.TheVariants as cmd
use Rattle.b1_model.specs.declared.answers.Reason.TheVariants as reason
use Rattle.b1_model.specs.MachineDriver.{refused_at}
use Rattle.b1_model.specs.Script.{resolved}
use Rattle.b1_schedule.specs.Shortage.{Shortage}
use Rattle.b1_serial_bus.specs.Parts.{Part, Bus, at_peer, called}
use Rattle.b1_serial_bus.specs.Send.{after_send}
use Rattle.b1_serial_bus.specs.Receive.{received}
use Rattle.b1_serial_bus.specs.Destroy.{after_destroy}
use Rattle.b1_serial_bus.specs.Flush.{after_reset}
use Rattle.b1_serial_bus.specs.Small.{after_release, slice_released, queried, limited}

-- a command as it stands among the calls: an AWAIT as a RECV
abbrev pub as_called : Command → Command
as_called command = elim command [ cmd.Await ↦ cmd.Recv | other ↦ other ]

-- the bus after a command of peer x, which hasn't disconnected; memory is wanting at the places m
abbrev pub after_open : Shortage → Command → Part → Bus → Bus
after_open m (cmd.Send c) x bus = after_send (m x.me (length x.calls)) c x bus
after_open m cmd.Recv x bus = at_peer x.me received bus
after_open m cmd.Await x bus = at_peer x.me received bus
after_open m (cmd.Release number) x bus = after_release number x bus
after_open m (cmd.Destroy numbers) x bus = after_destroy numbers x bus
after_open m (cmd.Reset limits) x bus = after_reset (cmd.Reset limits) x bus
after_open m cmd.Disconnect x bus = after_reset cmd.Disconnect x bus
after_open m (cmd.SliceRelease offset) x bus = at_peer x.me (slice_released offset) bus
after_open m cmd.Query x bus = at_peer x.me queried bus
after_open m (cmd.Limit limits) x bus = at_peer x.me (limited limits) bus

-- the bus after a command of peer x; one that has disconnected is refused
abbrev pub after_command : Shortage → Command → Part → Bus → Bus
after_command m command x bus =
    if x.shut then at_peer x.me (called (as_called command) (refused_at reason.Shutdown None)) bus
    else after_open m command x bus

-- the bus after a command of peer p, with its references resolved as it begins
abbrev pub after_command_of : Shortage → ℕ → Command → Bus → Bus
after_command_of m p command bus = elim (slice_get bus p) [
  | None ↦ bus
  | Some x ↦ after_command m (resolved command x.calls) x bus
]
