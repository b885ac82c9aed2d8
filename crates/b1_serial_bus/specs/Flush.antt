-- A whole PEER_RESET with flush, and a whole PEER_DISCONNECT.
use Rattle.std.specs.Prelude.{ℕ, ◌+◌, List, [], ◌∷◌, ◌++◌, Option, None, Some}
use Rattle.std.specs.Prelude.{map, flat_map, fold, slice_get}
use Rattle.b1_model.specs.declared.naming.NodeRef.{NodeRef}
use Rattle.b1_model.specs.declared.commands.Command.{Command}
use Rattle.b1_model.specs.declared.answers.Answer.TheVariants as ans
use Rattle.b1_model.specs.MachinePool.{whole_pool}
use Rattle.b1_model.specs.MachineDriver.{refused_at}
use Rattle.b1_model.specs.MachineTook.{is_disconnect}
use Rattle.b1_model.specs.MachineEvents.{limits_after}
use Rattle.b1_serial_bus.specs.Parts.{Part, Bus, at_peer, called}
use Rattle.b1_serial_bus.specs.Lives.{live_serials}
use Rattle.b1_serial_bus.specs.References.{boxed_references}
use Rattle.b1_serial_bus.specs.GivenUp.{given_up}
use Rattle.b1_serial_bus.specs.Doom.{doom_stamp, destroyed}
use Rattle.b1_serial_bus.specs.Destroy.{overflow_reason}

-- all that a peer has references to: the slots in its box, and its lines
abbrev pub all_references : Part → List NodeRef
all_references x = flat_map boxed_references x.box ++ map (λ l. l.node) x.lines

-- a peer that is called so: without its box and its lines, in the next epoch; a PEER_DISCONNECT
-- keeps the limits
abbrev pub emptied : Command → Option ℕ → Part → Part
emptied command stamp x = called command (ans.Reset stamp) (record x {
  limits = limits_after command x.limits;
  epoch = x.epoch + 1;
  shut = is_disconnect command;
  lines = [];
  slices = whole_pool x.pool;
  box = [];
})

-- the flush of peer x, which ends the command: its references are given up
abbrev pub flushed : Command → Option ℕ → Part → Bus → Bus
flushed command stamp x bus =
    fold (given_up x.clock) (at_peer x.me (emptied command stamp) bus) (all_references x)

-- the flush of a peer as it is by now
abbrev pub flush : Command → Option ℕ → ℕ → Bus → Bus
flush command stamp p bus =
    elim (slice_get bus p) [ None ↦ bus | Some x ↦ flushed command stamp x bus ]

-- the live nodes are destroyed, where there are some, and the flush follows
abbrev pub ended_by : Command → List ℕ → Part → Bus → Bus
ended_by command [] x bus = flush command None x.me bus
ended_by command (serial ∷ rest) x bus =
    let stamp = doom_stamp x (serial ∷ rest) bus in
    flush command (Some stamp) x.me (destroyed stamp x (serial ∷ rest) bus)

-- a PEER_RESET with flush, or a PEER_DISCONNECT, of peer x
abbrev pub after_reset : Command → Part → Bus → Bus
after_reset command x bus = elim (overflow_reason x) [
  | Some r ↦ at_peer x.me (called command (refused_at r None)) bus
  | None ↦ ended_by command (live_serials x) x bus
]
