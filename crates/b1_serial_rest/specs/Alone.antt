-- Commands of one step that touch nothing but their own peer and leave its queue and its nodes.
use Rattle.std.specs.Prelude.{Bool, true, false, ◌||◌}
use Rattle.b1_model.specs.declared.commands.Command.{Command}
use Rattle.b1_model.specs.declared.commands.Command.TheVariants as cmd
use Rattle.b1_serial_bus.specs.Parts.{Part}

-- a SLICE_RELEASE, a PEER_QUERY, or a PEER_RESET without flush
abbrev pub is_small : Command → Bool
is_small command = elim command [
  | cmd.SliceRelease offset ↦ true
  | cmd.Query ↦ true
  | cmd.Limit limits ↦ true
  | other ↦ false
]

-- one of these, or any command of a peer that has disconnected
abbrev pub is_alone : Command → Part → Bool
is_alone command y = y.shut || is_small command
