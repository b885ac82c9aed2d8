-- HANDLE_RELEASE, SLICE_RELEASE, PEER_QUERY, and PEER_RESET without flush, each whole.
use Rattle.std.specs.Prelude.{ℕ, not, if◌then◌else◌, None, Some}
use Rattle.b1_model.specs.declared.naming.Limits.{Limits}
use Rattle.b1_model.specs.declared.commands.Command.TheVariants as cmd
use Rattle.b1_model.specs.declared.answers.Answer.TheVariants as ans
use Rattle.b1_model.specs.declared.answers.Reason.{Reason}
use Rattle.b1_model.specs.declared.answers.Reason.TheVariants as reason
use Rattle.b1_model.specs.Names.{is_given}
use Rattle.b1_model.specs.MachinePool.{given_back, is_received}
use Rattle.b1_model.specs.MachineDriver.{refused_at}
use Rattle.b1_serial_bus.specs.Parts.{Part, Bus, at_peer, called}
use Rattle.b1_serial_bus.specs.Named.{held_node}
use Rattle.b1_serial_bus.specs.References.{lowered}
use Rattle.b1_serial_bus.specs.GivenUp.{given_up}

-- a peer after an accepted HANDLE_RELEASE: the line is held once less
abbrev pub with_released : ℕ → Part → Part
with_released number x =
    called (cmd.Release number) ans.Done (record x { lines = lowered number x.lines })

-- a peer after a refused one
abbrev pub not_released : ℕ → Reason → Part → Part
not_released number r x = called (cmd.Release number) (refused_at r None) x

-- a HANDLE_RELEASE of peer x: the reference is given up
abbrev pub after_release : ℕ → Part → Bus → Bus
after_release number x bus =
    if not (is_given number) then at_peer x.me (not_released number reason.Invalid) bus
    else elim (held_node x number) [
      | None ↦ at_peer x.me (not_released number (reason.Unknown number)) bus
      | Some node ↦ given_up x.clock (at_peer x.me (with_released number) bus) node
    ]

-- a peer after a SLICE_RELEASE
abbrev pub slice_released : ℕ → Part → Part
slice_released offset x =
    let command = cmd.SliceRelease offset in
    if is_received offset x.slices
    then called command ans.Done (record x { slices = given_back offset x.slices })
    else called command (refused_at (reason.Unknown offset) None) x

-- a peer after a PEER_QUERY
abbrev pub queried : Part → Part
queried x = called cmd.Query (ans.Info x.user x.pool x.limits) x

-- a peer after a PEER_RESET without flush
abbrev pub limited : Limits → Part → Part
limited limits x = called (cmd.Limit limits) ans.Done (record x { limits = limits })
