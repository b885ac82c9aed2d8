-- Scripts of which a report can tell: in version 1 no peer sets new limits without a flush.
use Rattle.std.specs.Prelude.{⊤, List}
use Rattle.std.specs.List.{AllByRecursion}
use Rattle.b1_model.specs.declared.commands.Command.{Command}
use Rattle.b1_model.specs.declared.commands.Command.TheVariants as cmd
use Rattle.b1_model.specs.declared.version.Version.{Version}
use Rattle.b1_model.specs.declared.version.Version.TheVariants.{One, Two}

-- any command but a PEER_RESET without flush
abbrev pub IsNotLimit : Command → Type 0
IsNotLimit (cmd.Limit limits) = ⊥
IsNotLimit command = ⊤

-- a command that a report of the version can tell
abbrev pub IsTold : Version → Command → Type 0
IsTold One command = IsNotLimit command
IsTold Two command = ⊤

-- each list has such commands alone
abbrev pub AreTold : Version → List (List Command) → Type 0
AreTold version lists = AllByRecursion (AllByRecursion (IsTold version)) lists
