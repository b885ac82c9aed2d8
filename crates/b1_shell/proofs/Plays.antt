-- A report of a script's version has words for each of its commands.
use Rattle.std.proofs.Common.{List, [], ◌∷◌}
use Rattle.std.specs.List.{AllByRecursion}
use Rattle.b1_model.specs.declared.commands.Command.{Command}
use Rattle.b1_model.specs.declared.commands.Command.TheVariants as cmd
use Rattle.b1_model.specs.declared.version.Version.{Version}
use Rattle.b1_model.specs.declared.version.Version.TheVariants.{One, Two}
use Rattle.b1_play_report.specs.Limits.{IsTold, AreTold}
use Rattle.b1_script.specs.Spelling.{IsWithinOf}

-- the commands that a script file of a version has
is_told : (version : Version) (command : Command) → IsWithinOf version command → IsTold version command
is_told Two command within = tt
is_told One (cmd.Limit limits) within = within
is_told One cmd.Disconnect within = tt
is_told One cmd.Query within = tt
is_told One (cmd.Reset limits) within = tt
is_told One (cmd.Release number) within = tt
is_told One (cmd.Destroy numbers) within = tt
is_told One (cmd.SliceRelease offset) within = tt
is_told One (cmd.Send send) within = tt
is_told One cmd.Recv within = tt
is_told One cmd.Await within = tt

told_in : (version : Version) (commands : List Command) → AllByRecursion (IsWithinOf version) commands → AllByRecursion (IsTold version) commands
told_in version [] within = tt
told_in version (c ∷ cs) within = (is_told version c within.0, told_in version cs within.1)

-- can be told in its report
pub are_told : (version : Version) (lists : List (List Command)) → AllByRecursion (AllByRecursion (IsWithinOf version)) lists → AreTold version lists
are_told version [] within = tt
are_told version (commands ∷ rest) within = (told_in version commands within.0, are_told version rest within.1)
