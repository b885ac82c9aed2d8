use Rattle.b1_commands.proofs.Ended.{ended_so}
use Rattle.b1_commands.proofs.laws.commands_are_answered.Goals as goal

pub returns : goal.returns
returns c = λ o d command e opening idle comes closed. ended_so o d command e opening idle comes closed
