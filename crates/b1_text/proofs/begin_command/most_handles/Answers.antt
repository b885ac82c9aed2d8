use Rattle.std.proofs.Common.{arith}
use Rattle.b1_text.proofs.begin_command.most_handles.Goals as goal

pub returns : goal.returns
returns c n = (λ h. (omega arith, omega arith), λ h. omega arith)
