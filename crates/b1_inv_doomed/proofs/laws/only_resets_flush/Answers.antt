use Rattle.b1_inv_doomed.proofs.Flushing.{flushes_begin, flushes_kept}
use Rattle.b1_inv_doomed.proofs.laws.only_resets_flush.Goals as goal

pub returns-clause-opening_FlushCommands : goal.returns-clause-opening_FlushCommands
returns-clause-opening_FlushCommands c = λ o is. flushes_begin o

pub returns-clause-kept_FlushCommands : goal.returns-clause-kept_FlushCommands
returns-clause-kept_FlushCommands c = λ o s p command t sound right step. flushes_kept right.destructions.flushes step
