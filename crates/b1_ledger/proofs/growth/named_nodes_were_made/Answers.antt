use Rattle.b1_ledger.proofs.Made.{named_was_made, to_made, doomed_made, epoch_reached}
use Rattle.b1_ledger.proofs.growth.named_nodes_were_made.Goals as goal

pub returns-clause-numbers : goal.returns-clause-numbers
returns-clause-numbers c0 ws r p k n x e = named_was_made ws r p k n x e

pub returns-clause-destinations : goal.returns-clause-destinations
returns-clause-destinations c0 ws r stamp q i m x e f = to_made ws r stamp q m i x e f

pub returns-clause-notices : goal.returns-clause-notices
returns-clause-notices c0 ws r key x e = doomed_made ws r key x e

pub returns-clause-epochs : goal.returns-clause-epochs
returns-clause-epochs c0 ws r x h = epoch_reached ws r x h
