use Rattle.b1_inv_names.proofs.Dooming.{doom_begins, doom_kept}
use Rattle.b1_inv_names.proofs.laws.flushes_doom_all.Goals as goal

pub returns-clause-opening_FlushesDoomAll : goal.returns-clause-opening_FlushesDoomAll
returns-clause-opening_FlushesDoomAll c = λ o is. doom_begins o

pub returns-clause-kept_FlushesDoomAll : goal.returns-clause-kept_FlushesDoomAll
returns-clause-kept_FlushesDoomAll c = λ o s p command t sound all step. doom_kept sound all step
