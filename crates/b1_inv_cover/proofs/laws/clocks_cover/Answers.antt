use Rattle.b1_inv_cover.proofs.Covers.{covers_begin, covers_kept}
use Rattle.b1_inv_cover.proofs.Reached.{reached_covers}
use Rattle.b1_inv_cover.proofs.laws.clocks_cover.Goals as goal

pub returns-clause-opening : goal.returns-clause-opening
returns-clause-opening c = λ o valid. covers_begin o valid

pub returns-clause-kept : goal.returns-clause-kept
returns-clause-kept c = λ o s p command t sound covers step. covers_kept sound covers step

pub returns-clause-reached : goal.returns-clause-reached
returns-clause-reached c = reached_covers
