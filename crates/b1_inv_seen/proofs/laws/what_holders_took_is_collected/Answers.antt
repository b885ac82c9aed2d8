use Rattle.b1_inv_seen.proofs.CollectedKept.{collected_kept}
use Rattle.b1_inv_seen.proofs.SeenBegins.{collected_begins}
use Rattle.b1_inv_seen.proofs.laws.what_holders_took_is_collected.Goals as goal

pub returns-clause-opening_SeenCollected : goal.returns-clause-opening_SeenCollected
returns-clause-opening_SeenCollected c = λ o valid. collected_begins o

pub returns-clause-kept_SeenCollected : goal.returns-clause-kept_SeenCollected
returns-clause-kept_SeenCollected c = λ o s p command t sound right step. collected_kept sound right step
