use Rattle.b1_inv_seen.proofs.SeenBegins.{travels_begin}
use Rattle.b1_inv_seen.proofs.SeenKept.{travels_kept}
use Rattle.b1_inv_seen.proofs.laws.what_holders_took_travels.Goals as goal

pub returns-clause-opening_SeenTravels : goal.returns-clause-opening_SeenTravels
returns-clause-opening_SeenTravels c = λ o valid. travels_begin o

pub returns-clause-kept_SeenTravels : goal.returns-clause-kept_SeenTravels
returns-clause-kept_SeenTravels c = λ o s p command t sound right step. travels_kept sound right step
