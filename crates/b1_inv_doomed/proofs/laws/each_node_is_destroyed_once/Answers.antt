use Rattle.b1_inv_doomed.proofs.KeysKept.{keys_begin, keys_kept}
use Rattle.b1_inv_doomed.proofs.laws.each_node_is_destroyed_once.Goals as goal

pub returns-clause-opening_DoomKeysRight : goal.returns-clause-opening_DoomKeysRight
returns-clause-opening_DoomKeysRight c = λ o is. keys_begin o

pub returns-clause-kept_DoomKeysRight : goal.returns-clause-kept_DoomKeysRight
returns-clause-kept_DoomKeysRight c = λ o s p command t sound right step. keys_kept sound right step
