use Rattle.b1_inv_names.proofs.Epochs.{epochs_begin, epochs_kept}
use Rattle.b1_inv_names.proofs.laws.epochs_stay_counted.Goals as goal

pub returns-clause-opening_EpochCounted : goal.returns-clause-opening_EpochCounted
returns-clause-opening_EpochCounted c = λ o is. epochs_begin o

pub returns-clause-kept_EpochCounted : goal.returns-clause-kept_EpochCounted
returns-clause-kept_EpochCounted c = λ o s p command t sound right step. epochs_kept sound right.names.epochs step
