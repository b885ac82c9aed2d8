-- The receipts behind the first.
use Rattle.std.proofs.Common.{suc, All, drop, List, [], ◌∷◌, arith}
use Rattle.b1_model.specs.declared.answers.Receipt.{Receipt}
use Rattle.b1_port_memory.specs.Memory.{HasEvenStamp}

pub behind_first : (gives : List Receipt) → All HasEvenStamp gives → All HasEvenStamp (drop 1 gives)
behind_first [] all = all
behind_first (r ∷ rest) all = λ k d within. all (suc k) d (omega arith)
