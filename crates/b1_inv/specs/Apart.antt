-- Destroy notices that one destruction stages in its own peer's queue have places of their own.
use Rattle.std.specs.Prelude.{◌≢◌, ℕ, AllPairs, filter}
use Rattle.b1_model.specs.MachineParts.{PeerPart, State}
use Rattle.b1_model.specs.MachineTables.{is_staged_notice}
use Rattle.b1_inv.specs.Words.{IsPeer}

-- in each peer's queue no two staged notices of the peer's own nodes have the same place
abbrev pub OwnNoticesApart : State → Type 0
OwnNoticesApart s = (q : ℕ) (x : PeerPart) → IsPeer s q x → AllPairs (λ a b. a.0.index ≢ b.0.index) (filter (is_staged_notice q) x.queue)
