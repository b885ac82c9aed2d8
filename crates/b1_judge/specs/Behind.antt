-- The calls behind which a walk over the calls of one peer stands.
use Rattle.std.specs.Prelude.{ℕ, List, take}
use Rattle.b1_model.specs.declared.records.Call.{Call}

-- the calls of a peer, and how many of them lie behind
pub record Passed : Type 0 where
  pub calls : List Call
  pub count : ℕ

-- those that lie behind
abbrev pub behind : Passed → List Call
behind x = take x.count x.calls
