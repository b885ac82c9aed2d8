-- A node's counts, of which those that take no room are 0.
use Rattle.std.specs.Prelude.{ℕ, ◌-◌, List, ◌++◌, length, replicate}

-- counts with zeros behind them, as many as are missing
abbrev pub padded : ℕ → List ℕ → List ℕ
padded peers counts = counts ++ replicate (peers - length counts) 0
