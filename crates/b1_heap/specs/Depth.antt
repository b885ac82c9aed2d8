-- How deep a heap is.
use Rattle.std.specs.Prelude.{ℕ, ◌+◌, ◌^◌, ◌<◌, ◌≤◌}

-- depth is the greatest number for which 2 ^ depth is at most n
abbrev pub IsDepth : ℕ → ℕ → Type 0
IsDepth depth n = (2 ^ depth ≤ n) × (n < 2 ^ (depth + 1))
