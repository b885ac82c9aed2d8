-- Empty buffers, and how many of them there are for each number of values.
use Rattle.std.specs.Prelude.{◌≡◌, ℕ, ◌+◌, ◌<◌, ◌≤◌, ◌==◌, if◌then◌else◌, List, [], get_or, length}
use Rattle.std.specs.Vec.{vec_capacity}
use Rattle.b1_peer_dead.specs.declared.stack.Buffers.{Buffers}

-- both are empty, and have room for so many values
pub record AreEmpty (n : ℕ) (b : Buffers) : Type 0 where
  pub no_refs : b.refs.items ≡ []
  pub no_numbers : b.numbers.items ≡ []
  pub refs_fit : n ≤ vec_capacity b.refs
  pub numbers_fit : n ≤ vec_capacity b.numbers

-- how many values each buffer of a stack has room for, how many pairs of buffers there are, and how many more fit with no memory
pub record StackSeen : Type 0 where
  pub size : ℕ
  pub count : ℕ
  pub spare : ℕ

-- a stack of no buffers
abbrev pub no_stack : StackSeen
no_stack = record { size = 0; count = 0; spare = 0 }

-- how many pairs of buffers there are for so many values
abbrev pub count_at : List StackSeen → ℕ → ℕ
count_at stacks n = (get_or stacks n no_stack).count

-- how many more pairs of buffers for so many values fit with no memory
abbrev pub spare_at : List StackSeen → ℕ → ℕ
spare_at stacks n = (get_or stacks n no_stack).spare

-- the buffers of each stack have room for as many values as its place says
abbrev pub AreSized : List StackSeen → Type 0
AreSized stacks = (n : ℕ) → n < length stacks → (get_or stacks n no_stack).size ≡ n

-- no pair of buffers is lost
abbrev pub AsMany : List StackSeen → List StackSeen → Type 0
AsMany old new = (m : ℕ) → count_at old m ≤ count_at new m

-- one pair for so many values is lost at most
abbrev pub LosesOne : ℕ → List StackSeen → List StackSeen → Type 0
LosesOne n old new = (m : ℕ) → count_at old m ≤ count_at new m + (if n == m then 1 else 0)

-- one more pair for so many values is there
abbrev pub GainsOne : ℕ → List StackSeen → List StackSeen → Type 0
GainsOne n old new = (m : ℕ) → count_at old m + (if n == m then 1 else 0) ≤ count_at new m
