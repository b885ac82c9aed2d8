-- What contracts see of the numbers that were given.
use Rattle.std.specs.Prelude.{◌≡◌, ℕ, ◌<◌, ◌==◌, ◌%◌, ◌/◌, if◌then◌else◌, List, ◌++◌, get_or, replicate, set, Option, Some, None}
use Rattle.b1_model.specs.declared.naming.NodeRef.{NodeRef}
use Rattle.b1_handles.specs.declared.numbers.Named.{Named}

-- the node that is held under each number, in the order in which the numbers were given, and how many more are given with no memory
pub record Numbering : Type 0 where
  pub names : List (Option NodeRef)
  pub spare : ℕ

-- the first numbers have ended, and the others are kept
abbrev pub names_of : ℕ → List (Option NodeRef) → List (Option NodeRef)
names_of ended kept = replicate ended None ++ kept

-- the node under the number at a place
abbrev pub name_at : List (Option NodeRef) → ℕ → Option NodeRef
name_at names place = get_or names place None

-- the first number that names a node ends; none, where none does
abbrev pub EndsFirst : List (Option NodeRef) → Option Named → List (Option NodeRef) → Type 0
EndsFirst names None new = (new ≡ names) × ((k : ℕ) → name_at names k ≡ None)
EndsFirst names (Some first) new = (name_at names first.place ≡ Some first.node) × ((k : ℕ) → k < first.place → name_at names k ≡ None) × (new ≡ set names first.place None)

-- the node under a number
abbrev pub node_under : ℕ → List (Option NodeRef) → Option NodeRef
node_under number names = if number % 4 == 2 then name_at names (number / 4) else None
