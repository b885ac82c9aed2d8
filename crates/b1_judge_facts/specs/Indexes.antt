-- The indexes beside the lists of a peer's names and lines.
use Rattle.std.specs.Prelude.{◌≡◌, ℕ, suc, ◌≤◌, Bool, true, false, ◌&&◌, ◌==◌, if◌then◌else◌, List, [], ◌∷◌, map, slice_get, Option, None, Some, option_map, Result, Ok, Err, ⊤}
use Rattle.std.specs.Option.{option_flatten}
use Rattle.std.specs.Ordering.{nat_cmp, ordering_then}
use Rattle.std.specs.declared.alloc.AllocError.{AllocError}
use Rattle.std.specs.declared.cmp.Ordering.{Ordering}
use Rattle.std.specs.BTreeMap.{BTreeMap, get}
use Rattle.std.specs.BTreeSet.{BTreeSet, contains}
use Rattle.b1_model.specs.Names.{Node, Name}
use Rattle.b1_model.specs.Ledger.{Line, is_the_node}
use Rattle.b1_judge_facts.specs.Kept.{pair_cmp}

-- ---- names

-- where the name of a number stands, where the first has the place i
abbrev pub place_from : ℕ → ℕ → List Name → Option ℕ
place_from i n [] = None
place_from i n (m ∷ ms) = if n == m.number then Some i else place_from (suc i) n ms

-- each number has the place of its first name
abbrev pub HasPlaces : List Name → BTreeMap ℕ ℕ → Type 0
HasPlaces names places = (n : ℕ) → get nat_cmp places n ≡ place_from 0 n names

-- the node of p's name, if there is one, at a place
abbrev pub node_by : ℕ → ℕ → Option Name → Option Node
node_by p i None = None
node_by p i (Some m) = Some (record { owner = p; serial = i; epoch = m.epoch })

-- the node of p's name at a place
abbrev pub named_at : ℕ → ℕ → List Name → Option Node
named_at p i names = node_by p i (slice_get names i)

-- ---- lines

-- the line at a place, if it is left
abbrev pub line_at : List (Option Line) → ℕ → Option Line
line_at lines i = option_flatten (slice_get lines i)

-- the lines that are left
abbrev pub lines_left : List (Option Line) → List Line
lines_left [] = []
lines_left (None ∷ ls) = lines_left ls
lines_left (Some l ∷ ls) = l ∷ lines_left ls

-- the node of a line, if there is one
abbrev pub node_in : Option Line → Option Node
node_in None = None
node_in (Some l) = l.node

-- the number of a line, if there is one
abbrev pub number_in : Option Line → Option ℕ
number_in None = None
number_in (Some l) = Some l.number

-- by owner, then by serial, and then by place
abbrev pub place_cmp : (ℕ × ℕ) × ℕ → (ℕ × ℕ) × ℕ → Ordering
place_cmp x y = ordering_then (pair_cmp x.0 y.0) (nat_cmp x.1 y.1)

-- a set has a node's line at a place
abbrev pub has_place : BTreeSet ((ℕ × ℕ) × ℕ) → Node → ℕ → Bool
has_place places x i = contains place_cmp places ((x.owner, x.serial), i)

-- each number that has a line has its place
pub record IsNumbered (lines : List (Option Line)) (by_number : BTreeMap ℕ ℕ) : Type 0 where
  pub at_number : (n i : ℕ) → get nat_cmp by_number n ≡ Some i → number_in (line_at lines i) ≡ Some n
  pub number_of : (n i : ℕ) → number_in (line_at lines i) ≡ Some n → get nat_cmp by_number n ≡ Some i

-- each node that has a line has its places
abbrev pub HasNodes : List (Option Line) → BTreeSet ((ℕ × ℕ) × ℕ) → Type 0
HasNodes lines by_node = (x : Node) (i : ℕ) → has_place by_node x i ≡ is_the_node x (node_in (line_at lines i))

-- both
pub record AreIndexed (lines : List (Option Line)) (by_number : BTreeMap ℕ ℕ) (by_node : BTreeSet ((ℕ × ℕ) × ℕ)) : Type 0 where
  pub numbers : IsNumbered lines by_number
  pub nodes : HasNodes lines by_node

-- the number and the node of each line that is left
abbrev pub key_lines : List (Option Line) → List (Option (ℕ × Option Node))
key_lines lines = map (option_map (λ l. (l.number, l.node))) lines

-- the first place of a node; none where it has none
abbrev pub IsFirstPlace : BTreeSet ((ℕ × ℕ) × ℕ) → Node → Option ℕ → Type 0
IsFirstPlace places x None = (i : ℕ) → has_place places x i ≡ false
IsFirstPlace places x (Some first) = (has_place places x first ≡ true) × ((i : ℕ) → has_place places x i ≡ true → first ≤ i)

-- the set without the place of a node's line, if it is a node's
abbrev pub Forgets : ℕ → Option Node → BTreeSet ((ℕ × ℕ) × ℕ) → BTreeSet ((ℕ × ℕ) × ℕ) → Type 0
Forgets i node places less = (x : Node) (j : ℕ) → has_place less x j ≡ (if is_the_node x node && (i == j) then false else has_place places x j)

-- the set with the place of a node's line, if it is a node's
abbrev pub Remembers : ℕ → Option Node → BTreeSet ((ℕ × ℕ) × ℕ) → BTreeSet ((ℕ × ℕ) × ℕ) → Type 0
Remembers i node places more = (x : Node) (j : ℕ) → has_place more x j ≡ (if is_the_node x node && (i == j) then true else has_place places x j)

-- both indexes with the place of a line, or the same ones where memory lacks
abbrev pub Indexes : Result ⊤ AllocError → ℕ → Line → BTreeMap ℕ ℕ → BTreeMap ℕ ℕ → BTreeSet ((ℕ × ℕ) × ℕ) → BTreeSet ((ℕ × ℕ) × ℕ) → Type 0
Indexes (Ok u) i l numbers numbers' nodes nodes' = ((n : ℕ) → get nat_cmp numbers' n ≡ (if l.number == n then Some i else get nat_cmp numbers n)) × Remembers i l.node nodes nodes'
Indexes (Err e) i l numbers numbers' nodes nodes' = ((n : ℕ) → get nat_cmp numbers' n ≡ get nat_cmp numbers n) × ((x : Node) (j : ℕ) → has_place nodes' x j ≡ has_place nodes x j)
