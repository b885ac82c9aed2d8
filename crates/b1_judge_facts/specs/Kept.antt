-- What is kept of a record: its messages and destructions by stamp and origin, and the first destruction of each node.
use Rattle.std.specs.Prelude.{◌≡◌, ℕ, Bool, false, ◌&&◌, ◌||◌, ◌==◌, if◌then◌else◌, List, [], Option, None, Some}
use Rattle.std.specs.Option.{option_or}
use Rattle.std.specs.BTreeSet.{BTreeSet, contains}
use Rattle.std.specs.Ordering.{nat_cmp, ordering_then}
use Rattle.std.specs.declared.cmp.Ordering.{Ordering}
use Rattle.std.specs.BTreeMap.{BTreeMap, get}
use Rattle.b1_model.specs.declared.naming.Key.{Key}
use Rattle.b1_model.specs.declared.naming.Wire.{Wire}
use Rattle.b1_model.specs.declared.records.Record.{Record}
use Rattle.b1_model.specs.declared.records.Stamp.{Stamp}
use Rattle.b1_model.specs.Names.{Node}
use Rattle.b1_model.specs.Ledger.{is_before, Message, order, message, has_node, is_late}
use Rattle.b1_judge_facts.specs.Facts.{doomed}

-- pairs of numbers, by the first and then by the second
abbrev pub pair_cmp : ℕ × ℕ → ℕ × ℕ → Ordering
pair_cmp x y = ordering_then (nat_cmp x.0 y.0) (nat_cmp x.1 y.1)

abbrev pub kept_at : {X : Type 0} → BTreeMap (ℕ × ℕ) X → ℕ → ℕ → Option X
kept_at m a b = get pair_cmp m (a, b)

-- the nodes that are kept, if any are
abbrev pub kept_nodes : Option (List (Option Node)) → List (Option Node)
kept_nodes None = []
kept_nodes (Some nodes) = nodes

-- the stamp and origin of a destruction, if there is one, are before the call of a key
abbrev pub comes_before : Option (ℕ × ℕ) → Key → Bool
comes_before None key = false
comes_before (Some d) key = is_before d.0 d.1 key.stamp key.origin

-- n is m with w, if there is one, under a stamp and an origin
abbrev pub Keeps : {X : Type 0} → ℕ → ℕ → Option X → BTreeMap (ℕ × ℕ) X → BTreeMap (ℕ × ℕ) X → Type 0
Keeps stamp origin w m n = (t q : ℕ) → kept_at n t q ≡ (if (stamp == t) && (origin == q) then option_or w (kept_at m t q) else kept_at m t q)

-- n is m with a stamp and an origin for those of these nodes that have none
abbrev pub Marks : ℕ → ℕ → List (Option Node) → BTreeMap (ℕ × ℕ) (ℕ × ℕ) → BTreeMap (ℕ × ℕ) (ℕ × ℕ) → Type 0
Marks stamp origin nodes m n = (x : Node) → kept_at n x.owner x.serial ≡ option_or (kept_at m x.owner x.serial) (if has_node x nodes then Some (stamp, origin) else None)

-- the node at a place of an owner is in the set
abbrev pub is_gone_at : BTreeSet (ℕ × ℕ) → ℕ → ℕ → Bool
is_gone_at gone owner serial = contains pair_cmp gone (owner, serial)

-- the node is in the set
abbrev pub is_gone : BTreeSet (ℕ × ℕ) → Node → Bool
is_gone gone x = is_gone_at gone x.owner x.serial

-- the set with these nodes
abbrev pub Adds : List (Option Node) → BTreeSet (ℕ × ℕ) → BTreeSet (ℕ × ℕ) → Type 0
Adds nodes m n = (x : Node) → is_gone n x ≡ (is_gone m x || has_node x nodes)

-- all of a record
pub record IsKept (ws : List Wire) (r : Record) (stamps : List Stamp) (messages : BTreeMap (ℕ × ℕ) Message) (destroyed : BTreeMap (ℕ × ℕ) (List (Option Node))) (first : BTreeMap (ℕ × ℕ) (ℕ × ℕ)) : Type 0 where
  pub order_is : stamps ≡ order r
  pub message_is : (stamp q : ℕ) → kept_at messages stamp q ≡ message ws r stamp q
  pub doomed_is : (stamp q : ℕ) → kept_nodes (kept_at destroyed stamp q) ≡ doomed ws r stamp q
  pub late_is : (x : Node) (key : Key) → comes_before (kept_at first x.owner x.serial) key ≡ is_late ws r x key
