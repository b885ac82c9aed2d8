-- The first of the stamped calls that goes to, or destroys, a node of a peer's epoch.
use Rattle.std.specs.Prelude.{◌≡◌, ℕ, ◌<◌, Bool, false, ◌&&◌, ◌||◌, ◌==◌, if◌then◌else◌, List, [], slice_get, Option, None, Some, unwrap_or}
use Rattle.std.specs.List.{list_any}
use Rattle.std.specs.Option.{option_or}
use Rattle.std.specs.BTreeMap.{BTreeMap}
use Rattle.b1_model.specs.declared.naming.Wire.{Wire}
use Rattle.b1_model.specs.declared.records.Record.{Record}
use Rattle.b1_model.specs.declared.records.Stamp.{Stamp}
use Rattle.b1_model.specs.Names.{Node}
use Rattle.b1_model.specs.Ledger.{Message, message, order}
use Rattle.b1_judge_facts.specs.Facts.{doomed}
use Rattle.b1_judge_facts.specs.Kept.{kept_at, kept_nodes}

-- a node of p, made in an epoch
abbrev pub is_of_epoch : ℕ → ℕ → Option Node → Bool
is_of_epoch p epoch None = false
is_of_epoch p epoch (Some x) = (x.owner == p) && (x.epoch == epoch)

-- one of these nodes is so
abbrev pub has_epoch : ℕ → ℕ → List (Option Node) → Bool
has_epoch p epoch nodes = list_any (is_of_epoch p epoch) nodes

-- the nodes to which a message goes, if there is one
abbrev pub goes_to : Option Message → List (Option Node)
goes_to None = []
goes_to (Some m) = m.to

-- a stamped call goes to a node of p's epoch, or destroys one, where it goes to some nodes and destroys some
abbrev pub is_about_by : (Stamp → List (Option Node)) → (Stamp → List (Option Node)) → ℕ → ℕ → Stamp → Bool
is_about_by to ends p epoch s = has_epoch p epoch (to s) || has_epoch p epoch (ends s)

-- a stamped call of a record goes to a node of p's epoch, or destroys one
abbrev pub is_about : List Wire → Record → ℕ → ℕ → Stamp → Bool
is_about ws r = is_about_by (λ s. goes_to (message ws r s.stamp s.origin)) (λ s. doomed ws r s.stamp s.origin)

-- the same by what is kept
abbrev pub is_kept_about : BTreeMap (ℕ × ℕ) Message → BTreeMap (ℕ × ℕ) (List (Option Node)) → ℕ → ℕ → Stamp → Bool
is_kept_about messages destroyed = is_about_by (λ s. goes_to (kept_at messages s.stamp s.origin)) (λ s. kept_nodes (kept_at destroyed s.stamp s.origin))

-- none of the first n stamped calls passes a test
abbrev pub NonePasses : (Stamp → Bool) → List Stamp → ℕ → Type 0
NonePasses test stamps n = (i : ℕ) (s : Stamp) → i < n → slice_get stamps i ≡ Some s → test s ≡ false

-- the first n stamped calls of the bus order neither go to a node of p's epoch nor destroy one
abbrev pub IsBeforeEpoch : List Wire → Record → ℕ → ℕ → ℕ → Type 0
IsBeforeEpoch ws r p epoch n = NonePasses (is_about ws r p epoch) (order r) n

-- none of the first n stamped calls is about an epoch that has no place, and none before its place about one that has
abbrev pub AreFirst : (ℕ → ℕ → Stamp → Bool) → List Stamp → ℕ → BTreeMap (ℕ × ℕ) ℕ → Type 0
AreFirst about stamps n places = (p epoch : ℕ) → NonePasses (about p epoch) stamps (unwrap_or (kept_at places p epoch) n)

-- n is m with a place for those epochs of these nodes that have none
abbrev pub Notes : ℕ → List (Option Node) → BTreeMap (ℕ × ℕ) ℕ → BTreeMap (ℕ × ℕ) ℕ → Type 0
Notes place nodes m n = (p epoch : ℕ) → kept_at n p epoch ≡ option_or (kept_at m p epoch) (if has_epoch p epoch nodes then Some place else None)
