-- The entries that a peer may receive next, below a key.
use Rattle.std.specs.Prelude.{◌≡◌, ℕ, ◌<◌, Bool, true, false, List, slice_get, Option, None, Some}
use Rattle.b1_model.specs.declared.naming.Key.{Key}
use Rattle.b1_model.specs.declared.records.Stamp.{Stamp}
use Rattle.b1_model.specs.Ledger.{is_before, is_below}
use Rattle.b1_model.specs.Legal.{is_message, is_notice, is_candidate}
use Rattle.b1_judge_facts.specs.Facts.{Gathered, Place}

-- the key of a place of a stamped call
abbrev pub key_at : Stamp → ℕ → Key
key_at s i = record { stamp = s.stamp; origin = s.origin; index = i }

-- a key is below a limit, if there is one
abbrev pub is_under : Key → Option Key → Bool
is_under key None = true
is_under key (Some limit) = is_below key limit

-- an entry under the limit may be received next
abbrev pub HasCandidate : Place → Option Key → Type 0
HasCandidate at limit = (key : Key) × (is_candidate at.wires at.rec at.peer at.call key ≡ true) × (is_under key limit ≡ true)

-- a message of this stamped call, under the limit, may be received next
abbrev pub HasMessageOf : Place → Stamp → Option Key → Type 0
HasMessageOf at s limit = (i : ℕ) × (is_message at.wires at.rec at.peer at.call (key_at s i) ≡ true) × (is_under (key_at s i) limit ≡ true)

-- a notice of this stamped call, under the limit, may be received next
abbrev pub HasNoticeOf : Place → Stamp → Option Key → Type 0
HasNoticeOf at s limit = (i : ℕ) × (is_notice at.wires at.rec at.peer at.call (key_at s i) ≡ true) × (is_under (key_at s i) limit ≡ true)

-- an entry of this stamped call, under the limit, may be received next
abbrev pub HasCandidateOf : Place → Stamp → Option Key → Type 0
HasCandidateOf at s limit = (i : ℕ) × (is_candidate at.wires at.rec at.peer at.call (key_at s i) ≡ true) × (is_under (key_at s i) limit ≡ true)

-- none of the first n stamped calls has an entry that may be received next
abbrev pub HasNoneBefore : Place → List Stamp → ℕ → Type 0
HasNoneBefore at stamps n = (i : ℕ) (s : Stamp) → i < n → slice_get stamps i ≡ Some s → ¬ HasCandidateOf at s None

-- a stamped call is before that of a key, if there is one
abbrev pub is_passed : Stamp → Option Key → Bool
is_passed s None = false
is_passed s (Some key) = is_before s.stamp s.origin key.stamp key.origin

-- a stamped call is after that of a key, if there is one
abbrev pub is_beyond : Stamp → Option Key → Bool
is_beyond s None = false
is_beyond s (Some key) = is_before key.stamp key.origin s.stamp s.origin

-- a walk goes along the record that was gathered
pub record IsAlong (at : Place) (from : Gathered) : Type 0 where
  pub wires : at.wires ≡ from.wires
  pub rec : at.rec ≡ from.rec
