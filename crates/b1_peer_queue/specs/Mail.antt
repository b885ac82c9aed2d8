-- What contracts see of what waits at a peer, and what is always so of it.
use Rattle.std.specs.Prelude.{◌≡◌, ◌≢◌, ℕ, ◌≤◌, ◌==◌, Bool, true, not, if◌then◌else◌, List, [], ◌∷◌, length, map, filter, find, sum_by, Option, Some, None, ⊤}
use Rattle.std.specs.List.{list_any}
use Rattle.b1_model.specs.declared.limits.TheConstants.{MOST_HANDLES, MOST_PAYLOAD}
use Rattle.b1_model.specs.declared.naming.Key.{Key}
use Rattle.b1_model.specs.declared.naming.Limits.{Limits}
use Rattle.b1_model.specs.declared.parts.Slot.{Slot}
use Rattle.b1_model.specs.declared.entries.Entry.{Entry}
use Rattle.b1_model.specs.declared.entries.Entry.TheVariants.{Message, OwnNotice, ForeignNotice, ReleaseNotice}
use Rattle.b1_model.specs.declared.answers.Reason.{Reason}
use Rattle.b1_model.specs.declared.answers.Reason.TheVariants as reason
use Rattle.b1_model.specs.declared.answers.Quantity.{Quantity}
use Rattle.b1_model.specs.declared.answers.Quantity.TheVariants.{Entries, Bytes, Handles}
use Rattle.b1_model.specs.MachineParts.{is_release_notice, carried}
use Rattle.b1_model.specs.MachineTables.{put, put_all, without, is_stage, is_staged_notice, amount, charged, limit_of, within_quota}
use Rattle.b1_model.specs.MachineSend.{first_reason, with_slots, with_stamp}
use Rattle.b1_step.specs.Ordered.{Ascending, NewKey}

-- what waits at a peer: the limits, the peer's own user, the users who may be charged, the queue, and how many more entries fit with no memory
pub record Mail : Type 0 where
  pub limits : Limits
  pub home : ℕ
  pub users : List ℕ
  pub queue : List (Key × Entry)
  pub spare : ℕ

-- ---- what is always so

-- how many entries pass
abbrev pub count : (Key × Entry → Bool) → List (Key × Entry) → ℕ
count test queue = sum_by (λ f. if test f then 1 else 0) queue

-- every entry is so
abbrev pub Every : (Key × Entry → Type 0) → List (Key × Entry) → Type 0
Every P [] = ⊤
Every P (f ∷ rest) = P f × Every P rest

-- a message: its key has its origin and place, its user may be charged, its length is its payload's, and it has a slot for each carried node
pub record IsMessage (users : List ℕ) (k : Key) (origin user index len : ℕ) (nodes slots payload : ℕ) : Type 0 where
  pub origin_is : k.origin ≡ origin
  pub index_is : k.index ≡ index
  pub user_known : list_any (λ u. u == user) users ≡ true
  pub len_is : len ≡ payload
  pub short : payload ≤ MOST_PAYLOAD
  pub slots_are : slots ≡ nodes
  pub few : nodes ≤ MOST_HANDLES

-- the same, of an entry that is one
abbrev pub IsSound : List ℕ → Key × Entry → Type 0
IsSound users (k, Message origin user index serial offset len nodes slots handles payload) = IsMessage users k origin user index len (length nodes) (length slots) (length payload)
IsSound users (k, OwnNotice serial index) = ⊤
IsSound users (k, ForeignNotice node index) = ⊤
IsSound users (k, ReleaseNotice serial) = ⊤

-- the keys rise, a driver has staged one message for a place at most, a node has one release notice at most, and each message is sound
pub record IsMail (users : List ℕ) (queue : List (Key × Entry)) : Type 0 where
  pub ascending : Ascending queue
  pub one_stage : (origin index : ℕ) → count (is_stage origin index) queue ≤ 1
  pub one_release : (serial : ℕ) → count (is_release_notice serial) queue ≤ 1
  pub sound : Every (IsSound users) queue

-- ---- refusals

-- a quantity's refusal, if it is refused
abbrev pub over_limit : Limits → ℕ → List (Key × Entry) → ℕ → ℕ → ℕ → Quantity → Option Reason
over_limit limits home queue user payload handles what =
    let own = charged what (λ u. u == user) queue in
    let others = charged what (λ u. not (u == user)) queue in
    let limit = limit_of what limits in
    let asked = amount what payload handles in
    if within_quota (user == home) own others limit asked then None else Some (reason.Quota what own others limit asked)

-- the first quantity that is refused, of entries, bytes and handles
abbrev pub refusal : Mail → ℕ → ℕ → ℕ → Option Reason
refusal m user payload handles =
    first_reason (over_limit m.limits m.home m.queue user payload handles Entries ∷ over_limit m.limits m.home m.queue user payload handles Bytes ∷ over_limit m.limits m.home m.queue user payload handles Handles ∷ [])

-- the refusal of a message
abbrev pub refusal_of : Mail → Entry → Option Reason
refusal_of m (Message origin user index serial offset len nodes slots handles payload) = refusal m user len (length nodes)
refusal_of m (OwnNotice serial index) = None
refusal_of m (ForeignNotice node index) = None
refusal_of m (ReleaseNotice serial) = None

-- ---- conditions

-- of a release notice: none of its node is queued
abbrev pub IsNewNotice : Entry → List (Key × Entry) → Type 0
IsNewNotice (Message origin user index serial offset len nodes slots handles payload) queue = ⊤
IsNewNotice (OwnNotice serial index) queue = ⊤
IsNewNotice (ForeignNotice node index) queue = ⊤
IsNewNotice (ReleaseNotice serial) queue = find (is_release_notice serial) queue ≡ None

-- no entry has this index
abbrev pub NewIndex : ℕ → List (Key × Entry) → Type 0
NewIndex index queue = Every (λ f. f.0.index ≢ index) queue

-- no two entries have one index
abbrev pub DistinctIndexes : List (Key × Entry) → Type 0
DistinctIndexes [] = ⊤
DistinctIndexes (f ∷ rest) = NewIndex f.0.index rest × DistinctIndexes rest

-- with another stamp none of the entries has the key of one that is there
abbrev pub NewUnder : ℕ → List (Key × Entry) → List (Key × Entry) → Type 0
NewUnder stamp more queue = Every (λ f. NewKey (with_stamp stamp f).0 queue) more

-- ---- changes

-- a staged message that was found gets its final key and its slots
abbrev pub committed_queue : Option (Key × Entry) → ℕ → ℕ → ℕ → List Slot → List (Key × Entry) → List (Key × Entry)
committed_queue None origin index stamp slots queue = queue
committed_queue (Some f) origin index stamp slots queue = put (record { stamp = stamp; origin = origin; index = index }) (with_slots slots f.1) (without (is_stage origin index) queue)

-- what a commit needs, where the staged message is found: a slot for each carried node, and a new key
abbrev pub IsCommittable : Option (Key × Entry) → ℕ → ℕ → ℕ → List Slot → List (Key × Entry) → Type 0
IsCommittable None origin index stamp slots queue = ⊤
IsCommittable (Some f) origin index stamp slots queue = (length slots ≡ length (carried f.1)) × NewKey (record { stamp = stamp; origin = origin; index = index }) queue

-- the staged notices of a driver
abbrev pub staged_notices : ℕ → List (Key × Entry) → List (Key × Entry)
staged_notices origin queue = filter (is_staged_notice origin) queue

-- every staged notice of a driver gets the final stamp
abbrev pub notices_queue : ℕ → ℕ → List (Key × Entry) → List (Key × Entry)
notices_queue origin stamp queue = put_all (map (with_stamp stamp) (staged_notices origin queue)) (without (is_staged_notice origin) queue)
