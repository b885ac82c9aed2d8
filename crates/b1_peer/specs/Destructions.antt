-- What the notices of a destruction make of a mailbox and of handle records, one doomed node after another.
use Rattle.std.specs.Prelude.{◌≡◌, ℕ, ◌+◌, ◌-◌, ◌<◌, Bool, true, false, if◌then◌else◌, List, [], ◌∷◌, find, is_some}
use Rattle.std.specs.List.{list_any}
use Rattle.b1_model.specs.declared.naming.Key.{Key}
use Rattle.b1_model.specs.declared.naming.NodeRef.{NodeRef}
use Rattle.b1_model.specs.declared.entries.Entry.{Entry}
use Rattle.b1_model.specs.declared.entries.Entry.TheVariants.{OwnNotice, ForeignNotice}
use Rattle.b1_model.specs.MachineParts.{HandleRecord, is_release_notice}
use Rattle.b1_model.specs.MachineTables.{put, without, changed, noticed}
use Rattle.b1_step.specs.Ordered.{NewKey}
use Rattle.b1_handles.specs.Handles.{needs_notice}
use Rattle.b1_peer_queue.specs.Mail.{Mail}

-- the key of a notice that is staged at a place of the doomed list
abbrev pub notice_key : ℕ → ℕ → ℕ → Key
notice_key clock origin index = record { stamp = clock + 1; origin = origin; index = index }

-- an entry comes in
abbrev pub with_entry : Key → Entry → Mail → Mail
with_entry k e m = record m { queue = put k e m.queue; spare = m.spare - 1 }

-- ---- own nodes

-- a node's release notice leaves, if it is there
abbrev pub without_release : ℕ → Mail → Mail
without_release serial m = record m { queue = without (is_release_notice serial) m.queue; spare = if is_some (find (is_release_notice serial) m.queue) then m.spare + 1 else m.spare }

-- a doomed node's notice is staged, and its release notice leaves
abbrev pub own_noticed : ℕ → ℕ → ℕ → ℕ → Mail → Mail
own_noticed clock me index serial m = with_entry (notice_key clock me index) (OwnNotice serial index) (without_release serial m)

-- the same of several, from a place on
abbrev pub all_own_noticed : ℕ → ℕ → ℕ → List ℕ → Mail → Mail
all_own_noticed clock me index [] m = m
all_own_noticed clock me index (serial ∷ rest) m = all_own_noticed clock me (index + 1) rest (own_noticed clock me index serial m)

-- each notice has room, and a new key
abbrev pub OwnNoticesFit : ℕ → ℕ → ℕ → List ℕ → Mail → Type 0
OwnNoticesFit clock me index [] m = Unit {0}
OwnNoticesFit clock me index (serial ∷ rest) m = (0 < (without_release serial m).spare) × NewKey (notice_key clock me index) (without_release serial m).queue × OwnNoticesFit clock me (index + 1) rest (own_noticed clock me index serial m)

-- ---- other peers' nodes

-- what a visit changes: what waits at the peer, and its handle records
pub record Visiting : Type 0 where
  pub mail : Mail
  pub records : List HandleRecord

-- a doomed node of the owner that destroys it
abbrev pub doomed_ref : ℕ → ℕ → NodeRef
doomed_ref owner serial = record { owner = owner; serial = serial }

-- a record gets its notice, where it needs one
abbrev pub notified_by : Bool → ℕ → ℕ → NodeRef → Visiting → Visiting
notified_by false clock index node v = v
notified_by true clock index node v = record { mail = with_entry (notice_key clock node.owner index) (ForeignNotice node index) v.mail; records = changed node noticed v.records }

-- one doomed node at the visited peer
abbrev pub notified : ℕ → ℕ → NodeRef → Visiting → Visiting
notified clock index node v = notified_by (needs_notice node v.records) clock index node v

-- several doomed nodes of an owner, from a place on
abbrev pub all_notified : ℕ → ℕ → ℕ → List ℕ → Visiting → Visiting
all_notified clock owner index [] v = v
all_notified clock owner index (serial ∷ rest) v = all_notified clock owner (index + 1) rest (notified clock index (doomed_ref owner serial) v)

-- whether one of them needs a notice
abbrev pub any_needs : ℕ → List ℕ → List HandleRecord → Bool
any_needs owner doomed records = list_any (λ serial. needs_notice (doomed_ref owner serial) records) doomed

-- each notice that is needed has room, and a new key
abbrev pub NoticesAreNew : ℕ → ℕ → ℕ → List ℕ → Visiting → Type 0
NoticesAreNew clock owner index [] v = Unit {0}
NoticesAreNew clock owner index (serial ∷ rest) v = (needs_notice (doomed_ref owner serial) v.records ≡ true → (0 < v.mail.spare) × NewKey (notice_key clock owner index) v.mail.queue) × NoticesAreNew clock owner (index + 1) rest (notified clock index (doomed_ref owner serial) v)
