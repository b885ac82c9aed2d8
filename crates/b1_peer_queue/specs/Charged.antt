-- What users' accounts have to do with the queue.
use Rattle.std.specs.Prelude.{◌≡◌, ℕ, ◌≤◌, Bool, true, List, length, Option, Some, None, ⊤, if◌then◌else◌}
use Rattle.b1_model.specs.declared.limits.TheConstants.{MOST_HANDLES, MOST_PAYLOAD}
use Rattle.b1_model.specs.declared.naming.Key.{Key}
use Rattle.b1_model.specs.declared.entries.Entry.{Entry}
use Rattle.b1_model.specs.declared.entries.Entry.TheVariants.{Message, OwnNotice, ForeignNotice, ReleaseNotice}
use Rattle.b1_model.specs.declared.entries.Charge.{Charge}
use Rattle.b1_model.specs.declared.answers.Quantity.{Quantity}
use Rattle.b1_model.specs.declared.answers.Reason.{Reason}
use Rattle.b1_model.specs.declared.answers.Reason.TheVariants as reason
use Rattle.b1_model.specs.MachinePool.{slice_len}
use Rattle.b1_model.specs.MachineTables.{amount, charged}
use Rattle.b1_quota.specs.declared.accounts.Account.{Account}
use Rattle.b1_quota.specs.declared.quota.Over.{Over}
use Rattle.b1_quota.specs.Accounts.{charged_to, has_account, own, users_of}
use Rattle.b1_quota.specs.Charges.{Charges, refusal}
use Rattle.b1_peer_queue.specs.Mail.{IsMail}

-- users are charged what the queue's messages are, and the queue is in order
pub record IsCharged (accounts : List Account) (queue : List (Key × Entry)) : Type 0 where
  pub mail : IsMail (users_of accounts) queue
  pub charges : (what : Quantity) (passes : ℕ → Bool) → charged_to what passes accounts ≡ charged what passes queue

-- what a message is charged
abbrev pub charge_for : ℕ → ℕ → Charge
charge_for payload handles = record { entries = 1; bytes = slice_len payload handles; handles = handles }

-- whom an entry is charged to, and what
abbrev pub charge_of : Entry → Option (ℕ × Charge)
charge_of (Message origin user index serial offset len nodes slots handles payload) = Some (user, charge_for len (length nodes))
charge_of (OwnNotice serial index) = None
charge_of (ForeignNotice node index) = None
charge_of (ReleaseNotice serial) = None

-- a quota's refusal as a reason
abbrev pub reason_of : Over → Reason
reason_of over = reason.Quota over.what over.own over.others over.limit over.asked

-- an entry that is small enough to be charged: a message's length and its carried nodes
abbrev pub IsSmall : Entry → Type 0
IsSmall (Message origin user index serial offset len nodes slots handles payload) = (len ≤ MOST_PAYLOAD) × (length nodes ≤ MOST_HANDLES)
IsSmall (OwnNotice serial index) = ⊤
IsSmall (ForeignNotice node index) = ⊤
IsSmall (ReleaseNotice serial) = ⊤

-- an entry that has as many slots as there are
abbrev pub HasSlots : ℕ → Entry → Type 0
HasSlots n (Message origin user index serial offset len nodes slots handles payload) = length slots ≡ n
HasSlots n (OwnNotice serial index) = ⊤
HasSlots n (ForeignNotice node index) = ⊤
HasSlots n (ReleaseNotice serial) = ⊤

-- how much of a quantity the users that pass are charged for an entry
abbrev pub weight : Quantity → (ℕ → Bool) → Entry → ℕ
weight what passes (Message origin user index serial offset len nodes slots handles payload) = if passes user then amount what len (length nodes) else 0
weight what passes (OwnNotice serial index) = 0
weight what passes (ForeignNotice node index) = 0
weight what passes (ReleaseNotice serial) = 0

-- an entry that a quota lets in: its user has an account, and no quantity is refused
abbrev pub IsAdmitted : Charges → Entry → Type 0
IsAdmitted q (Message origin user index serial offset len nodes slots handles payload) = (has_account user q.accounts ≡ true) × (refusal q user (charge_for len (length nodes)) ≡ None)
IsAdmitted q (OwnNotice serial index) = ⊤
IsAdmitted q (ForeignNotice node index) = ⊤
IsAdmitted q (ReleaseNotice serial) = ⊤

-- an entry whose user is charged at least what it weighs
abbrev pub IsChargeable : List Account → Entry → Type 0
IsChargeable accounts (Message origin user index serial offset len nodes slots handles payload) = (has_account user accounts ≡ true) × ((what : Quantity) → amount what len (length nodes) ≤ own what user accounts)
IsChargeable accounts (OwnNotice serial index) = ⊤
IsChargeable accounts (ForeignNotice node index) = ⊤
IsChargeable accounts (ReleaseNotice serial) = ⊤
