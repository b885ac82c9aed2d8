-- How much was sent to a peer, how much of it is queued there, and how much the peer has taken: each message counts by its length.
use Rattle.std.specs.Prelude.{ℕ, ◌+◌, ◌/◌, ◌==◌, nat_lt, Bool, true, false, if◌then◌else◌, List, length, take, sum_by, Some, None}
use Rattle.b1_model.specs.declared.naming.Key.{Key}
use Rattle.b1_model.specs.declared.commands.Command.{Command}
use Rattle.b1_model.specs.declared.commands.Command.TheVariants as cmd
use Rattle.b1_model.specs.declared.entries.Entry.{Entry}
use Rattle.b1_model.specs.declared.entries.Entry.TheVariants.{Message, OwnNotice, ForeignNotice, ReleaseNotice}
use Rattle.b1_model.specs.declared.answers.Answer.{Answer}
use Rattle.b1_model.specs.declared.answers.Answer.TheVariants.{Got}
use Rattle.b1_model.specs.declared.answers.Receipt.TheVariants as receipt
use Rattle.b1_model.specs.declared.records.Call.{Call}
use Rattle.b1_model.specs.declared.events.Phase.{Phase}
use Rattle.b1_model.specs.declared.events.Phase.TheVariants.{Staging, Attaching, Stamping, Syncing, Committing}
use Rattle.b1_model.specs.MachineParts.{PeerPart, DriverPart, State}
use Rattle.b1_model.specs.MachineDriver.{send_of}

-- the peer whose node a handle of a peer names
abbrev pub owner_of : ℕ → ℕ → ℕ
owner_of me h = if nat_lt (h / 4) me then h / 4 else h / 4 + 1

-- a number where a test is passed
abbrev pub where_true : Bool → ℕ → ℕ
where_true passes n = if passes then n else 0

module _ (f : ℕ → ℕ) (q : ℕ) where
  -- what these destinations of a peer's SEND bring to peer q, for each one so much
  abbrev pub brought : ℕ → ℕ → List ℕ → ℕ
  brought me each to = sum_by (λ h. where_true (owner_of me h == q) each) to

  -- what a SEND that was accepted brought
  abbrev pub brought_by : ℕ → Command → ℕ
  brought_by me command = brought me (f (length (send_of command).payload)) (send_of command).to

  -- what an open SEND has brought so far
  abbrev pub brought_so_far : ℕ → Command → Phase → ℕ
  brought_so_far me command (Staging begun places collected) = brought me (f (length (send_of command).payload)) (take (length places) (send_of command).to)
  brought_so_far me command (Attaching sending place handle) = brought_by me command
  brought_so_far me command (Stamping sending) = brought_by me command
  brought_so_far me command (Syncing sending stamp place) = brought_by me command
  brought_so_far me command (Committing sending stamp place) = brought_by me command
  brought_so_far me command phase = 0

  -- what a driver has brought by its calls and its open command
  abbrev pub sent : DriverPart → ℕ
  sent d = sum_by (λ c. brought_by d.me c.command) d.calls + elim d.doing [ None ↦ 0 | Some doing ↦ brought_so_far d.me doing.command doing.phase ]

-- what all drivers have brought
abbrev pub all_sent : (ℕ → ℕ) → ℕ → State → ℕ
all_sent f q s = sum_by (sent f q) s.drivers

-- a queued message
abbrev pub queued_one : (ℕ → ℕ) → Key × Entry → ℕ
queued_one f (k, Message origin user index serial offset len nodes slots handles payload) = f (length payload)
queued_one f (k, OwnNotice serial index) = 0
queued_one f (k, ForeignNotice node index) = 0
queued_one f (k, ReleaseNotice serial) = 0

-- all that is queued
abbrev pub queued : (ℕ → ℕ) → PeerPart → ℕ
queued f x = sum_by (queued_one f) x.queue

-- an answer that is a message
abbrev pub got_by : (ℕ → ℕ) → Answer → ℕ
got_by f (Got (receipt.Message key number offset handles payload)) = f (length payload)
got_by f got = 0

-- all that a driver has taken
abbrev pub got : (ℕ → ℕ) → DriverPart → ℕ
got f d = sum_by (λ c. got_by f c.answer) d.calls

-- ---- SENDs

-- a SEND
abbrev pub is_send : Command → Bool
is_send command = elim command [ cmd.Send c ↦ true | other ↦ false ]

-- how many SENDs are among the calls
abbrev pub sends : List Call → ℕ
sends calls = sum_by (λ c. where_true (is_send c.command) 1) calls

-- the stamp of a phase is given
abbrev pub is_stamped : Phase → Bool
is_stamped (Syncing sending stamp place) = true
is_stamped (Committing sending stamp place) = true
is_stamped phase = false

-- how many stamps a driver has given
abbrev pub stamps : DriverPart → ℕ
stamps d = sends d.calls + elim d.doing [ None ↦ 0 | Some doing ↦ where_true (is_stamped doing.phase) 1 ]

-- all drivers
abbrev pub all_stamps : State → ℕ
all_stamps s = sum_by stamps s.drivers
