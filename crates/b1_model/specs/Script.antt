-- When a record's calls are those of given commands, with the commands' references resolved.
use Rattle.std.specs.Prelude.{◌≡◌, ℕ, ◌/◌, ◌%◌, ◌<◌, ◌≤◌, Bool, true, false, if◌then◌else◌, ◌==◌, List, [], ◌∷◌, ◌++◌, map, length, take, slice_get, Option, None, Some, unwrap_or, is_none, ⊤}
use Rattle.std.specs.List.{list_any, list_all}
use Rattle.b1_model.specs.declared.naming.Opening.{Opening}
use Rattle.b1_model.specs.declared.commands.SendCmd.{SendCmd}
use Rattle.b1_model.specs.declared.commands.Command.{Command}
use Rattle.b1_model.specs.declared.commands.Command.TheVariants as cmd
use Rattle.b1_model.specs.declared.answers.Reason.{Reason}
use Rattle.b1_model.specs.declared.answers.Reason.TheVariants.{Shutdown}
use Rattle.b1_model.specs.declared.answers.Sent.{Sent}
use Rattle.b1_model.specs.declared.answers.Receipt.TheVariants as rec
use Rattle.b1_model.specs.declared.answers.Answer.{Answer}
use Rattle.b1_model.specs.declared.answers.Answer.TheVariants as ans
use Rattle.b1_model.specs.declared.records.Call.{Call}
use Rattle.b1_model.specs.declared.records.Record.{Record}
use Rattle.b1_model.specs.Names.{invalid, calls_of}

-- ---- references

-- what a data receipt gives to refer to: its slice's offset, and its handles
pub record Data : Type 0 where
  pub offset : ℕ
  pub handles : List ℕ

-- the data receipt of an answer, if it is one
abbrev pub data_of : Answer → List Data
data_of (ans.Got (rec.Message key number offset handles payload)) = record { offset = offset; handles = handles } ∷ []
data_of a = []

-- the data receipts of these calls
abbrev pub data_receipts : List Call → List Data
data_receipts [] = []
data_receipts (c ∷ cs) = data_of c.answer ++ data_receipts cs

-- an odd operand
abbrev pub is_reference : ℕ → Bool
is_reference n = (n % 2) == 1

-- slot i of a data receipt
abbrev pub handle_in : ℕ → Option Data → ℕ
handle_in i None = invalid
handle_in i (Some d) = unwrap_or (slice_get d.handles i) invalid

-- the slice of a data receipt
abbrev pub offset_in : Option Data → ℕ
offset_in None = invalid
offset_in (Some d) = d.offset

-- 128 * r + 2 * i + 1 stands for slot i of data receipt r, and for `invalid` where there is none
abbrev pub resolved_handle : List Call → ℕ → ℕ
resolved_handle calls n = if is_reference n then handle_in ((n % 128) / 2) (slice_get (data_receipts calls) (n / 128)) else n

-- 2 * r + 1 stands for the slice of data receipt r, and for `invalid` where there is none
abbrev pub resolved_offset : List Call → ℕ → ℕ
resolved_offset calls n = if is_reference n then offset_in (slice_get (data_receipts calls) (n / 2)) else n

-- a command that begins after these calls, with its references resolved
abbrev pub resolved : Command → List Call → Command
resolved (cmd.Send s) calls = cmd.Send (record s { to = map (resolved_handle calls) s.to; with = map (resolved_handle calls) s.with })
resolved (cmd.Release number) calls = cmd.Release (resolved_handle calls number)
resolved (cmd.Destroy numbers) calls = cmd.Destroy (map (resolved_handle calls) numbers)
resolved (cmd.SliceRelease offset) calls = cmd.SliceRelease (resolved_offset calls offset)
resolved c calls = c

-- ---- answers

-- the answer is of the command's kind
abbrev pub fits : Command → Answer → Bool
fits c (ans.Refused b) = true
fits (cmd.Send s) (ans.Sent b) = true
fits cmd.Recv (ans.Got receipt) = true
fits (cmd.Destroy numbers) (ans.Destroyed stamp) = true
fits (cmd.Reset limits) (ans.Reset stamp) = true
fits cmd.Disconnect (ans.Reset stamp) = true
fits cmd.Query (ans.Info user pool limits) = true
fits (cmd.Release number) ans.Done = true
fits (cmd.SliceRelease offset) ans.Done = true
fits (cmd.Limit limits) ans.Done = true
fits c a = false

-- a place for each destination, one of them accepted, and with CONTINUE alone one refused
pub record FitsPlaces (s : SendCmd) (b : Sent) : Type 0 where
  pub count : length b.places ≡ length s.to
  pub accepted : list_any is_none b.places ≡ true
  pub refused : s.go_on ≡ false → list_all is_none b.places ≡ true

-- the places of a send fit
abbrev pub HasPlaces : Command → Answer → Type 0
HasPlaces (cmd.Send s) (ans.Sent b) = FitsPlaces s b
HasPlaces c a = ⊤

-- a receipt, or refused because the peer has disconnected
abbrev pub ends_await : Answer → Bool
ends_await (ans.Got receipt) = true
ends_await (ans.Refused b) = is_shutdown b.reason
  where
    is_shutdown : Reason → Bool
    is_shutdown Shutdown = true
    is_shutdown other = false
ends_await a = false

-- any receipt, release notices too
abbrev pub is_receipt : Answer → Bool
is_receipt (ans.Got receipt) = true
is_receipt a = false

-- ---- the part

-- a call is its command after these calls, and its answer is of the command's kind; an AWAIT stands as a RECV
abbrev pub IsCallOf : Command → List Call → Call → Type 0
IsCallOf cmd.Await calls c = (c.command ≡ cmd.Recv) × (ends_await c.answer ≡ true)
IsCallOf command calls c = (c.command ≡ resolved command calls) × (fits c.command c.answer ≡ true) × HasPlaces c.command c.answer

-- the call in the place of a command, or past the last command: it may lack only there, and is a RECV with a receipt there
abbrev pub IsInPlace : List Call → Option Command → Option Call → Type 0
IsInPlace calls (Some command) (Some c) = IsCallOf command calls c
IsInPlace calls (Some command) None = ⊥
IsInPlace calls None (Some c) = (c.command ≡ cmd.Recv) × (is_receipt c.answer ≡ true)
IsInPlace calls None None = ⊤

-- the commands of peer p, none where there is no such peer
abbrev pub commands_of : List (List Command) → ℕ → List Command
commands_of lists p = commands_in (slice_get lists p)
  where
    commands_in : Option (List Command) → List Command
    commands_in None = []
    commands_in (Some cs) = cs

-- call k of p, or its absence, is as the script wants it
abbrev pub KeepsScript : List (List Command) → Record → ℕ → ℕ → Type 0
KeepsScript lists r p k = IsInPlace (take k (calls_of r p)) (slice_get (commands_of lists p) k) (slice_get (calls_of r p) k)

-- the call, or the first one that lacks, isn't as the script wants it
abbrev pub BreaksScript : List (List Command) → Record → ℕ → ℕ → Type 0
BreaksScript lists r p k = (k ≤ length (calls_of r p)) × (¬ KeepsScript lists r p k)

-- each peer's calls are its commands, and after them receipts alone
abbrev pub Script : Opening → List (List Command) → Record → Type 0
Script o lists r = (p k : ℕ) → p < length o.peers → k ≤ length (calls_of r p) → KeepsScript lists r p k
