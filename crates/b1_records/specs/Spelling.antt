-- Command records: the one spelling of each command.
use Rattle.std.specs.Prelude.{◌≡◌, ℕ, ◌+◌, ◌-◌, ◌*◌, ◌/◌, ◌^◌, ◌<◌, ◌≤◌, Bool, if◌then◌else◌, List, [], ◌++◌, length, replicate, true, false}
use Rattle.std.specs.List.{flat_map, AllByRecursion}
use Rattle.b1_model.specs.declared.commands.Command.{Command}
use Rattle.b1_model.specs.declared.commands.Command.TheVariants.{Disconnect, Query, Reset, Limit, Release, Destroy, SliceRelease, Send, Recv, Await}
use Rattle.b1_model.specs.declared.commands.SendCmd.{SendCmd}
use Rattle.b1_model.specs.declared.naming.Limits.{Limits}
use Rattle.b1_model.specs.declared.limits.TheConstants.{MOST_NUMBERS, MOST_BYTES}
use Rattle.b1_records.specs.declared.kinds.Kind.{Kind}
use Rattle.b1_records.specs.declared.kinds.Kind.TheVariants as kinds
use Rattle.b1_wire.specs.Numbers.{u32_bytes, u64_bytes, StandsAt}

-- the code of each kind of command
abbrev pub code_of : Kind → ℕ
code_of kinds.Disconnect = 1
code_of kinds.Query = 2
code_of kinds.Reset = 3
code_of kinds.Release = 4
code_of kinds.Destroy = 5
code_of kinds.SliceRelease = 6
code_of kinds.Send = 7
code_of kinds.Recv = 8
code_of kinds.Await = 9

-- how many numbers one list of a record has at most, and how many bytes a payload
abbrev pub most_numbers : ℕ
most_numbers = MOST_NUMBERS

abbrev pub most_bytes : ℕ
most_bytes = MOST_BYTES

-- a length rounded up to a multiple of 8
abbrev pub rounded : ℕ → ℕ
rounded len = (len + 7) / 8 * 8

-- a payload, followed by zeros up to a multiple of 8
abbrev pub padded : List ℕ → List ℕ
padded payload = payload ++ replicate (rounded (length payload) - length payload) 0

-- a record's code and flags
abbrev pub head : Kind → ℕ → List ℕ
head kind flags = u32_bytes (code_of kind) ++ u32_bytes flags

-- 1 where a SEND goes on past a refused destination
abbrev pub flags_of : Bool → ℕ
flags_of go_on = if go_on then 1 else 0

-- three limits and a reserved zero
abbrev pub limits_spelling : Limits → List ℕ
limits_spelling limits = u32_bytes limits.entries ++ u32_bytes limits.bytes ++ u32_bytes limits.handles ++ u32_bytes 0

-- how many numbers, a reserved zero, and the numbers
abbrev pub list_spelling : List ℕ → List ℕ
list_spelling numbers = u32_bytes (length numbers) ++ u32_bytes 0 ++ flat_map u64_bytes numbers

-- how many destinations, handles and bytes, and a reserved zero
abbrev pub counts_spelling : SendCmd → List ℕ
counts_spelling send = u32_bytes (length send.to) ++ u32_bytes (length send.with) ++ u32_bytes (length send.payload) ++ u32_bytes 0

-- the counts, and then each destination, each handle and the payload
abbrev pub send_spelling : SendCmd → List ℕ
send_spelling send = counts_spelling send ++ flat_map u64_bytes send.to ++ flat_map u64_bytes send.with ++ padded send.payload

-- the bytes of a command; a PEER_RESET without flush has none yet
abbrev pub spelling : Command → List ℕ
spelling Disconnect = head kinds.Disconnect 0
spelling Query = head kinds.Query 0
spelling (Reset limits) = head kinds.Reset 0 ++ limits_spelling limits
spelling (Limit limits) = []
spelling (Release number) = head kinds.Release 0 ++ u64_bytes number
spelling (Destroy numbers) = head kinds.Destroy 0 ++ list_spelling numbers
spelling (SliceRelease offset) = head kinds.SliceRelease 0 ++ u64_bytes offset
spelling (Send send) = head kinds.Send (flags_of send.go_on) ++ send_spelling send
spelling Recv = head kinds.Recv 0
spelling Await = head kinds.Await 0

-- what a record can carry of a SEND
pub record IsSendWithin (send : SendCmd) : Type 0 where
  pub to : length send.to ≤ most_numbers
  pub with : length send.with ≤ most_numbers
  pub payload : length send.payload ≤ most_bytes

-- what a record can carry: lists of numbers and a payload that aren't too long, and no PEER_RESET without flush yet
abbrev pub IsWithin : Command → Type 0
IsWithin (Destroy numbers) = length numbers ≤ most_numbers
IsWithin (Send send) = IsSendWithin send
IsWithin (Limit limits) = ⊥
IsWithin command = Unit {0}

abbrev pub Is32 : ℕ → Type 0
Is32 n = n < 2 ^ 32

abbrev pub Is64 : ℕ → Type 0
Is64 n = n < 2 ^ 64

abbrev pub IsByte : ℕ → Type 0
IsByte n = n < 256

pub record AreLimits (limits : Limits) : Type 0 where
  pub entries : Is32 limits.entries
  pub bytes : Is32 limits.bytes
  pub handles : Is32 limits.handles

pub record IsSend (send : SendCmd) : Type 0 where
  pub to : AllByRecursion Is64 send.to
  pub with : AllByRecursion Is64 send.with
  pub payload : AllByRecursion IsByte send.payload

-- each number of a command fits the field that it has in the program
abbrev pub HasNumbers : Command → Type 0
HasNumbers (Reset limits) = AreLimits limits
HasNumbers (Limit limits) = AreLimits limits
HasNumbers (Release number) = Is64 number
HasNumbers (Destroy numbers) = AllByRecursion Is64 numbers
HasNumbers (SliceRelease offset) = Is64 offset
HasNumbers (Send send) = IsSend send
HasNumbers command = Unit {0}

-- a text stands in the bytes from a place to an end
pub record Stands (bytes : List ℕ) (at : ℕ) (text : List ℕ) (end : ℕ) : Type 0 where
  pub there : StandsAt bytes at text
  pub ends : end ≡ at + length text
  pub within : end ≤ length bytes

-- a command is spelled in the bytes from a place to an end
pub record IsRecord (bytes : List ℕ) (at : ℕ) (command : Command) (end : ℕ) : Type 0 where
  pub limits : IsWithin command
  pub numbers : HasNumbers command
  pub stands : Stands bytes at (spelling command) end

-- ---- version 2

-- the kind of a command: both forms of PEER_RESET are of one
abbrev pub kind_of_command : Command → Kind
kind_of_command Disconnect = kinds.Disconnect
kind_of_command Query = kinds.Query
kind_of_command (Reset limits) = kinds.Reset
kind_of_command (Limit limits) = kinds.Reset
kind_of_command (Release number) = kinds.Release
kind_of_command (Destroy numbers) = kinds.Destroy
kind_of_command (SliceRelease offset) = kinds.SliceRelease
kind_of_command (Send send) = kinds.Send
kind_of_command Recv = kinds.Recv
kind_of_command Await = kinds.Await

-- whether a command's one flag is set: a SEND goes on past a refused destination, a PEER_RESET flushes
abbrev pub has_flag : Command → Bool
has_flag (Send send) = send.go_on
has_flag (Reset limits) = true
has_flag command = false

-- what follows a command's code and flags, and its cookie
abbrev pub body_spelling : Command → List ℕ
body_spelling (Reset limits) = limits_spelling limits
body_spelling (Limit limits) = limits_spelling limits
body_spelling (Release number) = u64_bytes number
body_spelling (Destroy numbers) = list_spelling numbers
body_spelling (SliceRelease offset) = u64_bytes offset
body_spelling (Send send) = send_spelling send
body_spelling command = []

-- the bytes of a command with its cookie
abbrev pub spelling2 : ℕ → Command → List ℕ
spelling2 cookie command = head (kind_of_command command) (flags_of (has_flag command)) ++ u64_bytes cookie ++ body_spelling command

-- what a record with a cookie can carry: lists of numbers and a payload that aren't too long
abbrev pub IsWithin2 : Command → Type 0
IsWithin2 (Destroy numbers) = length numbers ≤ most_numbers
IsWithin2 (Send send) = IsSendWithin send
IsWithin2 command = Unit {0}

-- a command and its cookie are spelled in the bytes from a place to an end
pub record IsRecord2 (bytes : List ℕ) (at cookie : ℕ) (command : Command) (end : ℕ) : Type 0 where
  pub limits : IsWithin2 command
  pub numbers : HasNumbers command
  pub wide : Is64 cookie
  pub stands : Stands bytes at (spelling2 cookie command) end
