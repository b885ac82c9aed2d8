-- Reading from left to right: a value and the place after it, or the first fault.
use Rattle.std.specs.Prelude.{◌≡◌, ℕ, zero, suc, ◌+◌, Bool, false, ◌==◌, nat_lt, nat_le, if◌then◌else◌, List, [], ◌∷◌, length, take, drop, Option, Some, None, Result, Ok, Err, find}
use Rattle.std.specs.List.{list_all}
use Rattle.std.specs.Int.{w32, w64, from_le_bytes}
use Rattle.b1_errs.specs.declared.Cause.{Cause}
use Rattle.b1_errs.specs.declared.Cause.TheVariants as causes
use Rattle.b1_errs.specs.declared.NotRead.{NotRead}
use Rattle.b1_errs.specs.declared.NotRead.TheVariants.{Bad, Memory}
use Rattle.b1_model.specs.declared.commands.Command.{Command}
use Rattle.b1_model.specs.declared.commands.Command.TheVariants.{Disconnect, Query, Reset, Limit, Release, Destroy, SliceRelease, Send, Recv, Await}
use Rattle.b1_model.specs.declared.commands.SendCmd.{SendCmd}
use Rattle.b1_model.specs.declared.naming.Limits.{Limits}
use Rattle.b1_records.specs.declared.kinds.Kind.{Kind}
use Rattle.b1_records.specs.declared.kinds.Kind.TheVariants as kinds
use Rattle.b1_records.specs.Spelling.{code_of, most_numbers, most_bytes, rounded}

-- where a rule is broken, and which
abbrev pub Fault : Type 0
Fault = ℕ × Cause

-- a value and the place after it, or the first fault
abbrev pub Read : Type 0 → Type 0
Read A = Result (A × ℕ) Fault

infixl 10 ◌>>=◌
abbrev pub ◌>>=◌ : {A B : Type 0} → Read A → (A × ℕ → Read B) → Read B
(Ok x) >>= f = f x
(Err e) >>= f = Err e

-- what a function answered, seen by view, is what reading gives, unless memory ran out
abbrev pub Fails : {Y : Type 0} → NotRead → Result Y Fault → Type 0
Fails Memory read = Unit {0}
Fails (Bad at cause) read = read ≡ Err (at, cause)

abbrev pub Gives : {X Y : Type 0} → (X → Y) → Result X NotRead → Result Y Fault → Type 0
Gives view (Ok x) read = read ≡ Ok (view x)
Gives view (Err e) read = Fails e read

-- the first fault, where there is one
abbrev pub fault_of : {Y : Type 0} → Result Y Fault → Option Fault
fault_of (Ok y) = None
fault_of (Err fault) = Some fault

-- why nothing was read: that fault, or memory ran out
abbrev pub IsFault : NotRead → Option Fault → Type 0
IsFault Memory fault = Unit {0}
IsFault (Bad at cause) fault = fault ≡ Some (at, cause)

-- a field of so many bytes: short where it isn't wholly there, long where it is there and passes the limit
unfoldable pub field_at : ℕ → List ℕ → ℕ → ℕ → Read (List ℕ)
field_at limit bytes len at =
    if nat_lt (length bytes) (at + len) then Err (at, causes.Short)
    else (if nat_lt limit (at + len) then Err (limit, causes.Long) else Ok (take len (drop at bytes), at + len))

-- a number of four bytes, and one of eight
unfoldable pub number_at : ℕ → List ℕ → ℕ → Read ℕ
number_at limit bytes at = do
  field ← field_at limit bytes 4 at
  Ok (from_le_bytes w32 field.0, field.1)

unfoldable pub long_number_at : ℕ → List ℕ → ℕ → Read ℕ
long_number_at limit bytes at = do
  field ← field_at limit bytes 8 at
  Ok (from_le_bytes w64 field.0, field.1)

-- a field whose value passes a test; else the fault is at its first byte
abbrev pub checked : {A : Type 0} → (A → Bool) → Cause → ℕ → Read A → Read A
checked test cause at read = do
  x ← read
  if test x.0 then Ok x else Err (at, cause)

-- a reserved field
unfoldable pub zero_at : ℕ → List ℕ → ℕ → Read ℕ
zero_at limit bytes at = checked (λ n. n == 0) causes.Reserved at (number_at limit bytes at)

-- a number of things
unfoldable pub count_at : ℕ → List ℕ → ℕ → ℕ → Read ℕ
count_at limit bytes most at = checked (λ n. nat_le n most) causes.Count at (number_at limit bytes at)

-- so many values, one after the other
abbrev pub many : {A : Type 0} → (ℕ → Read A) → ℕ → ℕ → Read (List A)
many read zero at = Ok ([], at)
many read (suc n) at = do
  first ← read at
  others ← many read n first.1
  Ok (first.0 ∷ others.0, others.1)

unfoldable pub numbers_at : ℕ → List ℕ → ℕ → ℕ → Read (List ℕ)
numbers_at limit bytes count at = many (long_number_at limit bytes) count at

-- a payload with its padding, one field
unfoldable pub payload_at : ℕ → List ℕ → ℕ → ℕ → Read (List ℕ)
payload_at limit bytes len at = do
  field ← field_at limit bytes (rounded len) at
  if list_all (λ b. b == 0) (drop len field.0) then Ok (take len field.0, field.1) else Err (at, causes.Reserved)

-- the kind of a code, where there is one
abbrev pub kind_of : ℕ → Option Kind
kind_of code = find (λ kind. code_of kind == code)
    (kinds.Disconnect ∷ kinds.Query ∷ kinds.Reset ∷ kinds.Release ∷ kinds.Destroy ∷ kinds.SliceRelease ∷ kinds.Send ∷ kinds.Recv ∷ kinds.Await ∷ [])

-- whether a command of this kind goes on past a refused destination, by its flags; none where a bit isn't known
abbrev pub goes_on_of : Kind → ℕ → Option Bool
goes_on_of kinds.Send flags = if nat_le flags 1 then Some (flags == 1) else None
goes_on_of kind flags = if flags == 0 then Some false else None

-- what is known of a field's value, or the fault at the field
abbrev pub known : {A : Type 0} → Option A → Cause → ℕ → ℕ → Read A
known (Some a) cause at end = Ok (a, end)
known None cause at end = Err (at, cause)

unfoldable pub kind_at : ℕ → List ℕ → ℕ → Read Kind
kind_at limit bytes at = do
  code ← number_at limit bytes at
  known (kind_of code.0) causes.Command at code.1

unfoldable pub flags_at : ℕ → List ℕ → Kind → ℕ → Read Bool
flags_at limit bytes kind at = do
  flags ← number_at limit bytes at
  known (goes_on_of kind flags.0) causes.Flags at flags.1

-- three limits and a reserved field
unfoldable pub limits_at : ℕ → List ℕ → ℕ → Read Limits
limits_at limit bytes at = do
  entries ← number_at limit bytes at
  size ← number_at limit bytes entries.1
  handles ← number_at limit bytes size.1
  end ← zero_at limit bytes handles.1
  Ok (record { entries = entries.0; bytes = size.0; handles = handles.0 }, end.1)

-- how many numbers, a reserved field, and the numbers
unfoldable pub list_at : ℕ → List ℕ → ℕ → Read (List ℕ)
list_at limit bytes at = do
  count ← count_at limit bytes most_numbers at
  start ← zero_at limit bytes count.1
  numbers_at limit bytes count.0 start.1

unfoldable pub send_at : ℕ → List ℕ → Bool → ℕ → Read SendCmd
send_at limit bytes go_on at = do
  destinations ← count_at limit bytes most_numbers at
  handles ← count_at limit bytes most_numbers destinations.1
  len ← count_at limit bytes most_bytes handles.1
  start ← zero_at limit bytes len.1
  to ← numbers_at limit bytes destinations.0 start.1
  with ← numbers_at limit bytes handles.0 to.1
  payload ← payload_at limit bytes len.0 with.1
  Ok (record { go_on = go_on; to = to.0; with = with.0; payload = payload.0 }, payload.1)

-- what follows a record's code and flags
unfoldable pub body_at : ℕ → List ℕ → Kind → Bool → ℕ → Read Command
body_at limit bytes kinds.Disconnect go_on at = Ok (Disconnect, at)
body_at limit bytes kinds.Query go_on at = Ok (Query, at)
body_at limit bytes kinds.Reset go_on at = do
  limits ← limits_at limit bytes at
  Ok (Reset limits.0, limits.1)
body_at limit bytes kinds.Release go_on at = do
  number ← long_number_at limit bytes at
  Ok (Release number.0, number.1)
body_at limit bytes kinds.Destroy go_on at = do
  numbers ← list_at limit bytes at
  Ok (Destroy numbers.0, numbers.1)
body_at limit bytes kinds.SliceRelease go_on at = do
  offset ← long_number_at limit bytes at
  Ok (SliceRelease offset.0, offset.1)
body_at limit bytes kinds.Send go_on at = do
  send ← send_at limit bytes go_on at
  Ok (Send send.0, send.1)
body_at limit bytes kinds.Recv go_on at = Ok (Recv, at)
body_at limit bytes kinds.Await go_on at = Ok (Await, at)

-- a command's record, of which no field passes the limit
unfoldable pub command_at : ℕ → List ℕ → ℕ → Read Command
command_at limit bytes at = do
  kind ← kind_at limit bytes at
  go_on ← flags_at limit bytes kind.0 kind.1
  body_at limit bytes kind.0 go_on.0 go_on.1

-- the first fault of the record at a place, where there is one
abbrev pub bad_record : List ℕ → ℕ → Option Fault
bad_record bytes at = fault_of (command_at (length bytes) bytes at)

-- ---- version 2

-- whether the one flag of a command of this kind is set; none where a bit isn't known
abbrev pub flag_of : Kind → ℕ → Option Bool
flag_of kinds.Send flags = if nat_le flags 1 then Some (flags == 1) else None
flag_of kinds.Reset flags = if nat_le flags 1 then Some (flags == 1) else None
flag_of kind flags = if flags == 0 then Some false else None

unfoldable pub flag_at : ℕ → List ℕ → Kind → ℕ → Read Bool
flag_at limit bytes kind at = do
  flags ← number_at limit bytes at
  known (flag_of kind flags.0) causes.Flags at flags.1

-- a PEER_RESET with flush, or one without
unfoldable pub reset_at : ℕ → List ℕ → Bool → ℕ → Read Command
reset_at limit bytes flush at = do
  limits ← limits_at limit bytes at
  Ok (if flush then Reset limits.0 else Limit limits.0, limits.1)

-- what follows a record's code, flags and cookie
unfoldable pub body2_at : ℕ → List ℕ → Kind → Bool → ℕ → Read Command
body2_at limit bytes kinds.Reset flag at = reset_at limit bytes flag at
body2_at limit bytes kinds.Disconnect flag at = body_at limit bytes kinds.Disconnect flag at
body2_at limit bytes kinds.Query flag at = body_at limit bytes kinds.Query flag at
body2_at limit bytes kinds.Release flag at = body_at limit bytes kinds.Release flag at
body2_at limit bytes kinds.Destroy flag at = body_at limit bytes kinds.Destroy flag at
body2_at limit bytes kinds.SliceRelease flag at = body_at limit bytes kinds.SliceRelease flag at
body2_at limit bytes kinds.Send flag at = body_at limit bytes kinds.Send flag at
body2_at limit bytes kinds.Recv flag at = body_at limit bytes kinds.Recv flag at
body2_at limit bytes kinds.Await flag at = body_at limit bytes kinds.Await flag at

-- a record with its cookie, of which no field passes the limit
unfoldable pub command2_at : ℕ → List ℕ → ℕ → Read (ℕ × Command)
command2_at limit bytes at = do
  kind ← kind_at limit bytes at
  flag ← flag_at limit bytes kind.0 kind.1
  cookie ← long_number_at limit bytes flag.1
  command ← body2_at limit bytes kind.0 flag.0 cookie.1
  Ok ((cookie.0, command.0), command.1)

-- the first fault of the record with a cookie at a place, where there is one
abbrev pub bad_record2 : List ℕ → ℕ → Option Fault
bad_record2 bytes at = fault_of (command2_at (length bytes) bytes at)
