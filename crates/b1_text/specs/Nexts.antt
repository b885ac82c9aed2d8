-- The lines with which a script can go on, kind by kind.
use Rattle.std.specs.Prelude.{◌≡◌, ℕ, ◌+◌, ◌-◌, ◌*◌, ◌%◌, ◌<◌, ◌≤◌, Bool, true, false, List, ◌∷◌, ◌++◌, length, codes, Some}
use Rattle.std.specs.List.{AllByRecursion}
use Rattle.b1_model.specs.declared.commands.Command.{Command}
use Rattle.b1_model.specs.declared.commands.Command.TheVariants.{Disconnect, Query, Reset, Release, Destroy, SliceRelease, Send, Recv, Await}
use Rattle.b1_model.specs.declared.limits.TheConstants.{WIRE_LIMIT}
use Rattle.b1_model.specs.declared.naming.PeerSpec.{PeerSpec}
use Rattle.b1_model.specs.declared.naming.Wire.{Wire}
use Rattle.b1_model.specs.Opening.{HasPool}
use Rattle.b1_records.specs.Spelling.{Is64, IsByte, IsWithin, IsWithin2, HasNumbers, rounded, most_numbers, most_bytes, body_spelling}
use Rattle.b1_script.specs.Spelling.{IsSpec}
use Rattle.b1_text_words.specs.Numbers.{script_handle_text, list_text, hex_text}
use Rattle.b1_text.specs.declared.draft.Draft.{Draft}
use Rattle.b1_text.specs.declared.draft.Draft.TheVariants.{Empty}
use Rattle.b1_text.specs.declared.statement.Statement.{Statement}
use Rattle.b1_text.specs.Bodies.{space}
use Rattle.b1_text.specs.Drafts.{Fits, run}

-- a draft that statements made
pub record IsReached (d : Draft) : Type 0 where
  pub read : List Statement
  pub fits : AllByRecursion Fits read
  pub made : run (Some Empty) read ≡ Some d

-- a value that fits its fields and passes a test
pub record Passes {X : Type 0} (IsOf : X → Type 0) (test : X → Bool) (x : X) : Type 0 where
  pub fits : IsOf x
  pub goes_on : test x ≡ true

-- a peer with a pool of a size that a pool may have, and for which there is room
pub record HasSpec (room : ℕ) (p : PeerSpec) : Type 0 where
  pub spec : IsSpec p
  pub pool : HasPool p
  pub fits : p.pool ≤ room

-- an own number, of 64 bits
pub record IsOwn (n : ℕ) : Type 0 where
  pub fits : Is64 n
  pub own : n % 4 ≡ 0

-- so few wires that their given numbers are small
abbrev pub AreFew : List Wire → Type 0
AreFew held = length held < WIRE_LIMIT

-- the bytes of a command's record but for its cookie
abbrev pub plain_len : Command → ℕ
plain_len c = 8 + length (body_spelling c)

-- a command that a record without a cookie can carry
pub record IsRecorded (c : Command) : Type 0 where
  pub within : IsWithin c
  pub numbers : HasNumbers c

-- such a command, for whose record there is room
pub record HasRoom (room : ℕ) (c : Command) : Type 0 where
  pub carried : IsRecorded c
  pub fits : plain_len c ≤ room

-- a command that a record with a cookie can carry, for which there is room beside the cookie
pub record HasRoomBeside (room : ℕ) (c : Command) : Type 0 where
  pub within : IsWithin2 c
  pub numbers : HasNumbers c
  pub fits : plain_len c ≤ room

-- a cookie and a command, for whose record there is room
pub record HasMarkedRoom (room : ℕ) (x : ℕ × Command) : Type 0 where
  pub cookie : Is64 x.0
  pub within : IsWithin2 x.1
  pub numbers : HasNumbers x.1
  pub fits : plain_len x.1 + 8 ≤ room

-- commands of one word, of handles or a slice alone, of limits, and SENDs
abbrev pub is_plain : Command → Bool
is_plain Disconnect = true
is_plain Query = true
is_plain Recv = true
is_plain Await = true
is_plain c = false

abbrev pub is_reference : Command → Bool
is_reference (Release number) = true
is_reference (SliceRelease offset) = true
is_reference (Destroy numbers) = true
is_reference c = false

abbrev pub is_reset : Command → Bool
is_reset (Reset limits) = true
is_reset c = false

abbrev pub is_send : Command → Bool
is_send (Send send) = true
is_send c = false

-- a command of some kind for whose record there is room
pub record HasRoomAs (kind : Command → Bool) (room : ℕ) (c : Command) : Type 0 where
  pub is : kind c ≡ true
  pub has_room : HasRoom room c

-- handles of which a record can have so many, and for which there is room
pub record AreHandles (room : ℕ) (numbers : List ℕ) : Type 0 where
  pub items : AllByRecursion Is64 numbers
  pub few : length numbers ≤ most_numbers
  pub fits : 8 * length numbers ≤ room

-- a payload for which there is room
pub record IsPayload (room : ℕ) (payload : List ℕ) : Type 0 where
  pub items : AllByRecursion IsByte payload
  pub few : length payload ≤ most_bytes
  pub fits : rounded (length payload) ≤ room

-- handles and a payload
pub record IsCargo (room : ℕ) (x : List ℕ × List ℕ) : Type 0 where
  pub handles : AreHandles room x.0
  pub payload : IsPayload (room - 8 * length x.0) x.1

-- destinations, handles and a payload
pub record IsLoad (room : ℕ) (x : List ℕ × (List ℕ × List ℕ)) : Type 0 where
  pub to : AreHandles room x.0
  pub cargo : IsCargo (room - 8 * length x.0) x.1

abbrev pub data_text : List ℕ → List ℕ
data_text payload = codes "data " ++ hex_text payload

abbrev pub cargo_text : List ℕ × List ℕ → List ℕ
cargo_text x = list_text script_handle_text x.0 ++ space ∷ data_text x.1

abbrev pub with_text : List ℕ × List ℕ → List ℕ
with_text x = codes "with " ++ cargo_text x

-- what stands behind the flag of a SEND
abbrev pub load_text : List ℕ × (List ℕ × List ℕ) → List ℕ
load_text x = list_text script_handle_text x.0 ++ space ∷ with_text x.1
