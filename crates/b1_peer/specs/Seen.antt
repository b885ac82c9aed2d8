-- What contracts see of a peer, and what its pool's bytes are.
use Rattle.std.specs.Prelude.{◌≡◌, ℕ, true, List, length, take, drop, Some}
use Rattle.b1_model.specs.declared.naming.Key.{Key}
use Rattle.b1_model.specs.declared.entries.Entry.{Entry}
use Rattle.b1_model.specs.declared.entries.Entry.TheVariants.{Message, OwnNotice, ForeignNotice, ReleaseNotice}
use Rattle.b1_model.specs.MachineParts.{PeerPart, Slice}
use Rattle.b1_model.specs.MachinePool.{slice_at, is_published}
use Rattle.b1_step.specs.Rights.{Has}

-- a peer: its part of the state, its pool's bytes, and the users that may send to it
pub record PeerSeen : Type 0 where
  pub part : PeerPart
  pub bytes : List ℕ
  pub users : List ℕ

-- the bytes of a slice
abbrev pub bytes_of : Slice → List ℕ → List ℕ
bytes_of s bytes = take s.len (drop s.offset bytes)

-- each received slice has the bytes that it had
abbrev pub KeepsReceived : PeerSeen → PeerSeen → Type 0
KeepsReceived old new = (s : Slice) → slice_at s.offset old.part.slices ≡ Some s → is_published s ≡ true → bytes_of s new.bytes ≡ bytes_of s old.bytes

-- of a queued message: the bytes of the pool from its slice's offset on begin with its payload
abbrev pub BeginsWithPayload : List ℕ → Key × Entry → Type 0
BeginsWithPayload bytes (k, Message origin user index serial offset len nodes slots handles payload) = take (length payload) (drop offset bytes) ≡ payload
BeginsWithPayload bytes (k, OwnNotice serial index) = Unit {0}
BeginsWithPayload bytes (k, ForeignNotice node index) = Unit {0}
BeginsWithPayload bytes (k, ReleaseNotice serial) = Unit {0}

-- the slice of every queued message begins with its payload
abbrev pub HasPayloads : PeerSeen → Type 0
HasPayloads p = (f : Key × Entry) → Has p.part.queue f → BeginsWithPayload p.bytes f
