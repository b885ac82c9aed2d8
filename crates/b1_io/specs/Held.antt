-- The sources and sinks in memory.
use Rattle.std.specs.Prelude.{ℕ, ◌+◌, ◌-◌, ◌^◌, ◌<◌, ◌⊎◌, ◌≤◌, min, List, ◌++◌, length, drop, Contains}

-- a source in memory: the bytes that are left, the most that a call gives, the numbers of the calls
-- that fail, and how many calls and faults there were
pub record HeldSource : Type 0 where
  pub left : List ℕ
  pub per_call : ℕ
  pub fails : List ℕ
  pub calls : ℕ
  pub faults : ℕ

-- a sink in memory: the bytes that it took, the most that it can hold, the most that a call takes,
-- the numbers of the calls that fail, and how many calls and faults there were
pub record HeldSink : Type 0 where
  pub taken : List ℕ
  pub room : ℕ
  pub per_call : ℕ
  pub fails : List ℕ
  pub calls : ℕ
  pub faults : ℕ

-- one more, up to 2^64 - 1
abbrev pub counted : ℕ → ℕ
counted n = min (n + 1) (2 ^ 64 - 1)

-- how many bytes a source's next call gives to a buffer of this length
abbrev pub given_to : HeldSource → ℕ → ℕ
given_to s len = min s.per_call (min len (length s.left))

-- the source after a call that gave n bytes
abbrev pub after_read : HeldSource → ℕ → HeldSource
after_read s n = record s { left = drop n s.left; calls = counted s.calls }

-- the source after a call that failed
abbrev pub after_failed_read : HeldSource → HeldSource
after_failed_read s = record s { calls = counted s.calls; faults = counted s.faults }

-- how many bytes a sink can still hold
abbrev pub free : HeldSink → ℕ
free s = s.room - length s.taken

-- how many bytes a sink's next call takes of a piece of this length
abbrev pub taken_of : HeldSink → ℕ → ℕ
taken_of s len = min s.per_call (min len (free s))

-- a write of a piece of this length fails: its call is named, or no room is free for its bytes
abbrev pub MustFail : HeldSink → ℕ → Type 0
MustFail s len = Contains s.fails s.calls ⊎ ((0 < len) × (s.room ≤ length s.taken))

-- the sink after a call that took these bytes
abbrev pub after_write : HeldSink → List ℕ → HeldSink
after_write s bytes = record s { taken = s.taken ++ bytes; calls = counted s.calls }

-- the sink after a call that failed
abbrev pub after_failed_write : HeldSink → HeldSink
after_failed_write s = record s { calls = counted s.calls; faults = counted s.faults }
