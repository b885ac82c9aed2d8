-- A pass of the drain of the serial bus.
use Rattle.std.specs.Prelude.{ℕ, zero, suc, Bool, ◌&&◌, not, if◌then◌else◌, map, length}
use Rattle.std.specs.List.{list_any}
use Rattle.b1_serial_bus.specs.Parts.{Part, Bus}
use Rattle.b1_serial_bus.specs.Receive.{is_empty, cleared, waits, received}
use Rattle.b1_serial_bus.specs.Rounds.{Going}

-- a peer receives so many times, and an attempt that waits removes what is for nobody
abbrev pub received_times : ℕ → Part → Part
received_times zero x = x
received_times (suc n) x = received_times n (if waits x then cleared x else received x)

-- a peer has something in its box, and hasn't disconnected
abbrev pub is_full : Part → Bool
is_full x = not x.shut && not (is_empty x.box)

-- a pass of the drain: each peer that hasn't disconnected receives until its box is empty
abbrev pub pass : Bus → Going
pass bus = record {
  bus = map (λ x. if is_full x then received_times (length x.box) x else x) bus;
  gained = list_any is_full bus;
}
