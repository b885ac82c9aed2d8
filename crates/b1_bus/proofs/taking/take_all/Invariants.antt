use Rattle.std.proofs.Common.{◌≡◌, ◌≤◌, ◌<◌, ◌+◌, ℕ, take, true, false, vec_len, vec_capacity}
use Rattle.std.specs.List.{slice_index_or}
use Rattle.std.specs.Slots.{slots_items, slots_filled, slots_len}
use Rattle.b1_bus.proofs.taking.take_all.Given as goal

-- the slots from the next one on are full, and those before it are empty and their values are in the list
abbrev pub invariant-loop-slot : goal.invariant-loop-slot
invariant-loop-slot g l = record {
  items : slots_items l.closed.slots ≡ slots_items l.initial.closed.slots;
  count : slots_len l.closed.slots ≡ slots_len l.initial.closed.slots;
  full : (k : ℕ) → l.slot ≤ k → k < slots_len l.closed.slots → slice_index_or (slots_filled l.closed.slots) k false ≡ true;
  empty : (k : ℕ) → k < l.slot → slice_index_or (slots_filled l.closed.slots) k false ≡ false;
  taken : l.room.items ≡ take l.slot (slots_items l.closed.slots);
  fits : vec_len l.room + (slots_len l.closed.slots) ≤ vec_capacity l.room + l.slot;
  so_many : vec_len l.room ≡ l.slot;
}
