use Rattle.std.proofs.Common.{◌≡◌, ◌≤◌, ◌+◌, ℕ, length}
use Rattle.std.specs.Vec.{vec_capacity}
use Rattle.b1_entry.specs.Table.{entry_at}
use Rattle.b1_entry.specs.Places.{AreVacant}
use Rattle.b1_entry.proofs.places.open_places.Given as goal

abbrev pub invariant-loop : goal.invariant-loop
invariant-loop l = record {
  vacant : AreVacant l.slots.items l.vacant.items (vec_capacity l.vacant);
  entries : (place : ℕ) → entry_at l.slots.items place ≡ entry_at l.fn.slots.items place;
  more : length l.vacant.items ≡ length l.fn.vacant.items + l.counter;
  len : length l.slots.items ≡ length l.fn.slots.items + l.counter;
  slots_fit : length l.fn.slots.items + l.n ≤ vec_capacity l.slots;
  vacant_fit : length l.fn.slots.items + l.n ≤ vec_capacity l.vacant;
}
