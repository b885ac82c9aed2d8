use Rattle.std.proofs.Common.{◌≡◌, replicate}
use Rattle.b1_model.specs.declared.parts.Slot.TheVariants.{Unattached}
use Rattle.b1_driver.proofs.room.slot_lists.Given as goal

abbrev pub invariant-loop : goal.invariant-loop
invariant-loop l = l.all.items ≡ replicate l.counter (replicate l.handles Unattached)
