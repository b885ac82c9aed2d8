use Rattle.std.proofs.Common.{◌≡◌, ◌++◌, take}
use Rattle.std.specs.List.{flat_map}
use Rattle.b1_wire.specs.Numbers.{u32_bytes}
use Rattle.b1_script.proofs.writing.put_turns.Given as goal

abbrev pub invariant-loop-turn : goal.invariant-loop-turn
invariant-loop-turn l = l.out.items ≡ l.fn.out.items ++ flat_map u32_bytes (take l.turn-index l.turns)
