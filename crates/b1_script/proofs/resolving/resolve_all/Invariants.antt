use Rattle.std.proofs.Common.{◌≡◌, map, take}
use Rattle.b1_model.specs.Script.{resolved_handle}
use Rattle.b1_script.proofs.resolving.resolve_all.Given as goal

abbrev pub invariant-loop-number : goal.invariant-loop-number
invariant-loop-number l = l.items.items ≡ map (resolved_handle l.calls) (take l.number-index l.numbers)
