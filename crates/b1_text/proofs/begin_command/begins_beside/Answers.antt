use Rattle.std.proofs.Common.{◌≤◌, refl, arith}
use Rattle.b1_text.proofs.Begins.{ok_test}
use Rattle.b1_text.proofs.CommandLines.{last, not_true, LimitBegins, beside_limit, beside_any, beside_last}
use Rattle.b1_text.proofs.begin_command.begins_beside.Goals as goal
use Rattle.b1_text.proofs.begin_command.begins_beside.Goals.{else-room-ge24-via-then-room-ge24+else-begins_limits, else-room-ge24-via-else-room-ge24}

pub returns-then-begins_limits : goal.returns-then-begins_limits
returns-then-begins_limits c = (λ _. beside_limit c.args.room c.args.line.now c.if-room-ge24.true (c.begins_limits.ensures.0 c.if-begins_limits.true), λ _. refl)

pub returns : goal.returns
returns c =
    let none : 24 ≤ c.args.room → LimitBegins c.args.line.now → ⊥ =
    elim c.else-room-ge24.branch [
      | else-room-ge24-via-then-room-ge24+else-begins_limits w ↦ (λ fits b. not_true w.if-begins_limits.ensures b)
      | else-room-ge24-via-else-room-ge24 w ↦ (λ fits b. omega (arith, fits, w.if-room-ge24.false))
    ] in
    ok_test c.begins_command.result
    (λ b h. last b h (beside_any c.args.room c.args.line.now) (beside_last c.args.room c.args.line.now none))
    c.begins_command.ensures
