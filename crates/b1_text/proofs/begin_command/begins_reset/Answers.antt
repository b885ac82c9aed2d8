use Rattle.b1_text.proofs.CommandLines.{last, reset_begins, limits_last}
use Rattle.b1_text.proofs.begin_command.begins_reset.Goals as goal

pub returns-then-room-ge24 : goal.returns-then-room-ge24
returns-then-room-ge24 c = last c.begins_limits.result c.begins_limits.ensures (reset_begins c.args.room c.args.line.now c.if-room-ge24.true) (limits_last c.args.room c.args.line.now)
