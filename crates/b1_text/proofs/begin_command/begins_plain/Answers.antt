use Rattle.std.proofs.Common.{refl}
use Rattle.b1_text.proofs.CommandLines.{last, not_true, disconnect_begins, query_begins, recv_begins, await_begins, plain_last}
use Rattle.b1_text.proofs.begin_command.begins_plain.Goals as goal
use Rattle.b1_text.proofs.begin_command.begins_plain.Goals.{then-begins_text-via-then-begins_text, then-begins_text-via-else-begins_text+then-begins_text-2, then-begins_text-via-else-begins_text+else-begins_text-2+then-begins_text-3}

pub returns-then-begins_text : goal.returns-then-begins_text
returns-then-begins_text c =
    elim c.then-begins_text.branch [
      | then-begins_text-via-then-begins_text w ↦ (λ _. disconnect_begins c.args.room c.args.line.now c.if-room-lt-LEAST_RECORD.false (w.if-begins_text.ensures.0 refl), λ _. refl)
      | then-begins_text-via-else-begins_text+then-begins_text-2 w ↦ (λ _. query_begins c.args.room c.args.line.now c.if-room-lt-LEAST_RECORD.false (w.if-begins_text-2.ensures.0 refl), λ _. refl)
      | then-begins_text-via-else-begins_text+else-begins_text-2+then-begins_text-3 w ↦ (λ _. recv_begins c.args.room c.args.line.now c.if-room-lt-LEAST_RECORD.false (w.if-begins_text-3.ensures.0 refl), λ _. refl)
    ]

pub returns : goal.returns
returns c =
    last c.begins_text-2.result c.begins_text-2.ensures (await_begins c.args.room c.args.line.now c.if-room-lt-LEAST_RECORD.false)
    (plain_last c.args.room c.args.line.now (not_true c.if-begins_text.ensures) (not_true c.if-begins_text-2.ensures) (not_true c.if-begins_text-3.ensures))
