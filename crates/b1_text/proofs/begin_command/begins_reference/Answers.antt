use Rattle.std.proofs.Common.{refl}
use Rattle.b1_text.proofs.CommandLines.{last, not_true, release_begins, slice_begins, destroy_begins, reference_last}
use Rattle.b1_text.proofs.begin_command.begins_reference.Goals as goal
use Rattle.b1_text.proofs.begin_command.begins_reference.Goals.{then-begins_one-via-then-begins_one, then-begins_one-via-else-begins_one+then-begins_one-2}

pub returns-then-begins_one : goal.returns-then-begins_one
returns-then-begins_one c =
    elim c.then-begins_one.branch [
      | then-begins_one-via-then-begins_one w ↦ (λ _. release_begins c.args.room c.args.line.now c.if-room-lt16.false (w.if-begins_one.ensures.0 refl), λ _. refl)
      | then-begins_one-via-else-begins_one+then-begins_one-2 w ↦ (λ _. slice_begins c.args.room c.args.line.now c.if-room-lt16.false (w.if-begins_one-2.ensures.0 refl), λ _. refl)
    ]

pub returns : goal.returns
returns c =
    last c.begins_several.result c.begins_several.ensures (destroy_begins c.args.room c.most_handles.result c.args.line.now c.if-room-lt16.false c.most_handles.ensures)
    (reference_last c.args.room c.most_handles.result c.args.line.now c.most_handles.ensures (not_true c.if-begins_one.ensures) (not_true c.if-begins_one-2.ensures))
