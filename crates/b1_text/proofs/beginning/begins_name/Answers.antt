use Rattle.b1_text.proofs.CommandLines.{not_true}
use Rattle.b1_text.proofs.NextLines.{first_next, second_next}
use Rattle.b1_text.proofs.beginning.begins_name.Goals as goal

pub returns-then-begins_text : goal.returns-then-begins_text
returns-then-begins_text c = (λ t. first_next c.args.line.now (c.begins_text.ensures.0 t), λ _. c.if-begins_text.true)

pub returns-else-begins_text : goal.returns-else-begins_text
returns-else-begins_text c = second_next c.args.line.now c.begins_text-else-begins_text.result (not_true c.if-begins_text.ensures) c.begins_text-else-begins_text.ensures
