use Rattle.b1_judge_facts.proofs.Passing.{message_above}
use Rattle.b1_judge_facts.proofs.walk.Walk.is_message.Goals as goal

pub returns-then-is_above : goal.returns-then-is_above
returns-then-is_above c = message_above _ _ _ _ _ _ _ _ _ _ _ c.requires.wires c.requires.rec c.last_key.ensures c.is_above.ensures c.if-is_above.true c.message.ensures c.is_message_in.ensures
