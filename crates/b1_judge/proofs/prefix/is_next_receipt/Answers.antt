use Rattle.b1_judge.proofs.prefix.is_next_receipt.Goals as goal

pub returns-in-Message : goal.returns-in-Message
returns-in-Message c = rw c.in-Message.is c.is_next_message.ensures
