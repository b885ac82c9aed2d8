use Rattle.b1_queue.proofs.Entries.{IsNewKey-without, IsNewItem-without}
use Rattle.b1_queue.proofs.plain.PlainQueueQueueKind.restamp.Goals as goal

pub put-requires-clause-new_key : goal.put-requires-clause-new_key
put-requires-clause-new_key c =
    rw c.remove.ensures.listed (IsNewKey-without c.args.item c.args.self.now.entries.items c.args.new c.requires.new_key)

pub put-requires-clause-new_item : goal.put-requires-clause-new_item
put-requires-clause-new_item c =
    rw c.remove.ensures.listed (IsNewItem-without c.args.item c.args.self.now.entries.items)
