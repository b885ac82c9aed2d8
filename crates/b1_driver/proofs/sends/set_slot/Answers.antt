use Rattle.std.proofs.Common.{[], set}
use Rattle.b1_driver.proofs.Lists.{set_twice}
use Rattle.b1_driver.proofs.sends.set_slot.Goals as goal

pub returns-then-place-len : goal.returns-then-place-len
returns-then-place-len c =
    rw (c.replace.ensures.list, c.replace-list.ensures.list, c.set_in.ensures)
    (set_twice c.args.slots.now c.args.place c.replace-list.result c.new.result [] (λ l. set l c.args.handle c.args.slot) c.replace-list.ensures.out)
