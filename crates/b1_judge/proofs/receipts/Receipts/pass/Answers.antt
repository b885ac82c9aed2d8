use Rattle.std.proofs.Common.{rules, ◌<◌, length}
use Rattle.b1_judge.proofs.Behind.{data_more}
use Rattle.b1_judge.proofs.receipts.Receipts.pass.Goals as goal

pub invariant_of-self-2 : goal.invariant_of-self-2
invariant_of-self-2 c =
    let within : c.self.inside.count < length c.self.inside.calls.now = search rules in
    data_more c.self.inside.calls.now c.self.inside.count c.index-calls-self.result c.self.inside.found.items c.put_data.new.found.items within c.index-calls-self.is c.self.invariant c.in_ok-put_data.ensures.ok
