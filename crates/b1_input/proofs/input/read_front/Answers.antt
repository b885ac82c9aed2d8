use Rattle.b1_input.proofs.Holding.{front_read}
use Rattle.b1_input.proofs.input.read_front.Goals as goal

pub returns-clause-exact : goal.returns-clause-exact
returns-clause-exact c = front_read c.args.script.bytes c.args.behind.items c.args.count c.in_ok-script.script c.requires c.in_ok-script.ensures.found
