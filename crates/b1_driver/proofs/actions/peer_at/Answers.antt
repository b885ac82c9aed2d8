use Rattle.std.proofs.Common.{sym}
use Rattle.b1_driver.proofs.Lists.{read_none}
use Rattle.b1_driver.proofs.actions.peer_at.Goals as goal

pub returns-in-None : goal.returns-in-None
returns-in-None c = sym (read_none c.args.peers.now c.args.place c.args.me (sym c.in-None.ensures))
