use Rattle.std.proofs.Common.{◌∙◌, suc, None}
use Rattle.b1_rule.specs.Rule.{holding}
use Rattle.b1_locks.proofs.Runs.{goes_here, some_open}
use Rattle.b1_locks.proofs.run.go_on.Goals as goal

pub loop-preserved : goal.loop-preserved
loop-preserved g c =
    let o = c.args.bus.now.opening in
    let d = c.loop.hand.state in
    let k = c.loop.invariant in
    let (command, is) = some_open d.part.doing c.command.result c.command.ensures c.if-is_none.ensures in
    let moved = c.event.ensures.moved (holding d) None k.rests (goes_here o d command k.stands k.fit is) in
    let (n, goes) = k.goes in
    record {
      next = tt;
      finite = tt;
      table = c.event.ensures.table ∙ k.table;
      rests = c.event.ensures.rests;
      fit = moved.fit;
      stands = moved.stands;
      goes = (suc n, (d.part, goes, moved.moves));
      spare = moved.spare ∙ k.spare;
    }
