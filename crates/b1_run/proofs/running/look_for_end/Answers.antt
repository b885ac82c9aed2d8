use Rattle.b1_run.proofs.Ends.{ended_of, still_ended}
use Rattle.b1_run.proofs.running.look_for_end.Goals as goal

pub returns-then-is_drained : goal.returns-then-is_drained
returns-then-is_drained c = record {
  closed = c.in_ok-closed.ensures.closed;
  ended = ended_of c.args.script.now.commands c.args.site.workers.items c.in_ok-closed.closed.drivers c.requires.ended c.in_ok-closed.ensures.drivers;
  empty = c.is_drained.ensures c.if-is_drained.true;
}

pub returns : goal.returns
returns c = (
  c.in_ok-reopen_site.ensures.site,
  still_ended c.args.script.now.commands c.in_ok-reopen_site.field-0.workers.items c.in_ok-closed.closed.drivers
      (ended_of c.args.script.now.commands c.args.site.workers.items c.in_ok-closed.closed.drivers c.requires.ended c.in_ok-closed.ensures.drivers)
      c.in_ok-reopen_site.ensures.drivers,
)
