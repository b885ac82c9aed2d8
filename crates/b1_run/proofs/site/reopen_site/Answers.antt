use Rattle.std.proofs.Common.{◌∙◌}
use Rattle.b1_run.proofs.Ends.{are_at, owned_by}
use Rattle.b1_run.proofs.site.reopen_site.Goals as goal

pub returns-clause-site : goal.returns-clause-site
returns-clause-site c = record {
  opening = c.in_ok-bus.ensures.opening ∙ c.requires.opening;
  are_at = are_at c.in_ok-bus.bus c.args._script.now.commands c.in_ok-workers.workers.items c.in_ok-bus.drivers.items c.args.closed.drivers c.in_ok-workers.ensures c.in_ok-bus.ensures.members c.in_ok-bus.ensures.drivers c.requires.follows;
}

pub returns-clause-drivers : goal.returns-clause-drivers
returns-clause-drivers c = owned_by c.in_ok-workers.workers.items c.in_ok-bus.drivers.items c.args.closed.drivers c.in_ok-workers.ensures c.in_ok-bus.ensures.drivers
