use Rattle.b1_run.specs.Workers.{AllEnded, IsSite}
use Rattle.b1_run.proofs.running.drain.Given as goal

abbrev pub invariant-loop : goal.invariant-loop
invariant-loop g l =
    (goal.iterator-loop g).can_next l.iterator' × (goal.iterator-loop g).is_finite l.iterator'
    × IsSite l.script.opening l.script.commands l.site
    × AllEnded l.script.commands l.site.workers.items
