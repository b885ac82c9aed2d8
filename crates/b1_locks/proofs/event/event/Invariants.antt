use Rattle.b1_rule.specs.Rule.{holding}
use Rattle.b1_locks.proofs.event.event.Given as goal

abbrev pub ghosts-unlock : goal.ghosts-unlock
ghosts-unlock g a = record { part = holding a.driver.now }
