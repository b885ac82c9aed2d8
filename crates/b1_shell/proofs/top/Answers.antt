use Rattle.std.proofs.Common.{◌≡◌, subst, ℕ}
use Rattle.b1_shell.specs.Ends.{spelled}
use Rattle.b1_shell.specs.Runs.{TellsSoak}
use Rattle.b1_shell.specs.Threads as threads
use Rattle.b1_shell.specs.declared.threaded.Threaded.TheVariants.{Run, Soak}
use Rattle.b1_shell.proofs.Lemmas.{same_soak}
use Rattle.b1_shell.proofs.top.Goals as goal

pub returns-in-None-clause-run : goal.returns-in-None-clause-run
returns-in-None-clause-run g c = λ is. absurd (c.in-None.ensures.nothing Run is)

pub returns-in-None-clause-soak : goal.returns-in-None-clause-soak
returns-in-None-clause-soak g c = λ n is. absurd (c.in-None.ensures.nothing (Soak n) is)

pub returns-in-Some-Soak-clause-soak : goal.returns-in-Some-Soak-clause-soak
returns-in-Some-Soak-clause-soak g c = λ n is.
    let words = spelled c.args.words.now in
    let asked : threads.Asks words (Soak c.in-Some-Soak.number) = subst (threads.Asks words) c.in-Some-Soak.field-0-is c.in-Some-Soak.ensures.asked in
    let same : c.in-Some-Soak.number ≡ n = same_soak words c.in-Some-Soak.number n asked is in
    subst (λ (k : ℕ). TellsSoak k (g.K.Sink.taken c.args.sink.now) (g.K.Sink.taken c.write_soak.new.sink) c.write_soak.result) same c.write_soak.ensures.tells

pub returns-in-None-clause-run_complete : goal.returns-in-None-clause-run_complete
returns-in-None-clause-run_complete g c = λ read written asks. absurd (c.in-None.ensures.nothing Run asks)
