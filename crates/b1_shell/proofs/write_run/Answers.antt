use Rattle.std.proofs.Common.{subst, List, ℕ, ◌<◌, length}
use Rattle.b1_io.specs.Streams.{Took, TookSuch}
use Rattle.b1_shell.proofs.Lemmas.{Written, tells_run}
use Rattle.b1_shell.proofs.Complete.{run_completes}
use Rattle.b1_shell.proofs.write_run.Goals as goal

pub returns-in-Ok-clause-tells : goal.returns-in-Ok-clause-tells
returns-in-Ok-clause-tells g c =
    let old = g.K.Sink.taken c.args.sink.now in
    let new = g.K.Sink.taken c.write_said.new.sink in
    let written : Written c.in-Ok.said c.in-Ok.text.items old new c.write_said.result = record {
      known = c.write_said.ensures.known;
      whole = λ other. subst (λ (t : List ℕ). Took old new t) c.deref.ensures.value (c.write_said.ensures.whole other);
      part = λ five. subst (λ (t : List ℕ). TookSuch old new t (λ n. n < length t)) c.deref.ensures.value (c.write_said.ensures.part five);
    } in
    let k = c.in-Ok.ensures in
    tells_run written _ _ k.read.says k.unbroken k.read.end (λ done. k.read.unless_bad (λ bad. cc (done, bad))) (λ stalled. k.read.unless_bad (λ bad. cc (stalled, bad)))

pub returns-in-Ok-clause-complete : goal.returns-in-Ok-clause-complete
returns-in-Ok-clause-complete g c = λ read_well written_well.
    let k = c.in-Ok.ensures in
    run_completes _ c.in-Ok.said c.in-Ok.text.items _ c.write_said.ensures.known (λ five. written_well (c.write_said.ensures.fault five)) k.read.says k.unbroken k.read.accepted
