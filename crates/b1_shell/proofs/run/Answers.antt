use Rattle.std.proofs.Common.{subst, List, ℕ, ◌<◌, length}
use Rattle.b1_io.specs.Streams.{Took, TookSuch}
use Rattle.b1_shell.proofs.Lemmas.{Written, tells_input}
use Rattle.b1_shell.proofs.Complete.{completes, reads_to_end}
use Rattle.b1_shell.proofs.run.Goals as goal

pub returns-in-Ok-read_and_answer-clause-input : goal.returns-in-Ok-read_and_answer-clause-input
returns-in-Ok-read_and_answer-clause-input g c =
    let old = g.K.Sink.taken c.args.sink.now in
    let new = g.K.Sink.taken c.write_said.new.sink in
    let written : Written c.in-Ok-read_and_answer.said c.in-Ok-read_and_answer.text.items old new c.write_said.result = record {
      known = c.write_said.ensures.known;
      whole = λ other. subst (λ (t : List ℕ). Took old new t) c.deref.ensures.value (c.write_said.ensures.whole other);
      part = λ five. subst (λ (t : List ℕ). TookSuch old new t (λ n. n < length t)) c.deref.ensures.value (c.write_said.ensures.part five);
    } in
    tells_input written _ c.in-Some.form c.in-Some.ensures.asked _ c.in-Ok-read_and_answer.ensures.read.says

pub returns-in-Ok-read_and_answer-clause-ends : goal.returns-in-Ok-read_and_answer-clause-ends
returns-in-Ok-read_and_answer-clause-ends g c = reads_to_end _ c.in-Some.form _ _ c.in-Ok-read_and_answer.said _ _ c.in-Some.ensures.asked c.write_said.ensures.known c.in-Ok-read_and_answer.ensures.read

pub returns-in-Ok-read_and_answer-clause-complete : goal.returns-in-Ok-read_and_answer-clause-complete
returns-in-Ok-read_and_answer-clause-complete g c = λ read_well written_well.
    completes _ c.in-Some.form _ c.in-Ok-read_and_answer.said c.in-Ok-read_and_answer.text.items _ c.in-Some.ensures.asked c.write_said.ensures.known (λ five. written_well (c.write_said.ensures.fault five)) c.in-Ok-read_and_answer.ensures.read.says c.in-Ok-read_and_answer.ensures.read.accepted
