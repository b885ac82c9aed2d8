use Rattle.std.proofs.Common.{arith}
use Rattle.std.proofs.lemmas.Grind.{common_steps}
use Rattle.b1_io.proofs.Steps.{took_rest}
use Rattle.b1_io.proofs.wholes.write_all.Goals as goal

pub loop-sent-preserved : goal.loop-sent-preserved
loop-sent-preserved g c = record {
  within = grind (arith, common_steps, c.in_ok-sent.ensures.within);
  took = took_rest _ _ _ c.args.bytes.now c.loop-sent.sent c.in_ok-sent.field-0 c.loop-sent.invariant.took c.in_ok-sent.ensures.takes;
  kept = omega (arith, c.in_ok-sent.ensures.never_falls);
  uncalled = λ none. grind (arith, common_steps, c.in_ok-sent.ensures.some);
}
