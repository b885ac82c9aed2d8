use Rattle.std.proofs.Common.{subst}
use Rattle.b1_script.specs.declared.script.Script.{Script}
use Rattle.b1_run.specs.Runs.{RunsAsPromised, IsStalled}
use Rattle.b1_run.specs.declared.running.Ran.{Ran}
use Rattle.b1_run.specs.declared.running.Ran.TheVariants as ran
use Rattle.b1_soak.proofs.Soaks.{no_stall}
use Rattle.b1_soak.proofs.soaking.soak.Goals as goal

pub unreachable-requires : goal.unreachable-requires
unreachable-requires g c =
    let end : RunsAsPromised c.in_ok-script.script (ran.Stalled c.in-Stalled.waiting c.in-Stalled.reached) = subst (λ (r : Ran). RunsAsPromised c.in_ok-script.script r) c.in-Stalled.is c.in_ok-run.ensures in
    no_stall c.args.number c.in-Stalled.waiting c.in-Stalled.reached (subst (λ (s : Script). IsStalled s c.in-Stalled.waiting c.in-Stalled.reached) c.in_ok-script.ensures.script end)
