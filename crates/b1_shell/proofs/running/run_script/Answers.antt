use Rattle.std.proofs.Common.{subst, sym}
use Rattle.b1_model.specs.declared.records.Record.{Record}
use Rattle.b1_play_commands.proofs.Recorded.{recorded_in_place}
use Rattle.b1_model.specs.Versions.{version_of}
use Rattle.b1_report.specs.Report.{Cookies, EachSpelled}
use Rattle.b1_run.specs.Runs.{IsDone, IsStalled, RunsAsPromised}
use Rattle.b1_shell.proofs.Plays.{are_told}
use Rattle.b1_shell.proofs.running.run_script.Goals as goal

pub print-requires : goal.print-requires
print-requires g c =
    let s = c.args.script.now in
    let d : IsDone s c.in-Done.outcome = subst (RunsAsPromised s) c.in-Done.is c.in_ok-outcome.ensures in
    subst (λ (own : Cookies). EachSpelled (version_of own) c.in-Done.outcome.peers) (sym c.as_ref-cookies.ensures.value)
    (subst (λ (r : Record). EachSpelled (version_of s.cookies) r.peers) (sym d.record_is)
    (c.what_is_played_is_spelled.ensures.reached (version_of s.cookies) s.opening s.commands d.state c.requires.opening (are_told (version_of s.cookies) s.commands c.requires.commands) d.reached (λ p. recorded_in_place s.commands d.state p d.following)))

pub stall_report-requires : goal.stall_report-requires
stall_report-requires g c =
    let s = c.args.script.now in
    let d : IsStalled s c.in-Stalled.waiting c.in-Stalled.reached = subst (RunsAsPromised s) c.in-Stalled.is c.in_ok-outcome.ensures in
    subst (λ (own : Cookies). EachSpelled (version_of own) c.in-Stalled.reached.peers) (sym c.as_ref-cookies.ensures.value)
    (subst (λ (r : Record). EachSpelled (version_of s.cookies) r.peers) (sym d.record_is)
    (c.what_is_played_is_spelled.ensures.reached (version_of s.cookies) s.opening s.commands d.state c.requires.opening (are_told (version_of s.cookies) s.commands c.requires.commands) d.reached (λ p. recorded_in_place s.commands d.state p d.following)))
