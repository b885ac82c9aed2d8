use Rattle.std.proofs.Common.{◌≡◌, ◌++◌, length, subst, sym, ap, ◌∙◌}
use Rattle.b1_model.specs.Versions.{version_of}
use Rattle.b1_schedule.specs.Schedule.{IsPlay, IsStall}
use Rattle.b1_report.specs.Parsing.{IsReport}
use Rattle.b1_report.specs.Report.{Cookies, EachSpelled, report_text}
use Rattle.b1_play.specs.Plays.{IsDone, IsStalled, PlaysAsPromised, PlaysScript}
use Rattle.b1_shell.specs.Texts.{stalled_line}
use Rattle.b1_shell.proofs.Plays.{are_told}
use Rattle.b1_shell.proofs.answer.answer_script.Goals as goal

pub print-requires : goal.print-requires
print-requires c =
    let s = c.args.script.now in
    let r = c.in-Done.outcome in
    let play : IsPlay s.opening s.commands s.turns r = subst (PlaysScript s) c.in-Done.is c.in_ok-outcome.ensures.plays in
    subst (λ (own : Cookies). EachSpelled (version_of own) r.peers) (sym c.as_ref-cookies.ensures.value)
    (c.what_is_played_is_spelled.ensures.played (version_of s.cookies) s.opening s.commands s.turns r c.requires.opening (are_told (version_of s.cookies) s.commands c.requires.commands) play)

pub stall_report-requires : goal.stall_report-requires
stall_report-requires c =
    let s = c.args.script.now in
    let r = c.in-Stalled.reached in
    let stall : IsStall s.opening s.commands s.turns c.in-Stalled.waiting r = subst (PlaysScript s) c.in-Stalled.is c.in_ok-outcome.ensures.plays in
    subst (λ (own : Cookies). EachSpelled (version_of own) r.peers) (sym c.as_ref-cookies.ensures.value)
    (c.what_is_played_is_spelled.ensures.stalled (version_of s.cookies) s.opening s.commands s.turns c.in-Stalled.waiting r c.requires.opening (are_told (version_of s.cookies) s.commands c.requires.commands) stall)

pub returns-in_ok-print-in-Done-clause-says : goal.returns-in_ok-print-in-Done-clause-says
returns-in_ok-print-in-Done-clause-says c =
    let s = c.args.script.now in
    let r = c.in-Done.outcome in
    let play : IsPlay s.opening s.commands s.turns r = subst (PlaysScript s) c.in-Done.is c.in_ok-outcome.ensures.plays in
    let kept : IsDone s r = subst (PlaysAsPromised s) c.in-Done.is c.in_ok-outcome.ensures.promises in
    let text = c.in_ok-print-in-Done.field-0.items in
    let told : text ≡ report_text s.cookies r = c.in_ok-print-in-Done.ensures.text ∙ ap (λ (own : Cookies). report_text own r) c.as_ref-cookies.ensures.value in
    record {
      outcome = r;
      played = play;
      drained = c.a_finished_play_is_drained.ensures s.opening s.commands s.turns r c.requires.opening play;
      legal = kept.legal;
      whole = kept.whole;
      script = kept.script;
      serial = kept.serial;
      alone = λ none ample. told ∙ ap (report_text s.cookies) (kept.alone none ample);
      unstalled = kept.unstalled;
      text_is = told;
      again = subst (λ (own : Cookies). IsReport own (length r.peers) text r) c.as_ref-cookies.ensures.value c.in_ok-print-in-Done.ensures.report;
    }

pub returns-in_ok-stall_report-in-Stalled-clause-says : goal.returns-in_ok-stall_report-in-Stalled-clause-says
returns-in_ok-stall_report-in-Stalled-clause-says c =
    let s = c.args.script.now in
    let r = c.in-Stalled.reached in
    let stall : IsStall s.opening s.commands s.turns c.in-Stalled.waiting r = subst (PlaysScript s) c.in-Stalled.is c.in_ok-outcome.ensures.plays in
    let kept : IsStalled s c.in-Stalled.waiting r = subst (PlaysAsPromised s) c.in-Stalled.is c.in_ok-outcome.ensures.promises in
    record {
      waiting = c.in-Stalled.waiting;
      outcome = r;
      stalls = stall;
      stuck = c.a_stalled_play_is_stuck.ensures s.opening s.commands s.turns c.in-Stalled.waiting r c.requires.opening stall;
      legal = kept.legal;
      serial = kept.serial;
      script = c.what_is_played_is_scripted.ensures.stalled s.opening s.commands s.turns c.in-Stalled.waiting r c.requires.opening (λ t reached. c.every_reached_state_is_sound.ensures.reached s.opening t c.requires.opening reached) stall;
      text_is = c.in_ok-stall_report-in-Stalled.ensures ∙ ap (λ (own : Cookies). stalled_line c.in-Stalled.waiting ++ report_text own r) c.as_ref-cookies.ensures.value;
    }
