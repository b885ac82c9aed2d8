use Rattle.std.specs.Option.{option_copied}
use Rattle.std.proofs.Common.{refl, arith, ◌^◌, ◌<◌, ◌∙◌, ◌∷◌, List, ℕ, ap, length}
use Rattle.std.proofs.lemmas.List.{length-append}
use Rattle.b1_report.specs.Runs.{run_text}
use Rattle.b1_report_lines.specs.declared.lines.Place.TheVariants as place
use Rattle.b1_report_lines.proofs.Leaves.{free_from}
use Rattle.b1_report.proofs.Faults.{can_follow, unfinished_line, refused_line, none_drafted, one_drafted, all_drafted}
use Rattle.b1_report.proofs.LineRuns.{run_calls, run_place}
use Rattle.b1_report.proofs.parsing.read_draft.Goals as goal

pub loop-left-init : goal.loop-left-init
loop-left-init c = none_drafted (option_copied c.args.cookies) c.args.peers c.args.bytes.now c.new-draft.result c.new-draft.ensures

pub unfinished-requires-clause-known : goal.unfinished-requires-clause-known
unfinished-requires-clause-known c = run_place (option_copied c.args.cookies) c.args.peers c.loop-left.invariant.all place.Header c.loop-left.place c.loop-left.invariant.so_far.run tt

pub read_line-requires : goal.read_line-requires
read_line-requires c = run_place (option_copied c.args.cookies) c.args.peers c.loop-left.invariant.all place.Header c.loop-left.place c.loop-left.invariant.so_far.run tt

pub returns-in_default-clause-bad : goal.returns-in_default-clause-bad
returns-in_default-clause-bad c =
    let small : c.args.peers < 2 ^ 32 = omega arith in
    unfinished_line (option_copied c.args.cookies) c.args.peers small c.args.bytes.now c.loop-left.invariant.all c.loop-left.place c.loop-left.left.now c.loop-left.invariant.so_far _ c.unfinished.result refl
    (free_from 10 c.loop-left.left.now c.in_default.ensures.free)
    (λ done none. grind (arith, c.is_done.ensures, done, none))
    c.unfinished.ensures

pub behind-place-requires : goal.behind-place-requires
behind-place-requires c =
    let small : c.args.peers < 2 ^ 32 = omega arith in
    let cookies = option_copied c.args.cookies in
    let all = c.loop-left.invariant.all in
    let counted = run_calls cookies c.args.peers all place.Header c.loop-left.place c.loop-left.invariant.so_far.run in
    let whole = ap (λ (x : List ℕ). length x) c.loop-left.invariant.so_far.same ∙ length-append (run_text cookies c.args.peers place.Header all) c.loop-left.left.now in
    let some = ap (λ (x : List ℕ). length x) c.in-Some.ensures.parts ∙ length-append c.in-Some.text.now (10 ∷ c.in-Some.rest.now) in
    can_follow cookies c.args.peers c.loop-left.place c.in-Ok.line small (omega (arith, counted, whole, some)) c.in-Ok.ensures.is_line.may

pub loop-left-preserved : goal.loop-left-preserved
loop-left-preserved c =
    let small : c.args.peers < 2 ^ 32 = omega arith in
    rw c.behind-place.ensures
    (one_drafted (option_copied c.args.cookies) c.args.peers small c.args.bytes.now c.loop-left.draft c.take.new.self c.loop-left.place c.loop-left.left.now c.in-Some.text.now c.in-Some.rest.now c.in-Ok.line c.loop-left.invariant c.in_ok-take-in-Ok.ensures c.in-Some.ensures.parts c.in-Ok.ensures)

pub returns-in-Err-clause-bad : goal.returns-in-Err-clause-bad
returns-in-Err-clause-bad c =
    let small : c.args.peers < 2 ^ 32 = omega arith in
    rw c.fault.ensures
    (refused_line (option_copied c.args.cookies) c.args.peers small c.args.bytes.now c.loop-left.invariant.all c.loop-left.place c.loop-left.left.now c.loop-left.invariant.so_far _ c.in-Some.text.now c.in-Some.rest.now c.in-Err.why refl c.in-Some.ensures.parts (free_from 10 c.in-Some.text.now c.in-Some.ensures.first) c.in-Err.ensures)

pub returns-clause-read : goal.returns-clause-read
returns-clause-read c =
    let ended = c.is_done.ensures.0 c.loop-left-test.false in
    all_drafted (option_copied c.args.cookies) c.args.peers c.args.bytes.now c.loop-left.draft c.loop-left.place c.loop-left.left.now c.loop-left.invariant ended.0 ended.1
