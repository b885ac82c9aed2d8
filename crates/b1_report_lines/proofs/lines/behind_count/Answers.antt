use Rattle.std.proofs.Common.{arith, Ok, Err}
use Rattle.std.specs.Option.{option_copied}
use Rattle.b1_report_lines.specs.declared.unread.Stop.TheVariants.{Cut, Broken}
use Rattle.b1_report_lines.specs.Markers.{marker_at}
use Rattle.b1_report_lines.proofs.Choosing.{stopped}
use Rattle.b1_report_lines.proofs.ExactLines.{marker_ok, marker_cut, call_ok, call_err, call_none, tells_as}
use Rattle.b1_report_lines.proofs.lines.behind_count.Goals as goal

pub returns-in-Ok : goal.returns-in-Ok
returns-in-Ok c = marker_ok (option_copied c.args.cookies) c.args.peers c.args.begun c.args.calls c.requires c.args.bytes.now c.in-Ok.line c.in-Ok.ensures

pub returns-in-Err-Stopped-Cut : goal.returns-in-Err-Stopped-Cut
returns-in-Err-Stopped-Cut c =
    let s = c.in-Err-Stopped-Cut in
    marker_cut (option_copied c.args.cookies) c.args.peers c.args.begun c.args.calls c.requires c.args.bytes.now
    (stopped s.field-0 s.field-0-0 Cut (marker_at c.args.peers c.args.begun c.args.bytes.now) s.field-0-is s.field-0-0-is s.ensures)

pub returns-then-begun-eq0 : goal.returns-then-begun-eq0
returns-then-begun-eq0 c =
    let s = c.in-Err-Stopped-Broken in
    call_none (option_copied c.args.cookies) c.args.peers c.args.begun c.args.calls c.requires c.args.bytes.now (omega arith)
    (stopped s.field-0 s.field-0-0 Broken (marker_at c.args.peers c.args.begun c.args.bytes.now) s.field-0-is s.field-0-0-is s.ensures)

pub returns-in-Ok-numbered_call : goal.returns-in-Ok-numbered_call
returns-in-Ok-numbered_call c =
    let s = c.in-Err-Stopped-Broken in
    call_ok (option_copied c.args.cookies) c.args.peers c.args.begun c.args.calls c.requires c.args.bytes.now c.in-Ok-numbered_call.call (omega arith)
    (stopped s.field-0 s.field-0-0 Broken (marker_at c.args.peers c.args.begun c.args.bytes.now) s.field-0-is s.field-0-0-is s.ensures)
    (tells_as _ _ _ _ c.args.bytes.now (Ok c.in-Ok-numbered_call.call) c.version_of.ensures c.next_cookie-cookie.ensures c.in-Ok-numbered_call.ensures)

pub returns-in-Err : goal.returns-in-Err
returns-in-Err c =
    let s = c.in-Err-Stopped-Broken in
    call_err (option_copied c.args.cookies) c.args.peers c.args.begun c.args.calls c.requires c.args.bytes.now c.in-Err.why (omega arith)
    (stopped s.field-0 s.field-0-0 Broken (marker_at c.args.peers c.args.begun c.args.bytes.now) s.field-0-is s.field-0-0-is s.ensures)
    (tells_as _ _ _ _ c.args.bytes.now (Err c.in-Err.why) c.version_of.ensures c.next_cookie-cookie.ensures c.in-Err.ensures)
