-- What is written so far: a line for each call.
use Rattle.std.proofs.Common.{◌≡◌, ◌++◌, All, string_bytes, take}
use Rattle.b1_report.specs.Parsing.{HasCallFields}
use Rattle.b1_report.specs.Report.{calls_text}
use Rattle.b1_report.proofs.write_calls.Given as goal

abbrev pub invariant-loop-place : goal.invariant-loop-place
invariant-loop-place l = record {
  text : string_bytes l.out ≡ string_bytes l.initial.out ++ calls_text l.cookies (take l.place l.call-items);
  fits : All HasCallFields (take l.place l.call-items);
}
