-- What is written so far: each place behind a comma.
use Rattle.std.proofs.Common.{◌≡◌, ◌++◌, All, string_bytes, codes, take}
use Rattle.std.specs.List.{flat_map}
use Rattle.b1_report_lines.specs.Answers.{HasPlaceFields, place_text}
use Rattle.b1_report.proofs.answers.write_more_places.Given as goal

abbrev pub invariant-loop-place : goal.invariant-loop-place
invariant-loop-place l = record {
  text : string_bytes l.out ≡ string_bytes l.initial.out ++ flat_map (λ n. codes "," ++ place_text n) (take l.place-index l.places);
  fits : All HasPlaceFields (take l.place-index l.places);
}
