-- What is written so far: each peer with its calls.
use Rattle.std.proofs.Common.{◌≡◌, ◌++◌, All, string_bytes, take}
use Rattle.std.specs.Option.{option_copied}
use Rattle.std.specs.List.{flat_map, enumerate_from}
use Rattle.b1_report.specs.Parsing.{HasPeerFields}
use Rattle.b1_report.specs.Report.{peer_text}
use Rattle.b1_report.proofs.write_peers.Given as goal

abbrev pub invariant-loop-number : goal.invariant-loop-number
invariant-loop-number l = record {
  text : string_bytes l.out ≡ string_bytes l.initial.out ++ flat_map (peer_text (option_copied l.cookies)) (enumerate_from 0 (take l.number l.peers));
  fits : All HasPeerFields (take l.number l.peers);
}
