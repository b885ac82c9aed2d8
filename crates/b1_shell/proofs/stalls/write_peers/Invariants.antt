-- What is written so far: the first number, and each further one behind a comma.
use Rattle.std.proofs.Common.{◌≡◌, ◌++◌, string_bytes, codes, take}
use Rattle.std.specs.List.{flat_map}
use Rattle.std.specs.Fmt.{decimal}
use Rattle.b1_shell.proofs.stalls.write_peers.Given as goal

abbrev pub invariant-loop-peer : goal.invariant-loop-peer
invariant-loop-peer l =
    string_bytes l.out ≡ string_bytes l.initial.out ++ flat_map (λ n. codes "," ++ decimal n) (take l.peer-index l.rest)
