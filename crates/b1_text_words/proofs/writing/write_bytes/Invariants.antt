-- What is written so far: a pair for each byte.
use Rattle.std.proofs.Common.{◌≡◌, ◌++◌, ◌<◌, All, string_bytes, take}
use Rattle.std.specs.List.{flat_map}
use Rattle.b1_text_words.specs.Numbers.{hex_pair}
use Rattle.b1_text_words.proofs.writing.write_bytes.Given as goal

abbrev pub invariant-loop-byte : goal.invariant-loop-byte
invariant-loop-byte l = record {
  text : string_bytes l.out ≡ string_bytes l.initial.out ++ flat_map hex_pair (take l.byte-index l.bytes);
  fits : All (λ b. b < 256) (take l.byte-index l.bytes);
}
