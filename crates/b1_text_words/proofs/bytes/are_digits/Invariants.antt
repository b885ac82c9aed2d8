-- All bytes so far are digits.
use Rattle.std.proofs.Common.{◌≡◌, true, take}
use Rattle.b1_text_words.specs.Digits.{are_hex_digits}
use Rattle.b1_text_words.proofs.bytes.are_digits.Given as goal

abbrev pub invariant-loop-byte : goal.invariant-loop-byte
invariant-loop-byte l = are_hex_digits (take l.byte-index l.word) ≡ true
