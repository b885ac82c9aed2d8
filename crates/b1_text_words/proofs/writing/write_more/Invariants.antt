-- What is written so far: each number behind a comma.
use Rattle.std.proofs.Common.{◌≡◌, ◌++◌, ◌<◌, ◌^◌, All, string_bytes, codes, take}
use Rattle.std.specs.List.{flat_map}
use Rattle.b1_text_words.specs.Items.{item_text}
use Rattle.b1_text_words.proofs.writing.write_more.Given as goal

abbrev pub invariant-loop-number : goal.invariant-loop-number
invariant-loop-number l = record {
  text : string_bytes l.out ≡ string_bytes l.initial.out ++ flat_map (λ n. codes "," ++ item_text l.item n) (take l.number-index l.numbers);
  fits : All (λ n. n < 2 ^ 64) (take l.number-index l.numbers);
}
