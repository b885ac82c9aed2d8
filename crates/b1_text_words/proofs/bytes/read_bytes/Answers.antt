-- Other than a dash, only pairs spell bytes.
use Rattle.std.proofs.Common.{◌≡◌, true, false, Result, Ok, Err, IfOk, Option, Some, List, ℕ}
use Rattle.b1_text_words.specs.Digits.{bytes_of, ArePairs}
use Rattle.b1_text_words.specs.Items.{AreBytes}
use Rattle.b1_text_words.specs.Numbers.{hex_text}
use Rattle.b1_text_words.specs.Words.{Reads}
use Rattle.b1_text_words.proofs.Hex.{reads_nothing, reads_pairs}
use Rattle.b1_text_words.proofs.bytes.read_bytes.Goals as goal

given : {E : Type 0} (most : ℕ) (word : List ℕ) (r : Result (Option (List ℕ)) E) → ArePairs most word → IfOk r (λ x. x ≡ Some (bytes_of word)) → IfOk r (λ x. Reads hex_text (AreBytes most) word x)
given most word (Err e) pairs is = tt
given most word (Ok x) pairs is = rw is (reads_pairs most word pairs)

pub returns-then-not-are_pairs : goal.returns-then-not-are_pairs
returns-then-not-are_pairs c = reads_nothing c.args.most c.args.word.now
    (λ e. absurd (let yes : c.is_text.result ≡ true = c.is_text.ensures.1 e in let not : c.is_text.result ≡ false = c.if-is_text.false in cc))
    (λ pairs. absurd {A = ⊥} (let yes : c.are_pairs.result ≡ true = c.are_pairs.ensures.1 pairs in let not : c.are_pairs.result ≡ false = c.if-not-are_pairs.true in cc))

pub returns : goal.returns
returns c = given c.args.most c.args.word.now c.read_pairs.result (c.are_pairs.ensures.0 c.if-not-are_pairs.false) c.read_pairs.ensures
