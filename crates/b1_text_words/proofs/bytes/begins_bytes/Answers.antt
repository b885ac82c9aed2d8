-- Other than a dash, digits begin a word, where not too many.
use Rattle.std.proofs.Common.{◌≡◌, true, false, sym, ◌∙◌, arith}
use Rattle.std.specs.Prelude.{codes}
use Rattle.b1_text_words.specs.Words.{Begins}
use Rattle.b1_text_words.proofs.Amongs.{true_le, le_true}
use Rattle.b1_text_words.proofs.Hex.{begins_pairs, pairs_begin}
use Rattle.b1_text_words.proofs.bytes.begins_bytes.Goals as goal

pub returns-then-word-most : goal.returns-then-word-most
returns-then-word-most c =
    let dash = λ (e : Begins (λ w. w ≡ codes "-") c.args.word.now). absurd {A = ⊥} (let yes : c.begins_text.result ≡ true = c.begins_text.ensures.1 e in let not : c.begins_text.result ≡ false = c.if-begins_text.false in cc) in (
      λ is. begins_pairs c.args.most c.args.word.now dash c.if-word-most.true (sym c.are_digits.ensures ∙ is),
      λ b. c.are_digits.ensures ∙ (pairs_begin c.args.most c.args.word.now dash b).1,
    )

pub returns-else-word-most : goal.returns-else-word-most
returns-else-word-most c =
    let dash = λ (e : Begins (λ w. w ≡ codes "-") c.args.word.now). absurd {A = ⊥} (let yes : c.begins_text.result ≡ true = c.begins_text.ensures.1 e in let not : c.begins_text.result ≡ false = c.if-begins_text.false in cc) in (
      λ is. absurd (let few = true_le _ _ is in omega (arith, few, c.if-word-most.false)),
      λ b. le_true _ _ (pairs_begin c.args.most c.args.word.now dash b).0,
    )
