-- By the words that stand alone.
use Rattle.std.proofs.Common.{◌≡◌, true, false, inl, inr, refl}
use Rattle.b1_text_words.proofs.Parts.{recv_begins, query_begins, disconnect_begins, await_alone, alone_begins}
use Rattle.b1_text_words.proofs.commands.begins_alone.Goals as goal

pub returns-then-begins_text : goal.returns-then-begins_text
returns-then-begins_text c = (λ is. recv_begins c.args.form c.args.line.now (c.begins_text.ensures.0 c.if-begins_text.true), λ b. refl)

pub returns-then-begins_text-2 : goal.returns-then-begins_text-2
returns-then-begins_text-2 c = (λ is. query_begins c.args.form c.args.line.now (c.begins_text-2.ensures.0 c.if-begins_text-2.true), λ b. refl)

pub returns-then-begins_text-3 : goal.returns-then-begins_text-3
returns-then-begins_text-3 c = (λ is. disconnect_begins c.args.form c.args.line.now (c.begins_text-3.ensures.0 c.if-begins_text-3.true), λ b. refl)

pub returns : goal.returns
returns c = (
  λ is. await_alone c.args.form c.args.line.now (c.begins_await.ensures.0 is),
  λ b. elim (alone_begins c.args.form c.args.line.now b) [
    | inl found ↦ absurd (let yes : c.begins_text.result ≡ true = c.begins_text.ensures.1 found in let not : c.begins_text.result ≡ false = c.if-begins_text.false in cc)
    | inr more ↦ elim more [
      | inl found ↦ absurd (let yes : c.begins_text-2.result ≡ true = c.begins_text-2.ensures.1 found in let not : c.begins_text-2.result ≡ false = c.if-begins_text-2.false in cc)
      | inr most ↦ elim most [
        | inl found ↦ absurd (let yes : c.begins_text-3.result ≡ true = c.begins_text-3.ensures.1 found in let not : c.begins_text-3.result ≡ false = c.if-begins_text-3.false in cc)
        | inr found ↦ c.begins_await.ensures.1 found
      ]
    ]
  ],
)
