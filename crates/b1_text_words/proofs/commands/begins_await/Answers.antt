-- An AWAIT stands in scripts alone.
use Rattle.std.proofs.Common.{◌↔◌, IsTrue, sym, subst}
use Rattle.b1_text_words.specs.Verbs.{IsAwaitIn}
use Rattle.b1_text_words.specs.Words.{Begins}
use Rattle.b1_text_words.proofs.Parts.{Spelled, await_begins, begins_await}
use Rattle.b1_text_words.proofs.commands.begins_await.Goals as goal

pub returns-in-Script : goal.returns-in-Script
returns-in-Script c = subst (λ form. IsTrue c.begins_text.result ↔ Begins (Spelled form (IsAwaitIn form)) c.args.line.now) (sym c.in-Script.is)
    ((λ is. await_begins c.args.line.now (c.begins_text.ensures.0 is)), (λ b. c.begins_text.ensures.1 (begins_await c.args.line.now b)))
