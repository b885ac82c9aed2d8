-- The whole is so where what is left is.
use Rattle.std.proofs.Common.{◌≡◌, ◌↔◌, true, drop}
use Rattle.b1_text_words.specs.Lines.{IsLine, are_free_of}
use Rattle.b1_text_words.specs.Words.{Begins}
use Rattle.b1_text_words.proofs.kinds.begins_line.Given as goal

abbrev pub invariant-loop-kind : goal.invariant-loop-kind
invariant-loop-kind l = (are_free_of l.separator (drop l.kind-index l.kinds) ≡ true) × (Begins (IsLine l.separator l.kinds) l.line ↔ Begins (IsLine l.separator (drop l.kind-index l.kinds)) l.rest)
