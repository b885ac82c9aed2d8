-- The words that are printed for the parts.
use Rattle.std.specs.Prelude.{ℕ, List, codes}
use Rattle.b1_judge.specs.declared.verdict.Clause.{Clause}
use Rattle.b1_judge.specs.declared.verdict.Clause.TheVariants.{Script, Keys, Order, Prefix, Contents, Whole}

abbrev pub word_of : Clause → List ℕ
word_of Script = codes "script"
word_of Keys = codes "keys"
word_of Order = codes "order"
word_of Prefix = codes "prefix"
word_of Contents = codes "contents"
word_of Whole = codes "whole"
