use Rattle.std.specs.Prelude.{◌≡◌, ℕ, List, codes}
use Rattle.b1_errs.specs.declared.Cause.{Cause}
use Rattle.b1_errs.specs.declared.Cause.TheVariants.{Short, Magic, Version, Count, Reserved, Command, Flags, Range, Wiring, Length, Trailing, Long, Line}

-- the bytes of a cause's word
abbrev pub word_of : Cause → List ℕ
word_of Short = codes "short"
word_of Magic = codes "magic"
word_of Version = codes "version"
word_of Count = codes "count"
word_of Reserved = codes "reserved"
word_of Command = codes "command"
word_of Flags = codes "flags"
word_of Range = codes "range"
word_of Wiring = codes "wiring"
word_of Length = codes "length"
word_of Trailing = codes "trailing"
word_of Long = codes "long"
word_of Line = codes "line"

-- causes with one word are one cause
abbrev pub HaveDistinctWords : Type 0
HaveDistinctWords = (a b : Cause) → word_of a ≡ word_of b → a ≡ b
