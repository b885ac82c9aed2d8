-- The causes for which not all was read.
use Rattle.std.specs.Prelude.{⊤}
use Rattle.b1_io.specs.declared.wholes.NotAll.{NotAll}
use Rattle.b1_io.specs.declared.wholes.NotAll.TheVariants.{Fault, Long, Memory}

-- a fact for a failed read
abbrev pub OnFault : NotAll → Type 0 → Type 0
OnFault Fault P = P
OnFault Long P = ⊤
OnFault Memory P = ⊤

-- a fact for too many bytes
abbrev pub OnLong : NotAll → Type 0 → Type 0
OnLong Fault P = ⊤
OnLong Long P = P
OnLong Memory P = ⊤
