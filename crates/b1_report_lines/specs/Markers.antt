-- How the lines without a command are read.
use Rattle.std.specs.Prelude.{ℕ, nat_lt, if◌then◌else◌, List, ◌++◌, codes}
use Rattle.std.specs.Fmt.{decimal}
use Rattle.b1_report_lines.specs.declared.lines.Line.{Line}
use Rattle.b1_report_lines.specs.declared.lines.Line.TheVariants as line
use Rattle.b1_report_lines.specs.Reading.{Read, mapped, behind, joined, only}
use Rattle.b1_report_lines.specs.Forms.{long_at}

-- a line of fixed words
abbrev pub fixed_at : List ℕ → Line → List ℕ → Read Line
fixed_at word next bytes = behind word (only next) bytes

-- the words in front of a peer's epoch
abbrev pub peer_words : ℕ → List ℕ
peer_words p = codes "peer " ++ decimal p ++ codes " epoch "

unfoldable pub peer_at : ℕ → List ℕ → Read Line
peer_at p bytes = mapped (λ v. line.Peer v.0 v.1) (behind (peer_words p) (joined 32 long_at (behind (codes "clock ") long_at)) bytes)

-- the next peer, or the end where each peer has begun
unfoldable pub marker_at : ℕ → ℕ → List ℕ → Read Line
marker_at peers begun bytes = if nat_lt begun peers then peer_at begun bytes else fixed_at (codes "end") line.End bytes
