-- How results that borrow are seen, and what becomes of the reason why a part was not read.
use Rattle.std.specs.Prelude.{ℕ, List, [], ◌∷◌, Option, Some, None}
use Rattle.std.specs.Borrow.{Bor}
use Rattle.b1_report_lines.specs.declared.unread.Stop.TheVariants.{Cut, Broken}
use Rattle.b1_report_lines.specs.declared.unread.Unread.{Unread}
use Rattle.b1_report_lines.specs.declared.unread.Unread.TheVariants.{Stopped, Memory}
use Rattle.b1_report_lines.specs.Reading.{Read, mapped}

abbrev pub parts_seen : Option (Bor (List ℕ) × Bor (List ℕ)) → Option (List ℕ × List ℕ)
parts_seen None = None
parts_seen (Some parts) = Some (parts.0.now, parts.1.now)

abbrev pub rest_seen : Read (Bor (List ℕ)) → Read (List ℕ)
rest_seen r = mapped (λ x. x.now) r

abbrev pub kind_seen : {K : Type 0} → Read (K × Bor (List ℕ)) → Read (K × List ℕ)
kind_seen r = mapped (λ x. (x.0, x.1.now)) r

abbrev pub value_seen : {A : Type 0} → A × Bor (List ℕ) → A × List ℕ
value_seen x = (x.0, x.1.now)

-- of a part that is ended
abbrev pub ended_why : Unread → Unread
ended_why (Stopped stop) = Stopped Broken
ended_why Memory = Memory

-- of bytes that are no number
abbrev pub no_number_why : List ℕ → Unread
no_number_why [] = Stopped Cut
no_number_why (b ∷ bs) = Stopped Broken
