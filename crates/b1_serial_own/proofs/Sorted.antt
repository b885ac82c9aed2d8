-- Lines in the order of their numbers, and that a line comes in and another is lowered in either order.
use Rattle.std.proofs.Common.{◌≡◌, ◌≢◌, refl, sym, ap, ◌∙◌, ℕ, ◌-◌, ◌≤◌, ◌==◌, Bool, true, false, cond, not, nat_lt, List, [], ◌∷◌, Option, Some, None, arith}
use Rattle.std.proofs.lemmas.Bool.{ltb-true, ltb-false, le-ltb, ne_eqb, eq-eqb}
use Rattle.b1_model.specs.MachineParts.{HandleRecord}
use Rattle.b1_serial_bus.specs.Parts.{HeldLine}
use Rattle.b1_serial_bus.specs.References.{lowered}
use Rattle.b1_serial_rest.specs.Standing.{put_line, with_line, line_under, lines_of}
use Rattle.b1_serial_rest.proofs.Lines.{Lines}

-- no line has a number below this one
abbrev pub NotBelow : ℕ → Lines → Type 0
NotBelow n [] = Unit {0}
NotBelow n (l ∷ rest) = n ≤ l.number × NotBelow n rest

-- in the order of their numbers
abbrev pub InOrder : Lines → Type 0
InOrder [] = Unit {0}
InOrder (l ∷ rest) = NotBelow l.number rest × InOrder rest

pub not_below_less : (m n : ℕ) (ls : Lines) → m ≤ n → NotBelow n ls → NotBelow m ls
not_below_less m n [] less above = tt
not_below_less m n (l ∷ rest) less above = let one = above.0 in (omega (arith, less, one), not_below_less m n rest less above.1)

-- a line comes in first, where no number is below its own
put_first : (l : HeldLine) (ls : Lines) → NotBelow l.number ls → put_line l ls ≡ l ∷ ls
put_first l [] above = refl
put_first l (m ∷ rest) above = ap (λ b. cond b (m ∷ put_line l rest) (l ∷ m ∷ rest)) (le-ltb m.number l.number above.0)

put_not_below : (n : ℕ) (l : HeldLine) (ls : Lines) → n ≤ l.number → NotBelow n ls → NotBelow n (put_line l ls)
put_not_below n l [] less above = (less, tt)
put_not_below n l (m ∷ rest) less above = elim (nat_lt m.number l.number) as (λ b. NotBelow n (cond b (m ∷ put_line l rest) (l ∷ m ∷ rest))) [ true ↦ (above.0, put_not_below n l rest less above.1) | false ↦ (less, above) ]

pub put_in_order : (l : HeldLine) (ls : Lines) → InOrder ls → InOrder (put_line l ls)
put_in_order l [] up = (tt, tt)
put_in_order l (m ∷ rest) up = by (put_in_order l rest up.1) (nat_lt m.number l.number) refl
  where
    by : InOrder (put_line l rest) → (b : Bool) → nat_lt m.number l.number ≡ b → InOrder (cond b (m ∷ put_line l rest) (l ∷ m ∷ rest))
    by further true is = let less = ltb-true m.number l.number is in (put_not_below m.number l rest (omega (arith, less)) up.0, further)
    by further false is = let most = ltb-false m.number l.number is in ((most, not_below_less l.number m.number rest most up.0), up)

-- the lines of records are in order
pub lines_in_order : (hs : List HandleRecord) → InOrder (lines_of hs)
lines_in_order [] = tt
lines_in_order (h ∷ rest) = by (lines_in_order rest) h.number
  where
    by : InOrder (lines_of rest) → (r : Option ℕ) → InOrder (with_line r h (lines_of rest))
    by up None = up
    by up (Some number) = put_in_order (line_under number h) (lines_of rest) up

lowered_not_below : (n number : ℕ) (ls : Lines) → NotBelow n ls → NotBelow n (lowered number ls)
lowered_not_below n number [] above = tt
lowered_not_below n number (l ∷ rest) above = elim (l.number == number) as (λ b. NotBelow n (cond (not b) (l ∷ lowered number rest) (cond (l.held == 1) rest (record l { held = l.held - 1 } ∷ rest)))) [
  | true ↦ elim (l.held == 1) as (λ c. NotBelow n (cond c rest (record l { held = l.held - 1 } ∷ rest))) [ true ↦ above.1 | false ↦ above ]
  | false ↦ (above.0, lowered_not_below n number rest above.1)
]

-- another line comes in before or after one is lowered
pub put_lowered : (number : ℕ) (l : HeldLine) (ls : Lines) → InOrder ls → l.number ≢ number → lowered number (put_line l ls) ≡ put_line l (lowered number ls)
put_lowered number l [] up apart = ap (λ b. cond (not b) (l ∷ []) (cond (l.held == 1) [] (record l { held = l.held - 1 } ∷ []))) (ne_eqb l.number number apart)
put_lowered number l (m ∷ rest) up apart = by (put_lowered number l rest up.1 apart) (nat_lt m.number l.number) refl
  where
    -- the line stays behind the first
    kept : (c : Bool) → nat_lt m.number l.number ≡ true → cond c (put_line l rest) (record m { held = m.held - 1 } ∷ put_line l rest) ≡ put_line l (cond c rest (record m { held = m.held - 1 } ∷ rest))
    kept true is = refl
    kept false is = ap (λ b. cond b (record m { held = m.held - 1 } ∷ put_line l rest) (l ∷ record m { held = m.held - 1 } ∷ rest)) (sym is)

    behind : lowered number (put_line l rest) ≡ put_line l (lowered number rest) → nat_lt m.number l.number ≡ true → (c : Bool) → m.number == number ≡ c
        → cond (not c) (m ∷ lowered number (put_line l rest)) (cond (m.held == 1) (put_line l rest) (record m { held = m.held - 1 } ∷ put_line l rest))
        ≡ put_line l (cond (not c) (m ∷ lowered number rest) (cond (m.held == 1) rest (record m { held = m.held - 1 } ∷ rest)))
    behind further is true own = kept (m.held == 1) is
    behind further is false other = ap (λ ls. m ∷ ls) further ∙ ap (λ b. cond b (m ∷ put_line l (lowered number rest)) (l ∷ m ∷ lowered number rest)) (sym is)

    by : lowered number (put_line l rest) ≡ put_line l (lowered number rest) → (b : Bool) → nat_lt m.number l.number ≡ b → lowered number (cond b (m ∷ put_line l rest) (l ∷ m ∷ rest)) ≡ put_line l (lowered number (m ∷ rest))
    by further true is = behind further is (m.number == number) refl
    by further false is =
        let most = ltb-false m.number l.number is in
        ap (λ b. cond (not b) (l ∷ lowered number (m ∷ rest)) (cond (l.held == 1) (m ∷ rest) (record l { held = l.held - 1 } ∷ m ∷ rest))) (ne_eqb l.number number apart)
        ∙ sym (put_first l (lowered number (m ∷ rest)) (lowered_not_below l.number number (m ∷ rest) (most, not_below_less l.number m.number rest most up.0)))

-- no line has this number
abbrev pub NoneNumbered : ℕ → Lines → Type 0
NoneNumbered n [] = Unit {0}
NoneNumbered n (l ∷ rest) = (l.number ≢ n) × NoneNumbered n rest

pub put_none_numbered : (n : ℕ) (l : HeldLine) (ls : Lines) → l.number ≢ n → NoneNumbered n ls → NoneNumbered n (put_line l ls)
put_none_numbered n l [] apart none = (apart, tt)
put_none_numbered n l (m ∷ rest) apart none = elim (nat_lt m.number l.number) as (λ b. NoneNumbered n (cond b (m ∷ put_line l rest) (l ∷ m ∷ rest))) [ true ↦ (none.0, put_none_numbered n l rest apart none.1) | false ↦ (apart, none) ]

-- the line that comes in is lowered: it goes with the last, and else comes in held once less
pub put_own_lowered : (l : HeldLine) (ls : Lines) → InOrder ls → NoneNumbered l.number ls → lowered l.number (put_line l ls) ≡ cond (l.held == 1) ls (put_line (record l { held = l.held - 1 }) ls)
put_own_lowered l [] up none = ap (λ b. cond (not b) (l ∷ []) (cond (l.held == 1) [] (record l { held = l.held - 1 } ∷ []))) (eq-eqb l.number l.number refl)
put_own_lowered l (m ∷ rest) up none = by (put_own_lowered l rest up.1 none.1) (nat_lt m.number l.number) refl
  where
    behind : (c : Bool) → nat_lt m.number l.number ≡ true → m ∷ cond c rest (put_line (record l { held = l.held - 1 }) rest) ≡ cond c (m ∷ rest) (put_line (record l { held = l.held - 1 }) (m ∷ rest))
    behind true is = refl
    behind false is = ap (λ b. cond b (m ∷ put_line (record l { held = l.held - 1 }) rest) (record l { held = l.held - 1 } ∷ m ∷ rest)) (sym is)

    by : lowered l.number (put_line l rest) ≡ cond (l.held == 1) rest (put_line (record l { held = l.held - 1 }) rest) → (b : Bool) → nat_lt m.number l.number ≡ b → lowered l.number (cond b (m ∷ put_line l rest) (l ∷ m ∷ rest)) ≡ cond (l.held == 1) (m ∷ rest) (put_line (record l { held = l.held - 1 }) (m ∷ rest))
    by further true is =
        ap (λ b. cond (not b) (m ∷ lowered l.number (put_line l rest)) (cond (m.held == 1) (put_line l rest) (record m { held = m.held - 1 } ∷ put_line l rest))) (ne_eqb m.number l.number none.0)
        ∙ ap (λ ls. m ∷ ls) further
        ∙ behind (l.held == 1) is
    by further false is =
        ap (λ b. cond (not b) (l ∷ lowered l.number (m ∷ rest)) (cond (l.held == 1) (m ∷ rest) (record l { held = l.held - 1 } ∷ m ∷ rest))) (eq-eqb l.number l.number refl)
        ∙ ap (λ b. cond (l.held == 1) (m ∷ rest) (cond b (m ∷ put_line (record l { held = l.held - 1 }) rest) (record l { held = l.held - 1 } ∷ m ∷ rest))) (sym is)
