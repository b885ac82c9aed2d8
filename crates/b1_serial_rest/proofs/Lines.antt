-- The lines that handle records stand for: in the order of their numbers, one for each record that has one.
use Rattle.std.proofs.Common.{◌≡◌, refl, sym, ap, ◌∙◌, ℕ, ◌+◌, ◌<◌, ◌==◌, Bool, true, false, cond, ◌||◌, nat_lt, List, [], ◌∷◌, ◌++◌, map, Some, None, is_some, arith}
use Rattle.std.proofs.lemmas.Bool.{ltb-true, ltb-false, eqb-true, ne_eqb}
use Rattle.std.proofs.lemmas.List.Sums.{sum_by-cons}
use Rattle.b1_model.specs.declared.naming.NodeRef.{NodeRef}
use Rattle.b1_model.specs.MachineParts.{same_ref}
use Rattle.b1_serial_bus.specs.Parts.{HeldLine}
use Rattle.b1_serial_bus.specs.Named.{line_of, line_numbered}
use Rattle.b1_serial_bus.specs.References.{raised}
use Rattle.b1_serial_rest.specs.Standing.{put_line}
use Rattle.b1_serial_rest.specs.Rest.{held_times}

abbrev pub Lines : Type 0
Lines = List HeldLine

-- ---- one line comes in

-- a line comes in somewhere: some line of a node is there if it is one or one was there
pub put_has : (node : NodeRef) (l : HeldLine) (ls : Lines) → is_some (line_of node (put_line l ls)) ≡ same_ref l.node node || is_some (line_of node ls)
put_has node l [] = elim (same_ref l.node node) as (λ b. is_some (cond b (Some l) None) ≡ b || false) [ true ↦ refl | false ↦ refl ]
put_has node l (m ∷ rest) = by (put_has node l rest) (nat_lt m.number l.number)
  where
    or_true : (b : Bool) → b || true ≡ true
    or_true b = elim b as (λ c. c || true ≡ true) [ true ↦ refl | false ↦ refl ]

    later : is_some (line_of node (put_line l rest)) ≡ same_ref l.node node || is_some (line_of node rest) → (b : Bool) → is_some (cond b (Some m) (line_of node (put_line l rest))) ≡ same_ref l.node node || is_some (cond b (Some m) (line_of node rest))
    later below true = sym (or_true (same_ref l.node node))
    later below false = below

    here : (b : Bool) → is_some (cond b (Some l) (line_of node (m ∷ rest))) ≡ b || is_some (line_of node (m ∷ rest))
    here true = refl
    here false = refl

    by : is_some (line_of node (put_line l rest)) ≡ same_ref l.node node || is_some (line_of node rest) → (b : Bool) → is_some (line_of node (cond b (m ∷ put_line l rest) (l ∷ m ∷ rest))) ≡ same_ref l.node node || is_some (line_of node (m ∷ rest))
    by below true = later below (same_ref m.node node)
    by below false = here (same_ref l.node node)

-- raising a node's lines leaves their numbers
raised_number : (node : NodeRef) (m : HeldLine) → (raised node m).number ≡ m.number
raised_number node m = elim (same_ref m.node node) as (λ b. (cond b (record m { held = m.held + 1 }) m).number ≡ m.number) [ true ↦ refl | false ↦ refl ]

-- so a line comes in at the same place
pub put_raised : (node : NodeRef) (l : HeldLine) (ls : Lines) → map (raised node) (put_line l ls) ≡ put_line (raised node l) (map (raised node) ls)
put_raised node l [] = refl
put_raised node l (m ∷ rest) = by (put_raised node l rest) (nat_lt m.number l.number) ∙ ap (λ b. cond b (raised node m ∷ put_line (raised node l) (map (raised node) rest)) (raised node l ∷ raised node m ∷ map (raised node) rest)) (same_order m)
  where
    same_order : (m : HeldLine) → nat_lt m.number l.number ≡ nat_lt (raised node m).number (raised node l).number
    same_order m = ap (λ n. nat_lt n l.number) (sym (raised_number node m)) ∙ ap (nat_lt (raised node m).number) (sym (raised_number node l))

    by : map (raised node) (put_line l rest) ≡ put_line (raised node l) (map (raised node) rest) → (b : Bool) → map (raised node) (cond b (m ∷ put_line l rest) (l ∷ m ∷ rest)) ≡ cond b (raised node m ∷ put_line (raised node l) (map (raised node) rest)) (raised node l ∷ raised node m ∷ map (raised node) rest)
    by below true = ap (λ ls. raised node m ∷ ls) below
    by below false = refl

-- a line comes in in front of one with a greater number that stands last
pub put_before : (l last : HeldLine) (ls : Lines) → l.number < last.number → put_line l (ls ++ last ∷ []) ≡ put_line l ls ++ last ∷ []
put_before l last [] less = by (nat_lt last.number l.number) refl
  where
    by : (b : Bool) → nat_lt last.number l.number ≡ b → cond b (last ∷ l ∷ []) (l ∷ last ∷ []) ≡ l ∷ last ∷ []
    by true is = let more = ltb-true last.number l.number is in absurd (omega (arith, less, more))
    by false is = refl
put_before l last (m ∷ rest) less = by (put_before l last rest less) (nat_lt m.number l.number)
  where
    by : put_line l (rest ++ last ∷ []) ≡ put_line l rest ++ last ∷ [] → (b : Bool) → cond b (m ∷ put_line l (rest ++ last ∷ [])) (l ∷ m ∷ rest ++ last ∷ []) ≡ cond b (m ∷ put_line l rest) (l ∷ m ∷ rest) ++ last ∷ []
    by below true = ap (λ ls. m ∷ ls) below
    by below false = refl

-- every line has a number below one
abbrev pub AreBelow : ℕ → Lines → Type 0
AreBelow n [] = Unit {0}
AreBelow n (l ∷ rest) = l.number < n × AreBelow n rest

-- a line with a greater number than all comes in last
pub put_last : (l : HeldLine) (ls : Lines) → AreBelow l.number ls → put_line l ls ≡ ls ++ l ∷ []
put_last l [] below = refl
put_last l (m ∷ rest) below = by (put_last l rest below.1) (nat_lt m.number l.number) refl
  where
    by : put_line l rest ≡ rest ++ l ∷ [] → (b : Bool) → nat_lt m.number l.number ≡ b → cond b (m ∷ put_line l rest) (l ∷ m ∷ rest) ≡ m ∷ rest ++ l ∷ []
    by later true is = ap (λ ls. m ∷ ls) later
    by later false is = let less = below.0 in let not_less = ltb-false m.number l.number is in absurd (omega (arith, less, not_less))

pub put_below : (n : ℕ) (l : HeldLine) (ls : Lines) → l.number < n → AreBelow n ls → AreBelow n (put_line l ls)
put_below n l [] less below = (less, tt)
put_below n l (m ∷ rest) less below = elim (nat_lt m.number l.number) as (λ b. AreBelow n (cond b (m ∷ put_line l rest) (l ∷ m ∷ rest))) [ true ↦ (below.0, put_below n l rest less below.1) | false ↦ (less, below) ]

-- the line with a number is the one that comes in, if it has that number, or else the one that was
pub put_numbered : (n : ℕ) (l : HeldLine) (ls : Lines) → line_numbered n (put_line l ls) ≡ cond (l.number == n) (Some l) (line_numbered n ls)
put_numbered n l [] = refl
put_numbered n l (m ∷ rest) = by (put_numbered n l rest) (nat_lt m.number l.number) refl
  where
    other : line_numbered n (put_line l rest) ≡ cond (l.number == n) (Some l) (line_numbered n rest) → (b : Bool) → m.number == n ≡ b → m.number < l.number → cond b (Some m) (line_numbered n (put_line l rest)) ≡ cond (l.number == n) (Some l) (cond b (Some m) (line_numbered n rest))
    other below true is less =
        let one = eqb-true m.number n is in
        let apart : l.number == n ≡ false = ne_eqb l.number n (λ e. absurd (omega (arith, one, less, e))) in
        rw apart refl
    other below false is less = below

    by : line_numbered n (put_line l rest) ≡ cond (l.number == n) (Some l) (line_numbered n rest) → (b : Bool) → nat_lt m.number l.number ≡ b → line_numbered n (cond b (m ∷ put_line l rest) (l ∷ m ∷ rest)) ≡ cond (l.number == n) (Some l) (line_numbered n (m ∷ rest))
    by below true is = other below (m.number == n) refl (ltb-true m.number l.number is)
    by below false is = refl

-- how often one line holds a node
abbrev held_by_line : NodeRef → HeldLine → ℕ
held_by_line node m = cond (same_ref m.node node) m.held 0

-- how often a node is held counts the line that comes in
pub put_held : (node : NodeRef) (l : HeldLine) (ls : Lines) → held_times node (put_line l ls) ≡ cond (same_ref l.node node) l.held 0 + held_times node ls
put_held node l [] = sum_by-cons (held_by_line node) l []
put_held node l (m ∷ rest) = by (put_held node l rest) (nat_lt m.number l.number)
  where
    by : held_times node (put_line l rest) ≡ cond (same_ref l.node node) l.held 0 + held_times node rest → (b : Bool) → held_times node (cond b (m ∷ put_line l rest) (l ∷ m ∷ rest)) ≡ cond (same_ref l.node node) l.held 0 + held_times node (m ∷ rest)
    by three true =
        let one = sum_by-cons (held_by_line node) m (put_line l rest) in
        let two = sum_by-cons (held_by_line node) m rest in
        omega (arith, one, two, three)
    by three false = sum_by-cons (held_by_line node) l (m ∷ rest)
