-- Each number of a table was given, so a slot that arrives as a number leaves its node a line.
use Rattle.std.proofs.Common.{◌≡◌, ◌≢◌, refl, sym, ap, ◌∙◌, inl, inr, ℕ, zero, suc, pred, ◌+◌, ◌*◌, ◌%◌, ◌<◌, ◌≤◌, ◌==◌, Bool, true, false, cond, ◌&&◌, List, [], ◌∷◌, ◌++◌, Option, Some, None}
use Rattle.std.specs.Prelude.{slice_get, is_some, unwrap_or}
use Rattle.std.proofs.lemmas.Bool.{eqb-true, eq-eqb, ne_eqb}
use native.Mathlib.Omega.{arith}
use Rattle.b1_model.specs.declared.naming.Wire.{Wire}
use Rattle.b1_model.specs.Names.{invalid, is_own, is_given, Node, Name, wired, number_at}
use Rattle.b1_model.specs.Ledger.{Line, Table, is_the_node, line_number, has_line, raised, lowered, received, received_all, given_number, handed, wire_tables, named, start}
use Rattle.b1_model.specs.Legal.{handle_number, arrives, arrived}
use Rattle.b1_step.specs.Rights.{Has}
use Rattle.b1_step.proofs.Lists.{has_append}
use Rattle.b1_ledger.proofs.Sequences.{option_cases}
use Rattle.b1_ledger.proofs.Steps.{received_kept, received_all_kept}

-- each line's number is one of those that were given
abbrev pub NumbersGiven : Table → Type 0
NumbersGiven t = (l : Line) → Has t.lines l → l.number < 2 + 4 * t.given

-- ---- a number that is received

raised_has : (n : ℕ) (ls : List Line) (l : Line) → Has (raised n ls) l → (k : Line) × Has ls k × (l.number ≡ k.number)
raised_has n [] l h = absurd h
raised_has n (m ∷ ls) l h = go (n == m.number) (raised_has n ls l) h
  where
    go : (b : Bool) → (Has (raised n ls) l → (k : Line) × Has ls k × (l.number ≡ k.number)) → Has (cond b (record m { held = suc m.held } ∷ ls) (m ∷ raised n ls)) l → (k : Line) × Has (m ∷ ls) k × (l.number ≡ k.number)
    go true ih (inl same) = (m, inl refl, ap (λ z. z.number) same)
    go true ih (inr further) = (l, inr further, refl)
    go false ih (inl same) = (m, inl refl, ap (λ z. z.number) same)
    go false ih (inr further) = let k = ih further in (k.0, inr k.1, k.2)

lowered_has : (n : ℕ) (ls : List Line) (l : Line) → Has (lowered n ls) l → (k : Line) × Has ls k × (l.number ≡ k.number)
lowered_has n [] l h = absurd h
lowered_has n (m ∷ ls) l h = go (n == m.number) (m.held == 1) (lowered_has n ls l) h
  where
    go : (b c : Bool) → (Has (lowered n ls) l → (k : Line) × Has ls k × (l.number ≡ k.number)) → Has (cond b (cond c ls (record m { held = pred m.held } ∷ ls)) (m ∷ lowered n ls)) l → (k : Line) × Has (m ∷ ls) k × (l.number ≡ k.number)
    go true true ih h = (l, inr h, refl)
    go true false ih (inl same) = (m, inl refl, ap (λ z. z.number) same)
    go true false ih (inr further) = (l, inr further, refl)
    go false c ih (inl same) = (m, inl refl, ap (λ z. z.number) same)
    go false c ih (inr further) = let k = ih further in (k.0, inr k.1, k.2)

has_line_of : (n : ℕ) (ls : List Line) → has_line n ls ≡ true → (l : Line) × Has ls l × (l.number ≡ n)
has_line_of n [] h = absurd (cc h)
has_line_of n (m ∷ ls) h = go (n == m.number) refl (has_line_of n ls) h
  where
    go : (b : Bool) → (n == m.number) ≡ b → (has_line n ls ≡ true → (l : Line) × Has ls l × (l.number ≡ n)) → cond b true (has_line n ls) ≡ true → (l : Line) × Has (m ∷ ls) l × (l.number ≡ n)
    go true is ih h = (m, inl refl, sym (eqb-true n m.number is))
    go false is ih h = let k = ih h in (k.0, inr k.1, k.2)

-- the line that gives a node its number
pub line_number_of : (x : Node) (ls : List Line) (n : ℕ) → line_number x ls ≡ Some n → (l : Line) × Has ls l × (l.number ≡ n) × (is_the_node x l.node ≡ true)
line_number_of x [] n h = absurd (cc h)
line_number_of x (m ∷ ls) n h = go (is_the_node x m.node) refl (line_number_of x ls n) h
  where
    go : (b : Bool) → is_the_node x m.node ≡ b → (line_number x ls ≡ Some n → (l : Line) × Has ls l × (l.number ≡ n) × (is_the_node x l.node ≡ true)) → cond b (Some m.number) (line_number x ls) ≡ Some n → (l : Line) × Has (m ∷ ls) l × (l.number ≡ n) × (is_the_node x l.node ≡ true)
    go true is ih h = (m, inl refl, cc h, is)
    go false is ih h = let k = ih h in (k.0, inr k.1, k.2, k.3)

received_given : (n : ℕ) (y : Option Node) (t : Table) → NumbersGiven t → (is_given n ≡ true → n ≤ 2 + 4 * t.given) → NumbersGiven (received n y t)
received_given n y t given low = go (is_given n) (has_line n t.lines) low
  where
    go : (b c : Bool) → (b ≡ true → n ≤ 2 + 4 * t.given) → NumbersGiven (cond b (cond c (record { lines = raised n t.lines; given = t.given }) (record { lines = t.lines ++ record { number = n; node = y; held = 1 } ∷ []; given = suc t.given })) t)
    go true true low l h = let k = raised_has n t.lines l h in let under = given k.0 k.1 in let same = k.2 in omega (arith, under, same)
    go true false low l h = elim (has_append t.lines (record { number = n; node = y; held = 1 } ∷ []) l h) [
      | inl old ↦ let under = given l old in omega (arith, under)
      | inr (inl same) ↦ let is : l.number ≡ n = ap (λ z. z.number) same in let top = low refl in omega (arith, is, top)
      | inr (inr further) ↦ absurd further
    ]
    go false c low l h = given l h

-- ---- a slot that arrives

not_both : (n : ℕ) → is_own n ≡ true → is_given n ≡ true → ⊥
not_both n own given = let a : n % 4 ≡ 0 = eqb-true (n % 4) 0 own in let b : n % 4 ≡ 2 = eqb-true (n % 4) 2 given in omega (arith, a, b)

-- all names are own numbers
abbrev pub AreOwn : List Name → Type 0
AreOwn known = (i : ℕ) (m : Name) → slice_get known i ≡ Some m → is_own m.number ≡ true

module _ (late : Node → Bool) (p : ℕ) (known : List Name) (own : AreOwn known) where
  own_not_given : (r : Option Name) → ((m : Name) → r ≡ Some m → is_own m.number ≡ true) → is_given (unwrap_or (elim r [ None ↦ None | Some m ↦ Some m.number ]) invalid) ≡ true → ⊥
  own_not_given None each h = absurd (cc h)
  own_not_given (Some m) each h = not_both m.number (each m refl) h

  number_low : (x : Node) (t : Table) → NumbersGiven t → is_given (handle_number p known t x) ≡ true → handle_number p known t x ≤ 2 + 4 * t.given
  number_low x t given h = go (x.owner == p) h
    where
      by_line : (r : Option ℕ) → line_number x t.lines ≡ r → given_number t.given r ≤ 2 + 4 * t.given
      by_line None is = omega arith
      by_line (Some n) is = let l = line_number_of x t.lines n is in let under = given l.0 l.1 in let same = l.2 in omega (arith, under, same)

      go : (b : Bool) → is_given (cond b (unwrap_or (number_at known x.serial) invalid) (given_number t.given (line_number x t.lines))) ≡ true → cond b (unwrap_or (number_at known x.serial) invalid) (given_number t.given (line_number x t.lines)) ≤ 2 + 4 * t.given
      go true is = absurd (own_not_given (slice_get known x.serial) (own x.serial) is)
      go false is = by_line (line_number x t.lines) refl

  arrives_low : (x : Option Node) (t : Table) → NumbersGiven t → is_given (arrives late p known t x) ≡ true → arrives late p known t x ≤ 2 + 4 * t.given
  arrives_low None t given h = absurd (cc h)
  arrives_low (Some x) t given h = go (late x) h
    where
      go : (b : Bool) → is_given (cond b invalid (handle_number p known t x)) ≡ true → cond b invalid (handle_number p known t x) ≤ 2 + 4 * t.given
      go true is = absurd (cc is)
      go false is = number_low x t given is

  -- all slots of a message that arrive leave given numbers
  pub all_given : (xs : List (Option Node)) (t : Table) → NumbersGiven t → NumbersGiven (received_all xs (arrived late p known xs t) t)
  all_given [] t given = given
  all_given (x ∷ xs) t given = all_given xs (received (arrives late p known t x) x t) (received_given (arrives late p known t x) x t given (arrives_low x t given))

  foreign_arrives : (x : Node) (t : Table) → late x ≡ false → x.owner ≢ p → arrives late p known t (Some x) ≡ given_number t.given (line_number x t.lines)
  foreign_arrives x t soon apart = ap (λ b. cond b invalid (handle_number p known t x)) soon ∙ ap (λ b. cond b (unwrap_or (number_at known x.serial) invalid) (given_number t.given (line_number x t.lines))) (ne_eqb x.owner p apart)

  next_is_given : (g : ℕ) → is_given (2 + 4 * g) ≡ true
  next_is_given g = let m : (2 + 4 * g) % 4 ≡ 2 = omega arith in eq-eqb ((2 + 4 * g) % 4) 2 m

  same_self : (x : Node) → is_the_node x (Some x) ≡ true
  same_self x = ap (λ b. b && (x.serial == x.serial)) (eq-eqb x.owner x.owner refl) ∙ eq-eqb x.serial x.serial refl

  line_at_end : (x : Node) (ls : List Line) (l : Line) → is_the_node x l.node ≡ true → is_some (line_number x (ls ++ l ∷ [])) ≡ true
  line_at_end x [] l is = ap (λ b. is_some (cond b (Some l.number) None)) is
  line_at_end x (m ∷ ls) l is = go (is_the_node x m.node) (line_at_end x ls l is)
    where
      go : (b : Bool) → is_some (line_number x (ls ++ l ∷ [])) ≡ true → is_some (cond b (Some m.number) (line_number x (ls ++ l ∷ []))) ≡ true
      go true ih = refl
      go false ih = ih

  -- another peer's node that isn't late has a line once its slot has arrived
  slot_has_line : (x : Node) (t : Table) → NumbersGiven t → late x ≡ false → x.owner ≢ p → is_some (line_number x (received (arrives late p known t (Some x)) (Some x) t).lines) ≡ true
  slot_has_line x t given soon apart = elim (option_cases (line_number x t.lines)) [
    | inr there ↦ received_kept x (arrives late p known t (Some x)) (Some x) t (ap is_some there.1)
    | inl none ↦
        ap (λ n. is_some (line_number x (received n (Some x) t).lines)) (foreign_arrives x t soon apart ∙ ap (given_number t.given) none)
        ∙ go (is_given (2 + 4 * t.given)) (next_is_given t.given) (has_line (2 + 4 * t.given) t.lines) refl
  ]
    where
      go : (b : Bool) → b ≡ true → (c : Bool) → has_line (2 + 4 * t.given) t.lines ≡ c
          → is_some (line_number x (cond b (cond c (record { lines = raised (2 + 4 * t.given) t.lines; given = t.given }) (record { lines = t.lines ++ record { number = 2 + 4 * t.given; node = Some x; held = 1 } ∷ []; given = suc t.given })) t).lines) ≡ true
      go true yes_is true has = let l = has_line_of (2 + 4 * t.given) t.lines has in let under = given l.0 l.1 in let same = l.2 in absurd (omega (arith, under, same))
      go true yes_is false has = line_at_end x t.lines (record { number = 2 + 4 * t.given; node = Some x; held = 1 }) (same_self x)
      go false no_is c has = absurd (cc no_is)

  -- the same of each slot of a message, behind all of them
  pub all_have_lines : (xs : List (Option Node)) (t : Table) → NumbersGiven t → (j : ℕ) (x : Node) → slice_get xs j ≡ Some (Some x) → late x ≡ false → x.owner ≢ p → is_some (line_number x (received_all xs (arrived late p known xs t) t).lines) ≡ true
  all_have_lines [] t given j x at soon apart = absurd (cc at)
  all_have_lines (y ∷ xs) t given zero x at soon apart =
      let same : y ≡ Some x = cc at in
      received_all_kept x xs (arrived late p known xs (received (arrives late p known t y) y t)) (received (arrives late p known t y) y t)
      (ap (λ z. is_some (line_number x (received (arrives late p known t z) z t).lines)) same ∙ slot_has_line x t given soon apart)
  all_have_lines (y ∷ xs) t given (suc j) x at soon apart = all_have_lines xs (received (arrives late p known t y) y t) (received_given (arrives late p known t y) y t given (arrives_low y t given)) j x at soon apart

-- ---- the wires

none_given : NumbersGiven (record { lines = []; given = 0 })
none_given l h = absurd h

handed_given : (y : Option Node) (t : Table) → NumbersGiven t → NumbersGiven (handed y t)
handed_given None t given = given
handed_given (Some x) t given = received_given (given_number t.given (line_number x t.lines)) (Some x) t given (λ is. by (line_number x t.lines) refl)
  where
    by : (r : Option ℕ) → line_number x t.lines ≡ r → given_number t.given r ≤ 2 + 4 * t.given
    by None is = omega arith
    by (Some n) is = let l = line_number_of x t.lines n is in let under = given l.0 l.1 in let same = l.2 in omega (arith, under, same)

wires_given : (all : List Wire) (ts : ℕ → Table) (ws : List Wire) → ((q : ℕ) → NumbersGiven (ts q)) → (p : ℕ) → NumbersGiven (wire_tables all ts ws p)
wires_given all ts [] given p = given p
wires_given all ts (w ∷ ws) given p = wires_given all (λ q. cond (q == w.to) (handed (named w.from (wired all w.from) (ts w.from) w.number) (ts q)) (ts q)) ws (λ q. go q (q == w.to)) p
  where
    go : (q : ℕ) (b : Bool) → NumbersGiven (cond b (handed (named w.from (wired all w.from) (ts w.from) w.number) (ts q)) (ts q))
    go q true = handed_given (named w.from (wired all w.from) (ts w.from) w.number) (ts q) (given q)
    go q false = given q

-- the numbers of a peer's first table were given
pub start_given : (ws : List Wire) (p : ℕ) → NumbersGiven (start ws p)
start_given ws p = wires_given ws (λ q. record { lines = []; given = 0 }) ws (λ q. none_given) p

-- a table of fewer lines
pub lowered_given : (n : ℕ) (t : Table) → NumbersGiven t → NumbersGiven (record { lines = lowered n t.lines; given = t.given })
lowered_given n t given l h = let k = lowered_has n t.lines l h in let under = given k.0 k.1 in let same = k.2 in omega (arith, under, same)
