-- Lines of a table, each number once: which stand there after one is held once more, once less, or comes.
use Rattle.std.proofs.Common.{◌≡◌, ◌⊎◌, refl, sym, ap, ◌∙◌, inl, inr, ℕ, suc, pred, ◌==◌, Bool, true, false, cond, List, [], ◌∷◌, ◌++◌, Option, Some, None, option_map}
use Rattle.std.specs.Prelude.{⊤}
use Rattle.std.proofs.lemmas.Bool.{eqb-true, eq-eqb, eqb-false, ne_eqb, and_parts}
use Rattle.b1_model.specs.declared.naming.NodeRef.{NodeRef}
use Rattle.b1_model.specs.Names.{Node}
use Rattle.b1_model.specs.Ledger.{Line, is_the_node, line_number, has_line, raised, lowered}
use Rattle.b1_step.specs.Rights.{Has}
use Rattle.b1_step.proofs.Lists.{has_append}
use Rattle.b1_inv_record.specs.Epochs.{ref_of, is_ref}

-- the lines of a table
abbrev pub Lines : Type 0
Lines = List Line

-- no two lines have one number
abbrev pub AreApart : Lines → Type 0
AreApart [] = ⊤
AreApart (l ∷ rest) = ((g : Line) → Has rest g → g.number ≡ l.number → ⊥) × AreApart rest

-- a number has one line
pub one_line : (ls : Lines) (l g : Line) → AreApart ls → Has ls l → Has ls g → l.number ≡ g.number → l ≡ g
one_line [] l g apart a b same = absurd a
one_line (k ∷ rest) l g apart (inl a) (inl b) same = a ∙ sym b
one_line (k ∷ rest) l g apart (inl a) (inr b) same = absurd (apart.0 g b (sym same ∙ ap (λ z. z.number) a))
one_line (k ∷ rest) l g apart (inr a) (inl b) same = absurd (apart.0 l a (same ∙ ap (λ z. z.number) b))
one_line (k ∷ rest) l g apart (inr a) (inr b) same = one_line rest l g apart.1 a b same

-- ---- a node as a line names it

-- a named node is the reference
pub ref_is : (node : NodeRef) (z : Option Node) → is_ref node z ≡ true → option_map ref_of z ≡ Some node
ref_is node None is = absurd (cc is)
ref_is node (Some x) is =
    let both = and_parts (x.owner == node.owner) (x.serial == node.serial) is in
    let same : ref_of x ≡ node = λ i. record { owner = eqb-true x.owner node.owner both.0 i; serial = eqb-true x.serial node.serial both.1 i } in
    ap Some same

-- and the other way round
pub is_ref_of : (node : NodeRef) (z : Option Node) → option_map ref_of z ≡ Some node → is_ref node z ≡ true
is_ref_of node None is = absurd (cc is)
is_ref_of node (Some x) is =
    let same : ref_of x ≡ node = cc is in
    rw (eq-eqb x.owner node.owner (ap (λ n. n.owner) same), eq-eqb x.serial node.serial (ap (λ n. n.serial) same)) refl

-- a named node is the other one
pub node_is : (x : Node) (z : Option Node) → is_the_node x z ≡ true → option_map ref_of z ≡ Some (ref_of x)
node_is x None is = absurd (cc is)
node_is x (Some y) is =
    let both = and_parts (x.owner == y.owner) (x.serial == y.serial) is in
    let same : ref_of y ≡ ref_of x = λ i. record { owner = sym (eqb-true x.owner y.owner both.0) i; serial = sym (eqb-true x.serial y.serial both.1) i } in
    ap Some same

-- and the other way round
pub is_node_of : (x : Node) (z : Option Node) → option_map ref_of z ≡ Some (ref_of x) → is_the_node x z ≡ true
is_node_of x None is = absurd (cc is)
is_node_of x (Some y) is =
    let same : ref_of y ≡ ref_of x = cc is in
    rw (eq-eqb x.owner y.owner (sym (ap (λ n. n.owner) same)), eq-eqb x.serial y.serial (sym (ap (λ n. n.serial) same))) refl

-- ---- what is found under a number, and under a node

-- a line with the number is found
pub has_line_of : (n : ℕ) (ls : Lines) (l : Line) → Has ls l → l.number ≡ n → has_line n ls ≡ true
has_line_of n [] l there is = absurd there
has_line_of n (k ∷ rest) l (inl same) is = rw (eq-eqb n k.number (sym is ∙ ap (λ z. z.number) same)) refl
has_line_of n (k ∷ rest) l (inr there) is = by (n == k.number) (has_line_of n rest l there is)
  where
    by : (b : Bool) → has_line n rest ≡ true → cond b true (has_line n rest) ≡ true
    by true next = refl
    by false next = next

-- or none is
pub has_line_none : (n : ℕ) (ls : Lines) → ((l : Line) → Has ls l → l.number ≡ n → ⊥) → has_line n ls ≡ false
has_line_none n [] none = refl
has_line_none n (k ∷ rest) none = rw (ne_eqb n k.number (λ e. none k (inl refl) (sym e))) (has_line_none n rest (λ l there is. none l (inr there) is))

-- a number that is found is that of a line of the node
pub line_number_is : (x : Node) (ls : Lines) (m : ℕ) → line_number x ls ≡ Some m → (l : Line) × Has ls l × (l.number ≡ m) × (is_the_node x l.node ≡ true)
line_number_is x [] m is = absurd (cc is)
line_number_is x (k ∷ rest) m is = by (is_the_node x k.node) refl is (line_number_is x rest m)
  where
    by : (b : Bool) → is_the_node x k.node ≡ b → cond b (Some k.number) (line_number x rest) ≡ Some m → (line_number x rest ≡ Some m → (l : Line) × Has rest l × (l.number ≡ m) × (is_the_node x l.node ≡ true)) → (l : Line) × Has (k ∷ rest) l × (l.number ≡ m) × (is_the_node x l.node ≡ true)
    by true here some further = let same : k.number ≡ m = cc some in (k, inl refl, same, here)
    by false here some further = let f = further some in (f.0, inr f.1, f.2, f.3)

-- a line of the node is found
pub line_number_some : (x : Node) (ls : Lines) (l : Line) → Has ls l → is_the_node x l.node ≡ true → (m : ℕ) × (line_number x ls ≡ Some m)
line_number_some x [] l there is = absurd there
line_number_some x (k ∷ rest) l there is = by (is_the_node x k.node) refl there (λ h. line_number_some x rest l h is)
  where
    by : (b : Bool) → is_the_node x k.node ≡ b → Has (k ∷ rest) l → (Has rest l → (m : ℕ) × (line_number x rest ≡ Some m)) → (m : ℕ) × (cond b (Some k.number) (line_number x rest) ≡ Some m)
    by true here h next = (k.number, refl)
    by false here (inl same) next = let both : true ≡ false = sym is ∙ ap (λ z. is_the_node x z.node) same ∙ here in absurd (cc both)
    by false here (inr further) next = next further

-- or none is
pub line_number_none : (x : Node) (ls : Lines) → ((l : Line) → Has ls l → is_the_node x l.node ≡ true → ⊥) → line_number x ls ≡ None
line_number_none x [] none = refl
line_number_none x (k ∷ rest) none = by (is_the_node x k.node) refl (line_number_none x rest (λ l there is. none l (inr there) is))
  where
    by : (b : Bool) → is_the_node x k.node ≡ b → line_number x rest ≡ None → cond b (Some k.number) (line_number x rest) ≡ None
    by true here next = absurd (none k (inl refl) here)
    by false here next = next

-- ---- one more is held of a number

-- the line held once more
abbrev pub more : Line → Line
more l = record l { held = suc l.held }

-- a line after one is held more: another one as before, or the one of the number
abbrev pub OtherOr : (Line → Line) → ℕ → Lines → Line → Type 0
OtherOr f n ls g = (Has ls g × (g.number ≡ n → ⊥)) ⊎ ((l : Line) × Has ls l × (l.number ≡ n) × (g ≡ f l))

-- the same of a longer list
further_or : (f : Line → Line) (n : ℕ) (k : Line) (rest : Lines) (g : Line) → OtherOr f n rest g → OtherOr f n (k ∷ rest) g
further_or f n k rest g (inl other) = inl (inr other.0, other.1)
further_or f n k rest g (inr (l, there, is, same)) = inr (l, inr there, is, same)

-- which lines stand then
pub raised_is : (n : ℕ) (ls : Lines) (g : Line) → AreApart ls → Has (raised n ls) g → OtherOr more n ls g
raised_is n [] g apart there = absurd there
raised_is n (k ∷ rest) g apart there = by (n == k.number) refl there (raised_is n rest g apart.1)
  where
    by : (b : Bool) → (n == k.number) ≡ b → Has (cond b (more k ∷ rest) (k ∷ raised n rest)) g → (Has (raised n rest) g → OtherOr more n rest g) → OtherOr more n (k ∷ rest) g
    by true is (inl same) next = inr (k, inl refl, sym (eqb-true n k.number is), same)
    by true is (inr h) next = inl (inr h, λ e. apart.0 g h (e ∙ eqb-true n k.number is))
    by false is (inl same) next = inl (inl same, λ e. eqb-false n k.number is (sym e ∙ ap (λ z. z.number) same))
    by false is (inr h) next = further_or more n k rest g (next h)

-- a line with another number stays
pub raised_other : (n : ℕ) (ls : Lines) (g : Line) → Has ls g → (g.number ≡ n → ⊥) → Has (raised n ls) g
raised_other n [] g there other = absurd there
raised_other n (k ∷ rest) g there other = by (n == k.number) refl there (λ h. raised_other n rest g h other)
  where
    by : (b : Bool) → (n == k.number) ≡ b → Has (k ∷ rest) g → (Has rest g → Has (raised n rest) g) → Has (cond b (more k ∷ rest) (k ∷ raised n rest)) g
    by true is (inl same) next = absurd (other (ap (λ z. z.number) same ∙ sym (eqb-true n k.number is)))
    by true is (inr h) next = inr h
    by false is (inl same) next = inl same
    by false is (inr h) next = inr (next h)

-- the line of the number is held once more
pub raised_own : (n : ℕ) (ls : Lines) (l : Line) → AreApart ls → Has ls l → l.number ≡ n → Has (raised n ls) (more l)
raised_own n [] l apart there own = absurd there
raised_own n (k ∷ rest) l apart there own = by (n == k.number) refl there (λ h. raised_own n rest l apart.1 h own)
  where
    by : (b : Bool) → (n == k.number) ≡ b → Has (k ∷ rest) l → (Has rest l → Has (raised n rest) (more l)) → Has (cond b (more k ∷ rest) (k ∷ raised n rest)) (more l)
    by true is (inl same) next = inl (ap more same)
    by true is (inr h) next = absurd (apart.0 l h (own ∙ eqb-true n k.number is))
    by false is (inl same) next = absurd (eqb-false n k.number is (sym own ∙ ap (λ z. z.number) same))
    by false is (inr h) next = inr (next h)

-- no number comes
raised_number : (n : ℕ) (ls : Lines) (g : Line) → Has (raised n ls) g → (l : Line) × Has ls l × (g.number ≡ l.number)
raised_number n [] g there = absurd there
raised_number n (k ∷ rest) g there = by (n == k.number) there (raised_number n rest g)
  where
    by : (b : Bool) → Has (cond b (more k ∷ rest) (k ∷ raised n rest)) g → (Has (raised n rest) g → (l : Line) × Has rest l × (g.number ≡ l.number)) → (l : Line) × Has (k ∷ rest) l × (g.number ≡ l.number)
    by true (inl same) next = (k, inl refl, ap (λ z. z.number) same)
    by true (inr h) next = (g, inr h, refl)
    by false (inl same) next = (k, inl refl, ap (λ z. z.number) same)
    by false (inr h) next = let f = next h in (f.0, inr f.1, f.2)

-- each number still stands once
pub raised_apart : (n : ℕ) (ls : Lines) → AreApart ls → AreApart (raised n ls)
raised_apart n [] apart = tt
raised_apart n (k ∷ rest) apart = by (n == k.number) (raised_apart n rest apart.1)
  where
    by : (b : Bool) → AreApart (raised n rest) → AreApart (cond b (more k ∷ rest) (k ∷ raised n rest))
    by true next = (apart.0, apart.1)
    by false next = (λ g h same. let f = raised_number n rest g h in apart.0 f.0 f.1 (sym f.2 ∙ same), next)

-- ---- a line comes

-- each number still stands once
pub added_apart : (ls : Lines) (l : Line) → AreApart ls → ((g : Line) → Has ls g → g.number ≡ l.number → ⊥) → AreApart (ls ++ l ∷ [])
added_apart [] l apart new = (λ g h same. absurd h, tt)
added_apart (k ∷ rest) l apart new = (
  λ g h same. elim (has_append rest (l ∷ []) g h) [
    | inl old ↦ apart.0 g old same
    | inr (inl is) ↦ new k (inl refl) (sym same ∙ ap (λ z. z.number) is)
    | inr (inr none) ↦ absurd none
  ],
  added_apart rest l apart.1 (λ g h. new g (inr h)),
)

-- ---- one less is held of a number

-- the line held once less
abbrev pub less : Line → Line
less l = record l { held = pred l.held }

-- which lines stand then
pub lowered_is : (n : ℕ) (ls : Lines) (g : Line) → AreApart ls → Has (lowered n ls) g → OtherOr less n ls g
lowered_is n [] g apart there = absurd there
lowered_is n (k ∷ rest) g apart there = by (n == k.number) (k.held == 1) refl there (lowered_is n rest g apart.1)
  where
    by : (b c : Bool) → (n == k.number) ≡ b → Has (cond b (cond c rest (less k ∷ rest)) (k ∷ lowered n rest)) g → (Has (lowered n rest) g → OtherOr less n rest g) → OtherOr less n (k ∷ rest) g
    by true true is h next = inl (inr h, λ e. apart.0 g h (e ∙ eqb-true n k.number is))
    by true false is (inl same) next = inr (k, inl refl, sym (eqb-true n k.number is), same)
    by true false is (inr h) next = inl (inr h, λ e. apart.0 g h (e ∙ eqb-true n k.number is))
    by false c is (inl same) next = inl (inl same, λ e. eqb-false n k.number is (sym e ∙ ap (λ z. z.number) same))
    by false c is (inr h) next = further_or less n k rest g (next h)

-- the line of the number stays only where it was held more than once
pub lowered_more : (n : ℕ) (ls : Lines) (g l : Line) → AreApart ls → Has ls l → l.number ≡ n → (l.held == 1) ≡ true → Has (lowered n ls) g → g.number ≡ n → ⊥
lowered_more n [] g l apart has own once there is = absurd there
lowered_more n (k ∷ rest) g l apart has own once there is = by (n == k.number) refl (k.held == 1) refl has there (λ h gone. lowered_more n rest g l apart.1 h own once gone is)
  where
    by : (b : Bool) → (n == k.number) ≡ b → (c : Bool) → (k.held == 1) ≡ c → Has (k ∷ rest) l → Has (cond b (cond c rest (less k ∷ rest)) (k ∷ lowered n rest)) g → (Has rest l → Has (lowered n rest) g → ⊥) → ⊥
    by true same true held h gone next = apart.0 g gone (is ∙ eqb-true n k.number same)
    by true same false held (inl at) gone next = let both : true ≡ false = sym once ∙ ap (λ z. z.held == 1) at ∙ held in absurd (cc both)
    by true same false held (inr at) gone next = apart.0 l at (own ∙ eqb-true n k.number same)
    by false same c held (inl at) gone next = eqb-false n k.number same (sym own ∙ ap (λ z. z.number) at)
    by false same c held (inr at) (inl here) next = eqb-false n k.number same (sym is ∙ ap (λ z. z.number) here)
    by false same c held (inr at) (inr gone) next = next at gone

-- a line with another number stays
pub lowered_other : (n : ℕ) (ls : Lines) (g : Line) → Has ls g → (g.number ≡ n → ⊥) → Has (lowered n ls) g
lowered_other n [] g there other = absurd there
lowered_other n (k ∷ rest) g there other = by (n == k.number) refl (k.held == 1) there (λ h. lowered_other n rest g h other)
  where
    by : (b : Bool) → (n == k.number) ≡ b → (c : Bool) → Has (k ∷ rest) g → (Has rest g → Has (lowered n rest) g) → Has (cond b (cond c rest (less k ∷ rest)) (k ∷ lowered n rest)) g
    by true is c (inl same) next = absurd (other (ap (λ z. z.number) same ∙ sym (eqb-true n k.number is)))
    by true is true (inr h) next = h
    by true is false (inr h) next = inr h
    by false is c (inl same) next = inl same
    by false is c (inr h) next = inr (next h)

-- the line of the number stays where it was held more than once
pub lowered_own : (n : ℕ) (ls : Lines) (l : Line) → AreApart ls → Has ls l → l.number ≡ n → (l.held == 1) ≡ false → Has (lowered n ls) (less l)
lowered_own n [] l apart there own more_held = absurd there
lowered_own n (k ∷ rest) l apart there own more_held = by (n == k.number) refl (k.held == 1) refl there (λ h. lowered_own n rest l apart.1 h own more_held)
  where
    by : (b : Bool) → (n == k.number) ≡ b → (c : Bool) → (k.held == 1) ≡ c → Has (k ∷ rest) l → (Has rest l → Has (lowered n rest) (less l)) → Has (cond b (cond c rest (less k ∷ rest)) (k ∷ lowered n rest)) (less l)
    by true is true held (inl same) next = let both : true ≡ false = sym held ∙ sym (ap (λ z. z.held == 1) same) ∙ more_held in absurd (cc both)
    by true is false held (inl same) next = inl (ap less same)
    by true is c held (inr h) next = absurd (apart.0 l h (own ∙ eqb-true n k.number is))
    by false is c held (inl same) next = absurd (eqb-false n k.number is (sym own ∙ ap (λ z. z.number) same))
    by false is c held (inr h) next = inr (next h)

-- no number comes
lowered_number : (n : ℕ) (ls : Lines) (g : Line) → Has (lowered n ls) g → (l : Line) × Has ls l × (g.number ≡ l.number)
lowered_number n [] g there = absurd there
lowered_number n (k ∷ rest) g there = by (n == k.number) (k.held == 1) there (lowered_number n rest g)
  where
    by : (b c : Bool) → Has (cond b (cond c rest (less k ∷ rest)) (k ∷ lowered n rest)) g → (Has (lowered n rest) g → (l : Line) × Has rest l × (g.number ≡ l.number)) → (l : Line) × Has (k ∷ rest) l × (g.number ≡ l.number)
    by true true h next = (g, inr h, refl)
    by true false (inl same) next = (k, inl refl, ap (λ z. z.number) same)
    by true false (inr h) next = (g, inr h, refl)
    by false c (inl same) next = (k, inl refl, ap (λ z. z.number) same)
    by false c (inr h) next = let f = next h in (f.0, inr f.1, f.2)

-- each number still stands once
pub lowered_apart : (n : ℕ) (ls : Lines) → AreApart ls → AreApart (lowered n ls)
lowered_apart n [] apart = tt
lowered_apart n (k ∷ rest) apart = by (n == k.number) (k.held == 1) (lowered_apart n rest apart.1)
  where
    by : (b c : Bool) → AreApart (lowered n rest) → AreApart (cond b (cond c rest (less k ∷ rest)) (k ∷ lowered n rest))
    by true true next = apart.1
    by true false next = (apart.0, apart.1)
    by false c next = (λ g h same. let f = lowered_number n rest g h in apart.0 f.0 f.1 (sym f.2 ∙ same), next)
