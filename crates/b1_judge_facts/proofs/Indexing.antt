-- What the indexes of a table's lines have after one of the lines changed, and where a node's first line stands.
use Rattle.std.specs.Prelude.{◌≡◌, refl, ℕ, zero, suc, pred, ◌<◌, ◌≤◌, ◌⊎◌, Bool, true, false, ◌&&◌, ◌==◌, nat_lt, if◌then◌else◌, List, [], ◌∷◌, ◌++◌, length, slice_get, slice_set, Option, Some, None, is_some, option_map}
use Rattle.std.specs.Option.{option_flatten}
use Rattle.std.specs.Ordering.{nat_cmp, ordering_then, is_eq, is_gt}
use Rattle.std.specs.declared.cmp.Ordering.{Ordering}
use Rattle.std.specs.declared.cmp.Ordering.TheVariants.{Less, Equal, Greater}
use Rattle.std.specs.declared.ops.Bound.TheVariants.{Included, Unbounded}
use Rattle.std.specs.BTreeMap.{BTreeMap, get, is_at}
use Rattle.std.specs.BTreeSet.{BTreeSet, contains, IsKeyRangeOf}
use Rattle.std.proofs.lemmas.Option.{same_Some}
use Rattle.std.proofs.Common.{arith, inl, inr, sym, ap, subst, ◌∙◌}
use Rattle.b1_model.specs.Names.{Node}
use Rattle.b1_model.specs.Ledger.{Line, is_the_node, has_line}
use Rattle.b1_judge_facts.specs.Kept.{pair_cmp}
use Rattle.b1_judge_facts.specs.Steps.{less_held}
use Rattle.b1_judge_facts.specs.Indexes.{line_at, lines_left, node_in, number_in, place_cmp, has_place, HasNodes, AreIndexed, key_lines, IsFirstPlace, Forgets, Remembers}
use Rattle.b1_judge_facts.proofs.Keeping.{eq_cmp, eq_then, at_node}
use Rattle.b1_judge_facts.proofs.LinesLeft.{has_by}

-- ---- the places of nodes

place_eq : (x y : Node) (i j : ℕ) → is_eq (place_cmp ((y.owner, y.serial), i) ((x.owner, x.serial), j)) ≡ (is_the_node x (Some y) && (i == j))
place_eq x y i j = rw (eq_then (pair_cmp (y.owner, y.serial) (x.owner, x.serial)) (nat_cmp i j), at_node x y, eq_cmp i j) refl

pub forgets : (y : Node) (i : ℕ) (m n : BTreeSet ((ℕ × ℕ) × ℕ)) → ((k : (ℕ × ℕ) × ℕ) → contains place_cmp n k ≡ (if is_at (place_cmp ((y.owner, y.serial), i)) k then false else contains place_cmp m k)) → Forgets i (Some y) m n
forgets y i m n h x j = h ((x.owner, x.serial), j) ∙ ap (λ b. if b then false else has_place m x j) (place_eq x y i j)

pub remembers : (y : Node) (i : ℕ) (m n : BTreeSet ((ℕ × ℕ) × ℕ)) → ((k : (ℕ × ℕ) × ℕ) → contains place_cmp n k ≡ (if is_at (place_cmp ((y.owner, y.serial), i)) k then true else contains place_cmp m k)) → Remembers i (Some y) m n
remembers y i m n h x j = h ((x.owner, x.serial), j) ∙ ap (λ b. if b then true else has_place m x j) (place_eq x y i j)

-- ---- the places of numbers

pub number_put : (a i : ℕ) (m n : BTreeMap ℕ ℕ) → ((k : ℕ) → get nat_cmp n k ≡ (if is_at (nat_cmp a) k then Some i else get nat_cmp m k)) → (k : ℕ) → get nat_cmp n k ≡ (if a == k then Some i else get nat_cmp m k)
number_put a i m n h k = h k ∙ ap (λ b. if b then Some i else get nat_cmp m k) (eq_cmp a k)

pub number_out : (a : ℕ) (m n : BTreeMap ℕ ℕ) → ((k : ℕ) → get nat_cmp n k ≡ (if is_at (nat_cmp a) k then None else get nat_cmp m k)) → (k : ℕ) → get nat_cmp n k ≡ (if a == k then None else get nat_cmp m k)
number_out a m n h k = h k ∙ ap (λ b. if b then None else get nat_cmp m k) (eq_cmp a k)

-- put in, and taken out again
pub number_back : (a i : ℕ) (l m n : BTreeMap ℕ ℕ) → get nat_cmp l a ≡ None → ((k : ℕ) → get nat_cmp m k ≡ (if is_at (nat_cmp a) k then Some i else get nat_cmp l k)) → ((k : ℕ) → get nat_cmp n k ≡ (if is_at (nat_cmp a) k then None else get nat_cmp m k)) → (k : ℕ) → get nat_cmp n k ≡ get nat_cmp l k
number_back a i l m n new h g k = number_out a m n g k ∙ go (a == k) refl
  where
    go : (b : Bool) → (a == k) ≡ b → (if b then None else get nat_cmp m k) ≡ get nat_cmp l k
    go true e = let f : a ≡ k = grind (arith, e) in sym new ∙ ap (get nat_cmp l) f
    go false e = number_put a i l m h k ∙ rw e refl

-- ---- a line more

at_push : (lines : List (Option Line)) (v : Option Line) (i : ℕ) → line_at (lines ++ v ∷ []) i ≡ (if length lines == i then v else line_at lines i)
at_push [] v zero = go v
  where
    go : (v : Option Line) → option_flatten (Some v) ≡ v
    go None = refl
    go (Some l) = refl
at_push [] v (suc i) = let e : (0 == suc i) ≡ false = grind arith in rw e refl
at_push (x ∷ lines) v zero = let e : (suc (length lines) == 0) ≡ false = grind arith in rw e refl
at_push (x ∷ lines) v (suc i) = let e : (suc (length lines) == suc i) ≡ (length lines == i) = grind arith in rw e (at_push lines v i)

-- nothing stands behind the last
past_end : (lines : List (Option Line)) (i : ℕ) → length lines ≤ i → line_at lines i ≡ None
past_end [] i l = refl
past_end (x ∷ lines) zero l = absurd (omega (arith, l))
past_end (x ∷ lines) (suc i) l = past_end lines i (omega (arith, l))

module _ (lines : List (Option Line)) (l : Line) (m n : BTreeMap ℕ ℕ) (s t : BTreeSet ((ℕ × ℕ) × ℕ)) (h : AreIndexed lines m s)
    (new : has_line l.number (lines_left lines) ≡ false)
    (puts : (k : ℕ) → get nat_cmp n k ≡ (if l.number == k then Some (length lines) else get nat_cmp m k))
    (adds : Remembers (length lines) l.node s t) where
  push_at : (k i : ℕ) → get nat_cmp n k ≡ Some i → number_in (line_at (lines ++ Some l ∷ []) i) ≡ Some k
  push_at k i e = ap number_in (at_push lines (Some l) i) ∙ go (l.number == k) refl (sym (puts k) ∙ e)
    where
      other : (b : Bool) → (length lines == i) ≡ b → get nat_cmp m k ≡ Some i → number_in (if b then Some l else line_at lines i) ≡ Some k
      other true f g =
          let a : length lines ≤ i = grind (arith, f) in
          cc (h.numbers.at_number k i g, past_end lines i a)
      other false f g = h.numbers.at_number k i g

      go : (b : Bool) → (l.number == k) ≡ b → (if b then Some (length lines) else get nat_cmp m k) ≡ Some i → number_in (if length lines == i then Some l else line_at lines i) ≡ Some k
      go true f g =
          let a : length lines ≡ i = same_Some (length lines) i g in
          let b : (length lines == i) ≡ true = grind (arith, a) in
          let c : l.number ≡ k = grind (arith, f) in
          rw b (ap Some c)
      go false f g = other (length lines == i) refl g

  push_of : (k i : ℕ) → number_in (line_at (lines ++ Some l ∷ []) i) ≡ Some k → get nat_cmp n k ≡ Some i
  push_of k i e = go (length lines == i) refl (ap number_in (sym (at_push lines (Some l) i)) ∙ e)
    where
      other : get nat_cmp m k ≡ Some i → (b : Bool) → (l.number == k) ≡ b → (if b then Some (length lines) else get nat_cmp m k) ≡ Some i
      other g true f =
          let a : l.number ≡ k = grind (arith, f) in
          let b : has_line l.number (lines_left lines) ≡ true = ap (λ x. has_line x (lines_left lines)) a ∙ has_by lines m h.numbers k ∙ ap is_some g in
          cc (new, b)
      other g false f = g

      go : (b : Bool) → (length lines == i) ≡ b → number_in (if b then Some l else line_at lines i) ≡ Some k → get nat_cmp n k ≡ Some i
      go true f g =
          let a : l.number ≡ k = same_Some l.number k g in
          let b : (l.number == k) ≡ true = grind (arith, a) in
          let c : length lines ≡ i = grind (arith, f) in
          puts k ∙ rw b (ap Some c)
      go false f g = puts k ∙ other (h.numbers.number_of k i g) (l.number == k) refl

  push_nodes : HasNodes (lines ++ Some l ∷ []) t
  push_nodes x i = adds x i ∙ go (length lines == i) refl ∙ ap (λ v. is_the_node x (node_in v)) (sym (at_push lines (Some l) i))
    where
      both : (a : Bool) → (if a && true then true else false) ≡ a
      both true = refl
      both false = refl

      none : (a c : Bool) → (if a && false then true else c) ≡ c
      none true c = refl
      none false c = refl

      go : (b : Bool) → (length lines == i) ≡ b → (if is_the_node x l.node && (length lines == i) then true else has_place s x i) ≡ is_the_node x (node_in (if b then Some l else line_at lines i))
      go true f =
          let a : length lines ≤ i = grind (arith, f) in
          let c : has_place s x i ≡ false = h.nodes x i ∙ ap (λ v. is_the_node x (node_in v)) (past_end lines i a) in
          rw (f, c) (both (is_the_node x l.node))
      go false f = rw f (none (is_the_node x l.node) (has_place s x i) ∙ h.nodes x i)

  pub push_indexed : AreIndexed (lines ++ Some l ∷ []) n t
  push_indexed = record { numbers = record { at_number = push_at; number_of = push_of }; nodes = push_nodes }

-- ---- a line that goes

at_set : (lines : List (Option Line)) (i : ℕ) (l : Line) (v : Option Line) (j : ℕ) → line_at lines i ≡ Some l → line_at (slice_set lines i v) j ≡ (if i == j then v else line_at lines j)
at_set [] i l v j at = cc at
at_set (x ∷ lines) zero l v zero at = go v
  where
    go : (v : Option Line) → option_flatten (Some v) ≡ v
    go None = refl
    go (Some l) = refl
at_set (x ∷ lines) zero l v (suc j) at = let e : (0 == suc j) ≡ false = grind arith in rw e refl
at_set (x ∷ lines) (suc i) l v zero at = let e : (suc i == 0) ≡ false = grind arith in rw e refl
at_set (x ∷ lines) (suc i) l v (suc j) at = let e : (suc i == suc j) ≡ (i == j) = grind arith in rw e (at_set lines i l v j at)

module _ (lines : List (Option Line)) (i : ℕ) (l : Line) (m n : BTreeMap ℕ ℕ) (s t : BTreeSet ((ℕ × ℕ) × ℕ)) (h : AreIndexed lines m s)
    (at : line_at lines i ≡ Some l)
    (outs : (k : ℕ) → get nat_cmp n k ≡ (if l.number == k then None else get nat_cmp m k))
    (less : Forgets i l.node s t) where
  out_at : (k j : ℕ) → get nat_cmp n k ≡ Some j → number_in (line_at (slice_set lines i None) j) ≡ Some k
  out_at k j e = ap number_in (at_set lines i l None j at) ∙ go (l.number == k) refl (sym (outs k) ∙ e)
    where
      other : (b : Bool) → (i == j) ≡ b → (l.number == k) ≡ false → get nat_cmp m k ≡ Some j → number_in (if b then None else line_at lines j) ≡ Some k
      other true f g is =
          let a : i ≡ j = grind (arith, f) in
          let b : l.number ≡ k = same_Some l.number k (sym (ap number_in (sym (ap (line_at lines) a) ∙ at)) ∙ h.numbers.at_number k j is) in
          let c : (l.number == k) ≡ true = grind (arith, b) in
          cc (c, g)
      other false f g is = h.numbers.at_number k j is

      go : (b : Bool) → (l.number == k) ≡ b → (if b then None else get nat_cmp m k) ≡ Some j → number_in (if i == j then None else line_at lines j) ≡ Some k
      go true f g = cc g
      go false f g = other (i == j) refl f g

  out_of : (k j : ℕ) → number_in (line_at (slice_set lines i None) j) ≡ Some k → get nat_cmp n k ≡ Some j
  out_of k j e = go (i == j) refl (ap number_in (sym (at_set lines i l None j at)) ∙ e)
    where
      other : (i == j) ≡ false → get nat_cmp m k ≡ Some j → (b : Bool) → (l.number == k) ≡ b → (if b then None else get nat_cmp m k) ≡ Some j
      other f g true is =
          let a : l.number ≡ k = grind (arith, is) in
          let b : i ≡ j = same_Some i j (sym (h.numbers.number_of k i (ap number_in at ∙ ap Some a)) ∙ g) in
          let c : (i == j) ≡ true = grind (arith, b) in
          cc (c, f)
      other f g false is = g

      go : (b : Bool) → (i == j) ≡ b → number_in (if b then None else line_at lines j) ≡ Some k → get nat_cmp n k ≡ Some j
      go true f g = cc g
      go false f g = outs k ∙ other f (h.numbers.number_of k j g) (l.number == k) refl

  out_nodes : HasNodes (slice_set lines i None) t
  out_nodes x j = less x j ∙ go (i == j) refl ∙ ap (λ v. is_the_node x (node_in v)) (sym (at_set lines i l None j at))
    where
      both : (a : Bool) → (if a && true then false else a) ≡ false
      both true = refl
      both false = refl

      none : (a c : Bool) → (if a && false then false else c) ≡ c
      none true c = refl
      none false c = refl

      go : (b : Bool) → (i == j) ≡ b → (if is_the_node x l.node && (i == j) then false else has_place s x j) ≡ is_the_node x (node_in (if b then None else line_at lines j))
      go true f =
          let a : i ≡ j = grind (arith, f) in
          let c : has_place s x j ≡ is_the_node x l.node = h.nodes x j ∙ ap (λ v. is_the_node x (node_in v)) (ap (line_at lines) (sym a) ∙ at) in
          rw (f, c) (both (is_the_node x l.node))
      go false f = rw f (none (is_the_node x l.node) (has_place s x j) ∙ h.nodes x j)

  pub out_indexed : AreIndexed (slice_set lines i None) n t
  out_indexed = record { numbers = record { at_number = out_at; number_of = out_of }; nodes = out_nodes }

-- ---- lines with the same numbers and nodes

abbrev key_number : Option (ℕ × Option Node) → Option ℕ
key_number None = None
key_number (Some k) = Some k.0

abbrev key_node : Option (ℕ × Option Node) → Option Node
key_node None = None
key_node (Some k) = k.1

number_by_key : (lines : List (Option Line)) (i : ℕ) → number_in (line_at lines i) ≡ key_number (option_flatten (slice_get (key_lines lines) i))
number_by_key [] i = refl
number_by_key (None ∷ lines) zero = refl
number_by_key (Some l ∷ lines) zero = refl
number_by_key (x ∷ lines) (suc i) = number_by_key lines i

node_by_key : (lines : List (Option Line)) (i : ℕ) → node_in (line_at lines i) ≡ key_node (option_flatten (slice_get (key_lines lines) i))
node_by_key [] i = refl
node_by_key (None ∷ lines) zero = refl
node_by_key (Some l ∷ lines) zero = refl
node_by_key (x ∷ lines) (suc i) = node_by_key lines i

pub same_keys : (lines more : List (Option Line)) (m : BTreeMap ℕ ℕ) (s : BTreeSet ((ℕ × ℕ) × ℕ)) → key_lines more ≡ key_lines lines → AreIndexed lines m s → AreIndexed more m s
same_keys lines more m s e h = record {
  numbers = record {
    at_number = λ n i f. number i ∙ h.numbers.at_number n i f;
    number_of = λ n i f. h.numbers.number_of n i (sym (number i) ∙ f);
  };
  nodes = λ x i. h.nodes x i ∙ ap (is_the_node x) (sym (node i));
}
  where
    number : (i : ℕ) → number_in (line_at more i) ≡ number_in (line_at lines i)
    number i = number_by_key more i ∙ ap (λ ks. key_number (option_flatten (slice_get ks i))) e ∙ sym (number_by_key lines i)

    node : (i : ℕ) → node_in (line_at more i) ≡ node_in (line_at lines i)
    node i = node_by_key more i ∙ ap (λ ks. key_node (option_flatten (slice_get ks i))) e ∙ sym (node_by_key lines i)

pub set_keys : (lines : List (Option Line)) (i : ℕ) (l m : Line) → line_at lines i ≡ Some l → m.number ≡ l.number → m.node ≡ l.node → key_lines (slice_set lines i (Some m)) ≡ key_lines lines
set_keys [] i l m at e f = cc at
set_keys (None ∷ lines) zero l m at e f = cc at
set_keys (Some x ∷ lines) zero l m at e f =
    let a : x ≡ l = same_Some x l at in
    ap (λ k. Some k ∷ key_lines lines) (rw (e, f) (ap (λ y. (y.number, y.node)) (sym a)))
set_keys (x ∷ lines) (suc i) l m at e f = ap (λ ks. option_map (λ (l : Line). (l.number, l.node)) x ∷ ks) (set_keys lines i l m at e f)

-- a line with one less that is held has the same number and node
pub less_keys : (lines : List (Option Line)) (i : ℕ) (l m : Line) → line_at lines i ≡ Some l → Some m ≡ less_held l → key_lines (slice_set lines i (Some m)) ≡ key_lines lines
less_keys lines i l m at e = go (l.held == 1) e
  where
    go : (b : Bool) → Some m ≡ (if b then None else Some (record l { held = pred l.held })) → key_lines (slice_set lines i (Some m)) ≡ key_lines lines
    go true f = cc f
    go false f =
        let a : m ≡ record l { held = pred l.held } = same_Some m (record l { held = pred l.held }) f in
        set_keys lines i l m at (ap (λ y. y.number) a) (ap (λ y. y.node) a)

-- ---- the first place of a node

le_cmp : (a b : ℕ) (c : Ordering) → is_gt (ordering_then (nat_cmp a b) c) ≡ false → (a < b) ⊎ ((a ≡ b) × (is_gt c ≡ false))
le_cmp a b c = go (nat_lt a b) (a == b) refl refl
  where
    go : (x y : Bool) → nat_lt a b ≡ x → (a == b) ≡ y → is_gt (ordering_then (if x then Less else (if y then Equal else Greater)) c) ≡ false → (a < b) ⊎ ((a ≡ b) × (is_gt c ≡ false))
    go true y e f g = let h : a < b = grind (arith, e) in inl h
    go false true e f g = let h : a ≡ b = grind (arith, f) in inr (h, g)
    go false false e f g = cc g

le_last : (a b : ℕ) → is_gt (nat_cmp a b) ≡ false → a ≤ b
le_last a b = go (nat_lt a b) (a == b) refl refl
  where
    go : (x y : Bool) → nat_lt a b ≡ x → (a == b) ≡ y → is_gt (if x then Less else (if y then Equal else Greater)) ≡ false → a ≤ b
    go true y e f g = grind (arith, e)
    go false true e f g = grind (arith, f)
    go false false e f g = cc g

then_then : (x y z : Ordering) → ordering_then (ordering_then x y) z ≡ ordering_then x (ordering_then y z)
then_then Less y z = refl
then_then Equal y z = refl
then_then Greater y z = refl

cmp_same : (a : ℕ) → nat_cmp a a ≡ Equal
cmp_same a =
    let e : nat_lt a a ≡ false = grind arith in
    let f : (a == a) ≡ true = grind arith in
    rw (e, f) refl

zero_le : (i : ℕ) → is_gt (nat_cmp 0 i) ≡ false
zero_le zero = refl
zero_le (suc i) = let e : nat_lt 0 (suc i) ≡ true = grind arith in rw e refl

-- each place of a node is in the range
from_zero : (o s i : ℕ) → is_gt (place_cmp ((o, s), 0) ((o, s), i)) ≡ false
from_zero o s i = rw (cmp_same o, cmp_same s) (zero_le i)

module _ (places : BTreeSet ((ℕ × ℕ) × ℕ)) (x : Node) (range : List ((ℕ × ℕ) × ℕ)) (is : IsKeyRangeOf place_cmp (Included ((x.owner, x.serial), 0)) Unbounded places range) where
  module _ (k : (ℕ × ℕ) × ℕ) (rest : List ((ℕ × ℕ) × ℕ)) (e : range ≡ k ∷ rest) where
    below_all : (i : ℕ) → has_place places x i ≡ true → is_gt (place_cmp k ((x.owner, x.serial), i)) ≡ false
    below_all i has =
        let f = is.2 ((x.owner, x.serial), i) (from_zero x.owner x.serial i, tt) has in
        rw e at f

    pub first_some : k.0.0 ≡ x.owner → k.0.1 ≡ x.serial → IsFirstPlace places x (Some k.1)
    first_some f g =
        let here = is.1 in
        let at = rw e at here in
        let same : k ≡ ((x.owner, x.serial), k.1) = ap (λ o. ((o, k.0.1), k.1)) f ∙ ap (λ s. ((x.owner, s), k.1)) g in
        (ap (contains place_cmp places) (sym same) ∙ at.1, λ i has. last i (sym (ap (λ y. is_gt (place_cmp y ((x.owner, x.serial), i))) same) ∙ below_all i has))
      where
        last : (i : ℕ) → is_gt (place_cmp ((x.owner, x.serial), k.1) ((x.owner, x.serial), i)) ≡ false → k.1 ≤ i
        last i h =
            let h' : is_gt (nat_cmp k.1 i) ≡ false = sym (rw (cmp_same x.owner, cmp_same x.serial) refl) ∙ h in
            le_last k.1 i h'

    pub first_other : (k.0.0 ≡ x.owner → k.0.1 ≡ x.serial → ⊥) → (i : ℕ) → has_place places x i ≡ false
    first_other differ i = go (has_place places x i) refl
      where
        between : is_gt (place_cmp ((x.owner, x.serial), 0) k) ≡ false → is_gt (place_cmp k ((x.owner, x.serial), i)) ≡ false → ⊥
        between low high =
            let f = le_cmp x.owner k.0.0 (ordering_then (nat_cmp x.serial k.0.1) (nat_cmp 0 k.1)) (ap is_gt (sym (then_then (nat_cmp x.owner k.0.0) (nat_cmp x.serial k.0.1) (nat_cmp 0 k.1))) ∙ low) in
            let g = le_cmp k.0.0 x.owner (ordering_then (nat_cmp k.0.1 x.serial) (nat_cmp k.1 i)) (ap is_gt (sym (then_then (nat_cmp k.0.0 x.owner) (nat_cmp k.0.1 x.serial) (nat_cmp k.1 i))) ∙ high) in
            owners f g
          where
            serials : x.owner ≡ k.0.0 → ((x.serial < k.0.1) ⊎ ((x.serial ≡ k.0.1) × (is_gt (nat_cmp 0 k.1) ≡ false))) → ((k.0.1 < x.serial) ⊎ ((k.0.1 ≡ x.serial) × (is_gt (nat_cmp k.1 i) ≡ false))) → ⊥
            serials e (inl a) (inl b) = omega (arith, a, b)
            serials e (inl a) (inr b) = omega (arith, a, b.0)
            serials e (inr a) h = differ (sym e) (sym a.0)

            owners : ((x.owner < k.0.0) ⊎ ((x.owner ≡ k.0.0) × (is_gt (ordering_then (nat_cmp x.serial k.0.1) (nat_cmp 0 k.1)) ≡ false))) → ((k.0.0 < x.owner) ⊎ ((k.0.0 ≡ x.owner) × (is_gt (ordering_then (nat_cmp k.0.1 x.serial) (nat_cmp k.1 i)) ≡ false))) → ⊥
            owners (inl a) (inl b) = omega (arith, a, b)
            owners (inl a) (inr b) = omega (arith, a, b.0)
            owners (inr a) (inl b) = omega (arith, a.0, b)
            owners (inr a) (inr b) = serials a.0 (le_cmp x.serial k.0.1 (nat_cmp 0 k.1) a.1) (le_cmp k.0.1 x.serial (nat_cmp k.1 i) b.1)

        go : (b : Bool) → has_place places x i ≡ b → b ≡ false
        go true has =
            let here = is.1 in
            let at = rw e at here in
            absurd (between at.0.0 (below_all i has))
        go false has = refl

  pub first_none : range ≡ [] → (i : ℕ) → has_place places x i ≡ false
  first_none e i = is.5 e ((x.owner, x.serial), i) (from_zero x.owner x.serial i, tt)

-- ---- the steps of the table's lines

pub push_put : (lines more : List (Option Line)) (l : Line) (place : ℕ) (m n : BTreeMap ℕ ℕ) (s t : BTreeSet ((ℕ × ℕ) × ℕ)) → more ≡ lines ++ Some l ∷ [] → place ≡ length lines → AreIndexed lines m s → has_line l.number (lines_left lines) ≡ false → ((k : ℕ) → get nat_cmp n k ≡ (if l.number == k then Some place else get nat_cmp m k)) → Remembers place l.node s t → AreIndexed more n t
push_put lines more l place m n s t e f h new puts adds =
    subst (λ ls. AreIndexed ls n t) (sym e)
    (push_indexed lines l m n s t h new (subst (λ i. (k : ℕ) → get nat_cmp n k ≡ (if l.number == k then Some i else get nat_cmp m k)) f puts) (subst (λ i. Remembers i l.node s t) f adds))

pub lower_gone : (lines : List (Option Line)) (i number : ℕ) (l : Line) (node : Option Node) (m n : BTreeMap ℕ ℕ) (s t : BTreeSet ((ℕ × ℕ) × ℕ)) → AreIndexed lines m s → get nat_cmp m number ≡ Some i → line_at lines i ≡ Some l → node ≡ l.node → ((k : ℕ) → get nat_cmp n k ≡ (if is_at (nat_cmp number) k then None else get nat_cmp m k)) → Forgets i node s t → AreIndexed (slice_set lines i None) n t
lower_gone lines i number l node m n s t h found at same outs less =
    let e : number ≡ l.number = same_Some number l.number (sym (h.numbers.at_number number i found) ∙ ap number_in at) in
    out_indexed lines i l m n s t h at (subst (λ a. (k : ℕ) → get nat_cmp n k ≡ (if a == k then None else get nat_cmp m k)) e (number_out number m n outs)) (subst (λ y. Forgets i y s t) same less)

pub lower_kept : (lines : List (Option Line)) (i : ℕ) (l k : Line) (m : BTreeMap ℕ ℕ) (s : BTreeSet ((ℕ × ℕ) × ℕ)) → AreIndexed lines m s → line_at lines i ≡ Some l → Some k ≡ less_held l → AreIndexed (slice_set lines i (Some k)) m s
lower_kept lines i l k m s h at is = same_keys lines (slice_set lines i (Some k)) m s (less_keys lines i l k at is) h
