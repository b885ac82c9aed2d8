-- The lines of a table by their places, and their indexes.
use Rattle.std.specs.Prelude.{◌≡◌, refl, ℕ, zero, suc, pred, ◌+◌, ◌<◌, ◌≤◌, Bool, true, false, ◌==◌, if◌then◌else◌, List, [], ◌∷◌, ◌++◌, length, drop, slice_get, slice_set, Option, Some, None, is_some}
use Rattle.std.specs.Option.{option_flatten}
use Rattle.std.specs.Ordering.{nat_cmp}
use Rattle.std.specs.BTreeMap.{BTreeMap, get, is_at, btree_map_len}
use Rattle.std.specs.Map.{lookup}
use Rattle.std.proofs.lemmas.Option.{same_Some}
use Rattle.std.proofs.Common.{get_or, arith, sym, ap, ◌∙◌, add-one, drop-cons}
use Rattle.b1_model.specs.Names.{Node}
use Rattle.b1_model.specs.Ledger.{Line, Table, is_the_node, has_line, line_node, line_number, raised, lowered, received, received_all}
use Rattle.b1_judge_facts.specs.Steps.{less_held}
use Rattle.b1_judge_facts.specs.Indexes.{line_at, lines_left, node_in, number_in, IsNumbered}

-- ---- where a number's line stands, and no other line has its number

-- the line at place i alone has the number n
record IsOnly (n : ℕ) (lines : List (Option Line)) (i : ℕ) (l : Line) : Type 0 where
  at : line_at lines i ≡ Some l
  number : (n == l.number) ≡ true
  others : (j : ℕ) (m : Line) → line_at lines j ≡ Some m → (n == m.number) ≡ true → j ≡ i

only_later : (n : ℕ) (x : Option Line) (lines : List (Option Line)) (i : ℕ) (l : Line) → IsOnly n (x ∷ lines) (suc i) l → IsOnly n lines i l
only_later n x lines i l h = record {
  at = h.at;
  number = h.number;
  others = λ j m at is. (let e : suc j ≡ suc i = h.others (suc j) m at is in omega (arith, e));
}

-- an earlier line has another number
only_not : (n : ℕ) (x : Line) (lines : List (Option Line)) (i : ℕ) (l : Line) → IsOnly n (Some x ∷ lines) (suc i) l → (n == x.number) ≡ false
only_not n x lines i l h = go (n == x.number) refl
  where
    go : (b : Bool) → (n == x.number) ≡ b → b ≡ false
    go true e = let f : 0 ≡ suc i = h.others 0 x refl e in absurd (omega (arith, f))
    go false e = refl

-- what is done at the line of a number
module _ (n : ℕ) (change : List Line → List Line) (here : Line → List Line → List Line)
    (skips : (l : Line) (ls : List Line) → (n == l.number) ≡ false → change (l ∷ ls) ≡ l ∷ change ls)
    (takes : (l : Line) (ls : List Line) → (n == l.number) ≡ true → change (l ∷ ls) ≡ here l ls) where
  -- with `put` in its place
  changed_at : (put : Option Line) (l : Line) → ((ls : List (Option Line)) → lines_left (put ∷ ls) ≡ here l (lines_left ls)) → (lines : List (Option Line)) (i : ℕ) → IsOnly n lines i l → lines_left (slice_set lines i put) ≡ change (lines_left lines)
  changed_at put l is [] i h = cc h.at
  changed_at put l is (None ∷ lines) zero h = cc h.at
  changed_at put l is (Some x ∷ lines) zero h =
      let e : x ≡ l = same_Some x l h.at in
      is lines ∙ ap (λ y. here y (lines_left lines)) (sym e) ∙ sym (takes x (lines_left lines) (ap (λ y. n == y.number) e ∙ h.number))
  changed_at put l is (None ∷ lines) (suc i) h = changed_at put l is lines i (only_later n None lines i l h)
  changed_at put l is (Some x ∷ lines) (suc i) h =
      ap (λ ls. x ∷ ls) (changed_at put l is lines i (only_later n (Some x) lines i l h))
      ∙ sym (skips x (lines_left lines) (only_not n x lines i l h))

-- the line of a number in an index
only_by : (lines : List (Option Line)) (by : BTreeMap ℕ ℕ) → IsNumbered lines by → (n i : ℕ) (l : Line) → get nat_cmp by n ≡ Some i → line_at lines i ≡ Some l → IsOnly n lines i l
only_by lines by h n i l found at =
    let e : n ≡ l.number = same_Some n l.number (sym (h.at_number n i found) ∙ ap number_in at) in
    record {
      at = at;
      number = grind (arith, e);
      others = λ j m there is. (
          let f : n ≡ m.number = grind (arith, is) in
          let g : get nat_cmp by n ≡ Some j = h.number_of n j (ap number_in there ∙ ap Some (sym f)) in
          same_Some j i (sym g ∙ found));
    }

pub raised_left : (lines : List (Option Line)) (by : BTreeMap ℕ ℕ) → IsNumbered lines by → (n i : ℕ) (l m : Line) → get nat_cmp by n ≡ Some i → line_at lines i ≡ Some l → m ≡ record l { held = suc l.held } → lines_left (slice_set lines i (Some m)) ≡ raised n (lines_left lines)
raised_left lines by h n i l m found at is =
    changed_at n (raised n) (λ x xs. record x { held = suc x.held } ∷ xs) (λ x xs e. rw e refl) (λ x xs e. rw e refl) (Some m) l (λ ls. ap (λ y. y ∷ lines_left ls) is) lines i (only_by lines by h n i l found at)

abbrev lowered_here : Line → List Line → List Line
lowered_here l ls = if l.held == 1 then ls else record l { held = pred l.held } ∷ ls

less_left : (l : Line) (ls : List (Option Line)) → lines_left (less_held l ∷ ls) ≡ lowered_here l (lines_left ls)
less_left l ls = go (l.held == 1)
  where
    go : (b : Bool) → lines_left ((if b then None else Some (record l { held = pred l.held })) ∷ ls) ≡ (if b then lines_left ls else record l { held = pred l.held } ∷ lines_left ls)
    go true = refl
    go false = refl

pub lowered_left : (lines : List (Option Line)) (by : BTreeMap ℕ ℕ) → IsNumbered lines by → (n i : ℕ) (l : Line) (put : Option Line) → get nat_cmp by n ≡ Some i → line_at lines i ≡ Some l → put ≡ less_held l → lines_left (slice_set lines i put) ≡ lowered n (lines_left lines)
lowered_left lines by h n i l put found at is =
    changed_at n (lowered n) lowered_here (λ x xs e. rw e refl) (λ x xs e. rw e refl) put l (λ ls. ap (λ y. lines_left (y ∷ ls)) is ∙ less_left l ls) lines i (only_by lines by h n i l found at)

-- ---- a number with a line, and one with none

found_line : (n : ℕ) (lines : List (Option Line)) (i : ℕ) (l : Line) → IsOnly n lines i l → (line_node n (lines_left lines) ≡ l.node) × (has_line n (lines_left lines) ≡ true)
found_line n [] i l h = cc h.at
found_line n (None ∷ lines) zero l h = cc h.at
found_line n (Some x ∷ lines) zero l h =
    let e : x ≡ l = same_Some x l h.at in
    let f : (n == x.number) ≡ true = ap (λ y. n == y.number) e ∙ h.number in
    (rw f (ap (λ y. y.node) e), rw f refl)
found_line n (None ∷ lines) (suc i) l h = found_line n lines i l (only_later n None lines i l h)
found_line n (Some x ∷ lines) (suc i) l h =
    let e : (n == x.number) ≡ false = only_not n x lines i l h in
    let ih = found_line n lines i l (only_later n (Some x) lines i l h) in
    (rw e ih.0, rw e ih.1)

-- none of the lines has the number n
abbrev HasNone : ℕ → List (Option Line) → Type 0
HasNone n lines = (i : ℕ) → number_in (line_at lines i) ≡ Some n → ⊥

missed_line : (n : ℕ) (lines : List (Option Line)) → HasNone n lines → (line_node n (lines_left lines) ≡ None) × (has_line n (lines_left lines) ≡ false)
missed_line n [] h = (refl, refl)
missed_line n (None ∷ lines) h = missed_line n lines (λ i. h (suc i))
missed_line n (Some x ∷ lines) h = go (n == x.number) refl (missed_line n lines (λ i. h (suc i)))
  where
    go : (b : Bool) → (n == x.number) ≡ b → (line_node n (lines_left lines) ≡ None) × (has_line n (lines_left lines) ≡ false) → ((if b then x.node else line_node n (lines_left lines)) ≡ None) × ((if b then true else has_line n (lines_left lines)) ≡ false)
    go true e ih = let f : n ≡ x.number = grind (arith, e) in absurd (h 0 (ap Some (sym f)))
    go false e ih = ih

none_by : (lines : List (Option Line)) (by : BTreeMap ℕ ℕ) → IsNumbered lines by → (n : ℕ) → get nat_cmp by n ≡ None → HasNone n lines
none_by lines by h n missed i is = cc (h.number_of n i is, missed)

-- the line at a number's place
line_cases : (o : Option Line) (n : ℕ) → number_in o ≡ Some n → (l : Line) × (o ≡ Some l)
line_cases None n e = cc e
line_cases (Some l) n e = (l, refl)

module _ (lines : List (Option Line)) (by : BTreeMap ℕ ℕ) (h : IsNumbered lines by) (n : ℕ) where
  pub node_found : (i : ℕ) → get nat_cmp by n ≡ Some i → node_in (line_at lines i) ≡ line_node n (lines_left lines)
  node_found i found =
      let l = line_cases (line_at lines i) n (h.at_number n i found) in
      ap node_in l.1 ∙ sym (found_line n lines i l.0 (only_by lines by h n i l.0 found l.1)).0

  pub node_missed : get nat_cmp by n ≡ None → None ≡ line_node n (lines_left lines)
  node_missed missed = sym (missed_line n lines (none_by lines by h n missed)).0

  pub has_by : has_line n (lines_left lines) ≡ is_some (get nat_cmp by n)
  has_by = go (get nat_cmp by n) refl
    where
      go : (o : Option ℕ) → get nat_cmp by n ≡ o → has_line n (lines_left lines) ≡ is_some o
      go None e = (missed_line n lines (none_by lines by h n e)).1
      go (Some i) e =
          let l = line_cases (line_at lines i) n (h.at_number n i e) in
          (found_line n lines i l.0 (only_by lines by h n i l.0 e l.1)).1

  pub nothing_raised : get nat_cmp by n ≡ None → lines_left lines ≡ raised n (lines_left lines)
  nothing_raised missed = raises (lines_left lines) ((missed_line n lines (none_by lines by h n missed)).1)
    where
      raises : (ls : List Line) → has_line n ls ≡ false → ls ≡ raised n ls
      raises [] e = refl
      raises (l ∷ ls) e = go (n == l.number) e (λ f. raises ls f)
        where
          go : (b : Bool) → (if b then true else has_line n ls) ≡ false → (has_line n ls ≡ false → ls ≡ raised n ls) → l ∷ ls ≡ (if b then record l { held = suc l.held } ∷ ls else l ∷ raised n ls)
          go true f ih = cc f
          go false f ih = ap (λ ys. l ∷ ys) (ih f)

  pub nothing_lowered : get nat_cmp by n ≡ None → lines_left lines ≡ lowered n (lines_left lines)
  nothing_lowered missed = lowers (lines_left lines) ((missed_line n lines (none_by lines by h n missed)).1)
    where
      lowers : (ls : List Line) → has_line n ls ≡ false → ls ≡ lowered n ls
      lowers [] e = refl
      lowers (l ∷ ls) e = go (n == l.number) e (λ f. lowers ls f)
        where
          go : (b : Bool) → (if b then true else has_line n ls) ≡ false → (has_line n ls ≡ false → ls ≡ lowered n ls) → l ∷ ls ≡ (if b then lowered_here l ls else l ∷ lowered n ls)
          go true f ih = cc f
          go false f ih = ap (λ ys. l ∷ ys) (ih f)

-- ---- a node's first line

pub number_first : (x : Node) (lines : List (Option Line)) (i : ℕ) → is_the_node x (node_in (line_at lines i)) ≡ true → ((j : ℕ) → is_the_node x (node_in (line_at lines j)) ≡ true → i ≤ j) → number_in (line_at lines i) ≡ line_number x (lines_left lines)
number_first x [] i at first = cc at
number_first x (None ∷ lines) zero at first = cc at
number_first x (Some l ∷ lines) zero at first = rw at refl
number_first x (None ∷ lines) (suc i) at first = number_first x lines i at (λ j is. (let f : suc i ≤ suc j = first (suc j) is in omega (arith, f)))
number_first x (Some l ∷ lines) (suc i) at first = go (is_the_node x l.node) refl (number_first x lines i at (λ j is. (let f : suc i ≤ suc j = first (suc j) is in omega (arith, f))))
  where
    go : (b : Bool) → is_the_node x l.node ≡ b → number_in (line_at lines i) ≡ line_number x (lines_left lines) → number_in (line_at lines i) ≡ (if b then Some l.number else line_number x (lines_left lines))
    go true e ih = let f : suc i ≤ 0 = first 0 e in absurd (omega (arith, f))
    go false e ih = ih

pub number_none : (x : Node) (lines : List (Option Line)) → ((j : ℕ) → is_the_node x (node_in (line_at lines j)) ≡ false) → None ≡ line_number x (lines_left lines)
number_none x [] none = refl
number_none x (None ∷ lines) none = number_none x lines (λ j. none (suc j))
number_none x (Some l ∷ lines) none = let e : is_the_node x l.node ≡ false = none 0 in rw e (number_none x lines (λ j. none (suc j)))

-- the numbers of a message, from a place on
pub received_next : (slots : List (Option Node)) (i n : ℕ) (ns : List ℕ) (t : Table) → received_all (drop i slots) (n ∷ ns) t ≡ received_all (drop (suc i) slots) ns (received n (option_flatten (slice_get slots i)) t)
received_next [] zero n ns t = refl
received_next [] (suc i) n ns t = refl
received_next (x ∷ slots) zero n ns t = go x slots
  where
    go : (x : Option Node) (slots : List (Option Node)) → received_all (x ∷ slots) (n ∷ ns) t ≡ received_all slots ns (received n (option_flatten (Some x)) t)
    go None slots = refl
    go (Some y) slots = refl
received_next (x ∷ slots) (suc i) n ns t = received_next slots i n ns t

-- a loop's step over the numbers of a message
pub received_step : (slots : List (Option Node)) (ns : List ℕ) (i : ℕ) (x : Option Node) (t u first : Table) → received_all (drop i slots) (drop i ns) t ≡ received_all slots ns first → i < length ns → x ≡ option_flatten (slice_get slots i) → u ≡ received (get_or ns i 0) x t → received_all (drop (i + 1) slots) (drop (i + 1) ns) u ≡ received_all slots ns first
received_step slots ns i x t u first e l f g =
    rw (g, f, add-one i)
    (sym (received_next slots i (get_or ns i 0) (drop (suc i) ns) t) ∙ ap (λ l. received_all (drop i slots) l t) (sym (drop-cons ns i 0 l)) ∙ e)

-- a line stands within the list
pub line_within : (lines : List (Option Line)) (i : ℕ) (l : Line) → line_at lines i ≡ Some l → i < length lines
line_within [] i l at = cc at
line_within (x ∷ lines) zero l at = omega arith
line_within (x ∷ lines) (suc i) l at = let f = line_within lines i l at in omega (arith, f)

pub none_of : {A : Type 0} (o : Option A) → is_some o ≡ false → o ≡ None
none_of None e = refl
none_of (Some x) e = cc e

-- where no number has a place, no line is left
pub nothing_left : (lines : List (Option Line)) (by : BTreeMap ℕ ℕ) → IsNumbered lines by → ((n : ℕ) → get nat_cmp by n ≡ None) → lines_left lines ≡ []
nothing_left lines by h none = all lines (λ n. none_by lines by h n (none n))
  where
    all : (lines : List (Option Line)) → ((n : ℕ) → HasNone n lines) → lines_left lines ≡ []
    all [] h = refl
    all (None ∷ lines) h = all lines (λ n i. h n (suc i))
    all (Some l ∷ lines) h = absurd (h l.number 0 refl)

pub empty_gets : (by : BTreeMap ℕ ℕ) → btree_map_len by ≡ 0 → (n : ℕ) → get nat_cmp by n ≡ None
empty_gets by e n = go by.entries e
  where
    go : (es : List (ℕ × ℕ)) → length es ≡ 0 → lookup (is_at (nat_cmp n)) es ≡ None
    go [] f = refl
    go (x ∷ es) f = cc f

-- a number's place has a line
pub line_there : (lines : List (Option Line)) (by : BTreeMap ℕ ℕ) → IsNumbered lines by → (n i : ℕ) → get nat_cmp by n ≡ Some i → line_at lines i ≡ None → ⊥
line_there lines by h n i found none = cc (sym (ap number_in none) ∙ h.at_number n i found)

pub left_push : (lines : List (Option Line)) (l : Line) → lines_left (lines ++ Some l ∷ []) ≡ lines_left lines ++ l ∷ []
left_push [] l = refl
left_push (None ∷ lines) l = left_push lines l
left_push (Some x ∷ lines) l = ap (λ ls. x ∷ ls) (left_push lines l)
