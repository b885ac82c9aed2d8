-- A table with lines made beside it, and what arrives by it.
use Rattle.std.specs.Prelude.{◌≡◌, refl, ℕ, suc, ◌+◌, ◌<◌, Bool, true, false, ◌||◌, ◌==◌, if◌then◌else◌, List, [], ◌∷◌, ◌++◌, length, map, drop, Option, Some, None, unwrap_or}
use Rattle.std.proofs.lemmas.List.{append-nil}
use Rattle.std.proofs.Common.{get_or, arith, sym, ap, ◌∙◌, add-one, drop-cons}
use Rattle.b1_model.specs.Names.{is_given, Node, Name, number_at}
use Rattle.b1_model.specs.Ledger.{Line, Table, is_the_node, has_line, line_number, given_number, raised, gained, received}
use Rattle.b1_model.specs.Legal.{arrives, arrived}
use Rattle.b1_model.specs.Names.{invalid}
use Rattle.b1_judge_facts.specs.Steps.{beside, received_beside}

pub number_left : (x : Node) (ls ms : List Line) (n : ℕ) → line_number x ls ≡ Some n → line_number x (ls ++ ms) ≡ Some n
number_left x [] ms n e = cc e
number_left x (l ∷ ls) ms n e = go (is_the_node x l.node) e (λ f. number_left x ls ms n f)
  where
    go : (b : Bool) → (if b then Some l.number else line_number x ls) ≡ Some n → (line_number x ls ≡ Some n → line_number x (ls ++ ms) ≡ Some n) → (if b then Some l.number else line_number x (ls ++ ms)) ≡ Some n
    go true f ih = f
    go false f ih = ih f

pub number_right : (x : Node) (ls ms : List Line) → line_number x ls ≡ None → line_number x (ls ++ ms) ≡ line_number x ms
number_right x [] ms e = refl
number_right x (l ∷ ls) ms e = go (is_the_node x l.node) e (λ f. number_right x ls ms f)
  where
    go : (b : Bool) → (if b then Some l.number else line_number x ls) ≡ None → (line_number x ls ≡ None → line_number x (ls ++ ms) ≡ line_number x ms) → (if b then Some l.number else line_number x (ls ++ ms)) ≡ line_number x ms
    go true f ih = cc f
    go false f ih = ih f

-- ---- what counts of a table for what arrives

abbrev pub Keys : Type 0
Keys = List (ℕ × Option Node)

abbrev pub keys : List Line → Keys
keys ls = map (λ l. (l.number, l.node)) ls

abbrev number_in_keys : Node → Keys → Option ℕ
number_in_keys x [] = None
number_in_keys x (k ∷ ks) = if is_the_node x k.1 then Some k.0 else number_in_keys x ks

abbrev has_key : ℕ → Keys → Bool
has_key n [] = false
has_key n (k ∷ ks) = if n == k.0 then true else has_key n ks

number_by_keys : (x : Node) (ls : List Line) → line_number x ls ≡ number_in_keys x (keys ls)
number_by_keys x [] = refl
number_by_keys x (l ∷ ls) = ap (λ o. if is_the_node x l.node then Some l.number else o) (number_by_keys x ls)

line_by_keys : (n : ℕ) (ls : List Line) → has_line n ls ≡ has_key n (keys ls)
line_by_keys n [] = refl
line_by_keys n (l ∷ ls) = ap (λ o. if n == l.number then true else o) (line_by_keys n ls)

raised_keys : (n : ℕ) (ls : List Line) → keys (raised n ls) ≡ keys ls
raised_keys n [] = refl
raised_keys n (l ∷ ls) = go (n == l.number) (raised_keys n ls)
  where
    go : (b : Bool) → keys (raised n ls) ≡ keys ls → keys (if b then record l { held = suc l.held } ∷ ls else l ∷ raised n ls) ≡ keys (l ∷ ls)
    go true ih = refl
    go false ih = ap (λ ks. (l.number, l.node) ∷ ks) ih

keys_append : (ls ms : List Line) → keys (ls ++ ms) ≡ keys ls ++ keys ms
keys_append [] ms = refl
keys_append (l ∷ ls) ms = ap (λ ks. (l.number, l.node) ∷ ks) (keys_append ls ms)

has_append : (n : ℕ) (ls ms : List Line) → has_line n (ls ++ ms) ≡ (has_line n ls || has_line n ms)
has_append n [] ms = refl
has_append n (l ∷ ls) ms = go (n == l.number) (has_append n ls ms)
  where
    go : (b : Bool) → has_line n (ls ++ ms) ≡ (has_line n ls || has_line n ms) → (if b then true else has_line n (ls ++ ms)) ≡ ((if b then true else has_line n ls) || has_line n ms)
    go true ih = refl
    go false ih = ih

append_append : {A : Type 0} (xs ys zs : List A) → (xs ++ ys) ++ zs ≡ xs ++ (ys ++ zs)
append_append [] ys zs = refl
append_append (x ∷ xs) ys zs = ap (λ l. x ∷ l) (append_append xs ys zs)

-- two tables with the same numbers and nodes, which made as many lines
pub record IsLike (t u : Table) : Type 0 where
  pub keys_are : keys t.lines ≡ keys u.lines
  pub given_is : t.given ≡ u.given

number_like : (x : Node) (t u : Table) → IsLike t u → line_number x t.lines ≡ line_number x u.lines
number_like x t u h = number_by_keys x t.lines ∙ ap (number_in_keys x) h.keys_are ∙ sym (number_by_keys x u.lines)

has_like : (n : ℕ) (t u : Table) → IsLike t u → has_line n t.lines ≡ has_line n u.lines
has_like n t u h = line_by_keys n t.lines ∙ ap (has_key n) h.keys_are ∙ sym (line_by_keys n u.lines)

gained_like : (n : ℕ) (x : Option Node) (t u : Table) → IsLike t u → IsLike (gained n x t) (gained n x u)
gained_like n x t u h = go (has_line n u.lines) refl
  where
    go : (b : Bool) → has_line n u.lines ≡ b → IsLike (gained n x t) (gained n x u)
    go true e =
        let f : has_line n t.lines ≡ true = has_like n t u h ∙ e in
        rw (e, f) (record { keys_are = raised_keys n t.lines ∙ h.keys_are ∙ sym (raised_keys n u.lines); given_is = h.given_is })
    go false e =
        let f : has_line n t.lines ≡ false = has_like n t u h ∙ e in
        rw (e, f) (record {
          keys_are = keys_append t.lines (record { number = n; node = x; held = 1 } ∷ []) ∙ ap (λ ks. ks ++ (n, x) ∷ []) h.keys_are ∙ sym (keys_append u.lines (record { number = n; node = x; held = 1 } ∷ []));
          given_is = ap suc h.given_is;
        })

received_like : (n : ℕ) (x : Option Node) (t u : Table) → IsLike t u → IsLike (received n x t) (received n x u)
received_like n x t u h = go (is_given n)
  where
    go : (b : Bool) → IsLike (if b then gained n x t else t) (if b then gained n x u else u)
    go true = gained_like n x t u h
    go false = h

module _ (late : Node → Bool) (p : ℕ) (known : List Name) where
  arrives_like : (t u : Table) (x : Option Node) → IsLike t u → arrives late p known t x ≡ arrives late p known u x
  arrives_like t u None h = refl
  arrives_like t u (Some x) h = ap (λ n. if late x then invalid else n) (ap (λ o. if x.owner == p then unwrap_or (number_at known x.serial) invalid else given_number t.given o) (number_like x t u h) ∙ ap (λ g. if x.owner == p then unwrap_or (number_at known x.serial) invalid else given_number g (line_number x u.lines)) h.given_is)

  arrived_like : (xs : List (Option Node)) (t u : Table) → IsLike t u → arrived late p known xs t ≡ arrived late p known xs u
  arrived_like [] t u h = refl
  arrived_like (x ∷ xs) t u h =
      let n : arrives late p known t x ≡ arrives late p known u x = arrives_like t u x h in
      ap (λ m. m ∷ arrived late p known xs (received (arrives late p known t x) x t)) n
      ∙ ap (λ l. arrives late p known u x ∷ l)
      (ap (λ m. arrived late p known xs (received m x t)) n ∙ arrived_like xs (received (arrives late p known u x) x t) (received (arrives late p known u x) x u) (received_like (arrives late p known u x) x t u h))

-- ---- a number more

beside_gained : (n : ℕ) (x : Option Node) (t made : Table) → has_line n t.lines ≡ false → IsLike (gained n x (beside t made)) (beside t (gained n x made))
beside_gained n x t made new = go (has_line n made.lines) refl
  where
    has : has_line n (t.lines ++ made.lines) ≡ has_line n made.lines
    has = has_append n t.lines made.lines ∙ ap (λ b. b || has_line n made.lines) new

    go : (b : Bool) → has_line n made.lines ≡ b → IsLike (gained n x (beside t made)) (beside t (gained n x made))
    go true e =
        let f : has_line n (t.lines ++ made.lines) ≡ true = has ∙ e in
        rw (e, f) (record {
          keys_are = raised_keys n (t.lines ++ made.lines) ∙ keys_append t.lines made.lines ∙ ap (λ ks. keys t.lines ++ ks) (sym (raised_keys n made.lines)) ∙ sym (keys_append t.lines (raised n made.lines));
          given_is = refl;
        })
    go false e =
        let f : has_line n (t.lines ++ made.lines) ≡ false = has ∙ e in
        let g : suc (t.given + made.given) ≡ t.given + suc made.given = omega arith in
        rw (e, f) (record { keys_are = ap keys (append_append t.lines made.lines (record { number = n; node = x; held = 1 } ∷ [])); given_is = g })

pub beside_received : (n : ℕ) (x : Option Node) (t made : Table) → IsLike (received n x (beside t made)) (beside t (received_beside n x t made))
beside_received n x t made = go (has_line n t.lines) refl
  where
    old : has_line n t.lines ≡ true → (b : Bool) → IsLike (if b then gained n x (beside t made) else beside t made) (beside t made)
    old e true =
        let f : has_line n (t.lines ++ made.lines) ≡ true = has_append n t.lines made.lines ∙ ap (λ b. b || has_line n made.lines) e in
        rw f (record { keys_are = raised_keys n (t.lines ++ made.lines); given_is = refl })
    old e false = record { keys_are = refl; given_is = refl }

    new : has_line n t.lines ≡ false → (b : Bool) → IsLike (if b then gained n x (beside t made) else beside t made) (beside t (if b then gained n x made else made))
    new e true = beside_gained n x t made e
    new e false = record { keys_are = refl; given_is = refl }

    go : (b : Bool) → has_line n t.lines ≡ b → IsLike (received n x (beside t made)) (beside t (received_beside n x t made))
    go true e = rw e (old e (is_given n))
    go false e = rw e (new e (is_given n))

pub beside_none : (t : Table) → beside t (record { lines = []; given = 0 }) ≡ t
beside_none t =
    let z : t.given + 0 ≡ t.given = omega arith in
    ap (λ ls. record { lines = ls; given = t.given + 0 }) (append-nil t.lines) ∙ ap (λ g. record { lines = t.lines; given = g }) z

-- a loop's step over the nodes of a message
module _ (late : Node → Bool) (p : ℕ) (known : List Name) where
  pub arrived_next : (carried : List (Option Node)) (i : ℕ) (x : Option Node) (numbers more all : List ℕ) (n : ℕ) (t made next : Table) → i < length carried → x ≡ get_or carried i x → numbers ++ arrived late p known (drop i carried) (beside t made) ≡ all → n ≡ arrives late p known (beside t made) x → next ≡ received_beside n x t made → more ≡ numbers ++ n ∷ [] → more ++ arrived late p known (drop (i + 1) carried) (beside t next) ≡ all
  arrived_next carried i x numbers more all n t made next l at h e f g =
      rw (g, add-one i)
      (append_append numbers (n ∷ []) (arrived late p known (drop (suc i) carried) (beside t next))
      ∙ ap (λ ns. numbers ++ n ∷ ns) (ap (λ m. arrived late p known (drop (suc i) carried) (beside t m)) f ∙ sym (arrived_like late p known (drop (suc i) carried) (received n x (beside t made)) (beside t (received_beside n x t made)) (beside_received n x t made)))
      ∙ ap (λ m. numbers ++ m ∷ arrived late p known (drop (suc i) carried) (received m x (beside t made))) e
      ∙ ap (λ y. numbers ++ arrived late p known (y ∷ drop (suc i) carried) (beside t made)) at
      ∙ ap (λ xs. numbers ++ arrived late p known xs (beside t made)) (sym (drop-cons carried i x l))
      ∙ h)
