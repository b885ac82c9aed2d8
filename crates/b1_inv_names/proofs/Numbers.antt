-- Own numbers as a list: which join it, and that each stands once.
use Rattle.std.proofs.Common.{◌≡◌, ◌⊎◌, refl, sym, ap, ◌∙◌, inl, inr, ℕ, zero, suc, ◌+◌, ◌==◌, Bool, true, false, cond, not, ◌&&◌, nat_lt, List, [], ◌∷◌, ◌++◌, map, filter, fold, length, Some, None, get_or, set, replicate}
use Rattle.std.specs.List.{position_or_len}
use Rattle.std.proofs.lemmas.Bool.{cases_eq, cases_lt, eq-eqb, ne_eqb, lt-ltb, le-ltb, and_parts, not-true}
use native.Mathlib.Omega.{arith}
use Rattle.b1_model.specs.declared.parts.NodeState.TheVariants.{Live}
use Rattle.b1_model.specs.declared.records.Call.{Call}
use Rattle.b1_model.specs.Names.{Name, is_own, is_known, add_new, made_in, next_epoch, carried_by}
use Rattle.b1_model.specs.MachineParts.{NodePart, no_node}
use Rattle.b1_model.specs.MachineTables.{with_made, with_node, with_nodes}
use Rattle.b1_step.specs.Rights.{Has}
use Rattle.b1_inv.specs.Notices.{Apart}

-- ---- joining

-- whether a number stands among numbers
abbrev pub has_number : ℕ → List ℕ → Bool
has_number n [] = false
has_number n (m ∷ ms) = cond (n == m) true (has_number n ms)

-- an own number that isn't there yet joins
abbrev pub joined : List ℕ → ℕ → List ℕ
joined known n = cond (is_own n && not (has_number n known)) (known ++ n ∷ []) known

abbrev pub all_joined : List ℕ → List ℕ → List ℕ
all_joined known [] = known
all_joined known (n ∷ ns) = all_joined (joined known n) ns

-- the numbers of names, and of nodes
abbrev pub name_numbers : List Name → List ℕ
name_numbers names = map (λ m. m.number) names

abbrev pub node_numbers : List NodePart → List ℕ
node_numbers nodes = map (λ n. n.number) nodes

known_number : (n : ℕ) (names : List Name) → is_known n names ≡ has_number n (name_numbers names)
known_number n [] = refl
known_number n (m ∷ ms) = ap (λ b. cond (n == m.number) true b) (known_number n ms)

names_append : (xs ys : List Name) → name_numbers (xs ++ ys) ≡ name_numbers xs ++ name_numbers ys
names_append [] ys = refl
names_append (x ∷ xs) ys = ap (λ l. x.number ∷ l) (names_append xs ys)

nodes_append : (xs ys : List NodePart) → node_numbers (xs ++ ys) ≡ node_numbers xs ++ node_numbers ys
nodes_append [] ys = refl
nodes_append (x ∷ xs) ys = ap (λ l. x.number ∷ l) (nodes_append xs ys)

one_name : (e : ℕ) (known : List Name) (n : ℕ) (b : Bool) → name_numbers (cond b (known ++ record { number = n; epoch = e } ∷ []) known) ≡ cond b (name_numbers known ++ n ∷ []) (name_numbers known)
one_name e known n true = names_append known (record { number = n; epoch = e } ∷ [])
one_name e known n false = refl

pub new_names : (e : ℕ) (known : List Name) (ns : List ℕ) → name_numbers (add_new e known ns) ≡ all_joined (name_numbers known) ns
new_names e known [] = refl
new_names e known (n ∷ ns) =
    new_names e (cond (is_own n && not (is_known n known)) (known ++ record { number = n; epoch = e } ∷ []) known) ns
    ∙ ap (λ l. all_joined l ns) (one_name e known n (is_own n && not (is_known n known)) ∙ ap (λ b. cond (is_own n && not b) (name_numbers known ++ n ∷ []) (name_numbers known)) (known_number n known))

-- the numbers after these calls
abbrev pub numbers_in : List ℕ → List Call → List ℕ
numbers_in known [] = known
numbers_in known (c ∷ cs) = numbers_in (all_joined known (carried_by c.command c.answer)) cs

pub made_numbers : (e : ℕ) (known : List Name) (cs : List Call) → name_numbers (made_in e known cs) ≡ numbers_in (name_numbers known) cs
made_numbers e known [] = refl
made_numbers e known (c ∷ cs) = made_numbers (next_epoch e c.answer) (add_new e known (carried_by c.command c.answer)) cs ∙ ap (λ l. numbers_in l cs) (new_names e known (carried_by c.command c.answer))

pub numbers_append : (known : List ℕ) (xs ys : List Call) → numbers_in known (xs ++ ys) ≡ numbers_in (numbers_in known xs) ys
numbers_append known [] ys = refl
numbers_append known (c ∷ cs) ys = numbers_append (all_joined known (carried_by c.command c.answer)) cs ys

-- ---- own numbers, each once

abbrev pub Fine : List ℕ → Type 0
Fine ns = ((n : ℕ) → Has ns n → is_own n ≡ true) × Apart ns

none_there : (n : ℕ) (ns : List ℕ) → has_number n ns ≡ false → Has ns n → ⊥
none_there n [] none h = h
none_there n (m ∷ ms) none (inl same) = let there : n == m ≡ true = eq-eqb n m same in let both : true ≡ false = sym (ap (λ b. cond b true (has_number n ms)) there) ∙ none in absurd (cc both)
none_there n (m ∷ ms) none (inr further) = none_there n ms (by (n == m) none) further
  where
    by : (b : Bool) → cond b true (has_number n ms) ≡ false → has_number n ms ≡ false
    by true is = absurd (cc is)
    by false is = is

has_end : (ns : List ℕ) (n m : ℕ) → Has (ns ++ n ∷ []) m → Has ns m ⊎ (m ≡ n)
has_end [] n m (inl same) = inr same
has_end [] n m (inr further) = absurd further
has_end (k ∷ ks) n m (inl same) = inl (inl same)
has_end (k ∷ ks) n m (inr further) = elim (has_end ks n m further) [ inl there ↦ inl (inr there) | inr same ↦ inr same ]

apart_end : (ns : List ℕ) (n : ℕ) → Apart ns → (Has ns n → ⊥) → Apart (ns ++ n ∷ [])
apart_end [] n apart none = (λ h. h, tt)
apart_end (m ∷ ms) n (first, rest) none = (λ h. elim (has_end ms n m h) [ inl there ↦ first there | inr same ↦ none (inl (sym same)) ], apart_end ms n rest (λ h. none (inr h)))

fine_joined : (known : List ℕ) (n : ℕ) → Fine known → Fine (joined known n)
fine_joined known n (own, apart) = by (is_own n && not (has_number n known)) refl
  where
    by : (b : Bool) → (is_own n && not (has_number n known)) ≡ b → Fine (cond b (known ++ n ∷ []) known)
    by false is = (own, apart)
    by true is =
        let both = and_parts (is_own n) (not (has_number n known)) is in
        let none : has_number n known ≡ false = not-true (has_number n known) both.1 in
        (λ m h. elim (has_end known n m h) [ inl there ↦ own m there | inr same ↦ ap is_own same ∙ both.0 ], apart_end known n apart (none_there n known none))

pub fine_all : (ns known : List ℕ) → Fine known → Fine (all_joined known ns)
fine_all [] known fine = fine
fine_all (n ∷ ns) known fine = fine_all ns (joined known n) (fine_joined known n fine)

pub fine_calls : (cs : List Call) (known : List ℕ) → Fine known → Fine (numbers_in known cs)
fine_calls [] known fine = fine
fine_calls (c ∷ cs) known fine = fine_calls cs (all_joined known (carried_by c.command c.answer)) (fine_all (carried_by c.command c.answer) known fine)

-- ---- nodes

below_suc : (a b : ℕ) → nat_lt (1 + a) (suc b) ≡ nat_lt a b
below_suc a b = elim (cases_lt a b) [
  | inl low ↦ lt-ltb (1 + a) (suc b) (omega (arith, low)) ∙ sym (lt-ltb a b low)
  | inr high ↦ le-ltb (1 + a) (suc b) (omega (arith, high)) ∙ sym (le-ltb a b high)
]

pub same_eq : (m n : ℕ) → (m == n) ≡ (n == m)
same_eq m n = elim (cases_eq m n) [ inl same ↦ eq-eqb m n same ∙ sym (eq-eqb n m (sym same)) | inr apart ↦ ne_eqb m n apart ∙ sym (ne_eqb n m (λ e. apart (sym e))) ]

pub found_number : (n : ℕ) (nodes : List NodePart) → nat_lt (position_or_len (λ z. z.number == n) nodes) (length nodes) ≡ has_number n (node_numbers nodes)
found_number n [] = refl
found_number n (x ∷ xs) = by (x.number == n) (same_eq n x.number) (found_number n xs)
  where
    by : (b : Bool) → (n == x.number) ≡ b → nat_lt (position_or_len (λ z. z.number == n) xs) (length xs) ≡ has_number n (node_numbers xs) → nat_lt (cond (not b) (1 + position_or_len (λ z. z.number == n) xs) 0) (suc (length xs)) ≡ cond (n == x.number) true (has_number n (node_numbers xs))
    by true is same = lt-ltb 0 (suc (length xs)) (omega arith) ∙ ap (λ b. cond b true (has_number n (node_numbers xs))) (sym is)
    by false is same = below_suc (position_or_len (λ z. z.number == n) xs) (length xs) ∙ same ∙ ap (λ b. cond b true (has_number n (node_numbers xs))) (sym is)

made_node : (peers number : ℕ) (nodes : List NodePart) → node_numbers (with_made peers number nodes) ≡ cond (not (has_number number (node_numbers nodes))) (node_numbers nodes ++ number ∷ []) (node_numbers nodes)
made_node peers number nodes = by (nat_lt (position_or_len (λ z. z.number == number) nodes) (length nodes)) (sym (found_number number nodes))
  where
    by : (b : Bool) → has_number number (node_numbers nodes) ≡ b
        → node_numbers (elim (cond b (Some (position_or_len (λ z. z.number == number) nodes)) None) [ None ↦ nodes ++ record { number = number; state = Live; counts = replicate peers 0; taken = false } ∷ [] | Some serial ↦ nodes ])
        ≡ cond (not (has_number number (node_numbers nodes))) (node_numbers nodes ++ number ∷ []) (node_numbers nodes)
    by true is = ap (λ b. cond (not b) (node_numbers nodes ++ number ∷ []) (node_numbers nodes)) (sym is)
    by false is = nodes_append nodes (record { number = number; state = Live; counts = replicate peers 0; taken = false } ∷ []) ∙ ap (λ b. cond (not b) (node_numbers nodes ++ number ∷ []) (node_numbers nodes)) (sym is)

-- an own number makes a node where it joins
pub made_joins : (b : Bool) (peers number : ℕ) (nodes : List NodePart) → is_own number ≡ b → node_numbers (cond b (with_made peers number nodes) nodes) ≡ joined (node_numbers nodes) number
made_joins true peers number nodes own = made_node peers number nodes ∙ ap (λ b. cond (b && not (has_number number (node_numbers nodes))) (node_numbers nodes ++ number ∷ []) (node_numbers nodes)) (sym own)
made_joins false peers number nodes own = ap (λ b. cond (b && not (has_number number (node_numbers nodes))) (node_numbers nodes ++ number ∷ []) (node_numbers nodes)) (sym own)

pub all_made_join : (peers : ℕ) (numbers : List ℕ) (nodes : List NodePart) → node_numbers (fold (λ ns number. with_made peers number ns) nodes (filter is_own numbers)) ≡ all_joined (node_numbers nodes) numbers
all_made_join peers [] nodes = refl
all_made_join peers (n ∷ rest) nodes = by (is_own n) refl (all_made_join peers rest)
  where
    by : (b : Bool) → is_own n ≡ b → ((ns : List NodePart) → node_numbers (fold (λ ms number. with_made peers number ms) ns (filter is_own rest)) ≡ all_joined (node_numbers ns) rest) → node_numbers (fold (λ ns number. with_made peers number ns) nodes (cond b (n ∷ filter is_own rest) (filter is_own rest))) ≡ all_joined (joined (node_numbers nodes) n) rest
    by true own further = further (with_made peers n nodes) ∙ ap (λ l. all_joined l rest) (made_joins true peers n nodes own)
    by false own further = further nodes ∙ ap (λ l. all_joined l rest) (made_joins false peers n nodes own)

set_numbers : (nodes : List NodePart) (i : ℕ) (m : NodePart) → m.number ≡ (get_or nodes i no_node).number → node_numbers (set nodes i m) ≡ node_numbers nodes
set_numbers [] i m same = refl
set_numbers (n ∷ ns) zero m same = ap (λ k. k ∷ node_numbers ns) same
set_numbers (n ∷ ns) (suc i) m same = ap (λ l. n.number ∷ l) (set_numbers ns i m same)

-- a node that changes and keeps its number
pub node_same : (f : NodePart → NodePart) → ((n : NodePart) → (f n).number ≡ n.number) → (serial : ℕ) (nodes : List NodePart) → node_numbers (with_node serial f nodes) ≡ node_numbers nodes
node_same f keeps serial nodes = set_numbers nodes serial (f (get_or nodes serial no_node)) (keeps (get_or nodes serial no_node))

pub nodes_same : (f : NodePart → NodePart) → ((n : NodePart) → (f n).number ≡ n.number) → (serials : List ℕ) (nodes : List NodePart) → node_numbers (with_nodes serials f nodes) ≡ node_numbers nodes
nodes_same f keeps [] nodes = refl
nodes_same f keeps (serial ∷ rest) nodes = nodes_same f keeps rest (with_node serial f nodes) ∙ node_same f keeps serial nodes
