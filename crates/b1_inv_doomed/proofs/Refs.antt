-- The nodes that a destruction of the record names, as the machine has them.
use Rattle.std.proofs.Common.{◌≡◌, refl, sym, ap, ◌∙◌, ℕ, suc, ◌+◌, ◌==◌, Bool, true, false, cond, not, ◌&&◌, ◌||◌, List, [], ◌∷◌, ◌++◌, map, filter, length, Option, Some, None, option_map}
use Rattle.std.specs.Prelude.{slice_get, position, is_some}
use Rattle.std.specs.List.{list_any, list_all}
use Rattle.std.proofs.lemmas.Bool.{and_parts, eq-eqb}
use native.Mathlib.Omega.{arith}
use Rattle.b1_model.specs.declared.naming.Key.{Key}
use Rattle.b1_model.specs.declared.naming.NodeRef.{NodeRef}
use Rattle.b1_model.specs.Names.{is_own, Node, Name, node_from, own_node, nodes_from}
use Rattle.b1_model.specs.Ledger.{Table, named, Destruction, line_node, is_the_node, has_node, is_destroyed_in}
use Rattle.b1_model.specs.MachineParts.{NodePart, is_destroyed}
use Rattle.b1_model.specs.MachineTables.{serial_of}
use Rattle.b1_inv_record.specs.Dooming.{undestroyed}
use Rattle.b1_inv_record.specs.Destructions.{own_ref}
use Rattle.b1_inv_record.specs.Epochs.{ref_of, is_ref, doom_from}
use Rattle.b1_inv_names.proofs.Numbers.{name_numbers, node_numbers, same_eq}
use Rattle.b1_inv_doomed.proofs.Indices.{index, position_is, index_any, index_map, index_same}

-- ---- what numbers name

abbrev pub refs : List (Option Node) → List (Option NodeRef)
refs nodes = map (option_map ref_of) nodes

abbrev pub own_refs : ℕ → List ℕ → List (Option NodeRef)
own_refs p serials = map (λ i. Some (own_ref p i)) serials

next_ref : (p i : ℕ) (r : Option ℕ) → option_map (λ j. own_ref p (suc i + j)) r ≡ option_map (λ j. own_ref p (i + j)) (option_map suc r)
next_ref p i None = refl
next_ref p i (Some j) = let same : suc i + j ≡ i + suc j = omega arith in ap (λ k. Some (own_ref p k)) same

named_from : (p i n : ℕ) (known : List Name) → option_map ref_of (node_from p i n known) ≡ option_map (λ j. own_ref p (i + j)) (index (λ m. m == n) (name_numbers known))
named_from p i n [] = refl
named_from p i n (m ∷ ms) = by (n == m.number) refl (named_from p (suc i) n ms)
  where
    by : (b : Bool) → (n == m.number) ≡ b → option_map ref_of (node_from p (suc i) n ms) ≡ option_map (λ j. own_ref p (suc i + j)) (index (λ k. k == n) (name_numbers ms))
        → option_map ref_of (cond b (Some (record { owner = p; serial = i; epoch = m.epoch })) (node_from p (suc i) n ms)) ≡ option_map (λ j. own_ref p (i + j)) (cond (m.number == n) (Some 0) (option_map suc (index (λ k. k == n) (name_numbers ms))))
    by true same further =
        let here : i ≡ i + 0 = omega arith in
        ap (λ k. Some (own_ref p k)) here ∙ ap (λ b. option_map (λ j. own_ref p (i + j)) (cond b (Some 0) (option_map suc (index (λ k. k == n) (name_numbers ms))))) (sym (same_eq m.number n ∙ same))
    by false differs further =
        further ∙ next_ref p i (index (λ k. k == n) (name_numbers ms))
        ∙ ap (λ b. option_map (λ j. own_ref p (i + j)) (cond b (Some 0) (option_map suc (index (λ k. k == n) (name_numbers ms))))) (sym (same_eq m.number n ∙ differs))

from_zero : (p : ℕ) (r : Option ℕ) → option_map (λ j. own_ref p (0 + j)) r ≡ option_map (own_ref p) r
from_zero p None = refl
from_zero p (Some j) = let same : 0 + j ≡ j = omega arith in ap (λ k. Some (own_ref p k)) same

module _ (p : ℕ) (known : List Name) (nodes : List NodePart) (numbers_are : name_numbers known ≡ node_numbers nodes) where
  serial_index : (n : ℕ) → serial_of n nodes ≡ index (λ m. m == n) (name_numbers known)
  serial_index n = position_is (λ z. z.number == n) nodes ∙ sym (index_map (λ m. m == n) (λ z. z.number) nodes) ∙ ap (index (λ m. m == n)) (sym numbers_are)

  one_named : (t : Table) (n : ℕ) → is_own n ≡ true → option_map ref_of (named p known t n) ≡ option_map (own_ref p) (serial_of n nodes)
  one_named t n own =
      ap (λ b. option_map ref_of (cond b (own_node p known n) (line_node n t.lines))) own
      ∙ named_from p 0 n known ∙ from_zero p (index (λ m. m == n) (name_numbers known)) ∙ ap (option_map (own_ref p)) (sym (serial_index n))

  -- own numbers name what they name at the machine
  all_named : (t : Table) (numbers : List ℕ) → list_all is_own numbers ≡ true → refs (map (named p known t) numbers) ≡ map (option_map (own_ref p)) (map (λ n. serial_of n nodes) numbers)
  all_named t [] own = refl
  all_named t (n ∷ rest) own =
      let k = and_parts (is_own n) (list_all is_own rest) own in
      ap (λ r. r ∷ refs (map (named p known t) rest)) (one_named t n k.0)
      ∙ ap (λ l. option_map (own_ref p) (serial_of n nodes) ∷ l) (all_named t rest k.1)

  those : (serials : List ℕ) → map (option_map (own_ref p)) (map Some serials) ≡ own_refs p serials
  those [] = refl
  those (i ∷ rest) = ap (λ l. Some (own_ref p i) ∷ l) (those rest)

  pub named_refs : (t : Table) (numbers doomed : List ℕ) → list_all is_own numbers ≡ true → map (λ n. serial_of n nodes) numbers ≡ map Some doomed → refs (map (named p known t) numbers) ≡ own_refs p doomed
  named_refs t numbers doomed own same = all_named t numbers own ∙ ap (map (option_map (own_ref p))) same ∙ those doomed

-- ---- the nodes that aren't destroyed

same_ref_test : (x : Node) (y : Option Node) → is_the_node x y ≡ is_ref (ref_of x) y
same_ref_test x None = refl
same_ref_test x (Some y) = ap (λ b. b && (x.serial == y.serial)) (same_eq x.owner y.owner) ∙ ap (λ b. (y.owner == x.owner) && b) (same_eq x.serial y.serial)

any_same : {X : Type 0} (test other : X → Bool) (xs : List X) → ((x : X) → test x ≡ other x) → list_any test xs ≡ list_any other xs
any_same test other [] same = refl
any_same test other (x ∷ xs) same = ap (λ b. b || list_any test xs) (same x) ∙ ap (λ b. other x || b) (any_same test other xs same)

has_is : (x : Node) (nodes : List (Option Node)) → has_node x nodes ≡ is_some (position (is_ref (ref_of x)) nodes)
has_is x nodes = any_same (is_the_node x) (is_ref (ref_of x)) nodes (same_ref_test x) ∙ sym (index_any (is_ref (ref_of x)) nodes) ∙ ap is_some (sym (position_is (is_ref (ref_of x)) nodes))

abbrev place_key : Destruction → Option Key → Option ℕ → Option Key
place_key d later r = elim r [ Some i ↦ Some (record { stamp = d.stamp; origin = d.origin; index = i }) | None ↦ later ]

key_or_later : (d : Destruction) (later : Option Key) (b : Bool) (r : Option ℕ) → b ≡ is_some later → (is_some r || b) ≡ is_some (place_key d later r)
key_or_later d later b (Some i) further = refl
key_or_later d later b None further = further

-- a node is destroyed in some destructions where it has a key in them
pub destroyed_is : (x : Node) (ds : List Destruction) → is_destroyed_in ds x ≡ is_some (doom_from (ref_of x) ds)
destroyed_is x [] = refl
destroyed_is x (d ∷ rest) = ap (λ b. b || is_destroyed_in rest x) (has_is x d.nodes) ∙ key_or_later d (doom_from (ref_of x) rest) (is_destroyed_in rest x) (position (is_ref (ref_of x)) d.nodes) (destroyed_is x rest)

next_is : (i : ℕ) → i + 1 ≡ suc i
next_is i = omega arith

module _ (p : ℕ) (earlier : List Destruction) where
  abbrev is_left : Node → Bool
  is_left x = not (is_destroyed_in earlier x)

  -- the nodes of names that aren't destroyed are those that aren't at the machine
  pub left_refs : (i : ℕ) (known : List Name) (nodes : List NodePart) → length known ≡ length nodes
      → ((j e : ℕ) (n : NodePart) → slice_get nodes j ≡ Some n → is_destroyed_in earlier (record { owner = p; serial = i + j; epoch = e }) ≡ is_destroyed n.state)
      → refs (map Some (filter is_left (nodes_from p i known))) ≡ own_refs p (undestroyed i nodes)
  left_refs i [] [] same gone = refl
  left_refs i [] (n ∷ ns) same gone = absurd (omega (arith, same))
  left_refs i (m ∷ ms) [] same gone = absurd (omega (arith, same))
  left_refs i (m ∷ ms) (n ∷ ns) same gone =
      by (is_destroyed_in earlier (record { owner = p; serial = i; epoch = m.epoch })) (is_destroyed n.state) first
      (left_refs (suc i) ms ns (omega (arith, same)) later)
    where
      first : is_destroyed_in earlier (record { owner = p; serial = i; epoch = m.epoch }) ≡ is_destroyed n.state
      first = let zero_more : i + 0 ≡ i = omega arith in ap (λ k. is_destroyed_in earlier (record { owner = p; serial = k; epoch = m.epoch })) (sym zero_more) ∙ gone 0 m.epoch n refl

      later : (j e : ℕ) (k : NodePart) → slice_get ns j ≡ Some k → is_destroyed_in earlier (record { owner = p; serial = suc i + j; epoch = e }) ≡ is_destroyed k.state
      later j e k is = let one_more : suc i + j ≡ i + suc j = omega arith in ap (λ l. is_destroyed_in earlier (record { owner = p; serial = l; epoch = e })) one_more ∙ gone (suc j) e k is

      by : (b c : Bool) → b ≡ c → refs (map Some (filter is_left (nodes_from p (suc i) ms))) ≡ own_refs p (undestroyed (suc i) ns)
          → refs (map Some (cond (not b) (record { owner = p; serial = i; epoch = m.epoch } ∷ filter is_left (nodes_from p (suc i) ms)) (filter is_left (nodes_from p (suc i) ms))))
          ≡ own_refs p (cond c (undestroyed (i + 1) ns) (i ∷ undestroyed (i + 1) ns))
      by true true both further = further ∙ ap (λ k. own_refs p (undestroyed k ns)) (sym (next_is i))
      by true false both further = absurd (cc both)
      by false true both further = absurd (cc both)
      by false false both further = ap (λ l. Some (own_ref p i) ∷ l) (further ∙ ap (λ k. own_refs p (undestroyed k ns)) (sym (next_is i)))

-- ---- the key of a node in a destruction

-- whether this is the node, by the machine's reference
abbrev is_that : NodeRef → Option NodeRef → Bool
is_that node None = false
is_that node (Some r) = (r.owner == node.owner) && (r.serial == node.serial)

ref_test : (node : NodeRef) (y : Option Node) → is_ref node y ≡ is_that node (option_map ref_of y)
ref_test node None = refl
ref_test node (Some y) = refl

-- the place of an own node is that of its serial
pub ref_index : (p serial : ℕ) (nodes : List (Option Node)) (doomed : List ℕ) → refs nodes ≡ own_refs p doomed → position (is_ref (own_ref p serial)) nodes ≡ index (λ j. j == serial) doomed
ref_index p serial nodes doomed same =
    position_is (is_ref (own_ref p serial)) nodes
    ∙ index_same (is_ref (own_ref p serial)) (λ y. is_that (own_ref p serial) (option_map ref_of y)) nodes (ref_test (own_ref p serial))
    ∙ sym (index_map (is_that (own_ref p serial)) (option_map ref_of) nodes)
    ∙ ap (index (is_that (own_ref p serial))) same
    ∙ index_map (is_that (own_ref p serial)) (λ i. Some (own_ref p i)) doomed
    ∙ index_same (λ j. (p == p) && (j == serial)) (λ j. j == serial) doomed (λ j. ap (λ b. b && (j == serial)) (eq-eqb p p refl))

-- in some destructions and one more behind them: the key that it had, or that of the last
pub doom_end : (node : NodeRef) (ds : List Destruction) (d : Destruction) → doom_from node ds ≡ None → doom_from node (ds ++ d ∷ []) ≡ option_map (λ i. record { stamp = d.stamp; origin = d.origin; index = i }) (position (is_ref node) d.nodes)
doom_end node [] d none = by (position (is_ref node) d.nodes)
  where
    by : (r : Option ℕ) → place_key d None r ≡ option_map (λ i. record { stamp = d.stamp; origin = d.origin; index = i }) r
    by (Some i) = refl
    by None = refl
doom_end node (e ∷ rest) d none = by (position (is_ref node) e.nodes) none (doom_end node rest d)
  where
    by : (r : Option ℕ) → place_key e (doom_from node rest) r ≡ None
        → (doom_from node rest ≡ None → doom_from node (rest ++ d ∷ []) ≡ option_map (λ i. record { stamp = d.stamp; origin = d.origin; index = i }) (position (is_ref node) d.nodes))
        → place_key e (doom_from node (rest ++ d ∷ [])) r ≡ option_map (λ i. record { stamp = d.stamp; origin = d.origin; index = i }) (position (is_ref node) d.nodes)
    by (Some i) none_here further = absurd (cc none_here)
    by None none_here further = further none_here
