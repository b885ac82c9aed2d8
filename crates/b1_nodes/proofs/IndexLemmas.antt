-- What finds a node by its number, where nodes change.
use Rattle.std.proofs.Common.{◌≡◌, ◌≢◌, ◌==◌, ℕ, ◌+◌, ◌<◌, ◌≤◌, false, not, Option, List, [], ◌∷◌, ◌++◌, length, get_or, set, None, Some, replicate, refl, ap, sym, subst, ◌∙◌, arith, inl, inr}
use Rattle.std.specs.Prelude.{AllPairs, cond, nat_eq}
use Rattle.std.specs.List.{position_or_len}
use Rattle.std.proofs.lemmas.List.Sums.{prefix_len-le-length, prefix_len_passes, prefix_len_stops}
use Rattle.std.specs.BTreeMap.{get, is_at}
use Rattle.std.specs.Ordering.{nat_cmp}
use Rattle.std.proofs.lemmas.List.{length-append, length-set}
use Rattle.std.proofs.lemmas.List.Folds.{position_or_len-set, position_or_len_push}
use Rattle.std.proofs.lemmas.Grind.{common_steps}
use Rattle.std.proofs.lemmas.Bool.Decides.{nat_tests}
use Rattle.std.proofs.lemmas.Bool.{cases_eq, cases_lt, lt-ltb, le-ltb, eq-eqb, ne_eqb}
use Rattle.b1_model.specs.declared.parts.NodeState.TheVariants.{Live}
use Rattle.b1_model.specs.MachineParts.{NodePart, no_node}
use Rattle.b1_model.specs.MachineTables.{with_node, serial_of}
use Rattle.b1_nodes.specs.Nodes.{node_in}
use Rattle.b1_nodes.specs.declared.index.Index.{Index}
use Rattle.b1_nodes.specs.Index.{below, IsIndex, AreNamedAlike}
use Rattle.b1_nodes.proofs.NodeLemmas.{distinct_found, with_node_read}

-- a change that keeps a node's number
pub alike-with_node : (nodes : List NodePart) (serial : ℕ) (f : NodePart → NodePart) → ((n : NodePart) → (f n).number ≡ n.number) → AreNamedAlike nodes (with_node serial f nodes)
alike-with_node nodes serial f keeps number =
    let y = f (node_in nodes serial) in
    let first : position_or_len (λ n. n.number == number) (set nodes serial y) ≡ position_or_len (λ n. n.number == number) nodes =
    position_or_len-set (λ n. n.number == number) nodes serial y no_node (ap (λ k. k == number) (keeps (node_in nodes serial))) in
    rw (first, length-set nodes serial y) refl

pub alike-set : (nodes : List NodePart) (serial : ℕ) (x y : NodePart) (f : NodePart → NodePart) → ((n : NodePart) → (f n).number ≡ n.number) → serial < length nodes → x ≡ get_or nodes serial x → y ≡ f x → AreNamedAlike nodes (set nodes serial y)
alike-set nodes serial x y f keeps within read is =
    subst (AreNamedAlike nodes) (sym (with_node_read nodes serial x y f within read is)) (alike-with_node nodes serial f keeps)

-- a new node's number names it, and each other number what it named
pub serial_of-push : (nodes : List NodePart) (y : NodePart) (number : ℕ) → serial_of y.number nodes ≡ None → serial_of number (nodes ++ y ∷ []) ≡ cond (nat_eq y.number number) (Some (length nodes)) (serial_of number nodes)
serial_of-push nodes y number unknown =
    let p = λ (n : NodePart). n.number == number in
    let first = position_or_len_push p nodes y in
    let len = length-append nodes (y ∷ []) in
    let within = prefix_len-le-length (λ n. not (p n)) nodes in
    elim (cases_eq y.number number) [
      | inl same ↦
          let none : serial_of number nodes ≡ None = subst (λ k. serial_of k nodes ≡ None) same unknown in
          grind (arith, common_steps, first, len, within, none)
      | inr other ↦ grind (arith, common_steps, first, len, within)
    ]

-- ---- the first node with a number

module _ (nodes : List NodePart) (number i : ℕ) (within : i < length nodes) (behind : i ≤ position_or_len (λ n. n.number == number) nodes) where
  -- a node with the number, none before it
  pub serial_here : (node_in nodes i).number ≡ number → serial_of number nodes ≡ Some i
  serial_here is =
      let p = λ (n : NodePart). n.number == number in
      let first : position_or_len p nodes ≡ i =
      elim (cases_eq (position_or_len p nodes) i) [
        | inl same ↦ same
        | inr apart ↦
            let passes = prefix_len_passes (λ n. not (p n)) nodes i no_node (omega arith) in
            absurd (grind (arith, common_steps, passes, is))
      ] in
      rw (first, lt-ltb i (length nodes) within) refl

  -- another node, none before it
  pub next_behind : (node_in nodes i).number ≢ number → i + 1 ≤ position_or_len (λ n. n.number == number) nodes
  next_behind other =
      let p = λ (n : NodePart). n.number == number in
      elim (cases_eq (position_or_len p nodes) i) [
        | inl same ↦
            let stops = prefix_len_stops (λ n. not (p n)) nodes no_node (omega arith) in
            absurd (grind (arith, common_steps, stops, same, other))
        | inr apart ↦ omega arith
      ]

-- no node has the number
pub serial_none : (nodes : List NodePart) (number : ℕ) → length nodes ≤ position_or_len (λ n. n.number == number) nodes → serial_of number nodes ≡ None
serial_none nodes number behind = rw (le-ltb (position_or_len (λ n. n.number == number) nodes) (length nodes) behind) refl

-- the node of a serial that was found has the number
number_found : (nodes : List NodePart) (number serial : ℕ) → serial_of number nodes ≡ Some serial → (node_in nodes serial).number ≡ number
number_found nodes number serial found =
    let p = λ (n : NodePart). n.number == number in
    elim (cases_lt (position_or_len p nodes) (length nodes)) [
      | inl within ↦
          let stops = prefix_len_stops (λ n. not (p n)) nodes no_node within in
          let is : position_or_len p nodes ≡ serial = (let e = rw (lt-ltb (position_or_len p nodes) (length nodes) within) at found in cc) in
          grind (arith, common_steps, stops, is)
      | inr over ↦ let e = serial_none nodes number over in cc
    ]

-- ---- serials below a bound

below_is : (bound : ℕ) (o : Option ℕ) (serial : ℕ) → below bound o ≡ Some serial → o ≡ Some serial
below_is bound None serial is = cc
below_is bound (Some k) serial is =
    elim (cases_lt k bound) [
      | inl under ↦ rw (lt-ltb k bound under) at is
      | inr over ↦ let e = rw (le-ltb k bound over) at is in cc
    ]

below_none : (bound serial : ℕ) → below bound (Some serial) ≡ None → bound ≤ serial
below_none bound serial is =
    elim (cases_lt serial bound) [
      | inl under ↦ let e = rw (lt-ltb serial bound under) at is in cc
      | inr over ↦ over
    ]

-- a bound that rises over one serial
below-more : (bound : ℕ) (o : Option ℕ) → o ≢ Some bound → below (bound + 1) o ≡ below bound o
below-more bound None other = refl
below-more bound (Some serial) other =
    elim (cases_lt serial bound) [
      | inl under ↦ rw (lt-ltb serial bound under, lt-ltb serial (bound + 1) (omega arith)) refl
      | inr over ↦
          let above : bound + 1 ≤ serial = elim (cases_eq serial bound) [ inl same ↦ absurd (other (ap (λ (k : ℕ). Some k) same)) | inr apart ↦ omega arith ] in
          rw (le-ltb serial bound over, le-ltb serial (bound + 1) above) refl
    ]

-- a number's key in the map
at_number : (a b : ℕ) → is_at (nat_cmp a) b ≡ (a == b)
at_number a b = grind (arith, common_steps, nat_tests)

-- ---- what an index knows

module _ (index : Index) (nodes : List NodePart) (is : IsIndex index nodes) where
  -- what it finds
  pub found_in : (number serial : ℕ) → get nat_cmp index.serials number ≡ Some serial → serial_of number nodes ≡ Some serial
  found_in number serial found = below_is index.known (serial_of number nodes) serial (sym (is.serials number) ∙ found)

  -- a number that it doesn't find stands behind the nodes that it knows
  pub first_behind : (number : ℕ) → get nat_cmp index.serials number ≡ None → index.known ≤ position_or_len (λ n. n.number == number) nodes
  first_behind number missed =
      let p = λ (n : NodePart). n.number == number in
      elim (cases_lt (position_or_len p nodes) (length nodes)) [
        | inl within ↦
            let at : serial_of number nodes ≡ Some (position_or_len p nodes) = rw (lt-ltb (position_or_len p nodes) (length nodes) within) refl in
            below_none index.known (position_or_len p nodes) (ap (below index.known) (sym at) ∙ sym (is.serials number) ∙ missed)
        | inr over ↦ omega (arith, is.few)
      ]

  -- nodes that are named alike
  pub IsIndex-alike : (new : List NodePart) → AreNamedAlike nodes new → length new ≡ length nodes → IsIndex index new
  IsIndex-alike new alike len = record {
    few = omega (arith, is.few);
    serials = λ number. is.serials number ∙ ap (below index.known) (sym (alike number));
  }

  -- a node that is made stands behind those that are known
  pub IsIndex-made : (peers number : ℕ) → serial_of number nodes ≡ None → IsIndex index (nodes ++ record { number = number; state = Live; counts = replicate peers 0; taken = false } ∷ [])
  IsIndex-made peers number unknown =
      let y : NodePart = record { number = number; state = Live; counts = replicate peers 0; taken = false } in
      record {
        few = omega (arith, is.few, length-append nodes (y ∷ []));
        serials = λ other.
            is.serials other
            ∙ elim (cases_eq number other) [
              | inl same ↦
                  let none : serial_of other nodes ≡ None = subst (λ k. serial_of k nodes ≡ None) same unknown in
                  rw (serial_of-push nodes y other unknown, none, eq-eqb number other same, le-ltb (length nodes) index.known is.few) refl
              | inr apart ↦ rw (serial_of-push nodes y other unknown, ne_eqb number other apart) refl
            ];
      }

  -- one node more is known
  pub IsIndex-learned : (new : Index) → AllPairs (λ m n. m.number ≢ n.number) nodes → index.known < length nodes → new.known ≡ index.known + 1 → ((other : ℕ) → get nat_cmp new.serials other ≡ cond (is_at (nat_cmp (node_in nodes index.known).number) other) (Some index.known) (get nat_cmp index.serials other)) → IsIndex new nodes
  IsIndex-learned new distinct next known added =
      let number = (node_in nodes index.known).number in
      let here : serial_of number nodes ≡ Some index.known = distinct_found nodes index.known number distinct next refl in
      record {
        few = omega arith;
        serials = λ other.
            elim (cases_eq number other) [
              | inl same ↦
                  added other
                  ∙ rw (at_number number other, eq-eqb number other same, known, subst (λ k. serial_of k nodes ≡ Some index.known) same here, lt-ltb index.known (index.known + 1) (omega arith)) refl
              | inr apart ↦
                  let elsewhere : serial_of other nodes ≢ Some index.known = (λ found. apart (number_found nodes other index.known found)) in
                  added other
                  ∙ rw (at_number number other, ne_eqb number other apart) (is.serials other)
                  ∙ sym (below-more index.known (serial_of other nodes) elsewhere)
                  ∙ ap (λ (k : ℕ). below k (serial_of other nodes)) (sym known)
            ];
      }
