-- The serials of doomed nodes: each is of a live node, none stands twice, and there are no more of them than nodes.
use Rattle.std.proofs.Common.{◌≡◌, ◌≢◌, ◌==◌, ℕ, suc, ◌+◌, ◌-◌, take, drop, ◌<◌, ◌≤◌, Bool, true, false, ◌||◌, List, [], ◌∷◌, ◌++◌, length, get_or, refl, ap, sym, subst, ◌∙◌, arith, inl, inr, Option, Some, None}
use Rattle.std.specs.Prelude.{All, AllPairs}
use Rattle.std.specs.List.{list_any}
use Rattle.std.specs.Bool.{then_some}
use Rattle.std.proofs.lemmas.Bool.{cases_Bool, eqb-true, eq-eqb}
use Rattle.std.proofs.lemmas.Bool.Decides.{Decides-eqb}
use Rattle.std.proofs.lemmas.List.Elements.{All-head, All-tail, All-cons, All-nil, All-weaker}
use Rattle.std.proofs.lemmas.List.{append-nil, drop_all, take_rest}
use Rattle.std.proofs.lemmas.List.Kept.{AllPairs-cons}
use Rattle.std.proofs.lemmas.List.Quantifiers.{position-Some}
use Rattle.std.proofs.lemmas.Map.Made.{IsDistinct-from_AllPairs}
use Rattle.std.proofs.lemmas.Map.Steps.{length-le_from_distinct_below}
use Rattle.b1_model.specs.MachineParts.{NodePart, is_live, no_node}
use Rattle.b1_model.specs.MachineTables.{serial_of}
use Rattle.b1_model.specs.MachineDestroy.{has_repeat, live_serials}
use Rattle.b1_nodes.specs.Nodes.{node_in, AllMade}
use Rattle.b1_nodes.specs.Doom.{live_in, serials_in}

-- ---- no more different numbers than there are below a bound
below_any : (n q : ℕ) (xs : List ℕ) → All (λ x. x < n) xs → list_any (λ x. q == x) xs ≡ true → q < n
below_any n q [] low is = absurd (cc is)
below_any n q (x ∷ xs) low is =
    elim (cases_Bool (q == x)) [
      | inl same ↦ let e = eqb-true q x same in omega (arith, e, All-head (λ y. y < n) x xs low)
      | inr other ↦ below_any n q xs (All-tail (λ y. y < n) x xs low) (rw other at is)
    ]

pub no_more : (n : ℕ) (xs : List ℕ) → AllPairs (λ a b. a ≢ b) xs → All (λ x. x < n) xs → length xs ≤ n
no_more n xs apart low = length-le_from_distinct_below xs n (IsDistinct-from_AllPairs Decides-eqb xs apart) (λ q. below_any n q xs low)

pairs_nil : {X : Type 0} (R : X → X → Type 0) → AllPairs R []
pairs_nil R i j d lt within = absurd (omega arith)

-- ---- all live nodes
live_all : (P : ℕ → Type 0) (s : ℕ) (nodes : List NodePart) → ((k : ℕ) → k < length nodes → is_live (get_or nodes k no_node).state ≡ true → P (s + k)) → All P (live_serials s nodes)
live_all P s [] gives = All-nil P
live_all P s (n ∷ rest) gives =
    let behind : All P (live_serials (s + 1) rest) = live_all P (s + 1) rest (λ k lt live. let e : s + suc k ≡ s + 1 + k = omega arith in subst P e (gives (suc k) (omega arith) live)) in
    elim (cases_Bool (is_live n.state)) [
      | inl live ↦ let e : s + 0 ≡ s = omega arith in rw live (All-cons P s (live_serials (s + 1) rest) (subst P e (gives 0 (omega arith) live)) behind)
      | inr gone ↦ rw gone behind
    ]

pub live_made : (nodes : List NodePart) → AllMade (λ n. is_live n.state) nodes (live_serials 0 nodes)
live_made nodes =
    live_all (λ serial. (serial < length nodes) × (is_live (node_in nodes serial).state ≡ true)) 0 nodes
    (λ k lt live. let e : k ≡ 0 + k = omega arith in subst (λ serial. (serial < length nodes) × (is_live (node_in nodes serial).state ≡ true)) e (lt, live))

live_apart : (s : ℕ) (nodes : List NodePart) → AllPairs (λ a b. a ≢ b) (live_serials s nodes)
live_apart s [] = pairs_nil (λ a b. a ≢ b)
live_apart s (n ∷ rest) =
    let behind : AllPairs (λ a b. a ≢ b) (live_serials (s + 1) rest) = live_apart (s + 1) rest in
    let above : All (λ b. s ≢ b) (live_serials (s + 1) rest) = live_all (λ b. s ≢ b) (s + 1) rest (λ k lt live e. absurd (omega (arith, e))) in
    elim (cases_Bool (is_live n.state)) [
      | inl live ↦ rw live (AllPairs-cons (λ a b. a ≢ b) s (live_serials (s + 1) rest) above behind)
      | inr gone ↦ rw gone behind
    ]

pub live_distinct : (nodes : List NodePart) → AllPairs ◌≢◌ (live_serials 0 nodes)
live_distinct nodes = live_apart 0 nodes

-- ---- the live nodes that numbers name
found_by : (nodes : List NodePart) (number serial : ℕ) (found : Option ℕ) → serial_of number nodes ≡ found → elim found [ None ↦ None | Some t ↦ then_some (is_live (get_or nodes t no_node).state) t ] ≡ Some serial → (serial < length nodes) × (is_live (node_in nodes serial).state ≡ true) × ((node_in nodes serial).number ≡ number)
found_by nodes number serial None is live = absurd (cc live)
found_by nodes number serial (Some t) is live =
    let at = position-Some (λ n. n.number == number) nodes t no_node is in
    elim (cases_Bool (is_live (get_or nodes t no_node).state)) [
      | inl yes_live ↦
          let e : ◌≡◌ {A = Option ℕ} (Some t) (Some serial) = rw yes_live at live in
          let same : t ≡ serial = cc in
          subst (λ s. (s < length nodes) × (is_live (node_in nodes s).state ≡ true) × ((node_in nodes s).number ≡ number)) same (at.0, yes_live, eqb-true (get_or nodes t no_node).number number at.1)
      | inr not_live ↦ let e : ◌≡◌ {A = Option ℕ} None (Some serial) = rw not_live at live in absurd (cc e)
    ]

pub live_found : (nodes : List NodePart) (number serial : ℕ) → live_in nodes number ≡ Some serial → (serial < length nodes) × (is_live (node_in nodes serial).state ≡ true) × ((node_in nodes serial).number ≡ number)
live_found nodes number serial live = found_by nodes number serial (serial_of number nodes) refl live

pub serials_live : (nodes : List NodePart) (numbers : List ℕ) → AllMade (λ n. is_live n.state) nodes (serials_in nodes numbers)
serials_live nodes [] = All-nil (λ serial. (serial < length nodes) × (is_live (node_in nodes serial).state ≡ true))
serials_live nodes (n ∷ rest) = by_first (serials_live nodes rest) (live_in nodes n) refl
  where
    by_first : AllMade (λ m. is_live m.state) nodes (serials_in nodes rest) → (found : Option ℕ) → live_in nodes n ≡ found → AllMade (λ m. is_live m.state) nodes (serials_in nodes (n ∷ rest))
    by_first behind None is = rw is behind
    by_first behind (Some s) is =
        rw is
        (All-cons (λ serial. (serial < length nodes) × (is_live (node_in nodes serial).state ≡ true)) s (serials_in nodes rest)
        ((live_found nodes n s is).0, (live_found nodes n s is).1) behind)

-- numbers other than a node's own don't name it
serials_other : (nodes : List NodePart) (n s : ℕ) → (node_in nodes s).number ≡ n → (numbers : List ℕ) → list_any (λ m. m == n) numbers ≡ false → All (λ t. s ≢ t) (serials_in nodes numbers)
serials_other nodes n s own [] none = All-nil (λ t. s ≢ t)
serials_other nodes n s own (m ∷ rest) none = by_first (serials_other nodes n s own rest) (m == n) refl (live_in nodes m) refl
  where
    by_first : (list_any (λ k. k == n) rest ≡ false → All (λ t. s ≢ t) (serials_in nodes rest)) → (b : Bool) → (m == n) ≡ b → (found : Option ℕ) → live_in nodes m ≡ found → All (λ t. s ≢ t) (serials_in nodes (m ∷ rest))
    by_first behind true same found is = let e : true ≡ false = rw same at none in absurd (cc e)
    by_first behind false other None is = rw is (behind (rw other at none))
    by_first behind false other (Some t) is =
        rw is
        (All-cons (λ u. s ≢ u) t (serials_in nodes rest)
        (λ same. let number : m ≡ n = sym (live_found nodes m t is).2 ∙ ap (λ u. (node_in nodes u).number) (sym same) ∙ own in let e : true ≡ false = sym (eq-eqb m n number) ∙ other in absurd (cc e))
        (behind (rw other at none)))

both_false : (a b : Bool) → (a || b) ≡ false → (a ≡ false) × (b ≡ false)
both_false false false is = (refl, refl)
both_false false true is = absurd (cc is)
both_false true b is = absurd (cc is)

pub serials_distinct : (nodes : List NodePart) (numbers : List ℕ) → has_repeat numbers ≡ false → AllPairs ◌≢◌ (serials_in nodes numbers)
serials_distinct nodes [] once = pairs_nil ◌≢◌
serials_distinct nodes (n ∷ rest) once = by_first (serials_distinct nodes rest) (live_in nodes n) refl
  where
    by_first : (has_repeat rest ≡ false → AllPairs ◌≢◌ (serials_in nodes rest)) → (found : Option ℕ) → live_in nodes n ≡ found → AllPairs ◌≢◌ (serials_in nodes (n ∷ rest))
    by_first behind None is = rw is (behind (both_false (list_any (λ m. m == n) rest) (has_repeat rest) once).1)
    by_first behind (Some s) is =
        let apart = both_false (list_any (λ m. m == n) rest) (has_repeat rest) once in
        rw is
        (AllPairs-cons ◌≢◌ s (serials_in nodes rest)
        (serials_other nodes n s (live_found nodes n s is).2 rest apart.0)
        (behind apart.1))

pub serials_few : (nodes : List NodePart) (numbers : List ℕ) → has_repeat numbers ≡ false → length (serials_in nodes numbers) ≤ length nodes
serials_few nodes numbers once =
    no_more (length nodes) (serials_in nodes numbers) (serials_distinct nodes numbers once)
    (All-weaker (λ s. (s < length nodes) × (is_live (node_in nodes s).state ≡ true)) (λ s. s < length nodes) (λ s made. made.0) (serials_in nodes numbers) (serials_live nodes numbers))

pub serials_first : (nodes : List NodePart) (number serial : ℕ) (rest : List ℕ) → live_in nodes number ≡ Some serial → serials_in nodes (number ∷ rest) ≡ serial ∷ serials_in nodes rest
serials_first nodes number serial rest is = rw is refl

-- a list is its first element and the others
pub peeled : {X : Type 0} → (xs : List X) (d : X) → 1 ≤ length xs → xs ≡ get_or xs 0 d ∷ take (length xs - 1) (drop 1 xs)
peeled [] d some = absurd (omega arith)
peeled (x ∷ xs) d some = ap (λ ys. x ∷ ys) (sym (take_rest (x ∷ xs) 1))

-- nothing more comes from a list at its end
pub none_left : (nodes : List NodePart) (left made all : List ℕ) → length left < 1 → made ++ serials_in nodes left ≡ all → made ≡ all
none_left nodes [] made all short is = sym (append-nil made) ∙ is
none_left nodes (n ∷ rest) made all short is = absurd (omega arith)

pub no_live_left : (s : ℕ) (nodes : List NodePart) (made all : List ℕ) → length nodes ≤ s → made ++ live_serials s (drop s nodes) ≡ all → made ≡ all
no_live_left s nodes made all done is = sym (append-nil made) ∙ ap (λ (ns : List NodePart). made ++ live_serials s ns) (sym (drop_all s nodes done)) ∙ is
