-- The places of a peer's own numbers.
use Rattle.std.specs.Prelude.{◌≡◌, refl, ℕ, zero, suc, ◌+◌, ◌<◌, ◌≤◌, Bool, true, false, not, ◌==◌, if◌then◌else◌, List, [], ◌∷◌, ◌++◌, length, drop, filter, slice_get, Some, None, is_some}
use Rattle.std.specs.Ordering.{nat_cmp}
use Rattle.std.specs.BTreeMap.{BTreeMap, get, is_at}
use Rattle.std.proofs.lemmas.Option.{same_Some}
use Rattle.std.proofs.Common.{arith, sym, ap, subst, ◌∙◌}
use Rattle.b1_model.specs.Names.{Node, Name, is_known, own_node, node_from, nodes_from}
use Rattle.std.specs.BTreeSet.{BTreeSet}
use Rattle.b1_judge_facts.specs.Kept.{is_gone, is_gone_at}
use Rattle.b1_judge_facts.specs.Steps.{live}
use Rattle.b1_judge_facts.specs.Indexes.{place_from, HasPlaces, node_by, named_at}
use Rattle.b1_judge_facts.proofs.Indexing.{number_put}

pub known_by : (i n : ℕ) (names : List Name) → is_known n names ≡ is_some (place_from i n names)
known_by i n [] = refl
known_by i n (m ∷ names) = go (n == m.number) (known_by (suc i) n names)
  where
    go : (b : Bool) → is_known n names ≡ is_some (place_from (suc i) n names) → (if b then true else is_known n names) ≡ is_some (if b then Some i else place_from (suc i) n names)
    go true ih = refl
    go false ih = ih

place_past : (i n : ℕ) (names : List Name) (j : ℕ) → place_from i n names ≡ Some j → i ≤ j
place_past i n [] j e = cc
place_past i n (m ∷ names) j e = go (n == m.number) e (λ f. place_past (suc i) n names j f)
  where
    go : (b : Bool) → (if b then Some i else place_from (suc i) n names) ≡ Some j → (place_from (suc i) n names ≡ Some j → suc i ≤ j) → i ≤ j
    go true f ih = let s : i ≡ j = same_Some i j f in omega (arith, s)
    go false f ih = let s : suc i ≤ j = ih f in omega (arith, s)

node_place : (p i n : ℕ) (names : List Name) (k : ℕ) → place_from i n names ≡ Some (i + k) → node_by p (i + k) (slice_get names k) ≡ node_from p i n names
node_place p i n [] k e = cc
node_place p i n (m ∷ names) zero e = go (n == m.number) e
  where
    same : i + 0 ≡ i
    same = omega arith

    go : (b : Bool) → (if b then Some i else place_from (suc i) n names) ≡ Some (i + 0) → Some (record { owner = p; serial = i + 0; epoch = m.epoch }) ≡ (if b then Some (record { owner = p; serial = i; epoch = m.epoch }) else node_from p (suc i) n names)
    go true f = ap (λ s. Some (record { owner = p; serial = s; epoch = m.epoch })) same
    go false f = let s : suc i ≤ i + 0 = place_past (suc i) n names (i + 0) f in absurd (omega (arith, s))
node_place p i n (m ∷ names) (suc k) e = go (n == m.number) e (λ f. node_place p (suc i) n names k f)
  where
    next : i + suc k ≡ suc i + k
    next = omega arith

    go : (b : Bool) → (if b then Some i else place_from (suc i) n names) ≡ Some (i + suc k) → (place_from (suc i) n names ≡ Some (suc i + k) → node_by p (suc i + k) (slice_get names k) ≡ node_from p (suc i) n names) → node_by p (i + suc k) (slice_get names k) ≡ (if b then Some (record { owner = p; serial = i; epoch = m.epoch }) else node_from p (suc i) n names)
    go true f ih = let s : i ≡ i + suc k = same_Some i (i + suc k) f in absurd (omega (arith, s))
    go false f ih = ap (λ s. node_by p s (slice_get names k)) next ∙ ih (f ∙ ap Some next)

pub node_found : (p n : ℕ) (names : List Name) (k : ℕ) → place_from 0 n names ≡ Some k → named_at p k names ≡ own_node p names n
node_found p n names k e =
    let z : k ≡ 0 + k = omega arith in
    ap (λ s. node_by p s (slice_get names k)) z ∙ node_place p 0 n names k (e ∙ ap Some z)

pub node_missed : (p i n : ℕ) (names : List Name) → place_from i n names ≡ None → None ≡ node_from p i n names
node_missed p i n [] e = refl
node_missed p i n (m ∷ names) e = go (n == m.number) e (λ f. node_missed p (suc i) n names f)
  where
    go : (b : Bool) → (if b then Some i else place_from (suc i) n names) ≡ None → (place_from (suc i) n names ≡ None → None ≡ node_from p (suc i) n names) → None ≡ (if b then Some (record { owner = p; serial = i; epoch = m.epoch }) else node_from p (suc i) n names)
    go true f ih = cc f
    go false f ih = ih f

-- ---- one name more

place_more : (i n : ℕ) (names : List Name) (m : Name) → is_known m.number names ≡ false → place_from i n (names ++ m ∷ []) ≡ (if m.number == n then Some (i + length names) else place_from i n names)
place_more i n [] m new =
    let z : i + 0 ≡ i = omega arith in
    let s : (n == m.number) ≡ (m.number == n) = grind arith in
    rw (s, z) refl
place_more i n (x ∷ names) m new = go (m.number == x.number) refl new (λ f. place_more (suc i) n names m f)
  where
    next : suc i + length names ≡ i + suc (length names)
    next = omega arith

    there : (b c : Bool) → (m.number == x.number) ≡ false → (n == x.number) ≡ b → (m.number == n) ≡ c → (if b then Some i else (if c then Some (suc i + length names) else place_from (suc i) n names)) ≡ (if c then Some (i + suc (length names)) else (if b then Some i else place_from (suc i) n names))
    there true true h f g = let e : (m.number == x.number) ≡ true = grind (arith, f, g) in cc (e, h)
    there true false h f g = refl
    there false true h f g = ap Some next
    there false false h f g = refl

    go : (b : Bool) → (m.number == x.number) ≡ b → (if b then true else is_known m.number names) ≡ false → (is_known m.number names ≡ false → place_from (suc i) n (names ++ m ∷ []) ≡ (if m.number == n then Some (suc i + length names) else place_from (suc i) n names)) → (if n == x.number then Some i else place_from (suc i) n (names ++ m ∷ [])) ≡ (if m.number == n then Some (i + suc (length names)) else (if n == x.number then Some i else place_from (suc i) n names))
    go true h f ih = cc f
    go false h f ih =
        ap (λ o. if n == x.number then Some i else o) (ih f)
        ∙ there (n == x.number) (m.number == n) h refl refl

pub placed_more : (names : List Name) (m : Name) (old new : BTreeMap ℕ ℕ) → HasPlaces names old → is_known m.number names ≡ false → ((k : ℕ) → get nat_cmp new k ≡ (if is_at (nat_cmp m.number) k then Some (length names) else get nat_cmp old k)) → HasPlaces (names ++ m ∷ []) new
placed_more names m old new h fresh puts n =
    let z : length names ≡ 0 + length names = omega arith in
    number_put m.number (length names) old new puts n
    ∙ ap (λ o. if m.number == n then Some (length names) else o) (h n)
    ∙ ap (λ k. if m.number == n then Some k else place_from 0 n names) z
    ∙ sym (place_more 0 n names m fresh)

-- ---- the nodes that aren't gone

-- where the first ones are gone, those behind them are left
pub live_from : (gone : Node → Bool) (p : ℕ) (names : List Name) (i k : ℕ) → ((s : ℕ) (x : Node) → i ≤ s → s < i + k → x.owner ≡ p → x.serial ≡ s → gone x ≡ true) → filter (λ x. not (gone x)) (nodes_from p (i + k) (drop k names)) ≡ filter (λ x. not (gone x)) (nodes_from p i names)
live_from gone p names i zero h = let z : i + 0 ≡ i = omega arith in ap (λ s. filter (λ x. not (gone x)) (nodes_from p s names)) z
live_from gone p [] i (suc k) h = refl
live_from gone p (m ∷ names) i (suc k) h =
    let next : i + suc k ≡ suc i + k = omega arith in
    let here : gone (record { owner = p; serial = i; epoch = m.epoch }) ≡ true = h i (record { owner = p; serial = i; epoch = m.epoch }) (omega arith) (omega arith) refl refl in
    ap (λ s. filter (λ x. not (gone x)) (nodes_from p s (drop k names))) next
    ∙ live_from gone p names (suc i) k (λ s x low high. h s x (omega (arith, low)) (omega (arith, high)))
    ∙ rw here refl

pub placed_put : (names more : List Name) (m : Name) (old new : BTreeMap ℕ ℕ) (number place : ℕ) → more ≡ names ++ m ∷ [] → number ≡ m.number → place ≡ length names → HasPlaces names old → is_known m.number names ≡ false → ((k : ℕ) → get nat_cmp new k ≡ (if is_at (nat_cmp number) k then Some place else get nat_cmp old k)) → HasPlaces more new
placed_put names more m old new number place e f g h fresh puts =
    subst (λ l. HasPlaces l new) (sym e)
    (placed_more names m old new h fresh (subst (λ a. (k : ℕ) → get nat_cmp new k ≡ (if is_at (nat_cmp a) k then Some (length names) else get nat_cmp old k)) f (subst (λ i. (k : ℕ) → get nat_cmp new k ≡ (if is_at (nat_cmp number) k then Some i else get nat_cmp old k)) g puts)))

pub live_skip : (gone : BTreeSet (ℕ × ℕ)) (p : ℕ) (names : List Name) (first : ℕ) → ((s : ℕ) → s < first → is_gone_at gone p s ≡ true) → filter (λ x. not (is_gone gone x)) (nodes_from p first (drop first names)) ≡ live (is_gone gone) p names
live_skip gone p names first h =
    let z : first ≡ 0 + first = omega arith in
    ap (λ s. filter (λ x. not (is_gone gone x)) (nodes_from p s (drop first names))) z
    ∙ live_from (is_gone gone) p names 0 first (λ s x low high owner serial. (let l : s < first = omega (arith, high) in rw (owner, serial) (h s l)))
