-- Counts with zeros behind them.
use Rattle.std.proofs.Common.{◌≡◌, ◌==◌, ℕ, suc, zero, ◌-◌, ◌<◌, ◌≤◌, Bool, true, false, ◌&&◌, List, [], ◌∷◌, ◌++◌, length, get_or, set, replicate, refl, ap, sym, subst, ◌∙◌, arith, inl, inr}
use Rattle.std.specs.List.{list_all}
use Rattle.std.proofs.lemmas.List.{set-append_left, length-append, length-replicate, length-set}
use Rattle.std.proofs.lemmas.Bool.{cases_Bool, eqb-true}
use Rattle.b1_model.specs.declared.parts.NodeState.{NodeState}
use Rattle.b1_model.specs.MachineParts.{NodePart, is_destroyed}
use Rattle.b1_model.specs.MachineTables.{count_of, is_unheld}
use Rattle.b1_nodes.specs.Counts.{padded}

get_or-zeros : (k i : ℕ) → ◌≡◌ {A = ℕ} (get_or (replicate k 0) i 0) 0
get_or-zeros zero i = refl
get_or-zeros (suc k) zero = refl
get_or-zeros (suc k) (suc i) = get_or-zeros k i

pub get_or-padded : (cs : List ℕ) (k i : ℕ) → get_or (cs ++ replicate k 0) i 0 ≡ get_or cs i 0
get_or-padded [] k i = get_or-zeros k i
get_or-padded (x ∷ cs) k zero = refl
get_or-padded (x ∷ cs) k (suc i) = get_or-padded cs k i

zeros_are : (k : ℕ) → list_all (λ n. n == 0) (replicate k 0) ≡ true
zeros_are zero = refl
zeros_are (suc k) = zeros_are k

pub list_all-padded : (cs : List ℕ) (k : ℕ) → list_all (λ n. n == 0) (cs ++ replicate k 0) ≡ list_all (λ n. n == 0) cs
list_all-padded [] k = zeros_are k
list_all-padded (x ∷ cs) k = ap (λ b. (x == 0) && b) (list_all-padded cs k)

-- a count that isn't 0 takes room
pub count_within : (cs : List ℕ) (i : ℕ) → 0 < get_or cs i 0 → i < length cs
count_within [] i above = absurd (omega arith)
count_within (x ∷ cs) zero above = omega arith
count_within (x ∷ cs) (suc i) above = let ih = count_within cs i above in omega arith

zero_head : (x : ℕ) (cs : List ℕ) → list_all (λ n. n == 0) (x ∷ cs) ≡ true → (x ≡ 0) × (list_all (λ n. n == 0) cs ≡ true)
zero_head x cs all =
    elim (cases_Bool (x == 0)) [
      | inl is ↦ (eqb-true _ _ is, rw is at all)
      | inr other ↦ let e = rw other at all in cc
    ]

-- zeros alone
pub zeros_from : (cs : List ℕ) (n : ℕ) → length cs ≤ n → list_all (λ k. k == 0) cs ≡ true → cs ++ replicate (n - length cs) 0 ≡ replicate n 0
zeros_from [] n within all = let whole : n - 0 ≡ n = omega arith in ap (λ (k : ℕ). replicate {A = ℕ} k 0) whole
zeros_from (x ∷ cs) zero within all = absurd (omega arith)
zeros_from (x ∷ cs) (suc n) within all =
    let head = zero_head x cs all in
    let less : suc n - suc (length cs) ≡ n - length cs = omega arith in
    rw (head.0, less) (ap (λ (ks : List ℕ). 0 ∷ ks) (zeros_from cs n (omega arith) head.1))

pub length-padded : (n : ℕ) (cs : List ℕ) → length cs ≤ n → length (padded n cs) ≡ n
length-padded n cs within = omega (arith, length-append cs (replicate (n - length cs) 0), length-replicate {A = ℕ} (n - length cs) 0)

pub padded-zeros : (n : ℕ) (cs : List ℕ) → length cs ≤ n → list_all (λ k. k == 0) cs ≡ true → padded n [] ≡ padded n cs
padded-zeros n cs within all = zeros_from [] n (omega arith) refl ∙ sym (zeros_from cs n within all)

-- a count that changes
pub padded-set : (n : ℕ) (cs : List ℕ) (i x y : ℕ) → i < length cs → x ≡ get_or cs i 0 → (f : ℕ → ℕ) → y ≡ f x → padded n (set cs i y) ≡ set (padded n cs) i (f (get_or (padded n cs) i 0))
padded-set n cs i x y within read f is =
    rw (length-set cs i y, get_or-padded cs (n - length cs) i, set-append_left cs (replicate (n - length cs) 0) i (f (get_or cs i 0)) within, is, read) refl

-- a node by its fields: its view is what contracts see of it
module _ (number peers : ℕ) (state : NodeState) (counts : List ℕ) (taken : Bool) (n : NodePart) (same : record { number = number; state = state; counts = padded peers counts; taken = taken } ≡ n) where
  pub seen-kept : is_destroyed n.state ≡ false → is_destroyed state ≡ false
  seen-kept kept = subst (λ (m : NodePart). is_destroyed m.state ≡ false) (sym same) kept

  pub seen-count : (peer : ℕ) → get_or counts peer 0 ≡ count_of n peer
  seen-count peer = sym (get_or-padded counts (peers - length counts) peer) ∙ ap (λ (m : NodePart). count_of m peer) same

  pub seen-peer : (peer : ℕ) → length counts ≤ peers → peer < length n.counts → peer < peers
  seen-peer peer few within =
      let short : peer < length (padded peers counts) = subst (λ (m : NodePart). peer < length m.counts) (sym same) within in
      omega (arith, length-padded peers counts few)

  pub seen-unheld : list_all (λ k. k == 0) counts ≡ is_unheld n
  seen-unheld = sym (list_all-padded counts (peers - length counts)) ∙ ap is_unheld same

  pub seen-set : (peer : ℕ) (f : ℕ → ℕ) → peer < length counts → ◌≡◌ {A = NodePart} (record { number = number; state = state; counts = padded peers (set counts peer (f (get_or counts peer 0))); taken = taken }) (record n { counts = set n.counts peer (f (count_of n peer)) })
  seen-set peer f within =
      ap (λ (cs : List ℕ). let m : NodePart = record { number = number; state = state; counts = cs; taken = taken } in m) (padded-set peers counts peer (get_or counts peer 0) (f (get_or counts peer 0)) within refl f refl)
      ∙ ap (λ (m : NodePart). let k : NodePart = record m { counts = set m.counts peer (f (count_of m peer)) } in k) same

  pub seen-forgotten : (gone : List ℕ) → gone ≡ [] → length counts ≤ peers → is_unheld n ≡ true → ◌≡◌ {A = NodePart} (record { number = number; state = state; counts = padded peers gone; taken = taken }) n
  seen-forgotten gone empty few unheld =
      ap (λ (cs : List ℕ). let m : NodePart = record { number = number; state = state; counts = padded peers cs; taken = taken } in m) empty
      ∙ ap (λ (cs : List ℕ). let m : NodePart = record { number = number; state = state; counts = cs; taken = taken } in m) (padded-zeros peers counts few (seen-unheld ∙ unheld))
      ∙ same
