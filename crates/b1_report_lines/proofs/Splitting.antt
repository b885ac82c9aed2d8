-- Bytes cut at a mark.
use Rattle.std.proofs.Common.{◌≡◌, ℕ, Bool, true, false, cond, eqb, List, [], ◌∷◌, ◌++◌, Option, Some, None, refl, ap, ◌∙◌, eq-eqb}
use Rattle.std.proofs.lemmas.Bool.{eqb-true}
use Rattle.b1_report_lines.specs.Reading.{onto_front, split_once}

abbrev pub Parts : Type 0
Parts = List ℕ × List ℕ

-- no such byte stands in the bytes
abbrev pub IsFree : ℕ → List ℕ → Type 0
IsFree mark bytes = split_once mark bytes ≡ None

onto_some : (b : ℕ) (r : Option Parts) (parts : Parts) → onto_front b r ≡ Some parts → (inner : Parts) × (r ≡ Some inner) × ((b ∷ inner.0, inner.1) ≡ parts)
onto_some b None parts e = absurd cc
onto_some b (Some inner) parts e = (inner, refl, cc)

onto_none : (b : ℕ) (r : Option Parts) → onto_front b r ≡ None → r ≡ None
onto_none b None e = refl
onto_none b (Some inner) e = absurd cc

-- what is free is free in its tail, and its head is no mark
pub free_tail : (mark b : ℕ) (bs : List ℕ) → IsFree mark (b ∷ bs) → (eqb b mark ≡ false) × IsFree mark bs
free_tail mark b bs h = at (eqb b mark) refl h where
  at : (v : Bool) → eqb b mark ≡ v → cond v (Some ([], bs)) (onto_front b (split_once mark bs)) ≡ None → (eqb b mark ≡ false) × IsFree mark bs
  at true e k = absurd cc
  at false e k = (e, onto_none b (split_once mark bs) k)

pub free_cons : (mark b : ℕ) (bs : List ℕ) → eqb b mark ≡ false → IsFree mark bs → IsFree mark (b ∷ bs)
free_cons mark b bs e h = rw (e, h) refl

-- the first mark is found behind what is free
pub split_found : (mark : ℕ) (w rest : List ℕ) → IsFree mark w → split_once mark (w ++ mark ∷ rest) ≡ Some (w, rest)
split_found mark [] rest h = rw (eq-eqb mark mark refl) refl
split_found mark (b ∷ bs) rest h =
    let t = free_tail mark b bs h in
    rw (t.0, split_found mark bs rest t.1) refl

pub split_is : (mark : ℕ) (bytes : List ℕ) (parts : Parts) → split_once mark bytes ≡ Some parts → (bytes ≡ parts.0 ++ mark ∷ parts.1) × IsFree mark parts.0
split_is mark [] parts h = absurd cc
split_is mark (b ∷ bs) parts h = at (λ inner e. split_is mark bs inner e) (eqb b mark) refl h where
  at : ((inner : Parts) → split_once mark bs ≡ Some inner → (bs ≡ inner.0 ++ mark ∷ inner.1) × IsFree mark inner.0) → (v : Bool) → eqb b mark ≡ v → cond v (Some ([], bs)) (onto_front b (split_once mark bs)) ≡ Some parts → (b ∷ bs ≡ parts.0 ++ mark ∷ parts.1) × IsFree mark parts.0
  at more true e k =
      let is : ([], bs) ≡ parts = cc in
      rw (← is, eqb-true b mark e) (refl, refl)
  at more false e k =
      let inner = onto_some b (split_once mark bs) parts k in
      let ih = more inner.0 inner.1 in
      rw (← inner.2) (ap (λ (x : List ℕ). b ∷ x) ih.0, free_cons mark b inner.0.0 e ih.1)

pub free_append : (mark : ℕ) (x y : List ℕ) → IsFree mark x → IsFree mark y → IsFree mark (x ++ y)
free_append mark [] y h k = k
free_append mark (b ∷ bs) y h k =
    let t = free_tail mark b bs h in
    free_cons mark b (bs ++ y) t.0 (free_append mark bs y t.1 k)

-- with more behind: the first mark stays, and where none was the first is that of the more
pub split_more : (mark : ℕ) (bytes t : List ℕ) (parts : Parts) → split_once mark bytes ≡ Some parts → split_once mark (bytes ++ t) ≡ Some (parts.0, parts.1 ++ t)
split_more mark bytes t parts h =
    let s = split_is mark bytes parts h in
    rw (s.0) (ap (split_once mark) (assoc parts.0 (mark ∷ parts.1) t) ∙ split_found mark parts.0 (parts.1 ++ t) s.1) where
      assoc : (x y z : List ℕ) → (x ++ y) ++ z ≡ x ++ (y ++ z)
      assoc [] y z = refl
      assoc (b ∷ bs) y z = ap (λ (r : List ℕ). b ∷ r) (assoc bs y z)

pub split_first : (mark : ℕ) (bytes t : List ℕ) (parts : Parts) → IsFree mark bytes → split_once mark t ≡ Some parts → split_once mark (bytes ++ t) ≡ Some (bytes ++ parts.0, parts.1)
split_first mark [] t parts h k = k
split_first mark (b ∷ bs) t parts h k =
    let u = free_tail mark b bs h in
    rw (u.0, split_first mark bs t parts u.1 k) refl
