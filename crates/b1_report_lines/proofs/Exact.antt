-- Readers that read exactly the texts of some values, and tell whether other bytes begin such a text.
use Rattle.std.proofs.Common.{◌≡◌, ℕ, Bool, true, false, cond, eqb, List, [], ◌∷◌, ◌++◌, Option, Some, None, Ok, Err, refl, sym, ap, subst, ◌∙◌, inl, inr, ◌⊎◌, eq-eqb}
use Rattle.std.proofs.lemmas.Bool.{eqb-true}
use Rattle.std.proofs.lemmas.List.{append_assoc, append-nil}
use Rattle.b1_report_lines.specs.declared.unread.Stop.{Stop}
use Rattle.b1_report_lines.specs.declared.unread.Stop.TheVariants.{Cut, Broken}
use Rattle.b1_report_lines.specs.Reading.{◌>>=◌, Read, mapped, split_once, within, ended, joined, strip, behind, only}
use Rattle.b1_report_lines.proofs.Splitting.{Parts, IsFree, split_found, split_is, split_more, split_first, free_append}

pub record IsExact {A : Type 0} (read : List ℕ → Read A) (text : A → List ℕ) (Fits : A → Type 0) : Type 0 where
  pub takes : (b : List ℕ) (a : A) → read b ≡ Ok a → (b ≡ text a) × Fits a
  pub again : (a : A) → Fits a → read (text a) ≡ Ok a
  pub cut : (b : List ℕ) → read b ≡ Err Cut → (t : List ℕ) × (a : A) × ((b ++ t ≡ text a) × Fits a)
  pub stable : (b t : List ℕ) → read b ≡ Err Broken → read (b ++ t) ≡ Err Broken
  pub some : (a : A) × Fits a

pub mapped_ok : {A B : Type 0} (f : A → B) (r : Read A) (y : B) → mapped f r ≡ Ok y → (x : A) × (r ≡ Ok x) × (f x ≡ y)
mapped_ok f (Ok x) y e = (x, refl, cc)
mapped_ok f (Err d) y e = absurd cc

pub mapped_err : {A B : Type 0} (f : A → B) (r : Read A) (d : Stop) → mapped f r ≡ Err d → r ≡ Err d
mapped_err f (Ok x) d e = absurd cc
mapped_err f (Err c) d e = cc

pub bind_ok : {A B : Type 0} (r : Read A) (f : A → Read B) (y : B) → (r >>= f) ≡ Ok y → (x : A) × (r ≡ Ok x) × (f x ≡ Ok y)
bind_ok (Ok x) f y e = (x, refl, e)
bind_ok (Err d) f y e = absurd cc

pub bind_err : {A B : Type 0} (r : Read A) (f : A → Read B) (d : Stop) → (r >>= f) ≡ Err d → (r ≡ Err d) ⊎ ((x : A) × (r ≡ Ok x) × (f x ≡ Err d))
bind_err (Ok x) f d e = inr (x, refl, e)
bind_err (Err c) f d e = inl cc

within_ok : {A B : Type 0} (r : Read A) (y : B) → within {A = A} {B = B} r ≡ Ok y → ⊥
within_ok (Ok x) y e = cc
within_ok (Err d) y e = cc

within_cut : {A B : Type 0} (r : Read A) → within {A = A} {B = B} r ≡ Err Cut → ((x : A) × (r ≡ Ok x)) ⊎ (r ≡ Err Cut)
within_cut (Ok x) e = inl (x, refl)
within_cut (Err d) e = inr cc

within_broken : {A B : Type 0} (r : Read A) → within {A = A} {B = B} r ≡ Err Broken → r ≡ Err Broken
within_broken (Ok x) e = absurd cc
within_broken (Err d) e = cc

ended_ok : {A : Type 0} (r : Read A) (x : A) → ended r ≡ Ok x → r ≡ Ok x
ended_ok (Ok y) x e = e
ended_ok (Err d) x e = absurd cc

ended_cut : {A : Type 0} (r : Read A) → ended r ≡ Err Cut → ⊥
ended_cut (Ok y) e = cc
ended_cut (Err d) e = cc

-- ---- the same reader in other words

pub mapped_same : {A : Type 0} (r : Read A) → mapped (λ x. x) r ≡ r
mapped_same (Ok x) = refl
mapped_same (Err d) = refl

pub bind_same : {A B : Type 0} (r : Read A) (f g : A → Read B) → ((x : A) → f x ≡ g x) → (r >>= f) ≡ (r >>= g)
bind_same (Ok x) f g h = h x
bind_same (Err d) f g h = refl

pub same_reader : {A : Type 0} (read other : List ℕ → Read A) (text : A → List ℕ) (Fits : A → Type 0) → ((b : List ℕ) → read b ≡ other b) → IsExact read text Fits → IsExact other text Fits
same_reader read other text Fits same exact = record {
  takes = λ b a e. exact.takes b a (same b ∙ e);
  again = λ a h. sym (same (text a)) ∙ exact.again a h;
  cut = λ b e. exact.cut b (same b ∙ e);
  stable = λ b t e. sym (same (b ++ t)) ∙ exact.stable b t (same b ∙ e);
  some = exact.some;
}

-- ---- the same values in other words

pub converted : {A : Type 0} (read : List ℕ → Read A) (text text' : A → List ℕ) (Fits Fits' : A → Type 0)
    → IsExact read text Fits → ((a : A) → Fits a → text a ≡ text' a) → ((a : A) → Fits a → Fits' a) → ((a : A) → Fits' a → Fits a) → IsExact read text' Fits'
converted read text text' Fits Fits' exact same there back = record {
  takes = λ b a e. let t = exact.takes b a e in (t.0 ∙ same a t.1, there a t.1);
  again = λ a h. subst (λ (x : List ℕ). read x ≡ Ok a) (same a (back a h)) (exact.again a (back a h));
  cut = λ b e. let c = exact.cut b e in (c.0, c.1, (c.2.0 ∙ same c.1 c.2.1, there c.1 c.2.1));
  stable = exact.stable;
  some = (exact.some.0, there exact.some.0 exact.some.1);
}

-- ---- a value made of another

pub mapped_exact : {A B : Type 0} (f : A → B) (read : List ℕ → Read A) (text : A → List ℕ) (text' : B → List ℕ) (Fits : A → Type 0) (Fits' : B → Type 0)
    → IsExact read text Fits → ((a : A) → Fits a → text a ≡ text' (f a)) → ((a : A) → Fits a → Fits' (f a))
    → ((b : B) → Fits' b → (a : A) × Fits a × (f a ≡ b)) → IsExact (λ x. mapped f (read x)) text' Fits'
mapped_exact {A = A} {B = B} f read text text' Fits Fits' exact same there onto = record {
  takes = λ b y e.
      let m = mapped_ok f (read b) y e in
      let t = exact.takes b m.0 m.1 in
      subst (λ (z : B). (b ≡ text' z) × Fits' z) m.2 (t.0 ∙ same m.0 t.1, there m.0 t.1);
  again = λ y h.
      let o = onto y h in
      let r : read (text o.0) ≡ Ok o.0 = exact.again o.0 o.1 in
      let words : text o.0 ≡ text' y = same o.0 o.1 ∙ ap text' o.2 in
      subst (λ (x : List ℕ). mapped f (read x) ≡ Ok y) words (ap (mapped f) r ∙ ap (λ (z : B). Ok z) o.2);
  cut = λ b e.
      let c = exact.cut b (mapped_err f (read b) Cut e) in
      (c.0, f c.1, (c.2.0 ∙ same c.1 c.2.1, there c.1 c.2.1));
  stable = λ b t e. ap (mapped f) (exact.stable b t (mapped_err f (read b) Broken e));
  some = (f exact.some.0, there exact.some.0 exact.some.1);
}

-- ---- nothing more

only_ok : {A : Type 0} (v : A) (b : List ℕ) (a : A) → only v b ≡ Ok a → (b ≡ []) × (a ≡ v)
only_ok v [] a e = (refl, cc)
only_ok v (x ∷ xs) a e = absurd cc

only_cut : {A : Type 0} (v : A) (b : List ℕ) → only v b ≡ Err Cut → ⊥
only_cut v [] e = cc
only_cut v (x ∷ xs) e = cc

only_stable : {A : Type 0} (v : A) (b t : List ℕ) → only v b ≡ Err Broken → only v (b ++ t) ≡ Err Broken
only_stable v [] t e = absurd cc
only_stable v (x ∷ xs) t e = refl

pub only_exact : {A : Type 0} (v : A) → IsExact (only v) (λ a. []) (λ a. a ≡ v)
only_exact v = record {
  takes = λ b a e. only_ok v b a e;
  again = λ a h. ap (λ z. Ok z) (sym h);
  cut = λ b e. absurd (only_cut v b e);
  stable = λ b t e. only_stable v b t e;
  some = (v, refl);
}

-- ---- behind a word

pub strip_ok : (w b r : List ℕ) → strip w b ≡ Ok r → b ≡ w ++ r
strip_ok [] b r e = cc
strip_ok (w ∷ ws) [] r e = absurd cc
strip_ok (w ∷ ws) (b ∷ bs) r e = at (λ k. strip_ok ws bs r k) (eqb b w) refl e where
  at : (strip ws bs ≡ Ok r → bs ≡ ws ++ r) → (v : Bool) → eqb b w ≡ v → cond v (strip ws bs) (Err Broken) ≡ Ok r → b ∷ bs ≡ w ∷ ws ++ r
  at more true k e = rw (eqb-true b w k, more e) refl
  at more false k e = absurd cc

pub strip_again : (w r : List ℕ) → strip w (w ++ r) ≡ Ok r
strip_again [] r = refl
strip_again (w ∷ ws) r = rw (eq-eqb w w refl) (strip_again ws r)

pub strip_cut : (w b : List ℕ) → strip w b ≡ Err Cut → (t : List ℕ) × (b ++ t ≡ w)
strip_cut [] b e = absurd cc
strip_cut (w ∷ ws) [] e = (w ∷ ws, refl)
strip_cut (w ∷ ws) (b ∷ bs) e = at (λ k. strip_cut ws bs k) (eqb b w) refl e where
  at : (strip ws bs ≡ Err Cut → (t : List ℕ) × (bs ++ t ≡ ws)) → (v : Bool) → eqb b w ≡ v → cond v (strip ws bs) (Err Broken) ≡ Err Cut → (t : List ℕ) × (b ∷ bs ++ t ≡ w ∷ ws)
  at more true k e = let m = more e in (m.0, rw (eqb-true b w k, m.1) refl)
  at more false k e = absurd cc

pub strip_stable : (w b t : List ℕ) → strip w b ≡ Err Broken → strip w (b ++ t) ≡ Err Broken
strip_stable [] b t e = absurd cc
strip_stable (w ∷ ws) [] t e = absurd cc
strip_stable (w ∷ ws) (b ∷ bs) t e = at (λ k. strip_stable ws bs t k) (eqb b w) refl e where
  at : (strip ws bs ≡ Err Broken → strip ws (bs ++ t) ≡ Err Broken) → (v : Bool) → eqb b w ≡ v → cond v (strip ws bs) (Err Broken) ≡ Err Broken → cond (eqb b w) (strip ws (bs ++ t)) (Err Broken) ≡ Err Broken
  at more true k e = rw k (more e)
  at more false k e = rw k refl

pub strip_more : (w b t r : List ℕ) → strip w b ≡ Ok r → strip w (b ++ t) ≡ Ok (r ++ t)
strip_more w b t r e = rw (strip_ok w b r e) (ap (strip w) (append_assoc w r t) ∙ strip_again w (r ++ t))

pub behind_exact : {A : Type 0} (w : List ℕ) (read : List ℕ → Read A) (text : A → List ℕ) (Fits : A → Type 0)
    → IsExact read text Fits → IsExact (behind w read) (λ a. w ++ text a) Fits
behind_exact w read text Fits exact = record {
  takes = λ b a e.
      let s = bind_ok (strip w b) read a e in
      let t = exact.takes s.0 a s.2 in
      (strip_ok w b s.0 s.1 ∙ ap (λ (x : List ℕ). w ++ x) t.0, t.1);
  again = λ a h. ap (λ r. r >>= read) (strip_again w (text a)) ∙ exact.again a h;
  cut = λ b e. elim (bind_err (strip w b) read Cut e) [
    | inl k ↦
        let c = strip_cut w b k in
        (c.0 ++ text exact.some.0, exact.some.0, (sym (append_assoc b c.0 (text exact.some.0)) ∙ ap (λ (x : List ℕ). x ++ text exact.some.0) c.1, exact.some.1))
    | inr k ↦
        let c = exact.cut k.0 k.2 in
        (c.0, c.1, (ap (λ (x : List ℕ). x ++ c.0) (strip_ok w b k.0 k.1) ∙ append_assoc w k.0 c.0 ∙ ap (λ (x : List ℕ). w ++ x) c.2.0, c.2.1))
  ];
  stable = λ b t e. elim (bind_err (strip w b) read Broken e) [
    | inl k ↦ ap (λ r. r >>= read) (strip_stable w b t k)
    | inr k ↦ ap (λ r. r >>= read) (strip_more w b t k.0 k.1) ∙ exact.stable k.0 t k.2
  ];
  some = exact.some;
}

-- ---- two values with a mark between their texts

module _ {A B : Type 0} (mark : ℕ) (first : List ℕ → Read A) (second : List ℕ → Read B) (text : A → List ℕ) (text' : B → List ℕ) (Fits : A → Type 0) (Fits' : B → Type 0)
    (one : IsExact first text Fits) (two : IsExact second text' Fits') (free : (a : A) → Fits a → IsFree mark (text a)) where
  abbrev go_on : Read (A × List ℕ) → Read (A × B)
  go_on r = r >>= λ (x : A × List ℕ). mapped {A = B} {B = A × B} (λ y. (x.0, y)) (second x.1)

  abbrev with_second : List ℕ → A → Read (A × B)
  with_second rest a = mapped {A = B} {B = A × B} (λ y. (a, y)) (second rest)

  abbrev both : Read A → List ℕ → Read (A × B)
  both r rest = r >>= with_second rest

  -- the part before the mark, and what is behind it
  joined_none : (b : List ℕ) → IsFree mark b → joined mark first second b ≡ go_on (within {A = A} {B = A × List ℕ} (first b))
  joined_none b h = rw h refl

  joined_some : (b : List ℕ) (parts : Parts) → split_once mark b ≡ Some parts → joined mark first second b ≡ both (ended (first parts.0)) parts.1
  joined_some b parts h = rw h (at (ended (first parts.0))) where
    at : (r : Read A) → go_on (mapped (λ x. (x, parts.1)) r) ≡ both r parts.1
    at (Ok a) = refl
    at (Err d) = refl

  none_err : (r : Read A) (d : Stop) → go_on (within {A = A} {B = A × List ℕ} r) ≡ Err d → within {A = A} {B = A} r ≡ Err d
  none_err (Ok a) d e = cc
  none_err (Err c) d e = cc

  none_ok : (r : Read A) (p : A × B) → go_on (within {A = A} {B = A × List ℕ} r) ≡ Ok p → ⊥
  none_ok (Ok a) p e = cc
  none_ok (Err c) p e = cc

  none_broken : (r : Read A) → r ≡ Err Broken → go_on (within {A = A} {B = A × List ℕ} r) ≡ Err Broken
  none_broken r e = rw e refl

  -- a broken first part stays broken
  pub joined_first_broken : (b t : List ℕ) → IsFree mark b → first b ≡ Err Broken → joined mark first second (b ++ t) ≡ Err Broken
  joined_first_broken b t h e = at (split_once mark t) refl where
    at : (r : Option Parts) → split_once mark t ≡ r → joined mark first second (b ++ t) ≡ Err Broken
    at None k = joined_none (b ++ t) (free_append mark b t h k) ∙ none_broken (first (b ++ t)) (one.stable b t e)
    at (Some parts) k = joined_some (b ++ t) (b ++ parts.0, parts.1) (split_first mark b t parts h k) ∙ rw (one.stable b parts.0 e) refl

  joined_takes : (b : List ℕ) (p : A × B) → joined mark first second b ≡ Ok p → (b ≡ text p.0 ++ mark ∷ text' p.1) × (Fits p.0 × Fits' p.1)
  joined_takes b p e = at (split_once mark b) refl where
    at : (r : Option Parts) → split_once mark b ≡ r → (b ≡ text p.0 ++ mark ∷ text' p.1) × (Fits p.0 × Fits' p.1)
    at None k = absurd (none_ok (first b) p (sym (joined_none b k) ∙ e))
    at (Some parts) k =
        let x = bind_ok (ended (first parts.0)) (with_second parts.1) p (sym (joined_some b parts k) ∙ e) in
        let y = mapped_ok {A = B} {B = A × B} (λ y. (x.0, y)) (second parts.1) p x.2 in
        let t = one.takes parts.0 x.0 (ended_ok (first parts.0) x.0 x.1) in
        let u = two.takes parts.1 y.0 y.1 in
        let whole : b ≡ text x.0 ++ mark ∷ text' y.0 = (split_is mark b parts k).0 ∙ ap (λ (w : List ℕ). w ++ mark ∷ parts.1) t.0 ∙ ap (λ (w : List ℕ). text x.0 ++ mark ∷ w) u.0 in
        subst (λ (q : A × B). (b ≡ text q.0 ++ mark ∷ text' q.1) × (Fits q.0 × Fits' q.1)) y.2 (whole, (t.1, u.1))

  joined_again : (p : A × B) → Fits p.0 × Fits' p.1 → joined mark first second (text p.0 ++ mark ∷ text' p.1) ≡ Ok p
  joined_again p h =
      joined_some (text p.0 ++ mark ∷ text' p.1) (text p.0, text' p.1) (split_found mark (text p.0) (text' p.1) (free p.0 h.0))
      ∙ rw (one.again p.0 h.0, two.again p.1 h.1) refl

  joined_cut : (b : List ℕ) → joined mark first second b ≡ Err Cut → (t : List ℕ) × (p : A × B) × ((b ++ t ≡ text p.0 ++ mark ∷ text' p.1) × (Fits p.0 × Fits' p.1))
  joined_cut b e = at (split_once mark b) refl where
    more : (a : A) (t : List ℕ) → b ++ t ≡ text a → Fits a → (u : List ℕ) × (p : A × B) × ((b ++ u ≡ text p.0 ++ mark ∷ text' p.1) × (Fits p.0 × Fits' p.1))
    more a t k h = (t ++ mark ∷ text' two.some.0, (a, two.some.0), (sym (append_assoc b t (mark ∷ text' two.some.0)) ∙ ap (λ (w : List ℕ). w ++ mark ∷ text' two.some.0) k, (h, two.some.1)))

    at : (r : Option Parts) → split_once mark b ≡ r → (t : List ℕ) × (p : A × B) × ((b ++ t ≡ text p.0 ++ mark ∷ text' p.1) × (Fits p.0 × Fits' p.1))
    at None k = elim (within_cut {A = A} {B = A} (first b) (none_err (first b) Cut (sym (joined_none b k) ∙ e))) [
      | inl x ↦ let t = one.takes b x.0 x.1 in more x.0 [] (append-nil b ∙ t.0) t.1
      | inr x ↦ let c = one.cut b x in more c.1 c.0 c.2.0 c.2.1
    ]
    at (Some parts) k = elim (bind_err (ended (first parts.0)) (with_second parts.1) Cut (sym (joined_some b parts k) ∙ e)) [
      | inl x ↦ absurd (ended_cut (first parts.0) x)
      | inr x ↦
          let t = one.takes parts.0 x.0 (ended_ok (first parts.0) x.0 x.1) in
          let c = two.cut parts.1 (mapped_err {A = B} {B = A × B} (λ y. (x.0, y)) (second parts.1) Cut x.2) in
          let front : b ≡ text x.0 ++ mark ∷ parts.1 = (split_is mark b parts k).0 ∙ ap (λ (w : List ℕ). w ++ mark ∷ parts.1) t.0 in
          (c.0, (x.0, c.1), (ap (λ (w : List ℕ). w ++ c.0) front ∙ append_assoc (text x.0) (mark ∷ parts.1) c.0 ∙ ap (λ (w : List ℕ). text x.0 ++ mark ∷ w) c.2.0, (t.1, c.2.1)))
    ]

  joined_stable : (b t : List ℕ) → joined mark first second b ≡ Err Broken → joined mark first second (b ++ t) ≡ Err Broken
  joined_stable b t e = at (split_once mark b) refl where
    at : (r : Option Parts) → split_once mark b ≡ r → joined mark first second (b ++ t) ≡ Err Broken
    at None k = joined_first_broken b t k (within_broken {A = A} {B = A} (first b) (none_err (first b) Broken (sym (joined_none b k) ∙ e)))
    at (Some parts) k =
        let whole : joined mark first second (b ++ t) ≡ both (ended (first parts.0)) (parts.1 ++ t) = joined_some (b ++ t) (parts.0, parts.1 ++ t) (split_more mark b t parts k) in
        whole ∙ elim (bind_err (ended (first parts.0)) (with_second parts.1) Broken (sym (joined_some b parts k) ∙ e)) [
          | inl x ↦ rw x refl
          | inr x ↦ rw (x.1, two.stable parts.1 t (mapped_err {A = B} {B = A × B} (λ y. (x.0, y)) (second parts.1) Broken x.2)) refl
        ]

  pub joined_exact : IsExact (joined mark first second) (λ p. text p.0 ++ mark ∷ text' p.1) (λ p. Fits p.0 × Fits' p.1)
  joined_exact = record {
    takes = joined_takes;
    again = joined_again;
    cut = joined_cut;
    stable = joined_stable;
    some = ((one.some.0, two.some.0), (one.some.1, two.some.1));
  }
