-- Readers with a choice: a part that may be left out, one of two forms, and lists.
use Rattle.std.proofs.Common.{◌≡◌, ℕ, zero, suc, ◌+◌, ◌≤◌, List, [], ◌∷◌, ◌++◌, length, Option, Some, None, Ok, Err, refl, sym, ap, subst, ◌∙◌, arith, inl, inr, ◌⊎◌}
use Rattle.std.proofs.lemmas.List.{append-nil, length-append}
use Rattle.std.specs.List.{flat_map, AllByRecursion}
use Rattle.b1_report_lines.specs.declared.unread.Stop.TheVariants.{Cut, Broken}
use Rattle.b1_report_lines.specs.Reading.{Read, mapped, split_once, strip, joined, optional, optional_part, behind, or_else, only, dash, with_more, some_items, items, list_of, listed}
use Rattle.b1_report_lines.proofs.Splitting.{Parts, IsFree, split_found, split_more, split_first, free_append}
use Rattle.b1_report_lines.proofs.Items.{enough}
use Rattle.b1_report_lines.proofs.Exact.{IsExact, mapped_ok, mapped_err, converted, mapped_exact, only_exact, strip_stable, behind_exact, joined_exact, joined_first_broken}

-- ---- a part that may be left out

abbrev pub behind_mark : {B : Type 0} → ℕ → (B → List ℕ) → Option B → List ℕ
behind_mark mark text None = []
behind_mark mark text (Some y) = mark ∷ text y

abbrev pub FitsOption : {B : Type 0} → (B → Type 0) → Option B → Type 0
FitsOption Fits None = Unit {0}
FitsOption Fits (Some y) = Fits y

module _ {A B : Type 0} (mark : ℕ) (first : List ℕ → Read A) (second : List ℕ → Read B) (text : A → List ℕ) (text' : B → List ℕ) (Fits : A → Type 0) (Fits' : B → Type 0)
    (one : IsExact first text Fits) (two : IsExact second text' Fits') (free : (a : A) → Fits a → IsFree mark (text a)) where
  abbrev without : A → A × Option B
  without a = (a, None)

  abbrev with : A × B → A × Option B
  with p = (p.0, Some p.1)

  abbrev whole_text : A × Option B → List ℕ
  whole_text p = text p.0 ++ behind_mark mark text' p.1

  abbrev WholeFits : A × Option B → Type 0
  WholeFits p = Fits p.0 × FitsOption Fits' p.1

  two_parts : IsExact (joined mark first second) (λ p. text p.0 ++ mark ∷ text' p.1) (λ p. Fits p.0 × Fits' p.1)
  two_parts = joined_exact mark first second text text' Fits Fits' one two free

  is_none : (b : List ℕ) → split_once mark b ≡ None → optional mark first second b ≡ mapped without (first b)
  is_none b h = rw h refl

  is_some : (b : List ℕ) (parts : Parts) → split_once mark b ≡ Some parts → optional mark first second b ≡ mapped with (joined mark first second b)
  is_some b parts h = ap (λ r. optional_part mark first second b r) h

  optional_takes : (b : List ℕ) (p : A × Option B) → optional mark first second b ≡ Ok p → (b ≡ whole_text p) × WholeFits p
  optional_takes b p e = at (split_once mark b) refl where
    at : (r : Option Parts) → split_once mark b ≡ r → (b ≡ whole_text p) × WholeFits p
    at None k =
        let x = mapped_ok without (first b) p (sym (is_none b k) ∙ e) in
        let t = one.takes b x.0 x.1 in
        subst (λ (q : A × Option B). (b ≡ whole_text q) × WholeFits q) x.2 (t.0 ∙ sym (append-nil (text x.0)), (t.1, tt))
    at (Some parts) k =
        let x = mapped_ok with (joined mark first second b) p (sym (is_some b parts k) ∙ e) in
        let t = two_parts.takes b x.0 x.1 in
        subst (λ (q : A × Option B). (b ≡ whole_text q) × WholeFits q) x.2 (t.0, t.1)

  optional_again : (a : A) (o : Option B) → WholeFits (a, o) → optional mark first second (whole_text (a, o)) ≡ Ok (a, o)
  optional_again a None h =
      rw (append-nil (text a)) (is_none (text a) (free a h.0) ∙ ap (mapped without) (one.again a h.0))
  optional_again a (Some y) h =
      is_some (text a ++ mark ∷ text' y) (text a, text' y) (split_found mark (text a) (text' y) (free a h.0)) ∙ ap (mapped with) (two_parts.again (a, y) h)

  optional_cut : (b : List ℕ) → optional mark first second b ≡ Err Cut → (t : List ℕ) × (p : A × Option B) × ((b ++ t ≡ whole_text p) × WholeFits p)
  optional_cut b e = at (split_once mark b) refl where
    at : (r : Option Parts) → split_once mark b ≡ r → (t : List ℕ) × (p : A × Option B) × ((b ++ t ≡ whole_text p) × WholeFits p)
    at None k =
        let c = one.cut b (mapped_err without (first b) Cut (sym (is_none b k) ∙ e)) in
        (c.0, without c.1, (c.2.0 ∙ sym (append-nil (text c.1)), (c.2.1, tt)))
    at (Some parts) k =
        let c = two_parts.cut b (mapped_err with (joined mark first second b) Cut (sym (is_some b parts k) ∙ e)) in
        (c.0, with c.1, c.2)

  optional_stable : (b t : List ℕ) → optional mark first second b ≡ Err Broken → optional mark first second (b ++ t) ≡ Err Broken
  optional_stable b t e = at (split_once mark b) refl where
    behind_none : (h : IsFree mark b) → first b ≡ Err Broken → (r : Option Parts) → split_once mark t ≡ r → optional mark first second (b ++ t) ≡ Err Broken
    behind_none h k None u = is_none (b ++ t) (free_append mark b t h u) ∙ ap (mapped without) (one.stable b t k)
    behind_none h k (Some parts) u = is_some (b ++ t) (b ++ parts.0, parts.1) (split_first mark b t parts h u) ∙ ap (mapped with) (joined_first_broken mark first second text text' Fits Fits' one two free b t h k)

    at : (r : Option Parts) → split_once mark b ≡ r → optional mark first second (b ++ t) ≡ Err Broken
    at None k = behind_none k (mapped_err without (first b) Broken (sym (is_none b k) ∙ e)) (split_once mark t) refl
    at (Some parts) k =
        is_some (b ++ t) (parts.0, parts.1 ++ t) (split_more mark b t parts k)
        ∙ ap (mapped with) (two_parts.stable b t (mapped_err with (joined mark first second b) Broken (sym (is_some b parts k) ∙ e)))

  pub optional_exact : IsExact (optional mark first second) (λ p. text p.0 ++ behind_mark mark text' p.1) (λ p. Fits p.0 × FitsOption Fits' p.1)
  optional_exact = record {
    takes = optional_takes;
    again = λ p h. optional_again p.0 p.1 h;
    cut = optional_cut;
    stable = optional_stable;
    some = ((one.some.0, None), (one.some.1, tt));
  }

-- ---- one of two forms

pub or_ok : {A : Type 0} (r s : Read A) (x : A) → or_else r s ≡ Ok x → (r ≡ Ok x) ⊎ (s ≡ Ok x)
or_ok (Ok y) s x e = inl e
or_ok (Err Cut) s x e = absurd cc
or_ok (Err Broken) s x e = inr e

pub or_cut : {A : Type 0} (r s : Read A) → or_else r s ≡ Err Cut → (r ≡ Err Cut) ⊎ (s ≡ Err Cut)
or_cut (Ok y) s e = absurd cc
or_cut (Err Cut) s e = inl refl
or_cut (Err Broken) s e = inr e

pub or_broken : {A : Type 0} (r s : Read A) → or_else r s ≡ Err Broken → (r ≡ Err Broken) × (s ≡ Err Broken)
or_broken (Ok y) s e = absurd cc
or_broken (Err Cut) s e = absurd cc
or_broken (Err Broken) s e = (refl, e)

pub either_exact : {A : Type 0} (first second : List ℕ → Read A) (text : A → List ℕ) (Fits Fits' : A → Type 0)
    → IsExact first text Fits → IsExact second text Fits' → ((a : A) → Fits' a → first (text a) ≡ Err Broken)
    → IsExact (λ b. or_else (first b) (second b)) text (λ a. Fits a ⊎ Fits' a)
either_exact first second text Fits Fits' one two apart = record {
  takes = λ b a e. elim (or_ok (first b) (second b) a e) [
    | inl k ↦ let t = one.takes b a k in (t.0, inl t.1)
    | inr k ↦ let t = two.takes b a k in (t.0, inr t.1)
  ];
  again = λ a h. elim h [
    | inl k ↦ rw (one.again a k) refl
    | inr k ↦ rw (apart a k) (two.again a k)
  ];
  cut = λ b e. elim (or_cut (first b) (second b) e) [
    | inl k ↦ let c = one.cut b k in (c.0, c.1, (c.2.0, inl c.2.1))
    | inr k ↦ let c = two.cut b k in (c.0, c.1, (c.2.0, inr c.2.1))
  ];
  stable = λ b t e. let k = or_broken (first b) (second b) e in rw (one.stable b t k.0) (two.stable b t k.1);
  some = (one.some.0, inl one.some.1);
}

-- ---- a dash for none

abbrev pub dash_text : {A : Type 0} → (A → List ℕ) → Option A → List ℕ
dash_text text None = 45 ∷ []
dash_text text (Some x) = text x

abbrev IsSomeOf : {A : Type 0} → (A → Type 0) → Option A → Type 0
IsSomeOf Fits None = ⊥
IsSomeOf Fits (Some x) = Fits x

none_text : {A : Type 0} (text : A → List ℕ) (o : Option A) → o ≡ None → 45 ∷ [] ≡ dash_text text o
none_text text o h = sym (ap (dash_text text) h)

some_of : {A : Type 0} (Fits : A → Type 0) (o : Option A) → IsSomeOf Fits o → (a : A) × Fits a × (Some a ≡ o)
some_of Fits None h = absurd h
some_of Fits (Some x) h = (x, h, refl)

either_fits : {A : Type 0} (Fits : A → Type 0) (o : Option A) → (o ≡ None) ⊎ IsSomeOf Fits o → FitsOption Fits o
either_fits Fits None h = tt
either_fits Fits (Some x) (inl e) = absurd cc
either_fits Fits (Some x) (inr h) = h

fits_either : {A : Type 0} (Fits : A → Type 0) (o : Option A) → FitsOption Fits o → (o ≡ None) ⊎ IsSomeOf Fits o
fits_either Fits None h = inl refl
fits_either Fits (Some x) h = inr h

dash_apart : {A : Type 0} (text : A → List ℕ) (Fits : A → Type 0) → ((a : A) → Fits a → behind {A = Option A} (45 ∷ []) (only None) (text a) ≡ Err Broken)
    → (o : Option A) → IsSomeOf Fits o → behind {A = Option A} (45 ∷ []) (only None) (dash_text text o) ≡ Err Broken
dash_apart text Fits apart None h = absurd h
dash_apart text Fits apart (Some x) h = apart x h

pub dash_exact : {A : Type 0} (read : List ℕ → Read A) (text : A → List ℕ) (Fits : A → Type 0)
    → IsExact read text Fits → ((a : A) → Fits a → behind {A = Option A} (45 ∷ []) (only None) (text a) ≡ Err Broken)
    → IsExact (dash read) (dash_text text) (FitsOption Fits)
dash_exact {A = A} read text Fits exact apart =
    let none : IsExact (behind {A = Option A} (45 ∷ []) (only None)) (dash_text text) (λ o. o ≡ None)
    = converted (behind (45 ∷ []) (only None)) (λ o. (45 ∷ []) ++ []) (dash_text text) (λ o. o ≡ None) (λ o. o ≡ None) (behind_exact (45 ∷ []) (only None) (λ o. []) (λ o. o ≡ None) (only_exact None)) (λ o h. none_text text o h) (λ o h. h) (λ o h. h) in
    let some : IsExact (λ b. mapped (λ x. Some x) (read b)) (dash_text text) (IsSomeOf Fits)
    = mapped_exact (λ x. Some x) read text (dash_text text) Fits (IsSomeOf Fits) exact (λ a h. refl) (λ a h. h) (λ o h. some_of Fits o h) in
    converted (dash read) (dash_text text) (dash_text text) (λ o. (o ≡ None) ⊎ IsSomeOf Fits o) (FitsOption Fits)
    (either_exact (behind (45 ∷ []) (only None)) (λ b. mapped (λ x. Some x) (read b)) (dash_text text) (λ o. o ≡ None) (IsSomeOf Fits) none some (λ o h. dash_apart text Fits apart o h))
    (λ o h. refl) (λ o h. either_fits Fits o h) (λ o h. fits_either Fits o h)

-- ---- lists

abbrev pub items_text : {A : Type 0} → (A → List ℕ) → List A → List ℕ
items_text text [] = []
items_text text (x ∷ xs) = text x ++ flat_map (λ y. 44 ∷ text y) xs

abbrev pub AreSome : {A : Type 0} → (A → Type 0) → List A → Type 0
AreSome Fits [] = ⊥
AreSome Fits (x ∷ xs) = Fits x × AllByRecursion Fits xs

module _ {A : Type 0} (read : List ℕ → Read A) (text : A → List ℕ) (Fits : A → Type 0) (exact : IsExact read text Fits) (free : (a : A) → Fits a → IsFree 44 (text a)) where
  -- at least one, and at most so many
  abbrev AreUpTo : ℕ → List A → Type 0
  AreUpTo n xs = AreSome Fits xs × (length xs ≤ n)

  more_text : (p : A × Option (List A)) → FitsOption (AreSome Fits) p.1 → text p.0 ++ behind_mark 44 (items_text text) p.1 ≡ items_text text (with_more p)
  more_text (x, None) h = refl
  more_text (x, Some []) h = absurd h
  more_text (x, Some (y ∷ ys)) h = refl

  more_fits : (n : ℕ) (p : A × Option (List A)) → Fits p.0 × FitsOption (AreUpTo n) p.1 → AreUpTo (suc n) (with_more p)
  more_fits n (x, None) h = ((h.0, tt), omega arith)
  more_fits n (x, Some []) h = absurd h.1.0
  more_fits n (x, Some (y ∷ ys)) h = ((h.0, h.1.0), omega arith)

  some_of_up_to : (n : ℕ) (o : Option (List A)) → FitsOption (AreUpTo n) o → FitsOption (AreSome Fits) o
  some_of_up_to n None h = tt
  some_of_up_to n (Some xs) h = h.0

  more_onto : (n : ℕ) (xs : List A) → AreUpTo (suc n) xs → (p : A × Option (List A)) × (Fits p.0 × FitsOption (AreUpTo n) p.1) × (with_more p ≡ xs)
  more_onto n [] h = absurd h.0
  more_onto n (x ∷ []) h = ((x, None), (h.0.0, tt), refl)
  more_onto n (x ∷ (y ∷ ys)) h = ((x, Some (y ∷ ys)), (h.0.0, (h.0.1, omega arith)), refl)

  one_onto : (xs : List A) → AreUpTo 1 xs → (a : A) × Fits a × (a ∷ [] ≡ xs)
  one_onto [] h = absurd h.0
  one_onto (x ∷ []) h = (x, h.0.0, refl)
  one_onto (x ∷ (y ∷ ys)) h = absurd (omega (arith, h.1))

  some_exact : (n : ℕ) → IsExact (some_items n read) (items_text text) (AreUpTo (suc n))
  some_exact zero = mapped_exact (λ x. x ∷ []) read text (items_text text) Fits (AreUpTo 1) exact (λ a h. sym (append-nil (text a))) (λ a h. ((h, tt), omega arith)) one_onto
  some_exact (suc n) =
      let inner : IsExact (some_items n read) (items_text text) (AreUpTo (suc n)) = some_exact n in
      mapped_exact with_more (optional 44 read (some_items n read)) (λ p. text p.0 ++ behind_mark 44 (items_text text) p.1) (items_text text) (λ p. Fits p.0 × FitsOption (AreUpTo (suc n)) p.1) (AreUpTo (suc (suc n)))
      (optional_exact 44 read (some_items n read) text (items_text text) Fits (AreUpTo (suc n)) exact inner free)
      (λ p h. more_text p (some_of_up_to (suc n) p.1 h.1)) (λ p h. more_fits (suc n) p h) (λ xs h. more_onto (suc n) xs h)

  pub items_exact : IsExact (items read) (items_text text) (AreSome Fits)
  items_exact = record {
    takes = λ b xs e. let t = (some_exact (length b)).takes b xs e in (t.0, t.1.0);
    again = λ xs h.
        let b = items_text text xs in
        enough read (length b) (length xs + length b) b (omega arith) (omega arith)
        ∙ (some_exact (length xs + length b)).again xs (h, omega arith);
    cut = λ b e. let c = (some_exact (length b)).cut b e in (c.0, c.1, (c.2.0, c.2.1.0));
    stable = λ b t e.
        let n : ℕ = length b + length t in
        let long : length (b ++ t) ≡ n = length-append b t in
        enough read (length (b ++ t)) n (b ++ t) (omega arith) (omega (arith, long))
        ∙ (some_exact n).stable b t (enough read n (length b) b (omega arith) (omega arith) ∙ e);
    some = (exact.some.0 ∷ [], (exact.some.1, tt));
  }

  items_apart : ((a : A) → Fits a → strip (45 ∷ []) (text a) ≡ Err Broken) → (xs : List A) → AreSome Fits xs
      → behind {A = Option (List A)} (45 ∷ []) (only None) (items_text text xs) ≡ Err Broken
  items_apart apart [] h = absurd h
  items_apart apart (x ∷ xs) h = rw (strip_stable (45 ∷ []) (text x) (flat_map (λ y. 44 ∷ text y) xs) (apart x h.0)) refl

  abbrev pub whole_list : List A → List ℕ
  whole_list [] = 45 ∷ []
  whole_list (x ∷ xs) = items_text text (x ∷ xs)

  list_same : (o : Option (List A)) → FitsOption (AreSome Fits) o → dash_text (items_text text) o ≡ whole_list (list_of o)
  list_same None h = refl
  list_same (Some []) h = absurd h
  list_same (Some (x ∷ xs)) h = refl

  list_there : (o : Option (List A)) → FitsOption (AreSome Fits) o → AllByRecursion Fits (list_of o)
  list_there None h = tt
  list_there (Some []) h = absurd h
  list_there (Some (x ∷ xs)) h = h

  list_onto : (xs : List A) → AllByRecursion Fits xs → (o : Option (List A)) × FitsOption (AreSome Fits) o × (list_of o ≡ xs)
  list_onto [] h = (None, tt, refl)
  list_onto (x ∷ xs) h = (Some (x ∷ xs), h, refl)

  pub listed_exact : ((a : A) → Fits a → strip (45 ∷ []) (text a) ≡ Err Broken) → IsExact (listed read) whole_list (AllByRecursion Fits)
  listed_exact apart =
      mapped_exact list_of (dash (items read)) (dash_text (items_text text)) whole_list (FitsOption (AreSome Fits)) (AllByRecursion Fits)
      (dash_exact (items read) (items_text text) (AreSome Fits) items_exact (items_apart apart))
      list_same list_there list_onto
