-- Parts that change at one peer, read at each.
use Rattle.std.proofs.Common.{◌≡◌, ◌⊎◌, refl, sym, ap, ◌∙◌, subst, inl, inr, ℕ, zero, suc, ◌==◌, true, false, cond, List, [], ◌∷◌, map, set, Option, Some, None, option_map}
use Rattle.std.specs.Prelude.{slice_get}
use Rattle.std.proofs.lemmas.Bool.{eq-eqb, ne_eqb, cases_eq}
use Rattle.std.proofs.lemmas.Option.{same_Some, slice_get-map}
use Rattle.b1_model.specs.MachineParts.{PeerPart}
use Rattle.b1_step.proofs.Lists.{read_same, read_other}
use Rattle.b1_serial_send.proofs.Midway.{at_part}

-- ---- lists

module _ {X : Type 0} where
  -- lists with the same elements at the same places
  pub lists_same : (xs ys : List X) → ((i : ℕ) → slice_get xs i ≡ slice_get ys i) → xs ≡ ys
  lists_same [] [] same = refl
  lists_same [] (y ∷ ys) same = absurd (cc (same zero))
  lists_same (x ∷ xs) [] same = absurd (cc (same zero))
  lists_same (x ∷ xs) (y ∷ ys) same = ap (λ z. z ∷ xs) (same_Some x y (same zero)) ∙ ap (λ zs. y ∷ zs) (lists_same xs ys (λ i. same (suc i)))

  pub map_same : {Y : Type 0} (f g : X → Y) (xs : List X) → ((x : X) → f x ≡ g x) → map f xs ≡ map g xs
  map_same f g [] same = refl
  map_same f g (x ∷ xs) same = ap (λ y. y ∷ map f xs) (same x) ∙ ap (λ ys. g x ∷ ys) (map_same f g xs same)

  pub read_map : {Y : Type 0} (f : X → Y) (xs : List X) (i : ℕ) (x : X) → slice_get xs i ≡ Some x → slice_get (map f xs) i ≡ Some (f x)
  read_map f xs i x is = slice_get-map f xs i ∙ ap (option_map f) is

-- ---- one part

-- the change is done at the part with the number
pub at_own : (q : ℕ) (g : PeerPart → PeerPart) (x : PeerPart) → x.me ≡ q → at_part q g x ≡ g x
at_own q g x is = ap (λ b. cond b (g x) x) (eq-eqb q x.me (sym is))

-- and not at another one
pub at_other : (q : ℕ) (g : PeerPart → PeerPart) (x : PeerPart) → (q ≡ x.me → ⊥) → at_part q g x ≡ x
at_other q g x apart = ap (λ b. cond b (g x) x) (ne_eqb q x.me apart)

-- what a change leaves of a part stays where it is done at one
pub at_keeps : {Y : Type 0} (view : PeerPart → Y) (q : ℕ) (g : PeerPart → PeerPart) (x : PeerPart) → view (g x) ≡ view x → view (at_part q g x) ≡ view x
at_keeps view q g x same = elim (q == x.me) as (λ b. view (cond b (g x) x) ≡ view x) [ true ↦ same | false ↦ refl ]

-- each part has the number of its place
abbrev pub Placed : List PeerPart → Type 0
Placed xs = (q : ℕ) (x : PeerPart) → slice_get xs q ≡ Some x → x.me ≡ q

-- a part changes in its place
pub set_at : (f g : PeerPart → PeerPart) (xs : List PeerPart) (q : ℕ) (x : PeerPart) → Placed xs → ((y : PeerPart) → (f y).me ≡ y.me) → slice_get xs q ≡ Some x
    → set (map f xs) q (g (f x)) ≡ map (λ y. at_part q g (f y)) xs
set_at f g xs q x placed keeps is = lists_same _ _ (λ i. by i (cases_eq q i))
  where
    elsewhere : (i : ℕ) → (q ≡ i → ⊥) → (r : Option PeerPart) → slice_get xs i ≡ r → option_map f r ≡ option_map (λ y. at_part q g (f y)) r
    elsewhere i apart None none = refl
    elsewhere i apart (Some y) there = ap Some (sym (at_other q g (f y) (λ e. apart (e ∙ keeps y ∙ placed i y there))))

    by : (i : ℕ) → (q ≡ i) ⊎ (q ≡ i → ⊥) → slice_get (set (map f xs) q (g (f x))) i ≡ slice_get (map (λ y. at_part q g (f y)) xs) i
    by i (inl same) =
        subst (λ j. slice_get (set (map f xs) q (g (f x))) j ≡ slice_get (map (λ y. at_part q g (f y)) xs) j) same
        (read_same (map f xs) q (f x) (g (f x)) (read_map f xs q x is)
        ∙ sym (read_map (λ y. at_part q g (f y)) xs q x is ∙ ap Some (at_own q g (f x) (keeps x ∙ placed q x is))))
    by i (inr apart) =
        read_other (map f xs) q i (g (f x)) apart
        ∙ slice_get-map f xs i ∙ elsewhere i apart (slice_get xs i) refl ∙ sym (slice_get-map (λ y. at_part q g (f y)) xs i)
