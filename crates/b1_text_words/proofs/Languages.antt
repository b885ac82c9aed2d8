-- Words, separators, and the bytes that begin a line.
use Rattle.std.proofs.Common.{◌≡◌, ◌≢◌, arith, ℕ, suc, ◌+◌, ◌<◌, Bool, true, false, eqb, List, [], ◌∷◌, ◌++◌, length, take, drop, get_or, refl, sym, ap, subst, ◌∙◌, append_assoc, drop-cons, Option, Some, None, IfSome}
use Rattle.std.proofs.lemmas.List.{take_more, take-append-drop}
use Rattle.std.proofs.lemmas.Bool.Decides.{nat_tests}
use Rattle.std.specs.Prelude.{is_some}
use Rattle.b1_text_words.specs.Words.{Spells, Reads, Begins, IsFree, Joined}

-- bytes without a separator

pub free_append : (s : ℕ) (a b : List ℕ) → IsFree s a → IsFree s b → IsFree s (a ++ b)
free_append s [] b p q = q
free_append s (c ∷ a) b p q = (p.0, free_append s a b p.1 q)

pub free_left : (s : ℕ) (a b : List ℕ) → IsFree s (a ++ b) → IsFree s a
free_left s [] b p = tt
free_left s (c ∷ a) b p = (p.0, free_left s a b p.1)

pub free_right : (s : ℕ) (a b : List ℕ) → IsFree s (a ++ b) → IsFree s b
free_right s [] b p = p
free_right s (c ∷ a) b p = free_right s a b p.1

pub free_more : (s : ℕ) (xs : List ℕ) (i x : ℕ) → i < length xs → x ≡ get_or xs i x → IsFree s (take i xs) → x ≢ s → IsFree s (take (i + 1) xs)
free_more s xs i x within at free other = rw (take_more xs i x within, ← at) (free_append s (take i xs) (x ∷ []) free (other, tt))

-- the bytes, cut at a place
pub cut_at : (xs : List ℕ) (i x : ℕ) → i < length xs → x ≡ get_or xs i x → xs ≡ take i xs ++ x ∷ drop (i + 1) xs
cut_at xs i x within at =
    let next : suc i ≡ i + 1 = omega arith in
    sym (take-append-drop i xs) ∙ ap (λ t. take i xs ++ t) (drop-cons xs i x within ∙ ap (λ n. get_or xs i x ∷ drop n xs) next ∙ ap (λ y. y ∷ drop (i + 1) xs) (sym at))

-- two words without the separator, each with one behind it, are one word
pub joined_first : (s : ℕ) (a b x y : List ℕ) → IsFree s a → IsFree s b → a ++ s ∷ x ≡ b ++ s ∷ y → (a ≡ b) × (x ≡ y)
joined_first s [] [] x y p q e = (refl, cc)
joined_first s [] (c ∷ b) x y p q e = absurd (q.0 (cc))
joined_first s (c ∷ a) [] x y p q e = absurd (p.0 (cc))
joined_first s (c ∷ a) (d ∷ b) x y p q e =
    let tails : a ++ s ∷ x ≡ b ++ s ∷ y = cc in
    let heads : c ≡ d = cc in
    let h = joined_first s a b x y p.1 q.1 tails in
    (cc, h.1)

-- what reading tells

pub read_found : {A : Type 0} (text : A → List ℕ) (IsOf : A → Type 0) (word : List ℕ) (r : Option A) (x : A) → Reads text IsOf word r → r ≡ Some x → IsOf x × (word ≡ text x)
read_found text IsOf word r x reads is = subst (λ o. IfSome o (λ y. IsOf y × (word ≡ text y))) is reads.found

pub read_none : {A : Type 0} (text : A → List ℕ) (IsOf : A → Type 0) (word : List ℕ) (r : Option A) → Reads text IsOf word r → r ≡ None → Spells text IsOf word → ⊥
read_none text IsOf word r reads is s = absurd (let whole : r ≡ Some s.value = reads.whole s.value s.is_of s.same in cc)

pub not_empty : (n : ℕ) (r : Bool) → r ≡ eqb n 0 → r ≡ false → 0 < n
not_empty n r says is = grind (arith, nat_tests)

pub empty_list : {A : Type 0} (xs : List A) (r : Bool) → r ≡ eqb (length xs) 0 → r ≡ true → xs ≡ []
empty_list [] r says is = refl
empty_list (x ∷ xs) r says is = absurd (let none : length (x ∷ xs) ≡ 0 = grind (arith, nat_tests) in omega (arith, none))

-- a word and what stands behind it

-- a word without the separator ends before the separator
pub stops_before : (s : ℕ) (w r f y : List ℕ) → IsFree s w → w ++ r ≡ f ++ s ∷ y → (t : List ℕ) × (w ++ t ≡ f)
stops_before s [] r f y p e = (f, refl)
stops_before s (c ∷ w) r [] y p e = absurd (p.0 (cc))
stops_before s (c ∷ w) r (d ∷ f) y p e =
    let tails : w ++ r ≡ f ++ s ∷ y = cc in
    let heads : c ≡ d = cc in
    let h = stops_before s w r f y p.1 tails in
    (h.0, ap (λ g. c ∷ g) h.1 ∙ ap (λ a. a ∷ f) heads)

pub not_free : (s : ℕ) (a b : List ℕ) → IsFree s (a ++ s ∷ b) → ⊥
not_free s a b p = (free_right s a (s ∷ b) p).0 refl

module _ (s : ℕ) (K L : List ℕ → Type 0) (free : (x : List ℕ) → K x → IsFree s x) where
  pub joined_words : (w rest : List ℕ) → IsFree s w → Joined s K L (w ++ s ∷ rest) → K w × L rest
  joined_words w rest plain j = let h = joined_first s w j.first rest j.rest plain (free j.first j.is_first) j.whole in (subst K (sym h.0) j.is_first, subst L (sym h.1) j.is_rest)

  pub joined_begins : (w rest : List ℕ) → IsFree s w → Begins (Joined s K L) (w ++ s ∷ rest) → K w × Begins L rest
  joined_begins w rest plain b =
      let h = joined_words w (rest ++ b.rest) plain (subst (Joined s K L) (append_assoc w (s ∷ rest) b.rest) b.whole) in
      (h.0, record { rest = b.rest; whole = h.1 })

  pub begins_first : (w : List ℕ) → IsFree s w → Begins (Joined s K L) w → Begins K w
  begins_first w plain b = let h = stops_before s w b.rest b.whole.first b.whole.rest plain b.whole.whole in record { rest = h.0; whole = subst K (sym h.1) b.whole.is_first }

pub joined_none : (s : ℕ) (K L : List ℕ → Type 0) (w : List ℕ) → IsFree s w → Joined s K L w → ⊥
joined_none s K L w plain j = not_free s j.first j.rest (subst (IsFree s) j.whole plain)

pub begins_joined : (s : ℕ) (K L : List ℕ → Type 0) (w rest : List ℕ) → K w → Begins L rest → Begins (Joined s K L) (w ++ s ∷ rest)
begins_joined s K L w rest k b = record { rest = b.rest; whole = record { first = w; rest = rest ++ b.rest; is_first = k; is_rest = b.whole; whole = append_assoc w (s ∷ rest) b.rest } }

pub first_begins : (s : ℕ) (K L : List ℕ → Type 0) (w : List ℕ) → Begins K w → Begins L [] → Begins (Joined s K L) w
first_begins s K L w k l = record { rest = k.rest ++ s ∷ l.rest; whole = record { first = w ++ k.rest; rest = l.rest; is_first = k.whole; is_rest = l.whole; whole = sym (append_assoc w k.rest (s ∷ l.rest)) } }

-- something was read exactly where the word spells something
pub spelled_some : {A : Type 0} (text : A → List ℕ) (IsOf : A → Type 0) (word : List ℕ) (r : Option A) (b : Bool) → b ≡ is_some r → Reads text IsOf word r → (b ≡ true → Spells text IsOf word) × (Spells text IsOf word → b ≡ true)
spelled_some text IsOf word None b says reads = (λ is. absurd (cc), λ s. absurd (let whole : None ≡ Some s.value = reads.whole s.value s.is_of s.same in cc))
spelled_some text IsOf word (Some x) b says reads = (λ is. record { value = x; is_of = reads.found.0; same = reads.found.1 }, λ s. says)
