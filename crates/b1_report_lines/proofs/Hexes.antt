-- Pairs of digits are read exactly.
use Rattle.std.proofs.Common.{◌≡◌, ℕ, ◌+◌, ◌*◌, ◌/◌, ◌%◌, ◌<◌, Bool, true, false, cond, ◌&&◌, eqb, List, [], ◌∷◌, ◌++◌, Option, Some, None, Ok, Err, refl, sym, ap, subst, ◌∙◌, arith}
use Rattle.std.proofs.lemmas.Bool.Decides.{nat_tests}
use Rattle.std.proofs.lemmas.List.{append-nil}
use Rattle.std.specs.List.{flat_map, AllByRecursion}
use Rattle.b1_text_words.specs.Numbers.{hex_digit, hex_pair, hex_text}
use Rattle.b1_report_lines.specs.declared.unread.Stop.TheVariants.{Cut, Broken}
use Rattle.b1_report_lines.specs.Reading.{Read, mapped, behind, only, dash, list_of, is_hex, hex_value, pairs_at, hex_at}
use Rattle.b1_report_lines.proofs.Decimals.{both, both_are}
use Rattle.b1_report_lines.proofs.Exact.{IsExact, mapped_ok, mapped_err, mapped_exact}
use Rattle.b1_report_lines.proofs.Choices.{AreSome, FitsOption, dash_text, dash_exact}

abbrev pub IsByte : ℕ → Type 0
IsByte b = b < 256

hex_tells : (c : ℕ) → is_hex c ≡ true → (hex_value c < 16) × (hex_digit (hex_value c) ≡ c)
hex_tells c h = grind (arith, nat_tests)

hex_of : (n : ℕ) → n < 16 → (is_hex (hex_digit n) ≡ true) × (hex_value (hex_digit n) ≡ n)
hex_of n lt = grind (arith, nat_tests)

pub pair_is : (h l : ℕ) → is_hex h ≡ true → is_hex l ≡ true → (hex_pair (16 * hex_value h + hex_value l) ≡ h ∷ l ∷ []) × IsByte (16 * hex_value h + hex_value l)
pair_is h l p q =
    let x = hex_tells h p in
    let y = hex_tells l q in
    let high : (16 * hex_value h + hex_value l) / 16 ≡ hex_value h = omega (arith, y.0) in
    let low : (16 * hex_value h + hex_value l) % 16 ≡ hex_value l = omega (arith, y.0) in (
      ap (λ (n : ℕ). hex_digit n ∷ hex_digit ((16 * hex_value h + hex_value l) % 16) ∷ []) high ∙ ap (λ (n : ℕ). hex_digit (hex_value h) ∷ hex_digit n ∷ []) low
          ∙ ap (λ (c : ℕ). c ∷ hex_digit (hex_value l) ∷ []) x.1 ∙ ap (λ (c : ℕ). h ∷ c ∷ []) y.1,
      omega (arith, x.0, y.0),
    )

byte_pair : (x : ℕ) → IsByte x → ((is_hex (hex_digit (x / 16)) && is_hex (hex_digit (x % 16))) ≡ true) × (16 * hex_value (hex_digit (x / 16)) + hex_value (hex_digit (x % 16)) ≡ x)
byte_pair x h =
    let high = hex_of (x / 16) (omega (arith, h)) in
    let low = hex_of (x % 16) (omega arith) in
    (both_are (is_hex (hex_digit (x / 16))) (is_hex (hex_digit (x % 16))) high.0 low.0, omega (arith, high.1, low.1))

pairs_takes : (b xs : List ℕ) → pairs_at b ≡ Ok xs → (b ≡ flat_map hex_pair xs) × AreSome IsByte xs
pairs_takes [] xs e = absurd cc
pairs_takes (h ∷ []) xs e = at (is_hex h) e where
  at : (v : Bool) → cond v (Err Cut) (Err Broken) ≡ Ok xs → (h ∷ [] ≡ flat_map hex_pair xs) × AreSome IsByte xs
  at true u = absurd cc
  at false u = absurd cc
pairs_takes (h ∷ (l ∷ [])) xs e = at (is_hex h && is_hex l) refl e where
  at : (v : Bool) → (is_hex h && is_hex l) ≡ v → cond v (Ok ((16 * hex_value h + hex_value l) ∷ [])) (Err Broken) ≡ Ok xs → (h ∷ l ∷ [] ≡ flat_map hex_pair xs) × AreSome IsByte xs
  at true k u =
      let t = both (is_hex h) (is_hex l) k in
      let p = pair_is h l t.0 t.1 in
      let is : (16 * hex_value h + hex_value l) ∷ [] ≡ xs = cc in
      subst (λ (ys : List ℕ). (h ∷ l ∷ [] ≡ flat_map hex_pair ys) × AreSome IsByte ys) is (sym (append-nil (hex_pair (16 * hex_value h + hex_value l)) ∙ p.0), (p.1, tt))
  at false k u = absurd cc
pairs_takes (h ∷ (l ∷ (b ∷ bs))) xs e = at (λ ys u. pairs_takes (b ∷ bs) ys u) (is_hex h && is_hex l) refl e where
  longer : (ys : List ℕ) (n : ℕ) → AreSome IsByte ys → IsByte n → AreSome IsByte (n ∷ ys)
  longer [] n k small = absurd k
  longer (y ∷ ys) n k small = (small, k)

  at : ((ys : List ℕ) → pairs_at (b ∷ bs) ≡ Ok ys → (b ∷ bs ≡ flat_map hex_pair ys) × AreSome IsByte ys) → (v : Bool) → (is_hex h && is_hex l) ≡ v
      → cond v (mapped (λ ys. (16 * hex_value h + hex_value l) ∷ ys) (pairs_at (b ∷ bs))) (Err Broken) ≡ Ok xs → (h ∷ l ∷ b ∷ bs ≡ flat_map hex_pair xs) × AreSome IsByte xs
  at more true k u =
      let t = both (is_hex h) (is_hex l) k in
      let p = pair_is h l t.0 t.1 in
      let m = mapped_ok (λ ys. (16 * hex_value h + hex_value l) ∷ ys) (pairs_at (b ∷ bs)) xs u in
      let ih = more m.0 m.1 in
      subst (λ (ys : List ℕ). (h ∷ l ∷ b ∷ bs ≡ flat_map hex_pair ys) × AreSome IsByte ys) m.2
      (ap (λ (r : List ℕ). h ∷ l ∷ r) ih.0 ∙ sym (ap (λ (r : List ℕ). r ++ flat_map hex_pair m.0) p.0), longer m.0 (16 * hex_value h + hex_value l) ih.1 p.1)
  at more false k u = absurd cc

pairs_again : (xs : List ℕ) → AreSome IsByte xs → pairs_at (flat_map hex_pair xs) ≡ Ok xs
pairs_again [] h = absurd h
pairs_again (x ∷ []) h = let p = byte_pair x h.0 in rw (p.0, p.1) refl
pairs_again (x ∷ (y ∷ ys)) h =
    let p = byte_pair x h.0 in
    let ih : pairs_at (flat_map hex_pair (y ∷ ys)) ≡ Ok (y ∷ ys) = pairs_again (y ∷ ys) h.1 in
    rw (p.0, p.1, ih) refl

pairs_cut : (b : List ℕ) → pairs_at b ≡ Err Cut → (t xs : List ℕ) × ((b ++ t ≡ flat_map hex_pair xs) × AreSome IsByte xs)
pairs_cut [] e = (hex_pair 0, 0 ∷ [], (refl, (omega arith, tt)))
pairs_cut (h ∷ []) e = at (is_hex h) refl e where
  at : (v : Bool) → is_hex h ≡ v → cond {A = Read (List ℕ)} v (Err Cut) (Err Broken) ≡ Err Cut → (t xs : List ℕ) × ((h ∷ [] ++ t ≡ flat_map hex_pair xs) × AreSome IsByte xs)
  at true k u = let p = pair_is h 48 k refl in (48 ∷ [], (16 * hex_value h + hex_value 48) ∷ [], (sym (append-nil (hex_pair (16 * hex_value h + hex_value 48)) ∙ p.0), (p.1, tt)))
  at false k u = absurd cc
pairs_cut (h ∷ (l ∷ [])) e = at (is_hex h && is_hex l) e where
  at : (v : Bool) → cond v (Ok ((16 * hex_value h + hex_value l) ∷ [])) (Err Broken) ≡ Err Cut → (t xs : List ℕ) × ((h ∷ l ∷ [] ++ t ≡ flat_map hex_pair xs) × AreSome IsByte xs)
  at true u = absurd cc
  at false u = absurd cc
pairs_cut (h ∷ (l ∷ (b ∷ bs))) e = at (λ u. pairs_cut (b ∷ bs) u) (is_hex h && is_hex l) refl e where
  longer : (ys : List ℕ) (n : ℕ) → AreSome IsByte ys → IsByte n → AreSome IsByte (n ∷ ys)
  longer [] n k small = absurd k
  longer (y ∷ ys) n k small = (small, k)

  at : (pairs_at (b ∷ bs) ≡ Err Cut → (t xs : List ℕ) × ((b ∷ bs ++ t ≡ flat_map hex_pair xs) × AreSome IsByte xs)) → (v : Bool) → (is_hex h && is_hex l) ≡ v
      → cond v (mapped (λ ys. (16 * hex_value h + hex_value l) ∷ ys) (pairs_at (b ∷ bs))) (Err Broken) ≡ Err Cut → (t xs : List ℕ) × ((h ∷ l ∷ b ∷ bs ++ t ≡ flat_map hex_pair xs) × AreSome IsByte xs)
  at more true k u =
      let t = both (is_hex h) (is_hex l) k in
      let p = pair_is h l t.0 t.1 in
      let ih = more (mapped_err (λ ys. (16 * hex_value h + hex_value l) ∷ ys) (pairs_at (b ∷ bs)) Cut u) in (
        ih.0,
        (16 * hex_value h + hex_value l) ∷ ih.1,
        (ap (λ (r : List ℕ). h ∷ l ∷ r) ih.2.0 ∙ sym (ap (λ (r : List ℕ). r ++ flat_map hex_pair ih.1) p.0), longer ih.1 (16 * hex_value h + hex_value l) ih.2.1 p.1),
      )
  at more false k u = absurd cc

-- a first digit that is none stays broken
pairs_first : (h l : ℕ) (t : List ℕ) → (is_hex h && is_hex l) ≡ false → pairs_at (h ∷ (l ∷ t)) ≡ Err Broken
pairs_first h l [] e = rw e refl
pairs_first h l (x ∷ xs) e = rw e refl

pairs_stable : (b t : List ℕ) → pairs_at b ≡ Err Broken → pairs_at (b ++ t) ≡ Err Broken
pairs_stable [] t e = absurd cc
pairs_stable (h ∷ []) t e = at (is_hex h) refl e t where
  no : (l : ℕ) → is_hex h ≡ false → (is_hex h && is_hex l) ≡ false
  no l k = rw k refl

  at : (v : Bool) → is_hex h ≡ v → cond {A = Read (List ℕ)} v (Err Cut) (Err Broken) ≡ Err Broken → (t : List ℕ) → pairs_at (h ∷ t) ≡ Err Broken
  at true k u t = absurd cc
  at false k u [] = rw k refl
  at false k u (l ∷ t) = pairs_first h l t (no l k)
pairs_stable (h ∷ (l ∷ [])) t e = at (is_hex h && is_hex l) refl e where
  at : (v : Bool) → (is_hex h && is_hex l) ≡ v → cond v (Ok ((16 * hex_value h + hex_value l) ∷ [])) (Err Broken) ≡ Err Broken → pairs_at (h ∷ (l ∷ t)) ≡ Err Broken
  at true k u = absurd cc
  at false k u = pairs_first h l t k
pairs_stable (h ∷ (l ∷ (b ∷ bs))) t e = at (λ u. pairs_stable (b ∷ bs) t u) (is_hex h && is_hex l) refl e where
  at : (pairs_at (b ∷ bs) ≡ Err Broken → pairs_at (b ∷ bs ++ t) ≡ Err Broken) → (v : Bool) → (is_hex h && is_hex l) ≡ v
      → cond v (mapped (λ ys. (16 * hex_value h + hex_value l) ∷ ys) (pairs_at (b ∷ bs))) (Err Broken) ≡ Err Broken → pairs_at (h ∷ (l ∷ (b ∷ bs ++ t))) ≡ Err Broken
  at more true k u = rw (k, more (mapped_err (λ ys. (16 * hex_value h + hex_value l) ∷ ys) (pairs_at (b ∷ bs)) Broken u)) refl
  at more false k u = pairs_first h l (b ∷ bs ++ t) k

pub pairs_exact : IsExact pairs_at (flat_map hex_pair) (AreSome IsByte)
pairs_exact = record {
  takes = pairs_takes;
  again = pairs_again;
  cut = λ b e. let c = pairs_cut b e in (c.0, c.1, c.2);
  stable = pairs_stable;
  some = (0 ∷ [], (omega arith, tt));
}

no_dash : (n : ℕ) → n < 16 → eqb (hex_digit n) 45 ≡ false
no_dash n lt = grind (arith, nat_tests)

pairs_apart : (xs : List ℕ) → AreSome IsByte xs → behind {A = Option (List ℕ)} (45 ∷ []) (only None) (flat_map hex_pair xs) ≡ Err Broken
pairs_apart [] h = absurd h
pairs_apart (x ∷ xs) h = rw (no_dash (x / 16) (omega (arith, h.0))) refl

hex_same : (o : Option (List ℕ)) → FitsOption (AreSome IsByte) o → dash_text (flat_map hex_pair) o ≡ hex_text (list_of o)
hex_same None h = refl
hex_same (Some []) h = absurd h
hex_same (Some (x ∷ xs)) h = refl

hex_there : (o : Option (List ℕ)) → FitsOption (AreSome IsByte) o → AllByRecursion IsByte (list_of o)
hex_there None h = tt
hex_there (Some []) h = absurd h
hex_there (Some (x ∷ xs)) h = h

hex_onto : (xs : List ℕ) → AllByRecursion IsByte xs → (o : Option (List ℕ)) × FitsOption (AreSome IsByte) o × (list_of o ≡ xs)
hex_onto [] h = (None, tt, refl)
hex_onto (x ∷ xs) h = (Some (x ∷ xs), h, refl)

pub hex_exact : IsExact hex_at hex_text (AllByRecursion IsByte)
hex_exact =
    mapped_exact list_of (dash pairs_at) (dash_text (flat_map hex_pair)) hex_text (FitsOption (AreSome IsByte)) (AllByRecursion IsByte)
    (dash_exact pairs_at (flat_map hex_pair) (AreSome IsByte) pairs_exact pairs_apart)
    hex_same hex_there hex_onto
