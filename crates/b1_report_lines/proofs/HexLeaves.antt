-- What the words' reader of bytes answers, as reading gives it.
use Rattle.std.specs.Prelude.{codes}
use Rattle.std.proofs.Common.{◌≡◌, ℕ, ◌+◌, ◌*◌, ◌-◌, ◌^◌, ◌<◌, ◌≤◌, Bool, true, false, cond, ◌&&◌, eqb, List, [], ◌∷◌, ◌++◌, length, Option, Some, None, Ok, Err, refl, sym, ap, subst, ◌∙◌, arith}
use Rattle.std.proofs.lemmas.List.{append-nil}
use Rattle.std.specs.List.{flat_map, AllByRecursion}
use Rattle.b1_text_words.specs.Items.{AreBytes}
use Rattle.b1_text_words.specs.Numbers.{hex_pair, hex_text}
use Rattle.b1_text_words.specs.Words.{Spells, Reads, Begins}
use Rattle.b1_report_lines.specs.declared.unread.Stop.TheVariants.{Cut, Broken}
use Rattle.b1_report_lines.specs.Reading.{◌>>=◌, Read, mapped, or_else, only, list_of, is_hex, hex_value, pairs_at, hex_at}
use Rattle.b1_report_lines.proofs.Decimals.{both}
use Rattle.b1_report_lines.proofs.Exact.{mapped_err}
use Rattle.b1_report_lines.proofs.Choices.{AreSome}
use Rattle.b1_report_lines.proofs.Hexes.{IsByte, pair_is, hex_exact}

abbrev pub most : ℕ
most = 2 ^ 64 - 1

pairs_long : (xs : List ℕ) → length xs ≤ length (flat_map hex_pair xs)
pairs_long [] = omega arith
pairs_long (x ∷ xs) = omega (arith, pairs_long xs)

text_long : (xs : List ℕ) → length xs ≤ length (hex_text xs)
text_long [] = omega arith
text_long (x ∷ xs) = pairs_long (x ∷ xs)

abbrev Short : List ℕ → Type 0
Short b = (t xs : List ℕ) × ((b ++ t ≡ flat_map hex_pair xs) × (AreSome IsByte xs × (length xs ≤ length b)))

longer : (ys : List ℕ) (n : ℕ) → AreSome IsByte ys → IsByte n → AreSome IsByte (n ∷ ys)
longer [] n k small = absurd k
longer (y ∷ ys) n k small = (small, k)

pairs_short : (h : ℕ) (bs : List ℕ) → pairs_at (h ∷ bs) ≡ Err Cut → Short (h ∷ bs)
pairs_short h [] e = at (is_hex h) refl e where
  at : (v : Bool) → is_hex h ≡ v → cond {A = Read (List ℕ)} v (Err Cut) (Err Broken) ≡ Err Cut → Short (h ∷ [])
  at true k u = let p = pair_is h 48 k refl in (48 ∷ [], (16 * hex_value h + hex_value 48) ∷ [], (sym (append-nil (hex_pair (16 * hex_value h + hex_value 48)) ∙ p.0), ((p.1, tt), omega arith)))
  at false k u = absurd cc
pairs_short h (l ∷ []) e = at (is_hex h && is_hex l) e where
  at : (v : Bool) → cond v (Ok ((16 * hex_value h + hex_value l) ∷ [])) (Err Broken) ≡ Err Cut → Short (h ∷ l ∷ [])
  at true u = absurd cc
  at false u = absurd cc
pairs_short h (l ∷ (b ∷ bs)) e = at (λ u. pairs_short b bs u) (is_hex h && is_hex l) refl e where
  at : (pairs_at (b ∷ bs) ≡ Err Cut → Short (b ∷ bs)) → (v : Bool) → (is_hex h && is_hex l) ≡ v
      → cond v (mapped (λ ys. (16 * hex_value h + hex_value l) ∷ ys) (pairs_at (b ∷ bs))) (Err Broken) ≡ Err Cut → Short (h ∷ l ∷ b ∷ bs)
  at more true k u =
      let t = both (is_hex h) (is_hex l) k in
      let p = pair_is h l t.0 t.1 in
      let ih = more (mapped_err (λ ys. (16 * hex_value h + hex_value l) ∷ ys) (pairs_at (b ∷ bs)) Cut u) in (
        ih.0,
        (16 * hex_value h + hex_value l) ∷ ih.1,
        (ap (λ (r : List ℕ). h ∷ l ∷ r) ih.2.0 ∙ sym (ap (λ (r : List ℕ). r ++ flat_map hex_pair ih.1) p.0), (longer ih.1 (16 * hex_value h + hex_value l) ih.2.1.0 p.1, omega (arith, ih.2.1.1))),
      )
  at more false k u = absurd cc

abbrev BeginBytes : List ℕ → Type 0
BeginBytes b = Begins (Spells hex_text (AreBytes most)) b

text_of_some : (xs : List ℕ) → AreSome IsByte xs → (flat_map hex_pair xs ≡ hex_text xs) × AllByRecursion IsByte xs
text_of_some [] h = absurd h
text_of_some (x ∷ xs) h = (refl, h)

cut_pairs : (h : ℕ) (bs : List ℕ) → hex_at (h ∷ bs) ≡ Err Cut → pairs_at (h ∷ bs) ≡ Err Cut
cut_pairs h bs e = at (eqb h 45) refl e where
  some : (r : Read (List ℕ)) → mapped list_of (mapped (λ x. Some x) r) ≡ Err Cut → r ≡ Err Cut
  some (Ok xs) k = absurd cc
  some (Err d) k = cc

  one : (xs : List ℕ) (r : Read (List ℕ)) → mapped list_of (or_else (only None xs) (mapped (λ x. Some x) r)) ≡ Err Cut → r ≡ Err Cut
  one [] r k = absurd cc
  one (x ∷ xs) r k = some r k

  at : (v : Bool) → eqb h 45 ≡ v → mapped list_of (or_else (cond v (Ok bs) (Err Broken) >>= only None) (mapped (λ x. Some x) (pairs_at (h ∷ bs)))) ≡ Err Cut → pairs_at (h ∷ bs) ≡ Err Cut
  at true k u = one bs (pairs_at (h ∷ bs)) u
  at false k u = some (pairs_at (h ∷ bs)) u

pub cut_begins : (b : List ℕ) → length b < 2 ^ 64 → hex_at b ≡ Err Cut → BeginBytes b
cut_begins [] lt e = record { rest = codes "-"; whole = record { value = []; is_of = record { items = tt; few = omega arith }; same = refl } }
cut_begins (h ∷ bs) lt e =
    let s = pairs_short h bs (cut_pairs h bs e) in
    let t = text_of_some s.1 s.2.1.0 in
    record { rest = s.0; whole = record { value = s.1; is_of = record { items = t.1; few = omega (arith, s.2.1.1, lt) }; same = s.2.0 ∙ t.0 } }

pub bytes_found : (b xs : List ℕ) → Reads hex_text (AreBytes most) b (Some xs) → hex_at b ≡ Ok xs
bytes_found b xs r = let f = r.found in ap hex_at f.1 ∙ hex_exact.again xs f.0.items

no_bytes : (b xs : List ℕ) → length b < 2 ^ 64 → Reads hex_text (AreBytes most) b None → hex_at b ≡ Ok xs → ⊥
no_bytes b xs lt r e =
    let t = hex_exact.takes b xs e in
    let few : length xs ≤ most = omega (arith, lt, text_long xs, ap (λ (x : List ℕ). length x) t.0) in
    let found : None ≡ Some xs = r.whole xs (record { items = t.1; few = few }) t.0 in
    absurd_some found where
      absurd_some : {X : Type 0} {x : X} → None ≡ Some x → ⊥
      absurd_some k = cc

begun_broken : (b : List ℕ) → BeginBytes b → hex_at b ≡ Err Broken → ⊥
begun_broken b h e =
    let ok : hex_at (b ++ h.rest) ≡ Ok h.whole.value = ap hex_at h.whole.same ∙ hex_exact.again h.whole.value h.whole.is_of.items in
    let broken : hex_at (b ++ h.rest) ≡ Err Broken = hex_exact.stable b h.rest e in
    cc

pub bytes_cut : (b : List ℕ) → length b < 2 ^ 64 → Reads hex_text (AreBytes most) b None → BeginBytes b → hex_at b ≡ Err Cut
bytes_cut b lt r h = at (hex_at b) refl where
  at : (x : Read (List ℕ)) → hex_at b ≡ x → x ≡ Err Cut
  at (Ok xs) e = absurd (no_bytes b xs lt r e)
  at (Err Cut) e = refl
  at (Err Broken) e = absurd (begun_broken b h e)

pub bytes_broken : (b : List ℕ) → length b < 2 ^ 64 → Reads hex_text (AreBytes most) b None → (BeginBytes b → ⊥) → hex_at b ≡ Err Broken
bytes_broken b lt r h = at (hex_at b) refl where
  at : (x : Read (List ℕ)) → hex_at b ≡ x → x ≡ Err Broken
  at (Ok xs) e = absurd (no_bytes b xs lt r e)
  at (Err Cut) e = absurd (h (cut_begins b lt e))
  at (Err Broken) e = refl

pub bytes_as : (b : List ℕ) (r found : Option (List ℕ)) → r ≡ found → Reads hex_text (AreBytes most) b r → Reads hex_text (AreBytes most) b found
bytes_as b r found e h = subst (λ (x : Option (List ℕ)). Reads hex_text (AreBytes most) b x) e h
