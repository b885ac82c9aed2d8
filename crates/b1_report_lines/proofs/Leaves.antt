-- What the words' own readers answer, as reading gives it.
use Rattle.std.proofs.Common.{◌≡◌, ◌≢◌, ℕ, zero, suc, ◌^◌, ◌<◌, ◌≤◌, Bool, true, false, cond, eqb, List, [], ◌∷◌, ◌++◌, length, drop, get_or, Option, Some, None, Ok, Err, refl, sym, ap, ◌∙◌, arith, inl, inr, eq-eqb}
use Rattle.std.proofs.lemmas.Bool.Decides.{eqb_tells}
use Rattle.std.proofs.Math.Seq.{drop-cons}
use Rattle.std.proofs.lemmas.List.{length-append}
use Rattle.std.specs.Borrow.{Bor}
use Rattle.std.specs.Fmt.{decimal}
use Rattle.std.specs.Str.Parse.{digits_value}
use Rattle.std.specs.Option.{IfSome, IfNone}
use Rattle.b1_text_words.specs.Items.{IsUpTo}
use Rattle.b1_text_words.specs.Words.{Reads}
use Rattle.b1_text_words.specs.Words as words
use Rattle.b1_report_lines.specs.declared.unread.Stop.TheVariants.{Cut, Broken}
use Rattle.b1_report_lines.specs.Reading.{Read, Fails, split_once, strip, is_number, number_at}
use Rattle.b1_report_lines.specs.Seen.{parts_seen, no_number_why}
use Rattle.b1_report_lines.proofs.Splitting.{Parts, IsFree, free_cons, split_found, split_is}
use Rattle.b1_report_lines.proofs.Decimals.{number_exact}

pub free_from : (mark : ℕ) (bytes : List ℕ) → words.IsFree mark bytes → IsFree mark bytes
free_from mark [] h = refl
free_from mark (b ∷ bs) h = free_cons mark b bs (elim (eqb_tells b mark) [ inl e ↦ absurd (h.0 e.1) | inr e ↦ e.0 ]) (free_from mark bs h.1)

abbrev Halves : Type 0
Halves = Option (Bor (List ℕ) × Bor (List ℕ))

pub halves_are : (mark : ℕ) (bytes : List ℕ) (r : Halves) → IfSome r (λ x. bytes ≡ x.0.now ++ mark ∷ x.1.now) → IfSome r (λ x. words.IsFree mark x.0.now) → IfNone r (words.IsFree mark bytes) → parts_seen r ≡ split_once mark bytes
halves_are mark bytes None h k l = sym (free_from mark bytes l)
halves_are mark bytes (Some x) h k l = sym (ap (split_once mark) h ∙ split_found mark x.0.now x.1.now (free_from mark x.0.now k))

pub number_some : (most limit : ℕ) (b : List ℕ) (n : ℕ) → most < limit → limit ≤ 2 ^ 64 → Reads decimal (IsUpTo most) b (Some n) → number_at limit b ≡ Ok n
number_some most limit b n lt le r =
    let f = r.found in
    ap (number_at limit) f.1 ∙ (number_exact limit (omega (arith, lt)) le).again n (omega (arith, lt, f.0))

pub number_none : (most limit : ℕ) (b : List ℕ) → limit ≡ suc most → limit ≤ 2 ^ 64 → Reads decimal (IsUpTo most) b None → Fails (no_number_why b) (number_at limit b)
number_none most limit [] is le r = refl
number_none most limit (c ∷ cs) is le r = at (number_at limit (c ∷ cs)) refl where
  at : (x : Read ℕ) → number_at limit (c ∷ cs) ≡ x → x ≡ Err Broken
  at (Ok n) e =
      let t = (number_exact limit (omega (arith, is)) le).takes (c ∷ cs) n e in
      let found : None ≡ Some n = r.whole n (omega (arith, t.1, is)) t.0 in
      absurd cc
  at (Err Broken) e = refl
  at (Err Cut) e = absurd (no_cut (is_number limit (c ∷ cs)) e) where
    no_cut : (v : Bool) → cond {A = Read ℕ} v (Ok (digits_value 10 (c ∷ cs))) (Err Broken) ≡ Err Cut → ⊥
    no_cut true k = cc
    no_cut false k = cc

-- ---- letter by letter

pub strip_step : (word bytes : List ℕ) (at : ℕ) → at < length word → at < length bytes → get_or bytes at 0 ≡ get_or word at 0
    → strip (drop at word) (drop at bytes) ≡ strip (drop (suc at) word) (drop (suc at) bytes)
strip_step word bytes at h k e = rw (drop-cons word at 0, drop-cons bytes at 0, e, eq-eqb (get_or word at 0) (get_or word at 0) refl) refl

pub strip_differs : (word bytes : List ℕ) (at : ℕ) → at < length word → at < length bytes → get_or bytes at 0 ≢ get_or word at 0
    → strip (drop at word) (drop at bytes) ≡ Err Broken
strip_differs word bytes at h k e =
    let apart : eqb (get_or bytes at 0) (get_or word at 0) ≡ false = elim (eqb_tells (get_or bytes at 0) (get_or word at 0)) [ inl u ↦ absurd (e u.1) | inr u ↦ u.0 ] in
    rw (drop-cons word at 0, drop-cons bytes at 0, apart) refl

drop_all : (n : ℕ) (xs : List ℕ) → length xs ≤ n → drop n xs ≡ []
drop_all zero [] h = refl
drop_all zero (x ∷ xs) h = absurd (omega arith)
drop_all (suc n) [] h = refl
drop_all (suc n) (x ∷ xs) h = drop_all n xs (omega arith)

pub strip_ends : (word bytes : List ℕ) (at : ℕ) → at < length word → length bytes ≤ at → strip (drop at word) (drop at bytes) ≡ Err Cut
strip_ends word bytes at h k = rw (drop_all at bytes k, drop-cons word at 0) refl

pub shorter_half : (mark : ℕ) (b : List ℕ) (parts : Parts) → split_once mark b ≡ Some parts → suc (length parts.1) ≤ length b
shorter_half mark b parts h = omega (arith, ap (λ (x : List ℕ). length x) (split_is mark b parts h).0, length-append parts.0 (mark ∷ parts.1))
