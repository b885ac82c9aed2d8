-- Bytes stop being a report in one place at most.
use Rattle.std.proofs.Common.{◌≡◌, ℕ, ◌+◌, ◌-◌, ◌<◌, Bool, true, false, cond, eqb, List, [], ◌∷◌, ◌++◌, length, take, drop, refl, sym, ap, subst, ◌∙◌, arith, inl, inr}
use Rattle.std.proofs.lemmas.Bool.{cases_lt}
use Rattle.std.proofs.lemmas.List.{append_assoc, append-nil, length-append, length-take, take_at, drop_at, take-append-drop}
use Rattle.b1_model.specs.declared.records.Record.{Record}
use Rattle.b1_report_lines.specs.Lines.{Cookies}
use Rattle.b1_report.specs.Parsing.{IsReport, CanGoOn, AreLines, first_line, LineBreaks, IsFault}
use Rattle.b1_report.proofs.Faults.{first_front}

-- what goes on with more bytes goes on without them
front_goes_on : (cookies : Cookies) (peers : ℕ) (front more : List ℕ) → CanGoOn cookies peers (front ++ more) → CanGoOn cookies peers front
front_goes_on cookies peers front more c =
    record { rest = more ++ c.rest; rec = c.rec; whole = subst (λ (x : List ℕ). IsReport cookies peers x c.rec) (append_assoc front more c.rest) c.whole }

-- the first line and what follows it, behind what stands before
at_line : (bytes : List ℕ) (at : ℕ) → (rest : List ℕ) × (bytes ≡ (take at bytes ++ first_line (drop at bytes)) ++ rest)
at_line bytes at =
    let f = first_front (drop at bytes) in
    (f.0, sym (take-append-drop at bytes) ∙ ap (λ (x : List ℕ). take at bytes ++ x) f.1 ∙ sym (append_assoc (take at bytes) (first_line (drop at bytes)) f.0))

-- bytes that go on break in no line
line_goes_on : (cookies : Cookies) (peers : ℕ) (bytes : List ℕ) (at : ℕ) → CanGoOn cookies peers bytes → LineBreaks cookies peers bytes at → ⊥
line_goes_on cookies peers bytes at c b =
    let l = at_line bytes at in
    b.broken (front_goes_on cookies peers (take at bytes ++ first_line (drop at bytes)) l.0 (subst (CanGoOn cookies peers) l.1 c))

report_goes_on : (cookies : Cookies) (peers : ℕ) (bytes : List ℕ) (rec : Record) → IsReport cookies peers bytes rec → CanGoOn cookies peers bytes
report_goes_on cookies peers bytes rec r = record { rest = []; rec = rec; whole = subst (λ (x : List ℕ). IsReport cookies peers x rec) (sym (append-nil bytes)) r }

pub no_place : (cookies : Cookies) (peers : ℕ) (bytes : List ℕ) (rec : Record) (at : ℕ) → IsReport cookies peers bytes rec → IsFault cookies peers bytes at → ⊥
no_place cookies peers bytes rec at r (inl b) = line_goes_on cookies peers bytes at (report_goes_on cookies peers bytes rec r) b
no_place cookies peers bytes rec at r (inr e) = e.short rec r

-- a line that ends with a line feed ends with the first one
abbrev Ends : List ℕ → List ℕ → Type 0
Ends front more = (rest : List ℕ) × (front ++ 10 ∷ [] ≡ first_line (front ++ 10 ∷ more) ++ rest)

ends : (front more : List ℕ) → Ends front more
ends [] more = ([], refl)
ends (b ∷ bs) more = at (ends bs more) (eqb b 10) where
  at : Ends bs more → (v : Bool) → (rest : List ℕ) × (b ∷ (bs ++ 10 ∷ []) ≡ cond v (b ∷ []) (b ∷ first_line (bs ++ 10 ∷ more)) ++ rest)
  at e true = (bs ++ 10 ∷ [], refl)
  at e false = (e.0, ap (λ (r : List ℕ). b ∷ r) e.1)

-- of two places where lines break, none comes first
not_before : (cookies : Cookies) (peers : ℕ) (bytes : List ℕ) (at end : ℕ) → at < end → LineBreaks cookies peers bytes at → LineBreaks cookies peers bytes end → ⊥
not_before cookies peers bytes at end less a b = split b.lines where
  long : length (take end bytes) ≡ end
  long = omega (arith, length-take end bytes, b.there)

  split : AreLines (take end bytes) → ⊥
  split (inl none) = omega (arith, long, less, ap (λ (x : List ℕ). length x) none)
  split (inr lines) =
      let front : List ℕ = lines.0 in
      let n : length front + 1 ≡ end = omega (arith, long, ap (λ (x : List ℕ). length x) lines.1, length-append front (10 ∷ [])) in
      let before : List ℕ = take at front in
      let behind : List ℕ = drop at front in
      let len : length before ≡ at = omega (arith, length-take at front, n, less) in
      let whole : bytes ≡ before ++ (behind ++ 10 ∷ drop end bytes)
      = sym (take-append-drop end bytes) ∙ ap (λ (x : List ℕ). x ++ drop end bytes) lines.1 ∙ append_assoc front (10 ∷ []) (drop end bytes)
      ∙ ap (λ (x : List ℕ). x ++ 10 ∷ drop end bytes) (sym (take-append-drop at front)) ∙ append_assoc before behind (10 ∷ drop end bytes) in
      let one : take at bytes ≡ before = ap (λ (x : List ℕ). take at x) whole ∙ take_at before (behind ++ 10 ∷ drop end bytes) at len in
      let two : drop at bytes ≡ behind ++ 10 ∷ drop end bytes = ap (λ (x : List ℕ). drop at x) whole ∙ drop_at before (behind ++ 10 ∷ drop end bytes) at len in
      let e = ends behind (drop end bytes) in
      let taken : take end bytes ≡ (take at bytes ++ first_line (drop at bytes)) ++ e.0
      = lines.1 ∙ ap (λ (x : List ℕ). x ++ 10 ∷ []) (sym (take-append-drop at front)) ∙ append_assoc before behind (10 ∷ [])
      ∙ ap (λ (x : List ℕ). before ++ x) e.1 ∙ sym (append_assoc before (first_line (behind ++ 10 ∷ drop end bytes)) e.0)
      ∙ ap (λ (x : List ℕ). (x ++ first_line (behind ++ 10 ∷ drop end bytes)) ++ e.0) (sym one)
      ∙ ap (λ (x : List ℕ). (take at bytes ++ first_line x) ++ e.0) (sym two) in
      a.broken (front_goes_on cookies peers (take at bytes ++ first_line (drop at bytes)) e.0 (subst (CanGoOn cookies peers) taken b.before))

pub one_place : (cookies : Cookies) (peers : ℕ) (bytes : List ℕ) (at end : ℕ) → IsFault cookies peers bytes at → IsFault cookies peers bytes end → at ≡ end
one_place cookies peers bytes at end (inl a) (inl b) = elim (cases_lt at end) [
  | inl less ↦ absurd (not_before cookies peers bytes at end less a b)
  | inr more ↦ elim (cases_lt end at) [ inl less ↦ absurd (not_before cookies peers bytes end at less b a) | inr other ↦ omega (arith, more, other) ]
]
one_place cookies peers bytes at end (inl a) (inr e) = absurd (line_goes_on cookies peers bytes at e.before a)
one_place cookies peers bytes at end (inr e) (inl b) = absurd (line_goes_on cookies peers bytes end e.before b)
one_place cookies peers bytes at end (inr e) (inr f) = e.end ∙ sym f.end
