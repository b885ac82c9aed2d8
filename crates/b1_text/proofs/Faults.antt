-- Where a text breaks, and what is answered.
use Rattle.std.proofs.Common.{◌≡◌, ◌≢◌, ℕ, ◌+◌, ◌-◌, ◌<◌, ◌≤◌, List, [], ◌∷◌, ◌++◌, length, take, drop, Option, Some, None, IsSome, Ok, refl, sym, ap, subst, ◌∙◌, append_assoc, arith}
use Rattle.std.specs.List.{flat_map}
use Rattle.std.proofs.lemmas.List.{length-append, length-take, length-drop, take-append-drop, take_all, take_at, drop_at}
use Rattle.b1_model.specs.declared.limits.TheConstants.{MOST_TEXT}
use Rattle.b1_errs.specs.declared.NotRead.TheVariants.{Bad}
use Rattle.b1_errs.specs.declared.Cause.TheVariants.{Line}
use Rattle.b1_script.specs.declared.script.Script.{Script}
use Rattle.b1_text.specs.declared.draft.Draft.{Draft}
use Rattle.b1_text.specs.declared.draft.Draft.TheVariants.{Whole}
use Rattle.b1_text.specs.declared.statement.Statement.{Statement}
use Rattle.b1_text.specs.Texts.{statement_text, line_text}
use Rattle.b1_text.specs.Accepted.{IsAccepted, CanGoOn, IsLine, AreLines, IsFault, BreaksAt, line, last_line, cut}
use Rattle.b1_text.specs.Drafts.{Fits, step, IsNext}
use Rattle.b1_text_words.specs.Words.{Reads, Begins}
use Rattle.b1_text.specs.Progress.{Makes, Leads, LeadsTo, IsFirstLine, Answers}
use Rattle.b1_text.proofs.Fitting.{all_at}
use Rattle.b1_text.proofs.Follow.{are_lines, good, goes_on, wrong, wrong_end, makes_more, whole_of, text_of}

-- ---- one more line

leads_some : (d : Draft) (word : List ℕ) (s : Statement) (e : Draft) → Reads statement_text Fits word (Some s) → step d s ≡ Some e → Leads d word e
leads_some d word s e says h =
    record { statement = s; fits = says.found.0; same = says.found.1; goes_on = h; only = λ t fits same. let both : Some s ≡ Some t = says.whole t fits same in (cc) }

leads_none : (d : Draft) (word : List ℕ) (s : Statement) → Reads statement_text Fits word (Some s) → step d s ≡ None → ¬ IsNext d word
leads_none d word s says h n =
    let both : Some s ≡ Some n.statement = says.whole n.statement n.fits n.same in
    let same : n.statement ≡ s = cc in
    let goes : IsSome (step d s) = subst (λ (t : Statement). IsSome (step d t)) same n.goes_on in
    let none = subst (λ (r : Option Draft). IsSome r) h goes in
    cc

pub leads : (d : Draft) (word : List ℕ) (s : Statement) (r : Option Draft) → Reads statement_text Fits word (Some s) → r ≡ step d s → LeadsTo d word r
leads d word s None says h = leads_none d word s says (sym h)
leads d word s (Some e) says h = leads_some d word s e says (sym h)

pub leads_nowhere : (d : Draft) (word : List ℕ) → Reads statement_text Fits word None → LeadsTo d word None
leads_nowhere d word says n = let none : None ≡ Some n.statement = says.whole n.statement n.fits n.same in cc

-- ---- places

made_lines : (bytes : List ℕ) (d : Draft) → Makes bytes d → AreLines bytes
made_lines bytes d m = subst (λ (x : List ℕ). AreLines x) (sym m.spelled) (are_lines m.read)

front_len : (at : ℕ) (bytes : List ℕ) → at ≤ length bytes → at ≡ length (take at bytes)
front_len at bytes within = omega (arith, length-take at bytes)

-- the bytes up to the end of a line
pub line_taken : (bytes word : List ℕ) (at end : ℕ) → at ≤ length bytes → IsFirstLine bytes at word end → take end bytes ≡ take at bytes ++ word ++ 10 ∷ []
line_taken bytes word at end within first =
    let parts : take at bytes ++ word ++ 10 ∷ [] ++ drop end bytes ≡ bytes
    = append_assoc (take at bytes ++ word) (10 ∷ []) (drop end bytes) ∙ append_assoc (take at bytes) word (10 ∷ drop end bytes) ∙ ap (λ (x : List ℕ). take at bytes ++ x) (sym first.split) ∙ take-append-drop at bytes in
    let a = length-append (take at bytes ++ word) (10 ∷ []) in
    let b = length-append (take at bytes) word in
    let len : length (take at bytes ++ word ++ 10 ∷ []) ≡ end = omega (arith, a, b, front_len at bytes within, first.ends) in
    ap (λ (x : List ℕ). take end x) (sym parts) ∙ take_at (take at bytes ++ word ++ 10 ∷ []) (drop end bytes) end len

pub made_line : (bytes word : List ℕ) (at end : ℕ) (d e : Draft) → at ≤ length bytes → IsFirstLine bytes at word end → Makes (take at bytes) d → Leads d word e → Makes (take end bytes) e
made_line bytes word at end d e within first m l =
    subst (λ (x : List ℕ). Makes x e) (sym (line_taken bytes word at end within first)) (makes_more (take at bytes) word d e m first.unbroken l)

-- ---- faults

pub cut_break : (bytes : List ℕ) (d : Draft) (at : ℕ) → Makes bytes d → ((s : Script) → d ≡ Whole s → ⊥) → at ≡ length bytes → BreaksAt bytes at
cut_break bytes d at m not_whole end = cut (record { good = good bytes d m; short = λ a. not_whole a.0 (whole_of bytes d a.0 m a.1) }) end

pub cut_fault : (bytes : List ℕ) (d : Draft) (at : ℕ) → Makes bytes d → ((s : Script) → d ≡ Whole s → ⊥) → at ≡ length bytes → length bytes ≤ MOST_TEXT → IsFault bytes (Bad at Line)
cut_fault bytes d at m not_whole end short = (cut_break bytes d at m not_whole end, short)

pub wrong_break : (bytes word : List ℕ) (at end : ℕ) (d : Draft) → at ≤ length bytes → IsFirstLine bytes at word end → Makes (take at bytes) d → ¬ IsNext d word → BreaksAt bytes at
wrong_break bytes word at end d within first m none =
    let split : bytes ≡ take at bytes ++ word ++ 10 ∷ drop end bytes
    = sym (take-append-drop at bytes) ∙ ap (λ (x : List ℕ). take at bytes ++ x) first.split ∙ sym (append_assoc (take at bytes) word (10 ∷ drop end bytes)) in
    line (take at bytes) word (drop end bytes) (record {
      split = split;
      lines = made_lines (take at bytes) d m;
      unbroken = first.unbroken;
      good = good (take at bytes) d m;
      wrong = wrong (take at bytes) word d m first.unbroken none;
    }) (front_len at bytes within)

pub wrong_fault : (bytes word : List ℕ) (at end : ℕ) (d : Draft) → at ≤ length bytes → IsFirstLine bytes at word end → Makes (take at bytes) d → ¬ IsNext d word → length bytes ≤ MOST_TEXT → IsFault bytes (Bad at Line)
wrong_fault bytes word at end d within first m none short = (wrong_break bytes word at end d within first m none, short)

no_line : (x y : List ℕ) → IsLine (x ++ 10 ∷ y) → ⊥
no_line x y h = all_at (λ b. b ≢ 10) x y 10 h refl

not_lines : (word : List ℕ) (more : List Statement) → IsLine word → word ≢ [] → word ≡ flat_map line_text more → ⊥
not_lines word [] h some e = some e
not_lines word (i ∷ more) h some e =
    let same : word ≡ statement_text i ++ 10 ∷ flat_map line_text more = e ∙ append_assoc (statement_text i) (10 ∷ []) (flat_map line_text more) in
    no_line (statement_text i) (flat_map line_text more) (subst (λ (x : List ℕ). IsLine x) same h)

unfinished : (bytes word : List ℕ) (d : Draft) → Makes bytes d → IsLine word → word ≢ [] → ¬ IsAccepted (bytes ++ word)
unfinished bytes word d m h some a = let g = m.only word a.0 a.1 in not_lines word g.more h some g.spelled

some_left : (bytes : List ℕ) (at : ℕ) → at < length bytes → drop at bytes ≢ []
some_left bytes at less e = let n : length (drop at bytes) ≡ 0 = ap (λ (x : List ℕ). length x) e in omega (arith, n, length-drop at bytes)

pub unfinished_break : (bytes : List ℕ) (at : ℕ) (d : Draft) → at < length bytes → IsLine (drop at bytes) → Makes (take at bytes) d → Begins (IsNext d) (drop at bytes) → BreaksAt bytes (length bytes)
unfinished_break bytes at d less unbroken m can =
    let whole = take-append-drop at bytes in
    cut (record {
      good = subst (λ (x : List ℕ). CanGoOn x) whole (goes_on (take at bytes) (drop at bytes) d m can);
      short = subst (λ (x : List ℕ). ¬ IsAccepted x) whole (unfinished (take at bytes) (drop at bytes) d m unbroken (some_left bytes at less));
    }) refl

pub unfinished_fault : (bytes : List ℕ) (at : ℕ) (d : Draft) → at < length bytes → IsLine (drop at bytes) → Makes (take at bytes) d → Begins (IsNext d) (drop at bytes) → length bytes ≤ MOST_TEXT → IsFault bytes (Bad (length bytes) Line)
unfinished_fault bytes at d less unbroken m can short = (unfinished_break bytes at d less unbroken m can, short)

pub wrong_end_break : (bytes : List ℕ) (at : ℕ) (d : Draft) → at < length bytes → IsLine (drop at bytes) → Makes (take at bytes) d → ¬ Begins (IsNext d) (drop at bytes) → BreaksAt bytes at
wrong_end_break bytes at d less unbroken m none =
    let whole = take-append-drop at bytes in
    last_line (take at bytes) (drop at bytes) (record {
      split = sym whole;
      lines = made_lines (take at bytes) d m;
      unbroken = unbroken;
      some = some_left bytes at less;
      good = good (take at bytes) d m;
      wrong = subst (λ (x : List ℕ). ¬ CanGoOn x) whole (wrong_end (take at bytes) (drop at bytes) d m unbroken (some_left bytes at less) none);
    }) (front_len at bytes (omega (arith, less)))

pub wrong_end_fault : (bytes : List ℕ) (at : ℕ) (d : Draft) → at < length bytes → IsLine (drop at bytes) → Makes (take at bytes) d → ¬ Begins (IsNext d) (drop at bytes) → length bytes ≤ MOST_TEXT → IsFault bytes (Bad at Line)
wrong_end_fault bytes at d less unbroken m none short = (wrong_end_break bytes at d less unbroken m none, short)

-- ---- the answer

pub whole_answer : (bytes : List ℕ) (s : Script) → Makes bytes (Whole s) → Answers bytes (Ok s)
whole_answer bytes s m = (text_of bytes s m, λ t is. let same : Whole s ≡ Whole t = whole_of bytes (Whole s) t m is in (cc))

-- ---- the first line

pub first_of : (bytes word rest : List ℕ) (at end : ℕ) → at ≤ length bytes → IsLine word → drop at bytes ≡ word ++ 10 ∷ rest → end ≡ at + length word + 1 → IsFirstLine bytes at word end
first_of bytes word rest at end within unbroken split ends =
    let parts : take at bytes ++ word ++ 10 ∷ [] ++ rest ≡ bytes
    = append_assoc (take at bytes ++ word) (10 ∷ []) rest ∙ append_assoc (take at bytes) word (10 ∷ rest) ∙ ap (λ (x : List ℕ). take at bytes ++ x) (sym split) ∙ take-append-drop at bytes in
    let a = length-append (take at bytes ++ word) (10 ∷ []) in
    let b = length-append (take at bytes) word in
    let len : length (take at bytes ++ word ++ 10 ∷ []) ≡ end = omega (arith, a, b, front_len at bytes within, ends) in
    let all = ap (λ (x : List ℕ). length x) parts ∙ refl in
    let more = length-append (take at bytes ++ word ++ 10 ∷ []) rest in
    let dropped : drop end bytes ≡ rest = ap (λ (x : List ℕ). drop end x) (sym parts) ∙ drop_at (take at bytes ++ word ++ 10 ∷ []) rest end len in
    record { unbroken = unbroken; split = split ∙ ap (λ (x : List ℕ). word ++ 10 ∷ x) (sym dropped); ends = ends; within = omega (arith, all, more, len) }

-- the bytes from a place on, as a slice of them to the end
pub rest_of : (bytes : List ℕ) (at : ℕ) → take (length bytes - at) (drop at bytes) ≡ drop at bytes
rest_of bytes at = take_all (length bytes - at) (drop at bytes) (omega (arith, length-drop at bytes))
