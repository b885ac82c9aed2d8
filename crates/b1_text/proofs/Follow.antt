-- Reading one line more, and the end of the text.
use Rattle.std.proofs.Common.{◌≡◌, ◌≢◌, ℕ, List, [], ◌∷◌, ◌++◌, Option, Some, None, IsSome, inl, inr, refl, sym, ap, subst, ◌∙◌, append_assoc}
use Rattle.std.specs.List.{flat_map, AllByRecursion}
use Rattle.std.proofs.lemmas.Grind.{flat_map-append}
use Rattle.std.proofs.lemmas.List.{append-nil}
use Rattle.b1_script.specs.declared.script.Script.{Script}
use Rattle.b1_text.specs.declared.draft.Draft.{Draft}
use Rattle.b1_text.specs.declared.draft.Draft.TheVariants.{Empty, Whole}
use Rattle.b1_text.specs.declared.statement.Statement.{Statement}
use Rattle.b1_text.specs.Texts.{statement_text, line_text, statements, script_text}
use Rattle.b1_text.specs.Accepted.{IsWritable, IsText, CanGoOn, IsLine, AreLines}
use Rattle.b1_text.specs.Drafts.{Fits, step, run, IsNext}
use Rattle.b1_text_words.specs.Words.{Begins}
use Rattle.b1_text.specs.Progress.{Makes, Leads}
use Rattle.b1_text.proofs.Runs.{run-append, run-none, whole_run}
use Rattle.b1_text.proofs.Made.{IsMade, Completion, made_step, made_all, complete}
use Rattle.b1_text.proofs.Fitting.{all_both, all_at, statements_fit, statement_clean}

-- ---- lines

pub split_same : (x y a b : List ℕ) → IsLine x → IsLine y → x ++ 10 ∷ a ≡ y ++ 10 ∷ b → (x ≡ y) × (a ≡ b)
split_same [] [] a b hx hy e = let same : a ≡ b = cc in (refl, same)
split_same [] (c ∷ y) a b hx hy e = let same : c ≡ 10 = cc in absurd (hy.0 same)
split_same (c ∷ x) [] a b hx hy e = let same : c ≡ 10 = cc in absurd (hx.0 same)
split_same (c ∷ x) (d ∷ y) a b hx hy e =
    let first : c ≡ d = cc in
    let rest : x ++ 10 ∷ a ≡ y ++ 10 ∷ b = cc in
    let i = split_same x y a b hx.1 hy.1 rest in
    let xs : c ∷ x ≡ d ∷ y = ap (λ (z : ℕ). z ∷ x) first ∙ ap (λ (z : List ℕ). d ∷ z) i.0 in
    (xs, i.1)

prefix_line : (x y rest b : List ℕ) → IsLine x → x ++ rest ≡ y ++ 10 ∷ b → (t : List ℕ) × (y ≡ x ++ t)
prefix_line [] y rest b hx e = (y, refl)
prefix_line (c ∷ x) [] rest b hx e = let same : c ≡ 10 = cc in absurd (hx.0 same)
prefix_line (c ∷ x) (d ∷ y) rest b hx e =
    let first : d ≡ c = cc in
    let others : x ++ rest ≡ y ++ 10 ∷ b = cc in
    let i = prefix_line x y rest b hx.1 others in
    let ys : d ∷ y ≡ c ∷ (x ++ i.0) = ap (λ (z : ℕ). z ∷ y) first ∙ ap (λ (z : List ℕ). c ∷ z) i.1 in
    (i.0, ys)

pub not_empty : (x y : List ℕ) → x ++ 10 ∷ y ≡ [] → ⊥
not_empty [] y e = cc
not_empty (c ∷ x) y e = cc

front_empty : (x y : List ℕ) → x ++ y ≡ [] → x ≡ []
front_empty [] y e = refl
front_empty (c ∷ x) y e = absurd cc

pub are_lines : (ss : List Statement) → AreLines (flat_map line_text ss)
are_lines [] = inl refl
are_lines (s ∷ ss) =
    elim (are_lines ss) [
      | inl e ↦ inr (statement_text s, ap (λ (x : List ℕ). line_text s ++ x) e ∙ append-nil (line_text s))
      | inr e ↦ inr (line_text s ++ e.0, ap (λ (x : List ℕ). line_text s ++ x) e.1 ∙ sym (append_assoc (line_text s) e.0 (10 ∷ [])))
    ]

-- ---- what a draft says

pub nothing_made : Makes [] Empty
nothing_made = record { read = []; spelled = refl; fits = tt; made = refl; only = λ left s t. record { more = statements s; whole = refl; spelled = t.spelled } }

pub start_made : (d : Draft) → Some Empty ≡ Some d → IsMade d []
start_made d e = let same : Empty ≡ d = cc in subst (λ (x : Draft). IsMade x []) same refl

pub is_made : (bytes : List ℕ) (d : Draft) (m : Makes bytes d) → IsMade d m.read
is_made bytes d m = made_all m.read [] (Some Empty) d start_made m.fits m.made

completed : (bytes : List ℕ) (read : List Statement) → bytes ≡ flat_map line_text read → Completion read → CanGoOn bytes
completed bytes read spelled c =
    let text : bytes ++ flat_map line_text c.more ≡ script_text c.script
    = ap (λ (x : List ℕ). x ++ flat_map line_text c.more) spelled ∙ sym (flat_map-append line_text read c.more) ∙ ap (λ (x : List Statement). flat_map line_text x) c.finished.lines in
    (flat_map line_text c.more, (c.script, record { writable = c.finished.writable; spelled = text }))

pub good : (bytes : List ℕ) (d : Draft) → Makes bytes d → CanGoOn bytes
good bytes d m = completed bytes m.read m.spelled (complete d m.read (is_made bytes d m))

pub shorter : (a b : List ℕ) → CanGoOn (a ++ b) → CanGoOn a
shorter a b g = (b ++ g.0, (g.1.0, record { writable = g.1.1.writable; spelled = sym (append_assoc a b g.0) ∙ g.1.1.spelled }))

-- the lines behind one more statement
line_more : (bytes line : List ℕ) (read : List Statement) (s : Statement) → bytes ≡ flat_map line_text read → line ≡ statement_text s → bytes ++ line ++ 10 ∷ [] ≡ flat_map line_text (read ++ s ∷ [])
line_more bytes line read s spelled same =
    append_assoc bytes line (10 ∷ [])
    ∙ ap (λ (x : List ℕ). x ++ (line ++ 10 ∷ [])) spelled ∙ ap (λ (x : List ℕ). flat_map line_text read ++ (x ++ 10 ∷ [])) same
    ∙ ap (λ (x : List ℕ). flat_map line_text read ++ x) (sym (append-nil (line_text s))) ∙ sym (flat_map-append line_text read (s ∷ []))

goes_on_to : (bytes line rest : List ℕ) (d : Draft) (s : Statement) (r : Option Draft) → Makes bytes d → Fits s → line ++ rest ≡ statement_text s → step d s ≡ r → IsSome r → CanGoOn (bytes ++ line)
goes_on_to bytes line rest d s None m fits same leads some = absurd cc
goes_on_to bytes line rest d s (Some e) m fits same leads some =
    let made = made_step d s e m.read (is_made bytes d m) fits leads in
    let text : bytes ++ line ++ (rest ++ 10 ∷ []) ≡ bytes ++ (line ++ rest) ++ 10 ∷ []
    = append_assoc bytes line (rest ++ 10 ∷ []) ∙ ap (λ (x : List ℕ). bytes ++ x) (sym (append_assoc line rest (10 ∷ []))) ∙ sym (append_assoc bytes (line ++ rest) (10 ∷ [])) in
    shorter (bytes ++ line) (rest ++ 10 ∷ []) (completed (bytes ++ line ++ (rest ++ 10 ∷ [])) (m.read ++ s ∷ []) (text ∙ line_more bytes (line ++ rest) m.read s m.spelled same) (complete e (m.read ++ s ∷ []) made))

-- what can become a next line can go on
pub goes_on : (bytes line : List ℕ) (d : Draft) → Makes bytes d → Begins (IsNext d) line → CanGoOn (bytes ++ line)
goes_on bytes line d m c = goes_on_to bytes line c.rest d c.whole.statement (step d c.whole.statement) m c.whole.fits c.whole.same refl c.whole.goes_on

-- ---- what an accepted text says next

-- the next statement of a script whose text begins with the bytes
record Follows (read : List Statement) (d : Draft) (s : Script) (i : Statement) (more : List Statement) : Type 0 where
  whole : statements s ≡ read ++ i ∷ more
  fits : Fits i
  goes_on : IsSome (step d i)

some_of : (r : Option Draft) (e : Draft) (ss : List Statement) → run r ss ≡ Some e → IsSome r
some_of None e ss h = let none = run-none ss in absurd cc
some_of (Some d) e ss h = refl

follows : (bytes : List ℕ) (d : Draft) (s : Script) (i : Statement) (more : List Statement) (m : Makes bytes d) → IsWritable s → statements s ≡ m.read ++ i ∷ more → Follows m.read d s i more
follows bytes d s i more m is whole =
    let all = subst (λ (x : List Statement). AllByRecursion Fits x) whole (statements_fit s is) in
    let ran : run (step d i) more ≡ Some (Whole s)
    = sym (ap (λ (r : Option Draft). run r (i ∷ more)) m.made) ∙ sym (run-append m.read (i ∷ more) (Some Empty)) ∙ sym (ap (λ (x : List Statement). run (Some Empty) x) whole) ∙ whole_run s is.has_spelling in
    record { whole = whole; fits = all_at Fits m.read more i all; goes_on = some_of (step d i) (Whole s) more ran }

-- an accepted text that goes on with a line
record Next (read : List Statement) (d : Draft) (line left : List ℕ) (s : Script) : Type 0 where
  statement : Statement
  more : List Statement
  follows : Follows read d s statement more
  same : line ≡ statement_text statement
  rest : left ≡ flat_map line_text more

next_of : (bytes line left : List ℕ) (d : Draft) (s : Script) (m : Makes bytes d) (more : List Statement) → IsLine line → IsWritable s → statements s ≡ m.read ++ more → line ++ 10 ∷ left ≡ flat_map line_text more → Next m.read d line left s
next_of bytes line left d s m [] unbroken is whole spelled = absurd (not_empty line left spelled)
next_of bytes line left d s m (i ∷ more) unbroken is whole spelled =
    let f = follows bytes d s i more m is whole in
    let parts : line ++ 10 ∷ left ≡ statement_text i ++ 10 ∷ flat_map line_text more = spelled ∙ append_assoc (statement_text i) (10 ∷ []) (flat_map line_text more) in
    let split = split_same line (statement_text i) left (flat_map line_text more) unbroken (statement_clean i f.fits) parts in
    record { statement = i; more = more; follows = f; same = split.0; rest = split.1 }

regroup : (bytes line left : List ℕ) → bytes ++ line ++ 10 ∷ [] ++ left ≡ bytes ++ (line ++ 10 ∷ left)
regroup bytes line left = append_assoc (bytes ++ line) (10 ∷ []) left ∙ append_assoc bytes line (10 ∷ left)

next_in : (bytes line left : List ℕ) (d : Draft) (s : Script) (m : Makes bytes d) → IsLine line → IsText (bytes ++ line ++ 10 ∷ [] ++ left) s → Next m.read d line left s
next_in bytes line left d s m unbroken t =
    let same : IsText (bytes ++ (line ++ 10 ∷ left)) s = record { writable = t.writable; spelled = sym (regroup bytes line left) ∙ t.spelled } in
    let g = m.only (line ++ 10 ∷ left) s same in
    next_of bytes line left d s m g.more unbroken t.writable g.whole g.spelled

pub wrong : (bytes line : List ℕ) (d : Draft) → Makes bytes d → IsLine line → ¬ IsNext d line → ¬ CanGoOn (bytes ++ line ++ 10 ∷ [])
wrong bytes line d m unbroken none g =
    let n = next_in bytes line g.0 d g.1.0 m unbroken g.1.1 in
    none (record { statement = n.statement; fits = n.follows.fits; same = n.same; goes_on = n.follows.goes_on })

pub makes_more : (bytes line : List ℕ) (d e : Draft) → Makes bytes d → IsLine line → Leads d line e → Makes (bytes ++ line ++ 10 ∷ []) e
makes_more bytes line d e m unbroken l =
    record {
      read = m.read ++ l.statement ∷ [];
      spelled = line_more bytes line m.read l.statement m.spelled l.same;
      fits = all_both Fits m.read (l.statement ∷ []) m.fits (l.fits, tt);
      made = run-append m.read (l.statement ∷ []) (Some Empty) ∙ ap (λ (r : Option Draft). run r (l.statement ∷ [])) m.made ∙ l.goes_on;
      only = λ left s t.
          let n = next_in bytes line left d s m unbroken t in
          let is : n.statement ≡ l.statement = l.only n.statement n.follows.fits n.same in
          record { more = n.more; whole = n.follows.whole ∙ ap (λ (i : Statement). m.read ++ i ∷ n.more) is ∙ sym (append_assoc m.read (l.statement ∷ []) n.more); spelled = n.rest };
    }

becomes : (bytes line rest : List ℕ) (d : Draft) (s : Script) (m : Makes bytes d) (more : List Statement) → IsLine line → line ≢ [] → IsWritable s → statements s ≡ m.read ++ more → line ++ rest ≡ flat_map line_text more → Begins (IsNext d) line
becomes bytes line rest d s m [] unbroken some is whole spelled = absurd (some (front_empty line rest spelled))
becomes bytes line rest d s m (i ∷ more) unbroken some is whole spelled =
    let f = follows bytes d s i more m is whole in
    let parts : line ++ rest ≡ statement_text i ++ 10 ∷ flat_map line_text more = spelled ∙ append_assoc (statement_text i) (10 ∷ []) (flat_map line_text more) in
    let p = prefix_line line (statement_text i) rest (flat_map line_text more) unbroken parts in
    record { rest = p.0; whole = record { statement = i; fits = f.fits; same = sym p.1; goes_on = f.goes_on } }

pub wrong_end : (bytes line : List ℕ) (d : Draft) → Makes bytes d → IsLine line → line ≢ [] → ¬ Begins (IsNext d) line → ¬ CanGoOn (bytes ++ line)
wrong_end bytes line d m unbroken some none g =
    let s : Script = g.1.0 in
    let same : IsText (bytes ++ (line ++ g.0)) s = record { writable = g.1.1.writable; spelled = sym (append_assoc bytes line g.0) ∙ g.1.1.spelled } in
    let o = m.only (line ++ g.0) s same in
    none (becomes bytes line g.0 d s m o.more unbroken some same.writable o.whole o.spelled)

-- ---- the end

nothing_left : (more : List Statement) → [] ≡ flat_map line_text more → more ≡ []
nothing_left [] e = refl
nothing_left (i ∷ more) e = absurd (not_empty (statement_text i) (flat_map line_text more) (sym (e ∙ append_assoc (statement_text i) (10 ∷ []) (flat_map line_text more))))

pub whole_of : (bytes : List ℕ) (d : Draft) (s : Script) → Makes bytes d → IsText bytes s → d ≡ Whole s
whole_of bytes d s m t =
    let same : IsText (bytes ++ []) s = record { writable = t.writable; spelled = append-nil bytes ∙ t.spelled } in
    let g = m.only [] s same in
    let read : statements s ≡ m.read = g.whole ∙ ap (λ (x : List Statement). m.read ++ x) (nothing_left g.more g.spelled) ∙ append-nil m.read in
    let ran : Some d ≡ Some (Whole s) = sym m.made ∙ ap (λ (x : List Statement). run (Some Empty) x) (sym read) ∙ whole_run s t.writable.has_spelling in
    cc

pub text_of : (bytes : List ℕ) (s : Script) → Makes bytes (Whole s) → IsText bytes s
text_of bytes s m =
    let f = is_made bytes (Whole s) m in
    record { writable = f.writable; spelled = m.spelled ∙ ap (λ (x : List Statement). flat_map line_text x) f.lines }
