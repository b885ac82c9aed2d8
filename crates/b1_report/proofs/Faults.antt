-- Where lines stop being those of a report.
use Rattle.std.proofs.Common.{◌≡◌, ℕ, ◌+◌, ◌-◌, ◌^◌, ◌<◌, ◌≤◌, Bool, true, false, cond, eqb, List, [], ◌∷◌, ◌++◌, length, take, drop, Some, None, Result, Ok, Err, refl, sym, ap, subst, ◌∙◌, arith, inl, inr}
use Rattle.std.proofs.lemmas.List.{append_assoc, append-nil, length-append, take_at, drop_at, take-append-drop}
use Rattle.b1_errs.specs.declared.Cause.TheVariants as cause
use Rattle.b1_errs.specs.declared.NotRead.{NotRead}
use Rattle.b1_errs.specs.declared.NotRead.TheVariants as not_read
use Rattle.b1_model.specs.declared.records.Record.{Record}
use Rattle.b1_report_lines.specs.declared.lines.Line.{Line}
use Rattle.b1_report_lines.specs.declared.lines.Line.TheVariants as line
use Rattle.b1_report_lines.specs.declared.lines.Place.{Place}
use Rattle.b1_report_lines.specs.declared.lines.Place.TheVariants as place
use Rattle.b1_report_lines.specs.declared.unread.Stop.TheVariants.{Cut, Broken}
use Rattle.b1_report_lines.specs.declared.unread.Unread.{Unread}
use Rattle.b1_report_lines.specs.declared.unread.Unread.TheVariants as unread
use Rattle.b1_report_lines.specs.Lines.{Cookies, line_text, next_place, MayStand, IsLineText, IsOnlyLine, BeginLine, TellsLine}
use Rattle.b1_report_lines.specs.Reading.{split_once}
use Rattle.b1_report_lines.proofs.FreeLines.{line_in_line}
use Rattle.b1_report_lines.proofs.Splitting.{IsFree, free_tail, split_found}
use Rattle.b1_report.specs.declared.drafts.Draft.{Draft}
use Rattle.b1_report.specs.Parsing.{IsReport, CanGoOn, AreLines, first_line, LineBreaks, IsFault, TellsFault, WasRead}
use Rattle.b1_report.specs.Runs.{IsRun, run_text, AreAllLines, CanFollow, TellsUnfinished, IsDrafted, cut_short, drafted, line_fault, gathered}
use Rattle.b1_report.proofs.LineRuns.{IsTail, calls_at, next_is_place, run_place, run_calls, run_more, text_more, tail_behind, text_behind, complete, halves, not_nil, cancel}
use Rattle.b1_report.proofs.Gathering.{all_lines, lines_of_report, all_gathered, report_of_lines, none_behind}

-- what a loop over the lines has so far
pub record SoFar (cookies : Cookies) (peers : ℕ) (bytes : List ℕ) (ls : List Line) (spot : Place) (left : List ℕ) : Type 0 where
  pub run : IsRun cookies peers place.Header ls spot
  pub same : bytes ≡ run_text cookies peers place.Header ls ++ left

-- ---- first lines

pub first_whole : (text rest : List ℕ) → IsFree 10 text → first_line (text ++ 10 ∷ rest) ≡ text ++ 10 ∷ []
first_whole [] rest h = refl
first_whole (b ∷ bs) rest h =
    let t = free_tail 10 b bs h in
    rw (t.0, first_whole bs rest t.1) refl

pub first_all : (text : List ℕ) → IsFree 10 text → first_line text ≡ text
first_all [] h = refl
first_all (b ∷ bs) h =
    let t = free_tail 10 b bs h in
    rw (t.0, first_all bs t.1) refl

abbrev Behind : List ℕ → Type 0
Behind bytes = (rest : List ℕ) × (bytes ≡ first_line bytes ++ rest)

pub first_front : (bytes : List ℕ) → Behind bytes
first_front [] = ([], refl)
first_front (b ∷ bs) = at (first_front bs) (eqb b 10) where
  at : Behind bs → (v : Bool) → (rest : List ℕ) × (b ∷ bs ≡ cond v (b ∷ []) (b ∷ first_line bs) ++ rest)
  at f true = (bs, refl)
  at f false = (f.0, ap (λ (r : List ℕ). b ∷ r) f.1)

lines_front : (x y : List ℕ) → AreLines y → AreLines (x ++ 10 ∷ y)
lines_front x y (inl e) = inr (x, ap (λ (r : List ℕ). x ++ 10 ∷ r) e)
lines_front x y (inr e) = inr (x ++ 10 ∷ e.0, ap (λ (r : List ℕ). x ++ 10 ∷ r) e.1 ∙ sym (append_assoc x (10 ∷ e.0) (10 ∷ [])))

run_lines : (cookies : Cookies) (peers : ℕ) (ls : List Line) (spot : Place) → AreLines (run_text cookies peers spot ls)
run_lines cookies peers [] spot = inl refl
run_lines cookies peers (l ∷ ls) spot = lines_front (line_text cookies peers spot l) (run_text cookies peers (next_place spot l) ls) (run_lines cookies peers ls (next_place spot l))

-- what has no line feed, at the front of what has one, is at the front of the first line
free_front : (a x b y : List ℕ) → IsFree 10 b → a ++ 10 ∷ x ≡ b ++ y → (t : List ℕ) × (a ≡ b ++ t)
free_front a x [] y h e = (a, refl)
free_front [] x (b ∷ bs) y h e =
    let t = free_tail 10 b bs h in
    let first : 10 ≡ b = cc in
    let is : eqb 10 10 ≡ false = ap (λ (n : ℕ). eqb n 10) first ∙ t.0 in
    absurd cc
free_front (c ∷ cs) x (b ∷ bs) y h e =
    let t = free_tail 10 b bs h in
    let first : c ≡ b = cc in
    let others : cs ++ 10 ∷ x ≡ bs ++ y = cc in
    let more = free_front cs x bs y t.1 others in
    (more.0, ap (λ (n : ℕ). n ∷ cs) first ∙ ap (λ (r : List ℕ). b ∷ r) more.1)

-- ---- what has been read can go on

abbrev taken : Cookies → ℕ → List Line → List ℕ
taken cookies peers ls = run_text cookies peers place.Header ls

-- with some more lines, to the end
goes_on : (cookies : Cookies) (peers : ℕ) (ls ms : List Line) (spot : Place) (bytes rest : List ℕ) → IsRun cookies peers place.Header ls spot → IsTail cookies peers spot ms → bytes ++ rest ≡ taken cookies peers ls ++ run_text cookies peers spot ms → CanGoOn cookies peers bytes
goes_on cookies peers ls ms spot bytes rest run tail e =
    let g = report_of_lines cookies peers (ls ++ ms) (tail_behind cookies peers ls ms place.Header spot run tail) in
    record {
      rest = rest;
      rec = record { peers = gathered (ls ++ ms) };
      whole = subst (λ (x : List ℕ). IsReport cookies peers x (record { peers = gathered (ls ++ ms) })) (text_behind cookies peers ls ms place.Header spot run ∙ sym e) g.1;
    }

taken_goes_on : (cookies : Cookies) (peers : ℕ) (ls : List Line) (spot : Place) → IsRun cookies peers place.Header ls spot → CanGoOn cookies peers (taken cookies peers ls)
taken_goes_on cookies peers ls spot run =
    let c = complete cookies peers spot (run_place cookies peers ls place.Header spot run tt) in
    goes_on cookies peers ls c.0 spot (taken cookies peers ls) (run_text cookies peers spot c.0) run c.1 refl

-- what follows in a report
abbrev Follows : Cookies → ℕ → Place → List ℕ → Type 0
Follows cookies peers spot t = (rest : List Line) × (IsTail cookies peers spot rest × (run_text cookies peers spot rest ≡ t))

follows : (cookies : Cookies) (peers : ℕ) → peers < 2 ^ 32 → (ls : List Line) (spot : Place) (t : List ℕ) (rec : Record) → IsRun cookies peers place.Header ls spot → IsReport cookies peers (taken cookies peers ls ++ t) rec → Follows cookies peers spot t
follows cookies peers lt ls spot t rec run h =
    let l = lines_of_report cookies peers (taken cookies peers ls ++ t) rec h in
    let c = cancel cookies peers lt ls (all_lines rec.peers) place.Header spot t run l.0 (sym l.1) in
    (c.0, (c.1.1, c.1.2))

-- ---- a whole line that is none

no_line : (cookies : Cookies) (peers : ℕ) → peers < 2 ^ 32 → (spot : Place) (text t : List ℕ) → IsFree 10 text → ((l : Line) → ¬ (IsLineText cookies peers spot text l)) → Follows cookies peers spot ((text ++ 10 ∷ []) ++ t) → ⊥
no_line cookies peers lt spot text t free none (rest, h) = at rest h.0 h.1 where
  at : (rest : List Line) → IsTail cookies peers spot rest → run_text cookies peers spot rest ≡ (text ++ 10 ∷ []) ++ t → ⊥
  at [] tail e = not_nil text [] t e
  at (m ∷ ms) tail e =
      let cut = halves (line_text cookies peers spot m) (run_text cookies peers (next_place spot m) ms) text t (line_in_line cookies peers spot m lt tail.0) free (e ∙ append_assoc text (10 ∷ []) t) in
      none m (record { may = tail.0; spelled = sym cut.0 })

module _ (cookies : Cookies) (peers : ℕ) (lt : peers < 2 ^ 32) (bytes : List ℕ) (ls : List Line) (spot : Place) (left : List ℕ) (so_far : SoFar cookies peers bytes ls spot left) where
  abbrev here : ℕ
  here = length (taken cookies peers ls)

  pub here_is : length bytes - length left ≡ here
  here_is = omega (arith, ap (λ (x : List ℕ). length x) so_far.same, length-append (taken cookies peers ls) left)

  pub left_fits : length left ≤ length bytes
  left_fits = omega (arith, ap (λ (x : List ℕ). length x) so_far.same, length-append (taken cookies peers ls) left)

  front_is : take here bytes ≡ taken cookies peers ls
  front_is = ap (λ (x : List ℕ). take here x) so_far.same ∙ take_at (taken cookies peers ls) left here refl

  left_is : drop here bytes ≡ left
  left_is = ap (λ (x : List ℕ). drop here x) so_far.same ∙ drop_at (taken cookies peers ls) left here refl

  breaks : (front : List ℕ) → 0 < length left → first_line left ≡ front → (CanGoOn cookies peers (taken cookies peers ls ++ front) → ⊥) → LineBreaks cookies peers bytes here
  breaks front some first none = record {
    there = omega (arith, some, ap (λ (x : List ℕ). length x) so_far.same, length-append (taken cookies peers ls) left);
    lines = subst AreLines (sym front_is) (run_lines cookies peers ls place.Header);
    before = subst (CanGoOn cookies peers) (sym front_is) (taken_goes_on cookies peers ls spot so_far.run);
    broken = λ k. none (subst (CanGoOn cookies peers) (ap (λ (x : List ℕ). x ++ first_line (drop here bytes)) front_is ∙ ap (λ (x : List ℕ). taken cookies peers ls ++ first_line x) left_is ∙ ap (λ (x : List ℕ). taken cookies peers ls ++ x) first) k);
  }

  at_here : (at : ℕ) → at ≡ length bytes - length left → IsFault cookies peers bytes here → IsFault cookies peers bytes at
  at_here at e h = subst (IsFault cookies peers bytes) (sym (e ∙ here_is)) h

  pub whole_line : (at : ℕ) (text rest : List ℕ) → at ≡ length bytes - length left → left ≡ text ++ 10 ∷ rest → IsFree 10 text → ((l : Line) → ¬ (IsLineText cookies peers spot text l)) → IsFault cookies peers bytes at
  whole_line at text rest e cut free none =
      let long : 0 < length left = omega (arith, ap (λ (x : List ℕ). length x) cut, length-append text (10 ∷ rest)) in
      at_here at e (inl (breaks (text ++ 10 ∷ []) long (ap first_line cut ∙ first_whole text rest free)
      (λ k. no_line cookies peers lt spot text k.rest free none (follows cookies peers lt ls spot ((text ++ 10 ∷ []) ++ k.rest) k.rec so_far.run (subst (λ (x : List ℕ). IsReport cookies peers x k.rec) (append_assoc (taken cookies peers ls) (text ++ 10 ∷ []) k.rest) k.whole)))))

  -- a last line that no line begins with
  empty_begins : (ms : List Line) → IsTail cookies peers spot ms → (spot ≡ place.Done → ⊥) → BeginLine cookies peers spot []
  empty_begins [] tail h = absurd (h tail)
  empty_begins (m ∷ ms) tail h = record { rest = line_text cookies peers spot m; next = m; whole = record { may = tail.0; spelled = refl } }

  some_left : (BeginLine cookies peers spot left → ⊥) → (spot ≡ place.Done → left ≡ [] → ⊥) → 0 < length left
  some_left none unended = at left refl where
    at : (xs : List ℕ) → left ≡ xs → 0 < length xs
    at [] e =
        let c = complete cookies peers spot (run_place cookies peers ls place.Header spot so_far.run tt) in
        absurd (none (subst (BeginLine cookies peers spot) (sym e) (empty_begins c.0 c.1 (λ k. unended k e))))
    at (x ∷ xs) e = omega arith

  no_begin : (t : List ℕ) → 0 < length left → IsFree 10 left → (BeginLine cookies peers spot left → ⊥) → Follows cookies peers spot (left ++ t) → ⊥
  no_begin t some free none (rest, h) = at rest h.0 h.1 where
    at : (rest : List Line) → IsTail cookies peers spot rest → run_text cookies peers spot rest ≡ left ++ t → ⊥
    at [] tail e = omega (arith, some, ap (λ (x : List ℕ). length x) e, length-append left t)
    at (m ∷ ms) tail e =
        let f = free_front (line_text cookies peers spot m) (run_text cookies peers (next_place spot m) ms) left t free e in
        none (record { rest = f.0; next = m; whole = record { may = tail.0; spelled = sym f.1 } })

  pub broken_end : (at : ℕ) → at ≡ length bytes - length left → IsFree 10 left → (spot ≡ place.Done → left ≡ [] → ⊥) → (BeginLine cookies peers spot left → ⊥) → IsFault cookies peers bytes at
  broken_end at e free unended none =
      let some : 0 < length left = some_left none unended in
      at_here at e (inl (breaks left some (first_all left free)
      (λ k. no_begin k.rest some free none (follows cookies peers lt ls spot (left ++ k.rest) k.rec so_far.run (subst (λ (x : List ℕ). IsReport cookies peers x k.rec) (append_assoc (taken cookies peers ls) left k.rest) k.whole)))))

  -- a last line that some line begins with
  begun_goes_on : BeginLine cookies peers spot left → CanGoOn cookies peers bytes
  begun_goes_on b =
      let may : MayStand cookies peers spot b.next = b.whole.may in
      let c = complete cookies peers (next_place spot b.next) (next_is_place cookies peers spot b.next (run_place cookies peers ls place.Header spot so_far.run tt) may) in
      let more : List ℕ = 10 ∷ run_text cookies peers (next_place spot b.next) c.0 in
      goes_on cookies peers ls (b.next ∷ c.0) spot bytes (b.rest ++ more) so_far.run (may, c.1)
      (ap (λ (x : List ℕ). x ++ (b.rest ++ more)) so_far.same ∙ append_assoc (taken cookies peers ls) left (b.rest ++ more)
      ∙ ap (λ (x : List ℕ). taken cookies peers ls ++ x) (sym (append_assoc left b.rest more) ∙ ap (λ (x : List ℕ). x ++ more) b.whole.spelled))

  not_done : (l : Line) → MayStand cookies peers place.Done l → ⊥
  not_done line.Header k = k
  not_done line.Count k = k
  not_done (line.Peer epoch clock) k = k
  not_done (line.Call call) k = k
  not_done line.End k = k

  no_report : IsFree 10 left → BeginLine cookies peers spot left → Follows cookies peers spot left → ⊥
  no_report free b (rest, h) = at rest h.0 h.1 where
    at : (rest : List Line) → IsTail cookies peers spot rest → run_text cookies peers spot rest ≡ left → ⊥
    at [] tail e = not_done b.next (subst (λ (x : Place). MayStand cookies peers x b.next) tail b.whole.may)
    at (m ∷ ms) tail e =
        let none : split_once 10 (line_text cookies peers spot m ++ 10 ∷ run_text cookies peers (next_place spot m) ms) ≡ None = ap (split_once 10) e ∙ free in
        let some : split_once 10 (line_text cookies peers spot m ++ 10 ∷ run_text cookies peers (next_place spot m) ms) ≡ Some (line_text cookies peers spot m, run_text cookies peers (next_place spot m) ms) = split_found 10 (line_text cookies peers spot m) (run_text cookies peers (next_place spot m) ms) (line_in_line cookies peers spot m lt tail.0) in
        absurd_none (sym none ∙ some) where
          absurd_none : {X : Type 0} {x : X} → None ≡ Some x → ⊥
          absurd_none k = cc

  pub early_end : (place at : ℕ) → at ≡ length bytes - length left → place ≡ at + length left → IsFree 10 left → BeginLine cookies peers spot left → IsFault cookies peers bytes place
  early_end place at e k free b = inr (record {
    end = omega (arith, e, k, left_fits);
    before = begun_goes_on b;
    short = λ rec r. no_report free b (follows cookies peers lt ls spot left rec so_far.run (subst (λ (x : List ℕ). IsReport cookies peers x rec) so_far.same r));
  })

  -- ---- what the loop answers

  pub unfinished_line : (at : ℕ) (why : NotRead) → at ≡ length bytes - length left → IsFree 10 left → (spot ≡ place.Done → left ≡ [] → ⊥) → TellsUnfinished cookies peers spot left at why → TellsFault cookies peers bytes why
  unfinished_line at not_read.Memory e free unended h = tt
  unfinished_line at (not_read.Bad place cause.Short) e free unended h = absurd h
  unfinished_line at (not_read.Bad place cause.Magic) e free unended h = absurd h
  unfinished_line at (not_read.Bad place cause.Version) e free unended h = absurd h
  unfinished_line at (not_read.Bad place cause.Count) e free unended h = absurd h
  unfinished_line at (not_read.Bad place cause.Reserved) e free unended h = absurd h
  unfinished_line at (not_read.Bad place cause.Command) e free unended h = absurd h
  unfinished_line at (not_read.Bad place cause.Flags) e free unended h = absurd h
  unfinished_line at (not_read.Bad place cause.Range) e free unended h = absurd h
  unfinished_line at (not_read.Bad place cause.Wiring) e free unended h = absurd h
  unfinished_line at (not_read.Bad place cause.Length) e free unended h = absurd h
  unfinished_line at (not_read.Bad place cause.Trailing) e free unended h = absurd h
  unfinished_line at (not_read.Bad place cause.Long) e free unended h = absurd h
  unfinished_line at (not_read.Bad place cause.Line) e free unended (inl k) = broken_end place (k.0 ∙ e) free unended k.1
  unfinished_line at (not_read.Bad place cause.Line) e free unended (inr k) = early_end place at e k.0 free k.1

  not_a_line : (text : List ℕ) → (BeginLine cookies peers spot text → ⊥) → (l : Line) → IsLineText cookies peers spot text l → ⊥
  not_a_line text none l h = none (record { rest = []; next = l; whole = record { may = h.may; spelled = append-nil text ∙ h.spelled } })

  pub refused_line : (at : ℕ) (text rest : List ℕ) (why : Unread) → at ≡ length bytes - length left → left ≡ text ++ 10 ∷ rest → IsFree 10 text → TellsLine cookies peers spot text (Err why) → TellsFault cookies peers bytes (line_fault at why)
  refused_line at text rest unread.Memory e cut free h = tt
  refused_line at text rest (unread.Stopped Cut) e cut free h = whole_line at text rest e cut free h.1
  refused_line at text rest (unread.Stopped Broken) e cut free h = whole_line at text rest e cut free (not_a_line text h)

  pub one_more : (text rest : List ℕ) (l : Line) → left ≡ text ++ 10 ∷ rest → IsOnlyLine cookies peers spot text l → SoFar cookies peers bytes (ls ++ l ∷ []) (next_place spot l) rest
  one_more text rest l cut h =
      let is : text ≡ line_text cookies peers spot l = h.is_line.spelled in
      let only : IsOnlyLine cookies peers spot (line_text cookies peers spot l) l = subst (λ (x : List ℕ). IsOnlyLine cookies peers spot x l) is h in
      record {
        run = run_more cookies peers ls place.Header spot l so_far.run only;
        same = so_far.same ∙ ap (λ (x : List ℕ). taken cookies peers ls ++ x) (cut ∙ ap (λ (x : List ℕ). x ++ 10 ∷ rest) is ∙ sym (append_assoc (line_text cookies peers spot l) (10 ∷ []) rest))
            ∙ sym (append_assoc (taken cookies peers ls) (line_text cookies peers spot l ++ 10 ∷ []) rest) ∙ ap (λ (x : List ℕ). x ++ rest) (sym (text_more cookies peers ls place.Header spot l so_far.run));
      }

  pub all_lines_read : spot ≡ place.Done → left ≡ [] → AreAllLines cookies peers bytes ls
  all_lines_read done none = record { run = subst (λ (x : Place). IsRun cookies peers place.Header ls x) done so_far.run; same = so_far.same ∙ ap (λ (x : List ℕ). taken cookies peers ls ++ x) none ∙ append-nil (taken cookies peers ls) }

pub can_follow : (cookies : Cookies) (peers : ℕ) (spot : Place) (l : Line) → peers < 2 ^ 32 → calls_at spot + 1 < 2 ^ 64 → MayStand cookies peers spot l → CanFollow spot l
can_follow cookies peers place.Header l lt few h = tt
can_follow cookies peers place.Count l lt few h = tt
can_follow cookies peers (place.Peers begun calls) line.Header lt few h = tt
can_follow cookies peers (place.Peers begun calls) line.Count lt few h = tt
can_follow cookies peers (place.Peers begun calls) (line.Peer epoch clock) lt few h = omega (arith, h.0, lt)
can_follow cookies peers (place.Peers begun calls) (line.Call call) lt few h = few
can_follow cookies peers (place.Peers begun calls) line.End lt few h = tt
can_follow cookies peers place.Done l lt few h = tt

pub cut_begins : (cookies : Cookies) (peers : ℕ) (spot : Place) (left : List ℕ) (r : Result Line Unread) → TellsLine cookies peers spot left r → cut_short r ≡ unread.Stopped Cut → BeginLine cookies peers spot left
cut_begins cookies peers spot left (Ok l) h e = record { rest = []; next = l; whole = record { may = h.is_line.may; spelled = append-nil left ∙ h.is_line.spelled } }
cut_begins cookies peers spot left (Err unread.Memory) h e = absurd cc
cut_begins cookies peers spot left (Err (unread.Stopped Cut)) h e = h.0
cut_begins cookies peers spot left (Err (unread.Stopped Broken)) h e = absurd cc

-- ---- the record

run_tail : (cookies : Cookies) (peers : ℕ) (ls : List Line) (spot : Place) → IsRun cookies peers spot ls place.Done → IsTail cookies peers spot ls
run_tail cookies peers [] spot run = run
run_tail cookies peers (l ∷ ls) spot run = (run.0.is_line.may, run_tail cookies peers ls (next_place spot l) run.1)

pub is_report : (cookies : Cookies) (peers : ℕ) (bytes : List ℕ) (ls : List Line) → AreAllLines cookies peers bytes ls → IsReport cookies peers bytes (record { peers = gathered ls })
is_report cookies peers bytes ls h = subst (λ (x : List ℕ). IsReport cookies peers x (record { peers = gathered ls })) (sym h.same) (report_of_lines cookies peers ls (run_tail cookies peers ls place.Header h.run)).1

pub only_record : (cookies : Cookies) (peers : ℕ) → peers < 2 ^ 32 → (bytes : List ℕ) (ls : List Line) (rec : Record) → AreAllLines cookies peers bytes ls → IsReport cookies peers bytes rec → gathered ls ≡ rec.peers
only_record cookies peers lt bytes ls rec h r =
    let l = lines_of_report cookies peers bytes rec r in
    let c = cancel cookies peers lt ls (all_lines rec.peers) place.Header place.Done [] h.run l.0 (sym l.1 ∙ h.same ∙ sym (append-nil (taken cookies peers ls))) in
    let none : c.0 ≡ [] = none_behind cookies peers c.0 c.1.1 in
    let same : all_lines rec.peers ≡ ls = c.1.0 ∙ ap (λ (x : List Line). ls ++ x) none ∙ append-nil ls in
    ap gathered (sym same) ∙ all_gathered rec.peers

no_fault : (cookies : Cookies) (peers : ℕ) (bytes : List ℕ) (at : ℕ) (rec : Record) → IsFault cookies peers bytes at → IsReport cookies peers bytes rec → ⊥
no_fault cookies peers bytes at rec (inr e) r = e.short rec r
no_fault cookies peers bytes at rec (inl b) r =
    let f = first_front (drop at bytes) in
    let whole : bytes ≡ (take at bytes ++ first_line (drop at bytes)) ++ f.0 = sym (take-append-drop at bytes) ∙ ap (λ (x : List ℕ). take at bytes ++ x) f.1 ∙ sym (append_assoc (take at bytes) (first_line (drop at bytes)) f.0) in
    b.broken (record { rest = f.0; rec = rec; whole = subst (λ (x : List ℕ). IsReport cookies peers x rec) whole r })

pub never_bad : (cookies : Cookies) (peers : ℕ) (bytes : List ℕ) (why : NotRead) (rec : Record) → TellsFault cookies peers bytes why → IsReport cookies peers bytes rec → WasRead rec (Err why)
never_bad cookies peers bytes not_read.Memory rec h r = tt
never_bad cookies peers bytes (not_read.Bad at cause.Line) rec h r = no_fault cookies peers bytes at rec h r
never_bad cookies peers bytes (not_read.Bad at cause.Short) rec h r = absurd h
never_bad cookies peers bytes (not_read.Bad at cause.Magic) rec h r = absurd h
never_bad cookies peers bytes (not_read.Bad at cause.Version) rec h r = absurd h
never_bad cookies peers bytes (not_read.Bad at cause.Count) rec h r = absurd h
never_bad cookies peers bytes (not_read.Bad at cause.Reserved) rec h r = absurd h
never_bad cookies peers bytes (not_read.Bad at cause.Command) rec h r = absurd h
never_bad cookies peers bytes (not_read.Bad at cause.Flags) rec h r = absurd h
never_bad cookies peers bytes (not_read.Bad at cause.Range) rec h r = absurd h
never_bad cookies peers bytes (not_read.Bad at cause.Wiring) rec h r = absurd h
never_bad cookies peers bytes (not_read.Bad at cause.Length) rec h r = absurd h
never_bad cookies peers bytes (not_read.Bad at cause.Trailing) rec h r = absurd h
never_bad cookies peers bytes (not_read.Bad at cause.Long) rec h r = absurd h

-- ---- the draft

-- a loop's draft is what its lines came to, with any that follow
pub record DraftSoFar (cookies : Cookies) (peers : ℕ) (bytes : List ℕ) (draft : Draft) (spot : Place) (left : List ℕ) : Type 0 where
  pub all : List Line
  pub so_far : SoFar cookies peers bytes all spot left
  pub same : (rest : List Line) → drafted draft rest ≡ gathered (all ++ rest)

pub none_drafted : (cookies : Cookies) (peers : ℕ) (bytes : List ℕ) (draft : Draft) → ((rest : List Line) → drafted draft rest ≡ gathered rest) → DraftSoFar cookies peers bytes draft place.Header bytes
none_drafted cookies peers bytes draft none = record { all = []; so_far = record { run = refl; same = refl }; same = none }

pub one_drafted : (cookies : Cookies) (peers : ℕ) → peers < 2 ^ 32 → (bytes : List ℕ) (old new : Draft) (spot : Place) (left text rest : List ℕ) (l : Line) → DraftSoFar cookies peers bytes old spot left → ((ls : List Line) → drafted new ls ≡ drafted old (l ∷ ls)) → left ≡ text ++ 10 ∷ rest → IsOnlyLine cookies peers spot text l → DraftSoFar cookies peers bytes new (next_place spot l) rest
one_drafted cookies peers lt bytes old new spot left text rest l before takes cut only = record {
  all = before.all ++ l ∷ [];
  so_far = one_more cookies peers lt bytes before.all spot left before.so_far text rest l cut only;
  same = λ ls. takes ls ∙ before.same (l ∷ ls) ∙ ap gathered (sym (append_assoc before.all (l ∷ []) ls));
}

pub all_drafted : (cookies : Cookies) (peers : ℕ) (bytes : List ℕ) (draft : Draft) (spot : Place) (left : List ℕ) → DraftSoFar cookies peers bytes draft spot left → spot ≡ place.Done → left ≡ [] → IsDrafted cookies peers bytes draft
all_drafted cookies peers bytes draft spot left before done none = record {
  all = before.all;
  are = record {
    run = subst (λ (x : Place). IsRun cookies peers place.Header before.all x) done before.so_far.run;
    same = before.so_far.same ∙ ap (λ (x : List ℕ). run_text cookies peers place.Header before.all ++ x) none ∙ append-nil (run_text cookies peers place.Header before.all);
  };
  same = before.same [] ∙ ap gathered (append-nil before.all);
}
