-- Lines one behind the other: how they go on, end, and are told apart.
use Rattle.std.proofs.Common.{◌≡◌, ℕ, zero, suc, ◌+◌, ◌-◌, ◌^◌, ◌<◌, ◌≤◌, List, [], ◌∷◌, ◌++◌, length, Some, None, refl, sym, ap, subst, ◌∙◌, arith}
use Rattle.std.proofs.lemmas.List.{append_assoc, length-append}
use Rattle.b1_report_lines.specs.declared.lines.Line.{Line}
use Rattle.b1_report_lines.specs.declared.lines.Line.TheVariants as line
use Rattle.b1_report_lines.specs.declared.lines.Place.{Place}
use Rattle.b1_report_lines.specs.declared.lines.Place.TheVariants as place
use Rattle.b1_report_lines.specs.Lines.{Cookies, line_text, next_place, MayStand, IsPlace, IsOnlyLine}
use Rattle.b1_report_lines.specs.Reading.{split_once}
use Rattle.b1_report_lines.proofs.FreeLines.{line_in_line}
use Rattle.b1_report_lines.proofs.Splitting.{split_found}
use Rattle.b1_report.specs.Runs.{IsRun, run_text}

-- lines that may follow, to the end of a report
abbrev pub IsTail : Cookies → ℕ → Place → List Line → Type 0
IsTail cookies peers spot [] = spot ≡ place.Done
IsTail cookies peers spot (l ∷ ls) = MayStand cookies peers spot l × IsTail cookies peers (next_place spot l) ls

-- ---- a place stays one

pub next_is_place : (cookies : Cookies) (peers : ℕ) (spot : Place) (l : Line) → IsPlace peers spot → MayStand cookies peers spot l → IsPlace peers (next_place spot l)
next_is_place cookies peers place.Header l h k = tt
next_is_place cookies peers place.Count l h k = omega arith
next_is_place cookies peers (place.Peers begun calls) line.Header h k = absurd k
next_is_place cookies peers (place.Peers begun calls) line.Count h k = absurd k
next_is_place cookies peers (place.Peers begun calls) (line.Peer epoch clock) h k = omega (arith, k.0)
next_is_place cookies peers (place.Peers begun calls) (line.Call call) h k = h
next_is_place cookies peers (place.Peers begun calls) line.End h k = tt
next_is_place cookies peers place.Done l h k = tt

pub run_place : (cookies : Cookies) (peers : ℕ) (ls : List Line) (spot end : Place) → IsRun cookies peers spot ls end → IsPlace peers spot → IsPlace peers end
run_place cookies peers [] spot end run h = subst (IsPlace peers) run h
run_place cookies peers (l ∷ ls) spot end run h = run_place cookies peers ls (next_place spot l) end run.1 (next_is_place cookies peers spot l h run.0.is_line.may)

-- ---- a call takes a line

abbrev pub calls_at : Place → ℕ
calls_at (place.Peers begun calls) = calls
calls_at spot = 0

next_calls : (spot : Place) (l : Line) → calls_at (next_place spot l) ≤ calls_at spot + 1
next_calls place.Header l = omega arith
next_calls place.Count l = omega arith
next_calls (place.Peers begun calls) line.Header = omega arith
next_calls (place.Peers begun calls) line.Count = omega arith
next_calls (place.Peers begun calls) (line.Peer epoch clock) = omega arith
next_calls (place.Peers begun calls) (line.Call call) = omega arith
next_calls (place.Peers begun calls) line.End = omega arith
next_calls place.Done l = omega arith

pub run_calls : (cookies : Cookies) (peers : ℕ) (ls : List Line) (spot end : Place) → IsRun cookies peers spot ls end → calls_at end ≤ calls_at spot + length (run_text cookies peers spot ls)
run_calls cookies peers [] spot end run = omega (arith, ap calls_at run)
run_calls cookies peers (l ∷ ls) spot end run =
    let more : calls_at end ≤ calls_at (next_place spot l) + length (run_text cookies peers (next_place spot l) ls) = run_calls cookies peers ls (next_place spot l) end run.1 in
    omega (arith, more, next_calls spot l, length-append (line_text cookies peers spot l) (10 ∷ run_text cookies peers (next_place spot l) ls))

-- ---- one more line

pub run_more : (cookies : Cookies) (peers : ℕ) (ls : List Line) (spot end : Place) (l : Line) → IsRun cookies peers spot ls end → IsOnlyLine cookies peers end (line_text cookies peers end l) l → IsRun cookies peers spot (ls ++ l ∷ []) (next_place end l)
run_more cookies peers [] spot end l run h = subst (λ (x : Place). IsOnlyLine cookies peers x (line_text cookies peers x l) l × (next_place x l ≡ next_place end l)) (sym run) (h, refl)
run_more cookies peers (x ∷ xs) spot end l run h = (run.0, run_more cookies peers xs (next_place spot x) end l run.1 h)

pub text_more : (cookies : Cookies) (peers : ℕ) (ls : List Line) (spot end : Place) (l : Line) → IsRun cookies peers spot ls end → run_text cookies peers spot (ls ++ l ∷ []) ≡ run_text cookies peers spot ls ++ (line_text cookies peers end l ++ 10 ∷ [])
text_more cookies peers [] spot end l run = ap (λ (x : Place). line_text cookies peers x l ++ 10 ∷ []) run
text_more cookies peers (x ∷ xs) spot end l run =
    ap (λ (r : List ℕ). line_text cookies peers spot x ++ 10 ∷ r) (text_more cookies peers xs (next_place spot x) end l run.1)
    ∙ sym (append_assoc (line_text cookies peers spot x) (10 ∷ run_text cookies peers (next_place spot x) xs) (line_text cookies peers end l ++ 10 ∷ []))

-- ---- lines behind lines

pub tail_behind : (cookies : Cookies) (peers : ℕ) (ls ms : List Line) (spot end : Place) → IsRun cookies peers spot ls end → IsTail cookies peers end ms → IsTail cookies peers spot (ls ++ ms)
tail_behind cookies peers [] ms spot end run h = subst (λ (x : Place). IsTail cookies peers x ms) (sym run) h
tail_behind cookies peers (l ∷ ls) ms spot end run h = (run.0.is_line.may, tail_behind cookies peers ls ms (next_place spot l) end run.1 h)

pub text_behind : (cookies : Cookies) (peers : ℕ) (ls ms : List Line) (spot end : Place) → IsRun cookies peers spot ls end → run_text cookies peers spot (ls ++ ms) ≡ run_text cookies peers spot ls ++ run_text cookies peers end ms
text_behind cookies peers [] ms spot end run = ap (λ (x : Place). run_text cookies peers x ms) run
text_behind cookies peers (l ∷ ls) ms spot end run =
    ap (λ (r : List ℕ). line_text cookies peers spot l ++ 10 ∷ r) (text_behind cookies peers ls ms (next_place spot l) end run.1)
    ∙ sym (append_assoc (line_text cookies peers spot l) (10 ∷ run_text cookies peers (next_place spot l) ls) (run_text cookies peers end ms))

-- ---- a report can end from each place: the other peers without calls, and the end

rest_of : ℕ → List Line
rest_of zero = line.End ∷ []
rest_of (suc n) = line.Peer 0 0 ∷ rest_of n

rest_is_tail : (cookies : Cookies) (peers n begun calls : ℕ) → begun + n ≡ peers → IsTail cookies peers (place.Peers begun calls) (rest_of n)
unfolding rest_of
rest_is_tail cookies peers zero begun calls e = (omega (arith, e), refl)
rest_is_tail cookies peers (suc n) begun calls e = ((omega (arith, e), (omega arith, omega arith)), rest_is_tail cookies peers n (begun + 1) 0 (omega (arith, e)))

pub complete : (cookies : Cookies) (peers : ℕ) (spot : Place) → IsPlace peers spot → (ms : List Line) × IsTail cookies peers spot ms
complete cookies peers place.Header h = (line.Header ∷ line.Count ∷ rest_of peers, (tt, (tt, rest_is_tail cookies peers peers 0 0 (omega arith))))
complete cookies peers place.Count h = (line.Count ∷ rest_of peers, (tt, rest_is_tail cookies peers peers 0 0 (omega arith)))
complete cookies peers (place.Peers begun calls) h = (rest_of (peers - begun), rest_is_tail cookies peers (peers - begun) begun calls (omega (arith, h)))
complete cookies peers place.Done h = ([], refl)

-- ---- lines are told apart by their line feeds

abbrev Halves : Type 0
Halves = List ℕ × List ℕ

some_is : (x y : Halves) → Some x ≡ Some y → x ≡ y
some_is x y e = cc

pub halves : (a x b y : List ℕ) → split_once 10 a ≡ None → split_once 10 b ≡ None → a ++ 10 ∷ x ≡ b ++ 10 ∷ y → (a ≡ b) × (x ≡ y)
halves a x b y h k e =
    let same = some_is (a, x) (b, y) (sym (split_found 10 a x h) ∙ ap (split_once 10) e ∙ split_found 10 b y k) in
    (ap (λ (p : Halves). p.0) same, ap (λ (p : Halves). p.1) same)

pub not_nil : (x y t : List ℕ) → [] ≡ (x ++ 10 ∷ y) ++ t → ⊥
not_nil [] y t e = cc
not_nil (b ∷ bs) y t e = cc

abbrev Left : Cookies → ℕ → List Line → List Line → Place → List ℕ → Type 0
Left cookies peers ls ms end t = (rest : List Line) × ((ms ≡ ls ++ rest) × IsTail cookies peers end rest × (run_text cookies peers end rest ≡ t))

pub cancel : (cookies : Cookies) (peers : ℕ) → peers < 2 ^ 32 → (ls ms : List Line) (spot end : Place) (t : List ℕ) → IsRun cookies peers spot ls end → IsTail cookies peers spot ms
    → run_text cookies peers spot ms ≡ run_text cookies peers spot ls ++ t → Left cookies peers ls ms end t
cancel cookies peers lt [] ms spot end t run tail e = (ms, (refl, subst (λ (x : Place). IsTail cookies peers x ms) run tail, ap (λ (x : Place). run_text cookies peers x ms) (sym run) ∙ e))
cancel cookies peers lt (l ∷ ls) [] spot end t run tail e = absurd (not_nil (line_text cookies peers spot l) (run_text cookies peers (next_place spot l) ls) t e)
cancel cookies peers lt (l ∷ ls) (m ∷ ms) spot end t run tail e =
    let cut = halves (line_text cookies peers spot m) (run_text cookies peers (next_place spot m) ms) (line_text cookies peers spot l) (run_text cookies peers (next_place spot l) ls ++ t)
    (line_in_line cookies peers spot m lt tail.0) (line_in_line cookies peers spot l lt run.0.is_line.may)
    (e ∙ append_assoc (line_text cookies peers spot l) (10 ∷ run_text cookies peers (next_place spot l) ls) t) in
    let same : m ≡ l = run.0.only m (record { may = tail.0; spelled = sym cut.0 }) in
    let tail' : IsTail cookies peers (next_place spot l) ms = subst (λ (x : Line). IsTail cookies peers (next_place spot x) ms) same tail.1 in
    let text' : run_text cookies peers (next_place spot l) ms ≡ run_text cookies peers (next_place spot l) ls ++ t = subst (λ (x : Line). run_text cookies peers (next_place spot x) ms ≡ run_text cookies peers (next_place spot l) ls ++ t) same cut.1 in
    let more = cancel cookies peers lt ls ms (next_place spot l) end t run.1 tail' text' in
    (more.0, (ap (λ (x : Line). x ∷ ms) same ∙ ap (λ (xs : List Line). l ∷ xs) more.1.0, more.1.1, more.1.2))
