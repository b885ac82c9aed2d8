-- What is answered, clause by clause, and that a text breaks in one place.
use Rattle.std.proofs.Common.{◌≡◌, ℕ, ◌≤◌, List, [], ◌∷◌, ◌++◌, length, Result, Ok, Err, sym, ap, ◌∙◌, append_assoc, arith}
use Rattle.std.proofs.lemmas.List.{append-nil}
use Rattle.b1_model.specs.declared.limits.TheConstants.{MOST_TEXT}
use Rattle.b1_errs.specs.declared.NotRead.{NotRead}
use Rattle.b1_errs.specs.declared.NotRead.TheVariants.{Bad, Memory}
use Rattle.b1_errs.specs.declared.Cause.TheVariants.{Long, Line}
use Rattle.b1_records.specs.Reading.{Gives}
use Rattle.b1_script.specs.declared.script.Script.{Script}
use Rattle.b1_text.specs.Accepted.{IsText, IsAccepted, IsFault, BreaksAt, line, last_line, cut}
use Rattle.b1_text.specs.Progress.{Answers}

-- an accepted text doesn't break
pub no_break : (bytes : List ℕ) (at : ℕ) → BreaksAt bytes at → ¬ IsAccepted bytes
no_break bytes at (line before word after w place) a =
    let s : Script = a.0 in
    let regroup : bytes ≡ before ++ word ++ 10 ∷ [] ++ after = w.split ∙ sym (append_assoc (before ++ word) (10 ∷ []) after) in
    w.wrong (after, (s, record { writable = a.1.writable; spelled = sym regroup ∙ a.1.spelled }))
no_break bytes at (last_line before word w place) a = w.wrong ([], (a.0, record { writable = a.1.writable; spelled = append-nil bytes ∙ a.1.spelled }))
no_break bytes at (cut c place) a = c.short a

only_fault : (bytes : List ℕ) (why : NotRead) (s : Script) → length bytes ≤ MOST_TEXT → IsText bytes s → IsFault bytes why → Gives {X = Script} {Y = Script} (λ x. x) (Err why) (Ok s)
only_fault bytes Memory s short t h = tt
only_fault bytes (Bad at Long) s short t h = absurd (omega (arith, short, h.1))
only_fault bytes (Bad at Line) s short t h = absurd (no_break bytes at h.0 (s, t))
only_fault bytes (Bad at cause) s short t h = absurd h

pub only : (bytes : List ℕ) (r : Result Script NotRead) (s : Script) → Answers bytes r → length bytes ≤ MOST_TEXT → IsText bytes s → Gives (λ x. x) r (Ok s)
only bytes (Ok t) s h short is = let same : s ≡ t = h.1 s is in ap (λ (x : Script). Ok x) same
only bytes (Err why) s h short is = only_fault bytes why s short is h
