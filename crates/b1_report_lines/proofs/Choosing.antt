-- A word at the front chooses between two readings.
use Rattle.std.proofs.Common.{◌≡◌, ℕ, List, [], ◌∷◌, ◌++◌, Some, None, Result, Ok, Err, refl, ap, subst, ◌∙◌}
use Rattle.b1_report_lines.specs.declared.unread.Stop.{Stop}
use Rattle.b1_report_lines.specs.declared.unread.Stop.TheVariants.{Cut, Broken}
use Rattle.b1_report_lines.specs.declared.unread.Unread.{Unread}
use Rattle.b1_report_lines.specs.declared.unread.Unread.TheVariants.{Stopped, Memory}
use Rattle.b1_report_lines.specs.Reading.{◌>>=◌, Read, Gives, Fails, mapped, split_once, strip, behind, or_else, only, before, part_before, ended, within}
use Rattle.b1_report_lines.specs.Seen.{ended_why}
use Rattle.b1_report_lines.proofs.Splitting.{Parts}
use Rattle.b1_report_lines.proofs.Exact.{IsExact, strip_more}

or_broken_is : {A : Type 0} (r : Read A) → or_else r (Err Broken) ≡ r
or_broken_is (Ok x) = refl
or_broken_is (Err Cut) = refl
or_broken_is (Err Broken) = refl

pub word_first : {A : Type 0} (w : List ℕ) (first : List ℕ → Read A) (second : Read A) (bytes rest : List ℕ) → strip w bytes ≡ Ok rest → second ≡ Err Broken → or_else (behind w first bytes) second ≡ first rest
word_first w first second bytes rest h k = ap (λ s. or_else (s >>= first) second) h ∙ ap (λ r. or_else (first rest) r) k ∙ or_broken_is (first rest)

pub word_cut : {A : Type 0} (w : List ℕ) (first : List ℕ → Read A) (second : Read A) (bytes : List ℕ) → strip w bytes ≡ Err Cut → or_else (behind w first bytes) second ≡ Err Cut
word_cut w first second bytes h = ap (λ s. or_else (s >>= first) second) h

pub word_none : {A : Type 0} (w : List ℕ) (first : List ℕ → Read A) (second : Read A) (bytes : List ℕ) → strip w bytes ≡ Err Broken → or_else (behind w first bytes) second ≡ second
word_none w first second bytes h = ap (λ s. or_else (s >>= first) second) h

-- what begins with a word that no text begins with is broken
pub shut : {A : Type 0} (w : List ℕ) (read : List ℕ → Read A) (text : A → List ℕ) (Fits : A → Type 0) → IsExact read text Fits → ((a : A) → Fits a → strip w (text a) ≡ Err Broken)
    → (bytes rest : List ℕ) → strip w bytes ≡ Ok rest → read bytes ≡ Err Broken
shut w read text Fits exact apart bytes rest h = at (read bytes) refl where
  at : (r : Read _) → read bytes ≡ r → r ≡ Err Broken
  at (Ok a) e =
      let t = exact.takes bytes a e in
      let broken : strip w bytes ≡ Err Broken = ap (strip w) t.0 ∙ apart a t.1 in
      absurd cc
  at (Err Cut) e =
      let c = exact.cut bytes e in
      let broken : strip w (bytes ++ c.0) ≡ Err Broken = ap (strip w) c.2.0 ∙ apart c.1 c.2.1 in
      let more : strip w (bytes ++ c.0) ≡ Ok (rest ++ c.0) = strip_more w bytes c.0 rest h in
      absurd cc
  at (Err Broken) e = refl

pub gives_along : {X Y : Type 0} (view : X → Y) (r : Result X Unread) (a b : Read Y) → a ≡ b → Gives view r a → Gives view r b
gives_along view r a b e h = subst (λ x. Gives view r x) e h

pub fails_along : {Y : Type 0} (why : Unread) (a b : Read Y) → a ≡ b → Fails why a → Fails why b
fails_along why a b e h = subst (λ x. Fails why x) e h

-- a value behind which nothing stands, or none
pub mapped_only : {A B : Type 0} (f : A → B) (v : A) (b : List ℕ) → mapped f (only v b) ≡ only (f v) b
mapped_only f v [] = refl
mapped_only f v (x ∷ xs) = refl

pub mapped_fails : {A B : Type 0} (f : A → B) (why : Unread) (r : Read A) → Fails why r → Fails why (mapped f r)
mapped_fails f Memory r h = tt
mapped_fails f (Stopped stop) r h = ap (mapped f) h

-- ---- a part before a mark

pub before_ok : {A : Type 0} (mark : ℕ) (read : List ℕ → Read A) (bytes : List ℕ) (parts : Parts) (x : A) → split_once mark bytes ≡ Some parts → read parts.0 ≡ Ok x → before mark read bytes ≡ Ok (x, parts.1)
before_ok mark read bytes parts x h e = ap (part_before read bytes) h ∙ ap (λ r. mapped (λ y. (y, parts.1)) (ended r)) e

pub before_ended : {A : Type 0} (mark : ℕ) (read : List ℕ → Read A) (bytes : List ℕ) (parts : Parts) (why : Unread) → split_once mark bytes ≡ Some parts → Fails why (read parts.0) → Fails (ended_why why) (before mark read bytes)
before_ended mark read bytes parts Memory h e = tt
before_ended mark read bytes parts (Stopped stop) h e = ap (part_before read bytes) h ∙ ap (λ r. mapped (λ y. (y, parts.1)) (ended r)) e

pub before_cut : {A : Type 0} (mark : ℕ) (read : List ℕ → Read A) (bytes : List ℕ) (x : A) → split_once mark bytes ≡ None → read bytes ≡ Ok x → before mark read bytes ≡ Err Cut
before_cut mark read bytes x h e = ap (part_before read bytes) h ∙ ap (λ r. within r) e

pub before_fails : {A : Type 0} (mark : ℕ) (read : List ℕ → Read A) (bytes : List ℕ) (why : Unread) → split_once mark bytes ≡ None → Fails why (read bytes) → Fails why (before mark read bytes)
before_fails mark read bytes Memory h e = tt
before_fails mark read bytes (Stopped stop) h e = ap (part_before read bytes) h ∙ ap (λ r. within r) e

pub stopped : {Y : Type 0} (why : Unread) (found stop : Stop) (r : Read Y) → why ≡ Stopped found → found ≡ stop → Fails why r → r ≡ Err stop
stopped why found stop r e k h = let f : Fails (Stopped found) r = subst (λ w. Fails w r) e h in f ∙ ap (λ s. Err s) k
