-- Bytes that are added behind others.
use Rattle.std.proofs.Common.{◌≡◌, ℕ, List, ◌++◌, length, take, Result, Ok, Err, OnOk, refl, sym, ap, ◌∙◌, arith}
use Rattle.std.proofs.lemmas.List.{append_assoc, take_at, take-take, length-append}
use Rattle.b1_records.specs.Writing.{Extends}

pub extends_on : (old text new : List ℕ) → Extends (old ++ text) new → Extends old new
extends_on old text new h =
    sym (take-take (length old) (length (old ++ text)) new (omega (arith, length-append old text))) ∙ ap (λ (x : List ℕ). take (length old) x) h ∙ take_at old text (length old) refl

-- three parts, one after the other
pub in_three : (old a b c one two new : List ℕ) → one ≡ old ++ a → two ≡ one ++ b → new ≡ two ++ c → new ≡ old ++ (a ++ (b ++ c))
in_three old a b c one two new first second third =
    third ∙ ap (λ (x : List ℕ). x ++ c) (second ∙ ap (λ (x : List ℕ). x ++ b) first) ∙ append_assoc (old ++ a) b c ∙ append_assoc old a (b ++ c)

-- what follows where nothing failed
pub on_ok : {A E : Type 0} (r : Result A E) (P Q : Type 0) → (P → Q) → OnOk r P → OnOk r Q
on_ok (Ok x) P Q f h = f h
on_ok (Err e) P Q f h = tt
