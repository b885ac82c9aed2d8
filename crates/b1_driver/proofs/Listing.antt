-- The places of the data receipts, with one call more.
use Rattle.std.specs.Prelude.{◌≡◌, refl, ℕ, ◌+◌, ◌≤◌, Bool, true, false, ◌&&◌, if◌then◌else◌, List, [], ◌∷◌, ◌++◌, length}
use Rattle.std.proofs.Common.{arith, sym, ap, ◌∙◌}
use Rattle.b1_model.specs.declared.commands.Command.{Command}
use Rattle.b1_model.specs.declared.answers.Answer.{Answer}
use Rattle.b1_model.specs.declared.answers.Answer.TheVariants as ans
use Rattle.b1_model.specs.declared.answers.Receipt.TheVariants as rec
use Rattle.b1_model.specs.declared.records.Call.{Call}
use Rattle.b1_model.specs.MachineTook.{is_await, is_waiting, as_call, call_of}
use Rattle.b1_receipts.specs.Places.{is_data, place_of, data_places}
use Rattle.b1_receipts.proofs.PlaceLemmas.{data_places_more}

no_more : {X : Type 0} (xs : List X) → xs ++ [] ≡ xs
no_more [] = refl
no_more (x ∷ xs) = ap (λ l. x ∷ l) (no_more xs)

never : (b : Bool) → (b && false) ≡ true → ⊥
never true e = cc e
never false e = cc e

-- an attempt that couldn't take its front is no data receipt
waits_for_none : (command : Command) (a : Answer) → is_waiting command a ≡ true → is_data a ≡ false
waits_for_none command (ans.Got (rec.Message key number offset handles payload)) e = absurd (never (is_await command) e)
waits_for_none command a e = refl

pub listed : (cs : List Call) (ps : List ℕ) (place : ℕ) (command : Command) (a : Answer) → ps ≡ data_places cs → place ≡ length cs → ps ++ place_of place a ≡ data_places (cs ++ call_of command a)
listed cs ps place command a are at = go (is_waiting command a) refl
  where
    go : (b : Bool) → is_waiting command a ≡ b → ps ++ place_of place a ≡ data_places (cs ++ (if b then [] else record { command = as_call command; answer = a } ∷ []))
    go true e = ap (λ b. ps ++ (if b then place ∷ [] else [])) (waits_for_none command a e) ∙ no_more ps ∙ are ∙ ap data_places (sym (no_more cs))
    go false e = ap (λ l. l ++ place_of place a) are ∙ ap (λ p. data_places cs ++ place_of p a) at ∙ sym (data_places_more cs (record { command = as_call command; answer = a }))

longer : {X : Type 0} (xs ys : List X) → length (xs ++ ys) ≡ length xs + length ys
longer [] ys = omega arith
longer (x ∷ xs) ys = let h = longer xs ys in omega (arith, h)

noted_few : (place : ℕ) (command : Command) (a : Answer) → length (place_of place a) ≤ length (call_of command a)
noted_few place command a = go (is_waiting command a) (is_data a) refl refl
  where
    go : (b d : Bool) → is_waiting command a ≡ b → is_data a ≡ d → length (if d then place ∷ [] else []) ≤ length {A = Call} (if b then [] else record { command = as_call command; answer = a } ∷ [])
    go true true e f = let none : is_data a ≡ false = waits_for_none command a e in cc (f, none)
    go true false e f = omega arith
    go false true e f = omega arith
    go false false e f = omega arith

pub room_stays : (cs : List Call) (ps : List ℕ) (place : ℕ) (command : Command) (a : Answer) (k r : ℕ) → k + length ps ≤ r + length cs → k + length (ps ++ place_of place a) ≤ r + length (cs ++ call_of command a)
room_stays cs ps place command a k r h =
    let more = longer ps (place_of place a) in
    let many = longer cs (call_of command a) in
    let few = noted_few place command a in
    omega (arith, h, more, many, few)
