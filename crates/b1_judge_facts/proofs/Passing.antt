-- A walk along a peer's calls, by all that is gathered.
use Rattle.std.specs.Prelude.{◌≡◌, refl, ℕ, zero, suc, ◌+◌, ◌≤◌, ◌⊎◌, Bool, true, ◌&&◌, List, [], ◌∷◌, length, take, slice_get, Option, Some, None}
use Rattle.std.proofs.Common.{arith, inl, inr, sym, ap, ◌∙◌, add-one}
use Rattle.b1_model.specs.declared.naming.Key.{Key}
use Rattle.b1_model.specs.declared.naming.Wire.{Wire}
use Rattle.b1_model.specs.declared.answers.Receipt.TheVariants as rec
use Rattle.b1_model.specs.declared.answers.Answer.{Answer}
use Rattle.b1_model.specs.declared.answers.Answer.TheVariants as ans
use Rattle.b1_model.specs.declared.records.Call.{Call}
use Rattle.b1_model.specs.declared.records.Record.{Record}
use Rattle.b1_model.specs.Names.{Node, calls_of, wired, made, made_in, add_new, carried_by, epoch_at}
use Rattle.b1_model.specs.Ledger.{Message, message, slots_in, slots_by, slots}
use Rattle.b1_model.specs.Legal.{last_key, is_above, is_message_in, is_message}
use Rattle.b1_ledger.proofs.Sequences.{option_cases, take-past}
use Rattle.b1_ledger.proofs.Walks.{AgreesAt}
use Rattle.b1_ledger.proofs.Steps.{made_next}
use Rattle.b1_judge_facts.specs.declared.standing.Standing.{Standing}
use Rattle.b1_judge_facts.specs.Facts.{names_before, CarriesNone, carried_in}
use Rattle.b1_judge_facts.specs.Steps.{slots_for}
use Rattle.b1_judge_facts.specs.Standing.{passed, standing}
use Rattle.b1_judge_facts.proofs.Standings.{standing_next}

pub slots_same : (f g : ℕ → ℕ → Option Message) (p : ℕ) (a : Answer) → ((t q : ℕ) → f t q ≡ g t q) → slots_for (slots_by f p) a ≡ slots_for (slots_by g p) a
slots_same f g p (ans.Got (rec.Message key number offset handles payload)) h = ap (slots_in p key.index) (h key.stamp key.origin)
slots_same f g p a h = refl

agrees_itself : (look : Key → List (Option Node)) (a : Answer) → AgreesAt look look a
agrees_itself look (ans.Got (rec.Message key number offset handles payload)) = refl
agrees_itself look a = tt

-- past one call
pub passed_is : (ws : List Wire) (r : Record) (p k : ℕ) (c : Call) (x y : Standing) (ns : List (Option Node)) → x ≡ standing ws r p k → slice_get (calls_of r p) k ≡ Some c → ns ≡ slots_for (slots ws r p) c.answer → y ≡ passed ns c x → y ≡ standing ws r p (k + 1)
passed_is ws r p k c x y ns e at f g =
    g ∙ ap (λ l. passed l c x) f ∙ ap (passed (slots_for (slots ws r p) c.answer) c) e
    ∙ standing_next ws r p k c (slots ws r p) at (agrees_itself (slots ws r p) c.answer)
    ∙ ap (standing ws r p) (sym (add-one k))

-- a call that carries no numbers makes no names
pub made_same : (ws : List Wire) (r : Record) (p k : ℕ) → CarriesNone r p k → made ws r p k ≡ names_before ws r p k
made_same ws r p k h = go (option_cases (slice_get (calls_of r p) k))
  where
    past : (xs : List Call) (n : ℕ) → slice_get xs n ≡ None → length xs ≤ n
    past [] n e = omega arith
    past (x ∷ xs) zero e = cc e
    past (x ∷ xs) (suc n) e = omega (arith, past xs n e)

    go : ((slice_get (calls_of r p) k ≡ None) ⊎ ((c : Call) × (slice_get (calls_of r p) k ≡ Some c))) → made ws r p k ≡ names_before ws r p k
    go (inl e) =
        let l : length (calls_of r p) ≤ k = past (calls_of r p) k e in
        ap (made_in 0 (wired ws p)) (take-past (calls_of r p) (suc k) (omega (arith, l)) ∙ sym (take-past (calls_of r p) k l))
    go (inr c) =
        let none : carried_by c.0.command c.0.answer ≡ [] = sym (ap carried_in c.1) ∙ h in
        made_next ws r p k c.0 c.1 ∙ ap (add_new (epoch_at r p k) (made_in 0 (wired ws p) (take k (calls_of r p)))) none

-- a message above the last receipt
pub message_above : (ws vs : List Wire) (r t : Record) (p k : ℕ) (key : Key) (l : Option Key) (m : Option Message) (a b : Bool) → ws ≡ vs → r ≡ t → l ≡ last_key r p k → a ≡ is_above key l → a ≡ true → m ≡ message vs t key.stamp key.origin → b ≡ is_message_in ws r p k key m → b ≡ is_message ws r p k key
message_above ws vs r t p k key l m a b e f g h i j n =
    let above : is_above key (last_key r p k) ≡ true = ap (is_above key) (sym g) ∙ sym h ∙ i in
    let same : m ≡ message ws r key.stamp key.origin = j ∙ ap (λ w. message w t key.stamp key.origin) (sym e) ∙ ap (λ w. message ws w key.stamp key.origin) (sym f) in
    n ∙ ap (is_message_in ws r p k key) same ∙ ap (λ c. c && is_message_in ws r p k key (message ws r key.stamp key.origin)) (sym above)
