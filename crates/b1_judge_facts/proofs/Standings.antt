-- Where a peer stands behind one more of its calls.
use Rattle.std.specs.Prelude.{◌≡◌, refl, ℕ, zero, suc, ◌+◌, ◌<◌, ◌≤◌, Bool, List, [], ◌∷◌, length, take, drop, slice_get, Option, Some, None}
use Rattle.std.proofs.Common.{arith, sym, ap, ◌∙◌, drop-cons}
use Rattle.std.proofs.lemmas.Option.{get_or_from_slice_get, slice_get_within}
use Rattle.b1_model.specs.declared.naming.Key.{Key}
use Rattle.b1_model.specs.declared.naming.Wire.{Wire}
use Rattle.b1_model.specs.declared.commands.Command.{Command}
use Rattle.b1_model.specs.declared.commands.Command.TheVariants as cmd
use Rattle.b1_model.specs.declared.answers.Receipt.TheVariants as rec
use Rattle.b1_model.specs.declared.answers.Answer.{Answer}
use Rattle.b1_model.specs.declared.answers.Answer.TheVariants as ans
use Rattle.b1_model.specs.declared.records.Call.{Call}
use Rattle.b1_model.specs.declared.records.Record.{Record}
use Rattle.b1_model.specs.Names.{Node, Name, calls_of, carried_by, add_new, next_epoch}
use Rattle.b1_model.specs.Ledger.{Table, table, changed, slots, message_by}
use Rattle.b1_model.specs.Legal.{last_after}
use Rattle.b1_ledger.proofs.Walks.{AgreesAt, changed-same}
use Rattle.b1_ledger.proofs.Steps.{table_next, last_next, epoch_next, made_next}
use Rattle.b1_ledger.proofs.Ascends.{slice_get-some}
use Rattle.b1_judge_facts.specs.Steps.{doomed_by, slots_for}
use Rattle.b1_judge_facts.specs.Standing.{passed, passes, standing}

-- the slots of the one message are all that the table takes of a look-up
changed_by : (look : Key → List (Option Node)) (c : Command) (a : Answer) (t : Table) → changed (λ _. slots_for look a) c a t ≡ changed look c a t
changed_by look c (ans.Got (rec.Message key number offset handles payload)) t = refl
changed_by look c (ans.Reset stamp) t = refl
changed_by look (cmd.Release n) ans.Done t = refl
changed_by look c a t = refl

pub slice_get-drop : {A : Type 0} (xs : List A) (n i : ℕ) → slice_get (drop n xs) i ≡ slice_get xs (n + i)
slice_get-drop [] zero i = refl
slice_get-drop [] (suc n) i = refl
slice_get-drop (x ∷ xs) zero i = let e : 0 + i ≡ i = omega arith in ap (slice_get (x ∷ xs)) (sym e)
slice_get-drop (x ∷ xs) (suc n) i = let e : suc n + i ≡ suc (n + i) = omega arith in slice_get-drop xs n i ∙ ap (slice_get (x ∷ xs)) (sym e)

drop_get : {A : Type 0} (xs : List A) (k : ℕ) (x : A) → slice_get xs k ≡ Some x → drop k xs ≡ x ∷ drop (suc k) xs
drop_get xs k x e = drop-cons xs k x (slice_get_within xs k x e) ∙ ap (λ y. y ∷ drop (suc k) xs) (get_or_from_slice_get xs k x x e)

module _ (ws : List Wire) (r : Record) (q : ℕ) where
  -- one call more
  pub standing_next : (k : ℕ) (c : Call) (look : Key → List (Option Node)) → slice_get (calls_of r q) k ≡ Some c → AgreesAt look (slots ws r q) c.answer → passed (slots_for look c.answer) c (standing ws r q k) ≡ standing ws r q (suc k)
  standing_next k c look at agrees =
      let names : add_new (standing ws r q k).epoch (standing ws r q k).names (carried_by c.command c.answer) ≡ (standing ws r q (suc k)).names = sym (made_next ws r q k c at) in
      let tables : changed (λ _. slots_for look c.answer) c.command c.answer (table ws r q k) ≡ table ws r q (suc k) = changed_by look c.command c.answer (table ws r q k) ∙ changed-same look (slots ws r q) c.command c.answer (table ws r q k) agrees ∙ sym (table_next ws r q k c at) in
      let epochs : next_epoch (standing ws r q k).epoch c.answer ≡ (standing ws r q (suc k)).epoch = sym (epoch_next ws r q k c at) in
      let lasts : last_after (standing ws r q k).last c.answer ≡ (standing ws r q (suc k)).last = sym (last_next ws r q k c at) in
      λ i. record { names = names i; table = tables i; epoch = epochs i; last = lasts i }

  -- several calls more
  pub standing_later : (m k : ℕ) (look : Key → List (Option Node)) → k + m ≤ length (calls_of r q) → ((j : ℕ) (c : Call) → k ≤ j → j < k + m → slice_get (calls_of r q) j ≡ Some c → AgreesAt look (slots ws r q) c.answer) → passes look (take m (drop k (calls_of r q))) (standing ws r q k) ≡ standing ws r q (k + m)
  standing_later zero k look l h = let e : k ≡ k + 0 = omega arith in ap (standing ws r q) e
  standing_later (suc m) k look l h =
      let one = slice_get-some (calls_of r q) k (omega (arith, l)) in
      let n : suc k + m ≡ k + suc m = omega arith in
      let step : passed (slots_for look one.0.answer) one.0 (standing ws r q k) ≡ standing ws r q (suc k) = standing_next k one.0 look one.1 (h k one.0 (omega arith) (omega arith) one.1) in
      ap (λ cs. passes look (take (suc m) cs) (standing ws r q k)) (drop_get (calls_of r q) k one.0 one.1)
      ∙ ap (passes look (take m (drop (suc k) (calls_of r q)))) step
      ∙ standing_later m (suc k) look (omega (arith, l)) (λ j c lo hi at. h j c (omega (arith, lo)) (omega (arith, hi)) at)
      ∙ ap (standing ws r q) n

-- a stamped call names by the table behind it what it names by the table before it
pub message_behind : (q : ℕ) (known : List Name) (look : Key → List (Option Node)) (c : Command) (a : Answer) (t : Table) → message_by q known (changed look c a t) c a ≡ message_by q known t c a
message_behind q known look (cmd.Send s) (ans.Sent b) t = refl
message_behind q known look c (ans.Sent b) t = refl
message_behind q known look c a t = refl

pub doomed_behind : (q : ℕ) (known : List Name) (look : Key → List (Option Node)) (gone : Node → Bool) (c : Command) (a : Answer) (t : Table) → doomed_by q known (changed look c a t) gone c a ≡ doomed_by q known t gone c a
doomed_behind q known look gone c (ans.Destroyed stamp) t = refl
doomed_behind q known look gone c (ans.Reset (Some stamp)) t = refl
doomed_behind q known look gone c (ans.Reset None) t = refl
doomed_behind q known look gone c a t = refl
