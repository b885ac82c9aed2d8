-- The tables of a legal record: all numbers were given, and what a message carries to another peer than its owner has a line there.
use Rattle.std.proofs.Common.{◌≡◌, ◌≢◌, refl, sym, ap, subst, ◌∙◌, ℕ, zero, suc, ◌≤◌, ◌==◌, true, false, cond, List, [], ◌∷◌, map, filter, length, Option, Some, None}
use Rattle.std.specs.Prelude.{slice_get, is_some, take}
use Rattle.std.proofs.lemmas.Bool.{and_parts}
use Rattle.std.proofs.lemmas.Option.{same_Some, slice_get-map}
use native.Mathlib.Omega.{arith}
use Rattle.b1_model.specs.declared.naming.Key.{Key}
use Rattle.b1_model.specs.declared.naming.Opening.{Opening}
use Rattle.b1_model.specs.declared.commands.Command.{Command}
use Rattle.b1_model.specs.declared.commands.Command.TheVariants as cmd
use Rattle.b1_model.specs.declared.answers.Receipt.TheVariants as rec
use Rattle.b1_model.specs.declared.answers.Answer.{Answer}
use Rattle.b1_model.specs.declared.answers.Answer.TheVariants as ans
use Rattle.b1_model.specs.declared.records.Call.{Call}
use Rattle.b1_model.specs.declared.records.Record.{Record}
use Rattle.b1_model.specs.Names.{Node, Name, wired, calls_of, made}
use Rattle.b1_model.specs.Ledger.{Table, line_number, received_all, start, changed, table_in, Message, to_at, is_entry, slots_in, message, slots, table, is_late}
use Rattle.b1_model.specs.Legal.{last_key, is_above, is_open_to, is_message_in, arrived, IsNextReceipt, IsWhatWasSent, Legal}
use Rattle.b1_step.proofs.Lists.{has_at}
use Rattle.b1_ledger.proofs.Sequences.{take-past}
use Rattle.b1_ledger.proofs.Steps.{table_next}
use Rattle.b1_inv_names.proofs.Numbers.{name_numbers, Fine, fine_all, fine_calls, new_names, made_numbers}
use Rattle.b1_inv_legal.proofs.Lines.{NumbersGiven, AreOwn, all_given, all_have_lines, start_given, lowered_given}

-- names made of wires and calls are own numbers
own_names : (names : List Name) → Fine (name_numbers names) → AreOwn names
own_names names fine i m at = fine.0 m.number (has_at (name_numbers names) i m.number (slice_get-map (λ n. n.number) names i ∙ ap (λ r. elim r [ None ↦ None | Some n ↦ Some n.number ]) at))

abbrev wire_numbers : Opening → ℕ → List ℕ
wire_numbers o q = map (λ w. w.number) (filter (λ w. w.from == q) o.wires)

made_own : (o : Opening) (r : Record) (q k : ℕ) → AreOwn (made o.wires r q k)
made_own o r q k =
    own_names (made o.wires r q k)
    (subst Fine (sym (made_numbers 0 (wired o.wires q) (take (suc k) (calls_of r q))))
    (fine_calls (take (suc k) (calls_of r q)) (name_numbers (wired o.wires q)) (subst Fine (sym (new_names 0 [] (wire_numbers o q))) (fine_all (wire_numbers o q) [] ((λ n h. absurd h), tt)))))

take_none : {A : Type 0} (xs : List A) → take 0 xs ≡ []
take_none [] = refl
take_none (x ∷ xs) = refl

past_end : {A : Type 0} (xs : List A) (k : ℕ) → slice_get xs k ≡ None → length xs ≤ k
past_end [] k at = omega arith
past_end (x ∷ xs) zero at = absurd (cc at)
past_end (x ∷ xs) (suc k) at = let l = past_end xs k at in omega (arith, l)

module _ (o : Opening) (r : Record) (legal : Legal o r) (q : ℕ) where
  -- the table behind a message has what arrived
  module _ (k : ℕ) (key : Key) (number offset : ℕ) (handles payload : List ℕ) (m : Message) (is : message o.wires r key.stamp key.origin ≡ Some m) where
    abbrev answer : Answer
    answer = ans.Got (rec.Message key number offset handles payload)

    abbrev after : Table
    after = received_all m.carried (arrived (λ x. is_late o.wires r x key) q (made o.wires r q k) m.carried (table o.wires r q k)) (table o.wires r q k)

    -- a received message is an entry at its receiver
    pub is_entry_of : IsNextReceipt o.wires r q k answer → is_entry q key.index m ≡ true
    is_entry_of next =
        let inside = (and_parts (is_above key (last_key r q k)) (is_message_in o.wires r q k key (message o.wires r key.stamp key.origin)) next.0).1 in
        (and_parts (is_entry q key.index m) (is_open_to o.wires r q k key (to_at m key.index)) (sym (ap (is_message_in o.wires r q k key) is) ∙ inside)).0

    behind_message : IsNextReceipt o.wires r q k answer → IsWhatWasSent o.wires r q k answer → (c : Command) → changed (slots o.wires r q) c answer (table o.wires r q k) ≡ after
    behind_message next was c =
        let same : was.0 ≡ m = same_Some was.0 m (sym was.1 ∙ is) in
        ap (λ look. received_all look handles (table o.wires r q k)) (ap (slots_in q key.index) is ∙ ap (λ b. cond b m.carried []) (is_entry_of next))
        ∙ ap (λ numbers. received_all m.carried numbers (table o.wires r q k)) (was.2.handles ∙ ap (λ z. arrived (λ x. is_late o.wires r x key) q (made o.wires r q k) z.carried (table o.wires r q k)) same)

  changed_given : (k : ℕ) (c : Command) (a : Answer) → IsNextReceipt o.wires r q k a → IsWhatWasSent o.wires r q k a → NumbersGiven (table o.wires r q k) → NumbersGiven (changed (slots o.wires r q) c a (table o.wires r q k))
  changed_given k c (ans.Got (rec.Message key number offset handles payload)) next was given =
      subst NumbersGiven (sym (behind_message k key number offset handles payload was.0 was.1 next was c))
      (all_given (λ x. is_late o.wires r x key) q (made o.wires r q k) (made_own o r q k) was.0.carried (table o.wires r q k) given)
  changed_given k c (ans.Reset stamp) next was given = λ l h. absurd h
  changed_given k (cmd.Release n) ans.Done next was given = lowered_given n (table o.wires r q k) given
  changed_given k c a next was given = given

  -- the numbers of every table were given
  pub table_given : (k : ℕ) → NumbersGiven (table o.wires r q k)
  table_given zero = subst NumbersGiven (sym (ap (table_in (slots o.wires r q) (start o.wires q)) (take_none (calls_of r q)))) (start_given o.wires q)
  table_given (suc k) = by (slice_get (calls_of r q) k) refl (table_given k)
    where
      by : (z : Option Call) → slice_get (calls_of r q) k ≡ z → NumbersGiven (table o.wires r q k) → NumbersGiven (table o.wires r q (suc k))
      by (Some c) at given = subst NumbersGiven (sym (table_next o.wires r q k c at)) (changed_given k c.command c.answer (legal.prefix q k c at) (legal.contents q k c at) given)
      by None at given =
          let past = past_end (calls_of r q) k at in
          subst NumbersGiven (ap (table_in (slots o.wires r q) (start o.wires q)) (take-past (calls_of r q) k past ∙ sym (take-past (calls_of r q) (suc k) (omega (arith, past))))) given

  -- another peer's node that a received message carries and that isn't late has a line behind it
  pub carried_has_line : (k : ℕ) (c : Call) (key : Key) (number offset : ℕ) (handles payload : List ℕ) (m : Message) → slice_get (calls_of r q) k ≡ Some c → c.answer ≡ ans.Got (rec.Message key number offset handles payload)
      → message o.wires r key.stamp key.origin ≡ Some m → (j : ℕ) (x : Node) → slice_get m.carried j ≡ Some (Some x) → is_late o.wires r x key ≡ false → x.owner ≢ q → is_some (line_number x (table o.wires r q (suc k)).lines) ≡ true
  carried_has_line k c key number offset handles payload m at got is j x there soon apart =
      let next = subst (IsNextReceipt o.wires r q k) got (legal.prefix q k c at) in
      let was = subst (IsWhatWasSent o.wires r q k) got (legal.contents q k c at) in
      ap (λ t. is_some (line_number x t.lines))
      (table_next o.wires r q k c at ∙ ap (λ a. changed (slots o.wires r q) c.command a (table o.wires r q k)) got ∙ behind_message k key number offset handles payload m is next was c.command)
      ∙ all_have_lines (λ y. is_late o.wires r y key) q (made o.wires r q k) (made_own o r q k) m.carried (table o.wires r q k) (table_given k) j x there soon apart
