-- Within an epoch the keys of a peer's receipts rise.
use Rattle.std.specs.Prelude.{◌≡◌, refl, ℕ, zero, suc, ◌+◌, ◌-◌, ◌<◌, ◌≤◌, ◌⊎◌, true, false, List, [], ◌∷◌, length, take, slice_get, Option, Some, None}
use Rattle.std.proofs.lemmas.Option.{slice_get_within, same_Some}
use Rattle.std.proofs.Common.{arith, inl, inr, subst, sym, ap, ◌∙◌}
use Rattle.std.proofs.lemmas.Bool.{and_parts}
use Rattle.b1_model.specs.declared.naming.Key.{Key}
use Rattle.b1_model.specs.declared.naming.Wire.{Wire}
use Rattle.b1_model.specs.declared.naming.Opening.{Opening}
use Rattle.b1_model.specs.declared.answers.Receipt.TheVariants as rec
use Rattle.b1_model.specs.declared.answers.Answer.{Answer}
use Rattle.b1_model.specs.declared.answers.Answer.TheVariants as ans
use Rattle.b1_model.specs.declared.records.Call.{Call}
use Rattle.b1_model.specs.declared.records.Record.{Record}
use Rattle.b1_model.specs.Names.{Node, calls_of, is_flush, next_epoch, epoch_in, epoch_at}
use Rattle.b1_model.specs.Ledger.{stamp_of, got_key, is_below, Message, message, doomed_at}
use Rattle.b1_model.specs.Legal.{last_after, last_key, is_above, is_message_in, is_message, is_notice_of, is_notice, is_candidate, IsNextReceipt, Legal}
use Rattle.b1_ledger.proofs.Sequences.{or_true, option_cases}
use Rattle.b1_ledger.proofs.KeyOrder.{below-below}
use Rattle.b1_ledger.proofs.Plain.{notice_source, message_source}
use Rattle.b1_ledger.proofs.Steps.{last_next, epoch_next}

pub slice_get-some : {A : Type 0} (xs : List A) (k : ℕ) → k < length xs → (x : A) × (slice_get xs k ≡ Some x)
slice_get-some [] k l = absurd (omega (arith, l))
slice_get-some (x ∷ xs) zero l = (x, refl)
slice_get-some (x ∷ xs) (suc k) l = slice_get-some xs k (omega (arith, l))

pub epoch_step : (n : ℕ) (b : Answer) → n ≤ next_epoch n b
epoch_step n (ans.Reset stamp) = omega arith
epoch_step n b = omega arith

pub epoch_rises : (n : ℕ) (cs : List Call) → n ≤ epoch_in n cs
epoch_rises n [] = omega arith
epoch_rises n (c ∷ cs) = omega (arith, epoch_step n c.answer, epoch_rises (next_epoch n c.answer) cs)

pub epoch_rises_at : (i k n : ℕ) (cs : List Call) → i ≤ k → epoch_in n (take i cs) ≤ epoch_in n (take k cs)
epoch_rises_at zero k n cs l = epoch_rises n (take k cs)
epoch_rises_at (suc i) zero n cs l = absurd (omega (arith, l))
epoch_rises_at (suc i) (suc k) n [] l = omega arith
epoch_rises_at (suc i) (suc k) n (c ∷ cs) l = epoch_rises_at i k (next_epoch n c.answer) cs (omega (arith, l))

pub no_flush : (n : ℕ) (b : Answer) → next_epoch n b ≡ n → is_flush b ≡ false
no_flush n (ans.Reset stamp) e = let f : suc n ≡ n = e in absurd (omega (arith, f))
no_flush n b e = refl

-- the last key is x or above it
abbrev pub Reaches : Option Key → Key → Type 0
Reaches None x = ⊥
Reaches (Some l) x = (x ≡ l) ⊎ (is_below x l ≡ true)

pub reaches_above : (l : Option Key) (x y : Key) → Reaches l x → is_above y l ≡ true → is_below x y ≡ true
reaches_above None x y r a = absurd r
reaches_above (Some l) x y (inl e) a = rw e a
reaches_above (Some l) x y (inr e) a = below-below x l y e a

module _ (o : Opening) (r : Record) (legal : Legal o r) (p : ℕ) where
  pub reaches_after : (k : ℕ) (l : Option Key) (x : Key) (b : Answer) → l ≡ last_key r p k → is_flush b ≡ false → IsNextReceipt o.wires r p k b → Reaches l x → Reaches (last_after l b) x
  reaches_after k l x (ans.Got (rec.Message key number offset handles payload)) e f next h = inr (reaches_above l x key h (rw e (and_parts (is_above key (last_key r p k)) (is_message_in o.wires r p k key (message o.wires r key.stamp key.origin)) next.0).0))
  reaches_after k l x (ans.Got (rec.Destroyed key number)) e f next h = inr (reaches_above l x key h (rw e (and_parts (is_above key (last_key r p k)) (is_notice_of o.wires r p k (doomed_at o.wires r key)) next.0).0))
  reaches_after k l x (ans.Reset stamp) e f next h = cc f
  reaches_after k l x b e f next h = h

  -- behind a receipt the last key is at or above it, as long as the epoch lasts
  pub reaches : (i n : ℕ) (b : Call) (x : Key) → slice_get (calls_of r p) i ≡ Some b → got_key b.answer ≡ Some x → suc (i + n) ≤ length (calls_of r p) → epoch_at r p (suc (i + n)) ≡ epoch_at r p i → Reaches (last_key r p (suc (i + n))) x
  reaches i zero b x at g l e =
      let n : i + 0 ≡ i = omega arith in
      subst (λ j. Reaches (last_key r p (suc j)) x) (sym n) (rw (last_next o.wires r p i b at, got_last b.answer x (last_key r p i) g) (inl refl))
    where
      got_last : (b : Answer) (key : Key) (l : Option Key) → got_key b ≡ Some key → last_after l b ≡ Some key
      got_last (ans.Got (rec.Message k number offset handles payload)) key l e = e
      got_last (ans.Got (rec.Destroyed k number)) key l e = e
      got_last b key l e = cc
  reaches i (suc n) b x at g l e =
      let m : i + suc n ≡ suc (i + n) = omega arith in
      let low : suc (i + n) < length (calls_of r p) = omega (arith, l) in
      let here = slice_get-some (calls_of r p) (suc (i + n)) low in
      let rise : epoch_at r p i ≤ epoch_at r p (suc (i + n)) = epoch_rises_at i (suc (i + n)) 0 (calls_of r p) (omega arith) in
      let last : epoch_at r p (suc (suc (i + n))) ≡ epoch_at r p i = subst (λ j. epoch_at r p (suc j) ≡ epoch_at r p i) m e in
      let more : epoch_at r p (suc (i + n)) ≤ epoch_at r p (suc (suc (i + n))) = epoch_rises_at (suc (i + n)) (suc (suc (i + n))) 0 (calls_of r p) (omega arith) in
      let same : epoch_at r p (suc (i + n)) ≡ epoch_at r p i = omega (arith, rise, last, more) in
      let quiet : next_epoch (epoch_at r p (suc (i + n))) here.0.answer ≡ epoch_at r p (suc (i + n)) = sym (epoch_next o.wires r p (suc (i + n)) here.0 here.1) ∙ last ∙ sym same in
      subst (λ j. Reaches (last_key r p (suc j)) x) (sym m)
      (rw (last_next o.wires r p (suc (i + n)) here.0 here.1)
      (reaches_after (suc (i + n)) (last_key r p (suc (i + n))) x here.0.answer refl (no_flush (epoch_at r p (suc (i + n))) here.0.answer quiet) (legal.prefix p (suc (i + n)) here.0 here.1)
      (reaches i n b x at g (omega (arith, l)) same)))

  pub receipt_above : (k : ℕ) (b : Answer) (y : Key) → got_key b ≡ Some y → IsNextReceipt o.wires r p k b → is_above y (last_key r p k) ≡ true
  receipt_above k (ans.Got (rec.Message key number offset handles payload)) y e next = subst (λ z. is_above z (last_key r p k) ≡ true) (same_Some key y e) (and_parts (is_above key (last_key r p k)) (is_message_in o.wires r p k key (message o.wires r key.stamp key.origin)) next.0).0
  receipt_above k (ans.Got (rec.Destroyed key number)) y e next = subst (λ z. is_above z (last_key r p k) ≡ true) (same_Some key y e) (and_parts (is_above key (last_key r p k)) (is_notice_of o.wires r p k (doomed_at o.wires r key)) next.0).0
  receipt_above k b y e next = cc

  pub ascends : (i k : ℕ) (b d : Call) (x y : Key) → i < k → slice_get (calls_of r p) i ≡ Some b → slice_get (calls_of r p) k ≡ Some d → got_key b.answer ≡ Some x → got_key d.answer ≡ Some y → epoch_at r p k ≡ epoch_at r p i → is_below x y ≡ true
  ascends i k b d x y l at_b at_d gb gd e =
      let n : suc (i + (k - suc i)) ≡ k = omega (arith, l) in
      let r1 : Reaches (last_key r p k) x = subst (λ j. Reaches (last_key r p j) x) n (reaches i (k - suc i) b x at_b gb (omega (arith, l, slice_get_within (calls_of r p) k d at_d)) (subst (λ j. epoch_at r p j ≡ epoch_at r p i) (sym n) e)) in
      reaches_above (last_key r p k) x y r1 (receipt_above k d.answer y gd (legal.prefix p k d at_d))

  -- every receipt of the present epoch is at or below the last key
  pub at_most_last : (i : ℕ) (b : Call) (x : Key) → slice_get (calls_of r p) i ≡ Some b → got_key b.answer ≡ Some x → epoch_at r p (length (calls_of r p)) ≡ epoch_at r p i → Reaches (last_key r p (length (calls_of r p))) x
  at_most_last i b x at g e =
      let l = slice_get_within (calls_of r p) i b at in
      let n : suc (i + (length (calls_of r p) - suc i)) ≡ length (calls_of r p) = omega (arith, l) in
      subst (λ j. Reaches (last_key r p j) x) n (reaches i (length (calls_of r p) - suc i) b x at g (omega (arith, l)) (subst (λ j. epoch_at r p j ≡ epoch_at r p i) (sym n) e))

pub candidate_source : (ws : List Wire) (r : Record) (p k : ℕ) (key : Key) → is_candidate ws r p k key ≡ true → (i : ℕ) × (c : Call) × (slice_get (calls_of r key.origin) i ≡ Some c) × (stamp_of c.answer ≡ Some key.stamp)
candidate_source ws r p k key h = elim (or_true (is_message ws r p k key) (is_notice ws r p k key) h) [
  | inl m ↦ sent (option_cases (message ws r key.stamp key.origin)) (and_parts (is_above key (last_key r p k)) (is_message_in ws r p k key (message ws r key.stamp key.origin)) m).1
  | inr n ↦ doomed (option_cases (doomed_at ws r key)) (and_parts (is_above key (last_key r p k)) (is_notice_of ws r p k (doomed_at ws r key)) n).1
]
  where
    sent : ((message ws r key.stamp key.origin ≡ None) ⊎ ((m : Message) × (message ws r key.stamp key.origin ≡ Some m))) → is_message_in ws r p k key (message ws r key.stamp key.origin) ≡ true → (i : ℕ) × (c : Call) × (slice_get (calls_of r key.origin) i ≡ Some c) × (stamp_of c.answer ≡ Some key.stamp)
    sent (inl e) f = let none : is_message_in ws r p k key (message ws r key.stamp key.origin) ≡ false = ap (is_message_in ws r p k key) e in cc (none, f)
    sent (inr e) f = message_source ws r key.stamp key.origin e.0 e.1

    doomed : ((doomed_at ws r key ≡ None) ⊎ ((x : Node) × (doomed_at ws r key ≡ Some x))) → is_notice_of ws r p k (doomed_at ws r key) ≡ true → (i : ℕ) × (c : Call) × (slice_get (calls_of r key.origin) i ≡ Some c) × (stamp_of c.answer ≡ Some key.stamp)
    doomed (inl e) f = let none : is_notice_of ws r p k (doomed_at ws r key) ≡ false = ap (is_notice_of ws r p k) e in cc (none, f)
    doomed (inr e) f = notice_source ws r key e.0 e.1
