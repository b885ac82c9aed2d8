-- The greatest number of look-ups doesn't matter where the stamps of each peer rise.
use Rattle.std.specs.Prelude.{◌≡◌, refl, ℕ, zero, suc, ◌<◌, ◌≤◌, ◌⊎◌, Bool, true, false, if◌then◌else◌, ◌==◌, List, [], ◌∷◌, map, take, slice_get, Option, Some, None, option_map, option_and_then}
use Rattle.std.proofs.lemmas.Option.{same_Some}
use Rattle.std.proofs.Common.{arith, inl, inr, ap, ◌∙◌}
use Rattle.b1_model.specs.declared.naming.Key.{Key}
use Rattle.b1_model.specs.declared.naming.Wire.{Wire}
use Rattle.b1_model.specs.declared.commands.SendCmd.{SendCmd}
use Rattle.b1_model.specs.declared.commands.Command.{Command}
use Rattle.b1_model.specs.declared.commands.Command.TheVariants as cmd
use Rattle.b1_model.specs.declared.answers.Sent.{Sent}
use Rattle.b1_model.specs.declared.answers.Receipt.TheVariants as rec
use Rattle.b1_model.specs.declared.answers.Answer.{Answer}
use Rattle.b1_model.specs.declared.answers.Answer.TheVariants as ans
use Rattle.b1_model.specs.declared.records.Call.{Call}
use Rattle.b1_model.specs.declared.records.Record.{Record}
use Rattle.b1_model.specs.Names.{wired, calls_of, made_in}
use Rattle.b1_model.specs.Ledger.{stamp_of, got_key, start, table_in, Message, is_send, sent_at, message_of, message_at, slots_in, slots_by, message_within, message, slots, table, node_of}
use Rattle.b1_model.specs.Legal.{seen_stamp, KeepsOrder}
use Rattle.b1_ledger.proofs.Sequences.{each-of}
use Rattle.b1_ledger.proofs.Walks.{AgreesAt, table_in-same, sent_at-call}

pub seen_of_stamp : (a : Answer) (t : ℕ) → stamp_of a ≡ Some t → seen_stamp a ≡ Some t
seen_of_stamp (ans.Got receipt) t e = cc
seen_of_stamp (ans.Sent b) t e = e
seen_of_stamp (ans.Destroyed stamp) t e = e
seen_of_stamp (ans.Reset stamp) t e = e
seen_of_stamp a t e = cc

pub sent_stamp : (stamp : ℕ) (c : Command) (a : Answer) → is_send stamp c a ≡ true → stamp_of a ≡ Some stamp
sent_stamp stamp (cmd.Send s) (ans.Sent b) e = let f : (stamp == b.stamp) ≡ true = e in let g : b.stamp ≡ stamp = grind (arith, f) in ap Some g
sent_stamp stamp c a e = cc

pub slice_get-in_take : {A : Type 0} (xs : List A) (k i : ℕ) (x : A) → slice_get (take k xs) i ≡ Some x → (i < k) × (slice_get xs i ≡ Some x)
slice_get-in_take [] zero i x e = cc
slice_get-in_take [] (suc k) i x e = cc
slice_get-in_take (z ∷ xs) zero i x e = cc
slice_get-in_take (z ∷ xs) (suc k) zero x e = (omega arith, e)
slice_get-in_take (z ∷ xs) (suc k) (suc i) x e = let h = slice_get-in_take xs k i x e in (omega (arith, h.0), h.1)

pub sent_at-found : (stamp : ℕ) (cs : List Call) (k : ℕ) (c : Call) → slice_get cs k ≡ Some c → is_send stamp c.command c.answer ≡ true → (i : ℕ) × (sent_at stamp cs ≡ Some i) × (i ≤ k)
sent_at-found stamp [] k c e s = cc
sent_at-found stamp (d ∷ cs) zero c e s = let f : d ≡ c = same_Some _ _ e in (0, rw (f, s) refl, omega arith)
sent_at-found stamp (d ∷ cs) (suc k) c e s = go (is_send stamp d.command d.answer) (sent_at-found stamp cs k c e s)
  where
    go : (b : Bool) → ((i : ℕ) × (sent_at stamp cs ≡ Some i) × (i ≤ k)) → (i : ℕ) × ((if b then Some 0 else option_map suc (sent_at stamp cs)) ≡ Some i) × (i ≤ suc k)
    go true h = (0, refl, omega arith)
    go false h = (suc h.0, ap (option_map suc) h.1, omega (arith, h.2))

module _ (ws : List Wire) (r : Record) (order : (q k : ℕ) → KeepsOrder r q k) where
  -- one call of a peer has a stamp
  pub one_call : (q i k t : ℕ) (b c : Call) → slice_get (calls_of r q) i ≡ Some b → slice_get (calls_of r q) k ≡ Some c → stamp_of b.answer ≡ Some t → stamp_of c.answer ≡ Some t → i ≡ k
  one_call q i k t b c e f g h = elim (nat_cases i k) [
    | inl l ↦ absurd (omega (arith, order q k i t t b c l e f (seen_of_stamp b.answer t g) h))
    | inr l ↦ elim l [ inl s ↦ s | inr m ↦ absurd (omega (arith, order q i k t t c b m f e (seen_of_stamp c.answer t h) g)) ]
  ]
    where
      nat_cases : (x y : ℕ) → (x < y) ⊎ ((x ≡ y) ⊎ (y < x))
      nat_cases zero zero = inr (inl refl)
      nat_cases zero (suc y) = inl (omega arith)
      nat_cases (suc x) zero = inr (inr (omega arith))
      nat_cases (suc x) (suc y) = elim (nat_cases x y) [ inl l ↦ inl (omega (arith, l)) | inr l ↦ elim l [ inl s ↦ inr (inl (ap suc s)) | inr m ↦ inr (inr (omega (arith, m))) ] ]

  pub sent_at-ordered : (q k : ℕ) (c : Call) (stamp : ℕ) → slice_get (calls_of r q) k ≡ Some c → is_send stamp c.command c.answer ≡ true → sent_at stamp (calls_of r q) ≡ Some k
  sent_at-ordered q k c stamp e s =
      let h = sent_at-found stamp (calls_of r q) k c e s in
      let d = sent_at-call stamp (calls_of r q) h.0 h.1 in
      let same : h.0 ≡ k = one_call q h.0 k stamp d.0 c d.1 e (sent_stamp stamp d.0.command d.0.answer d.2) (sent_stamp stamp c.command c.answer s) in
      h.1 ∙ ap Some same

  pub message_enough : (stamp q : ℕ) (f g : ℕ → ℕ → Option Message) (o : Option ℕ) → sent_at stamp (calls_of r q) ≡ o → ((s p : ℕ) → s < stamp → f s p ≡ g s p) → option_and_then (message_at ws q (calls_of r q) (slots_by f q)) o ≡ option_and_then (message_at ws q (calls_of r q) (slots_by g q)) o
  message_enough stamp q f g None e h = refl
  message_enough stamp q f g (Some i) e h =
      let here = sent_at-call stamp (calls_of r q) i e in
      ap (λ t. message_of q (made_in 0 (wired ws q) (take (suc i) (calls_of r q))) t (slice_get (calls_of r q) i))
      (table_in-same (slots_by f q) (slots_by g q) (start ws q) (take i (calls_of r q))
      (each-of (λ c. AgreesAt (slots_by f q) (slots_by g q) c.answer) (take i (calls_of r q)) (λ j c at. let m = slice_get-in_take (calls_of r q) i j c at in low c.answer (λ s seen. order q i j s stamp c here.0 m.0 m.1 here.1 seen (sent_stamp stamp here.0.command here.0.answer here.2)) h)))
    where
      low : (a : Answer) → ((s : ℕ) → seen_stamp a ≡ Some s → s < stamp) → ((s p : ℕ) → s < stamp → f s p ≡ g s p) → AgreesAt (slots_by f q) (slots_by g q) a
      low (ans.Got (rec.Message key number offset handles payload)) small h = ap (slots_in q key.index) (h key.stamp key.origin (small key.stamp refl))
      low a small h = tt

  -- any two bounds above the stamp give the same
  pub enough : (m n stamp q : ℕ) → stamp < m → stamp < n → message_within ws r m stamp q ≡ message_within ws r n stamp q
  enough zero n stamp q l k = absurd (omega (arith, l))
  enough (suc m) zero stamp q l k = absurd (omega (arith, k))
  enough (suc m) (suc n) stamp q l k = message_enough stamp q (message_within ws r m) (message_within ws r n) (sent_at stamp (calls_of r q)) refl (λ s p i. enough m n s p (omega (arith, l, i)) (omega (arith, k, i)))

  -- a message by the tables, with no bound
  pub message_is : (stamp q : ℕ) → message ws r stamp q ≡ option_and_then (message_at ws q (calls_of r q) (slots ws r q)) (sent_at stamp (calls_of r q))
  message_is stamp q = message_enough stamp q (message_within ws r stamp) (message ws r) (sent_at stamp (calls_of r q)) refl (λ s p l. enough stamp (suc s) s p l (omega arith))

  -- the message of a send that was sent
  pub message_of_call : (q k : ℕ) (s : SendCmd) (b : Sent) → slice_get (calls_of r q) k ≡ Some (record { command = cmd.Send s; answer = ans.Sent b }) → message ws r b.stamp q ≡ Some (record { to = map (node_of ws r q k) s.to; carried = map (node_of ws r q k) s.with; places = b.places; payload = s.payload })
  message_of_call q k s b e =
      let c : Call = record { command = cmd.Send s; answer = ans.Sent b } in
      let here : (b.stamp == b.stamp) ≡ true = grind arith in
      message_is b.stamp q ∙ rw (sent_at-ordered q k c b.stamp e here, e) refl

  -- tables by look-ups with a bound above the stamps of all receipts before them
  pub tables_enough : (n p k : ℕ) → ((i : ℕ) (b : Call) (key : Key) → i < k → slice_get (calls_of r p) i ≡ Some b → got_key b.answer ≡ Some key → key.stamp < n) → table_in (slots_by (message_within ws r n) p) (start ws p) (take k (calls_of r p)) ≡ table ws r p k
  tables_enough n p k low = table_in-same (slots_by (message_within ws r n) p) (slots ws r p) (start ws p) (take k (calls_of r p))
      (each-of (λ c. AgreesAt (slots_by (message_within ws r n) p) (slots ws r p) c.answer) (take k (calls_of r p)) (λ j c at. let m = slice_get-in_take (calls_of r p) k j c at in agrees c.answer (λ key g. low j c key m.0 m.1 g)))
    where
      agrees : (a : Answer) → ((key : Key) → got_key a ≡ Some key → key.stamp < n) → AgreesAt (slots_by (message_within ws r n) p) (slots ws r p) a
      agrees (ans.Got (rec.Message key number offset handles payload)) small = ap (slots_in p key.index) (enough n (suc key.stamp) key.stamp key.origin (small key refl) (omega arith))
      agrees a small = tt
