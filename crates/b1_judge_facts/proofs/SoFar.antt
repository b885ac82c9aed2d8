-- What is gathered after some of the bus order, and by one stamped call more.
use Rattle.std.specs.Prelude.{◌≡◌, refl, ℕ, zero, suc, ◌+◌, ◌<◌, ◌⊎◌, Bool, true, false, ◌&&◌, ◌==◌, if◌then◌else◌, List, [], ◌∷◌, ◌++◌, length, drop, filter, slice_get, Option, Some, None}
use Rattle.std.specs.Option.{option_and_then}
use Rattle.std.specs.List.{list_any}
use Rattle.std.proofs.lemmas.Option.{same_Some}
use Rattle.std.proofs.lemmas.List.{append-nil}
use Rattle.std.proofs.Common.{arith, inl, inr, subst, sym, ap, ◌∙◌, eq-eqb}
use Rattle.b1_model.specs.declared.naming.Key.{Key}
use Rattle.b1_model.specs.declared.naming.Wire.{Wire}
use Rattle.b1_model.specs.declared.commands.Command.{Command}
use Rattle.b1_model.specs.declared.commands.Command.TheVariants as cmd
use Rattle.b1_model.specs.declared.answers.Answer.{Answer}
use Rattle.b1_model.specs.declared.answers.Answer.TheVariants as ans
use Rattle.b1_model.specs.declared.records.Call.{Call}
use Rattle.b1_model.specs.declared.records.Record.{Record}
use Rattle.b1_model.specs.declared.records.Stamp.{Stamp}
use Rattle.b1_model.specs.Names.{Node, Name, calls_of, made}
use Rattle.b1_model.specs.Ledger.{is_before, stamp_of, stamp_at, stamps_from, order, Table, is_send, sent_at, message_by, message_at, message, slots, table, is_destroyed_in, destructions_before}
use Rattle.b1_ledger.proofs.Sequences.{bool_cases}
use Rattle.b1_ledger.proofs.Walks.{sent_at-call}
use Rattle.b1_ledger.proofs.Bound.{sent_stamp, one_call, sent_at-ordered, message_is}
use Rattle.b1_judge_facts.specs.declared.gather.Pace.{Pace}
use Rattle.b1_judge_facts.specs.declared.gather.Gathering.{Gathering}
use Rattle.b1_judge_facts.specs.Facts.{Rises, doomed}
use Rattle.b1_judge_facts.specs.Kept.{kept_at, kept_nodes, comes_before, is_gone}
use Rattle.b1_judge_facts.specs.Standing.{standing}
use Rattle.b1_judge_facts.proofs.Orders.{below, AllAfter, Ascends, is_of}
use Rattle.b1_judge_facts.proofs.Dooms.{destruction_in, destruction_at, destruction_here, before_next, no_destruction}
use Rattle.b1_judge_facts.proofs.Standings.{slice_get-drop}
use Rattle.b1_judge_facts.proofs.Late.{dooms_before, any_of}

-- a call with this stamp and origin is among these
abbrev pub is_in : List Stamp → ℕ → ℕ → Bool
is_in done t q = list_any (λ s. (s.stamp == t) && (s.origin == q)) done

-- a peer's calls are gathered up to where what is left of the bus order goes on
pub record Follows (ws : List Wire) (r : Record) (left : List Stamp) (q : ℕ) (x : Pace) : Type 0 where
  pub standing_is : x.standing ≡ standing ws r q x.call
  pub left_is : filter (is_of q) left ≡ stamps_from q x.call (drop x.call (calls_of r q))
  pub gone_is : (y : Node) → is_gone x.gone y ≡ is_destroyed_in (destructions_before ws r q x.call) y

-- what these calls of the bus order name is gathered, and what is left isn't
pub record IsSoFar (ws : List Wire) (r : Record) (done left : List Stamp) (g : Gathering) : Type 0 where
  pub rec_is : g.rec.now ≡ r
  pub split : done ++ left ≡ order r
  pub count : length g.paces.items ≡ length r.peers
  pub paces_are : (q : ℕ) (x : Pace) → slice_get g.paces.items q ≡ Some x → Follows ws r left q x
  pub messages_are : (t q : ℕ) → kept_at g.messages t q ≡ (if is_in done t q then message ws r t q else None)
  pub doomed_are : (t q : ℕ) → kept_nodes (kept_at g.destroyed t q) ≡ (if is_in done t q then doomed ws r t q else [])
  pub late_are : (x : Node) (key : Key) → comes_before (kept_at g.first x.owner x.serial) key ≡ list_any (dooms_before ws r x key) done
  pub first_are : (x : Node) (d : ℕ × ℕ) (i : ℕ) (s : Stamp) → kept_at g.first x.owner x.serial ≡ Some d → slice_get left i ≡ Some s → is_before d.0 d.1 s.stamp s.origin ≡ true

-- ---- the next stamped call of a peer

pub record NextStamp (q n : ℕ) (cs : List Call) (s : Stamp) (rest : List Stamp) : Type 0 where
  pub place : ℕ
  pub call : Call
  pub call_is : s.call ≡ n + place
  pub at : slice_get cs place ≡ Some call
  pub stamp_is : stamp_of call.answer ≡ Some s.stamp
  pub rest_is : rest ≡ stamps_from q (n + suc place) (drop (suc place) cs)
  pub plain : (i : ℕ) (c : Call) → i < place → slice_get cs i ≡ Some c → stamp_of c.answer ≡ None

plain_more : (c : Call) (cs : List Call) (m : ℕ) → stamp_of c.answer ≡ None → ((i : ℕ) (d : Call) → i < m → slice_get cs i ≡ Some d → stamp_of d.answer ≡ None) → (i : ℕ) (d : Call) → i < suc m → slice_get (c ∷ cs) i ≡ Some d → stamp_of d.answer ≡ None
plain_more c cs m e h zero d l at = ap (λ x. stamp_of x.answer) (sym (same_Some c d at)) ∙ e
plain_more c cs m e h (suc i) d l at = h i d (omega (arith, l)) at

pub next_stamp : (q n : ℕ) (cs : List Call) (s : Stamp) (rest : List Stamp) → s ∷ rest ≡ stamps_from q n cs → NextStamp q n cs s rest
next_stamp q n [] s rest e = cc e
next_stamp q n (c ∷ cs) s rest e = go (stamp_of c.answer) refl e (λ f. next_stamp q (suc n) cs s rest f)
  where
    go : (o : Option ℕ) → stamp_of c.answer ≡ o → s ∷ rest ≡ stamp_at q n o ++ stamps_from q (suc n) cs → (s ∷ rest ≡ stamps_from q (suc n) cs → NextStamp q (suc n) cs s rest) → NextStamp q n (c ∷ cs) s rest
    go None f g ih =
        let h = ih g in
        let a : suc n + suc h.place ≡ n + suc (suc h.place) = omega arith in
        record {
          place = suc h.place;
          call = h.call;
          call_is = omega (arith, h.call_is);
          at = h.at;
          stamp_is = h.stamp_is;
          rest_is = h.rest_is ∙ ap (λ m. stamps_from q m (drop (suc h.place) cs)) a;
          plain = plain_more c cs h.place f h.plain;
        }
    go (Some t) f g ih =
        let u : Stamp = record { stamp = t; origin = q; call = n } in
        let same : s ≡ u = cc g in
        let tail : rest ≡ stamps_from q (suc n) cs = cc g in
        let k : s.call ≡ n = ap (λ z. z.call) same in
        let a : suc n ≡ n + 1 = omega arith in
        record {
          place = 0;
          call = c;
          call_is = omega (arith, k);
          at = refl;
          stamp_is = f ∙ ap (λ z. Some z.stamp) (sym same);
          rest_is = tail ∙ ap (λ m. stamps_from q m cs) a;
          plain = λ i d l at. absurd (omega (arith, l));
        }

-- ---- lists

pub split_cases : {A : Type 0} (xs ys : List A) (j : ℕ) (z : A) → slice_get (xs ++ ys) j ≡ Some z → ((i : ℕ) × (slice_get xs i ≡ Some z)) ⊎ ((i : ℕ) × (slice_get ys i ≡ Some z))
split_cases [] ys j z e = inr (j, e)
split_cases (x ∷ xs) ys zero z e = inl (0, e)
split_cases (x ∷ xs) ys (suc j) z e = elim (split_cases xs ys j z e) [ inl h ↦ inl (suc h.0, h.1) | inr h ↦ inr h ]

pub ascends_right : (xs ys : List Stamp) → Ascends (xs ++ ys) → Ascends ys
ascends_right [] ys h = h
ascends_right (x ∷ xs) ys h = ascends_right xs ys h.1

pub after_at : (s : Stamp) (xs : List Stamp) (i : ℕ) (z : Stamp) → AllAfter s xs → slice_get xs i ≡ Some z → below s z ≡ true
after_at s [] i z h e = cc e
after_at s (x ∷ xs) zero z h e = subst (λ y. below s y ≡ true) (same_Some x z e) h.0
after_at s (x ∷ xs) (suc i) z h e = after_at s xs i z h.1 e

pub in_of : (done : List Stamp) (i : ℕ) (z : Stamp) → slice_get done i ≡ Some z → is_in done z.stamp z.origin ≡ true
in_of done i z e =
    let a : (z.stamp == z.stamp) ≡ true = eq-eqb z.stamp z.stamp refl in
    let b : (z.origin == z.origin) ≡ true = eq-eqb z.origin z.origin refl in
    any_of (λ s. (s.stamp == z.stamp) && (s.origin == z.origin)) done i z e (rw (a, b) refl)

-- ---- what one call of a record names and destroys

no_message : (q t : ℕ) (known : List Name) (tab : Table) (c : Command) (a : Answer) → stamp_of a ≡ Some t → is_send t c a ≡ false → message_by q known tab c a ≡ None
no_message q t known tab (cmd.Send s) (ans.Sent b) e f = let g : (t == b.stamp) ≡ true = eq-eqb t b.stamp (sym (same_Some b.stamp t e)) in cc (f, g)
no_message q t known tab c a e f = refl

module _ (ws : List Wire) (r : Record) (rises : Rises r) where
  -- the message of the call with a stamp
  pub call_message : (q k t : ℕ) (c : Call) → slice_get (calls_of r q) k ≡ Some c → stamp_of c.answer ≡ Some t → message ws r t q ≡ message_by q (made ws r q k) (table ws r q k) c.command c.answer
  call_message q k t c at is = message_is ws r rises t q ∙ go (bool_cases (is_send t c.command c.answer))
    where
      go : ((is_send t c.command c.answer ≡ true) ⊎ (is_send t c.command c.answer ≡ false)) → option_and_then (message_at ws q (calls_of r q) (slots ws r q)) (sent_at t (calls_of r q)) ≡ message_by q (made ws r q k) (table ws r q k) c.command c.answer
      go (inl e) = rw (sent_at-ordered ws r rises q k c t at e, at) refl
      go (inr e) = none (sent_at t (calls_of r q)) refl ∙ sym (no_message q t (made ws r q k) (table ws r q k) c.command c.answer is e)
        where
          none : (o : Option ℕ) → sent_at t (calls_of r q) ≡ o → option_and_then (message_at ws q (calls_of r q) (slots ws r q)) o ≡ None
          none None f = refl
          none (Some i) f =
              let d = sent_at-call t (calls_of r q) i f in
              let same : i ≡ k = one_call ws r rises q i k t d.0 c d.1 at (sent_stamp t d.0.command d.0.answer d.2) is in
              let call : d.0 ≡ c = same_Some d.0 c (sym d.1 ∙ ap (slice_get (calls_of r q)) same ∙ at) in
              let sent : is_send t c.command c.answer ≡ true = ap (λ x. is_send t x.command x.answer) (sym call) ∙ d.2 in
              cc (e, sent)

  -- unstamped calls destroy nothing
  pub before_same : (q n m : ℕ) → ((i : ℕ) (c : Call) → i < m → slice_get (drop n (calls_of r q)) i ≡ Some c → stamp_of c.answer ≡ None) → destructions_before ws r q (n + m) ≡ destructions_before ws r q n
  before_same q n zero h = let e : n + 0 ≡ n = omega arith in ap (destructions_before ws r q) e
  before_same q n (suc m) h =
      let e : n + suc m ≡ suc (n + m) = omega arith in
      ap (destructions_before ws r q) e ∙ before_next ws r q (n + m)
      ∙ ap (λ ds. destructions_before ws r q (n + m) ++ ds) (none (slice_get (calls_of r q) (n + m)) refl)
      ∙ append-nil (destructions_before ws r q (n + m))
      ∙ before_same q n m (λ i c l at. h i c (omega (arith, l)) at)
    where
      none : (o : Option Call) → slice_get (calls_of r q) (n + m) ≡ o → destruction_at ws r q (n + m) ≡ []
      none None f = ap (λ z. destruction_in q (made ws r q (n + m)) (table ws r q (n + m)) (destructions_before ws r q (n + m)) z) f
      none (Some c) f =
          destruction_here ws r q (n + m) c f
          ∙ no_destruction q (made ws r q (n + m)) (table ws r q (n + m)) (destructions_before ws r q (n + m)) c.command c.answer (h m c (omega arith) (slice_get-drop (calls_of r q) n m ∙ f))
