-- A record stays legal under one more call of each kind.
use Rattle.std.specs.Prelude.{◌≡◌, refl, ℕ, zero, suc, ◌%◌, ◌<◌, ◌≤◌, ◌≢◌, ◌⊎◌, false, ◌==◌, List, ◌++◌, find, length, slice_get, Option, Some, None}
use Rattle.std.proofs.lemmas.List.Folds.{find-append}
use Rattle.std.proofs.lemmas.Option.{slice_get_within, same_Some}
use Rattle.std.proofs.lemmas.Bool.{cases_eq}
use Rattle.std.proofs.Common.{arith, inl, inr, subst, sym, ap, ◌∙◌}
use Rattle.b1_model.specs.declared.naming.Key.{Key}
use Rattle.b1_model.specs.declared.naming.Wire.{Wire}
use Rattle.b1_model.specs.declared.naming.Opening.{Opening}
use Rattle.b1_model.specs.declared.commands.Command.{Command}
use Rattle.b1_model.specs.declared.answers.Receipt.TheVariants as rec
use Rattle.b1_model.specs.declared.answers.Answer.{Answer}
use Rattle.b1_model.specs.declared.answers.Answer.TheVariants as ans
use Rattle.b1_model.specs.declared.records.Call.{Call}
use Rattle.b1_model.specs.declared.records.Record.{Record}
use Rattle.b1_model.specs.Names.{Node, calls_of, made}
use Rattle.b1_model.specs.Ledger.{stamp_of, got_key, Message, is_send, message, table, Destruction, destruction_by, add_destruction, destructions_before, destructions_of, node_at, doomed_at, is_late}
use Rattle.b1_model.specs.Legal.{is_message, is_notice, is_candidate, KeepsKeys, KeepsOrder, IsNextReceipt, KeepsPrefix, IsWhatWasSent, KeepsContents, Legal}
use Rattle.b1_ledger.specs.Growth.{Appends, IsNewStamp, next_destruction}
use Rattle.b1_ledger.proofs.Sequences.{bool_cases, option_cases}
use Rattle.b1_ledger.proofs.Walks.{sent_at-call}
use Rattle.b1_ledger.proofs.Stable.{call_same}
use Rattle.b1_ledger.proofs.Bound.{seen_of_stamp, sent_stamp}
use Rattle.b1_ledger.proofs.Grows.{Found, found_of_message, find_other, late_none, keeps, new_call, message_unsent, added, late_same, doomed_same}
use Rattle.b1_ledger.proofs.Kept.{table_kept, is_message_same, is_notice_same, legal_grows}

-- ---- where the entries of a record come from

pub destruction_source : (ws : List Wire) (r : Record) (p k s : ℕ) (d : Destruction) → find (λ d. d.stamp == s) (destructions_before ws r p k) ≡ Some d → (i : ℕ) × (c : Call) × (slice_get (calls_of r p) i ≡ Some c) × (stamp_of c.answer ≡ Some s)
destruction_source ws r p zero s d e = cc
destruction_source ws r p (suc k) s d e = go (slice_get (calls_of r p) k) refl (λ d f. destruction_source ws r p k s d f) e
  where
    Source : Type 0
    Source = (i : ℕ) × (c : Call) × (slice_get (calls_of r p) i ≡ Some c) × (stamp_of c.answer ≡ Some s)

    one : (c : Call) → slice_get (calls_of r p) k ≡ Some c → (stamp_of c.answer ≡ Some s) ⊎ (find (λ d. d.stamp == s) (destruction_by p (made ws r p k) (table ws r p k) (destructions_before ws r p k) c.command c.answer) ≡ None)
    one c at = stamps (stamp_of c.answer) refl
      where
        stamps : (z : Option ℕ) → stamp_of c.answer ≡ z → (stamp_of c.answer ≡ Some s) ⊎ (find (λ d. d.stamp == s) (destruction_by p (made ws r p k) (table ws r p k) (destructions_before ws r p k) c.command c.answer) ≡ None)
        stamps None f = inr (find_other p (made ws r p k) (table ws r p k) (destructions_before ws r p k) c.command c.answer s (λ g. cc (f, g)))
        stamps (Some u) f = elim (cases_eq u s) [ inl h ↦ inl (f ∙ ap Some h) | inr n ↦ inr (find_other p (made ws r p k) (table ws r p k) (destructions_before ws r p k) c.command c.answer s (λ g. n (same_Some u s (sym f ∙ g)))) ]

    go : (z : Option Call) → slice_get (calls_of r p) k ≡ z → ((d : Destruction) → find (λ d. d.stamp == s) (destructions_before ws r p k) ≡ Some d → (i : ℕ) × (c : Call) × (slice_get (calls_of r p) i ≡ Some c) × (stamp_of c.answer ≡ Some s)) → find (λ d. d.stamp == s) (add_destruction p (made ws r p k) (table ws r p k) z (destructions_before ws r p k)) ≡ Some d → (i : ℕ) × (c : Call) × (slice_get (calls_of r p) i ≡ Some c) × (stamp_of c.answer ≡ Some s)
    go None at ih f = ih d f
    go (Some c) at ih f = elim (one c at) [
      | inl h ↦ (k, c, at, h)
      | inr n ↦ elim (option_cases (find (λ d. d.stamp == s) (destructions_before ws r p k))) [
        | inl m ↦
            let none : find (λ d. d.stamp == s) (destructions_before ws r p k ++ destruction_by p (made ws r p k) (table ws r p k) (destructions_before ws r p k) c.command c.answer) ≡ None =
            find-append (λ d. d.stamp == s) (destructions_before ws r p k) (destruction_by p (made ws r p k) (table ws r p k) (destructions_before ws r p k) c.command c.answer) ∙ rw (m, n) refl in
            cc (none, f)
        | inr x ↦ ih x.0 x.1
      ]
    ]

-- a notice has the stamp of a call of its origin
pub notice_source : (ws : List Wire) (r : Record) (key : Key) (x : Node) → doomed_at ws r key ≡ Some x → (i : ℕ) × (c : Call) × (slice_get (calls_of r key.origin) i ≡ Some c) × (stamp_of c.answer ≡ Some key.stamp)
notice_source ws r key x e = elim (option_cases (find (λ d. d.stamp == key.stamp) (destructions_of ws r key.origin))) [
  | inl n ↦ let none : doomed_at ws r key ≡ None = ap (node_at key.index) n in cc (none, e)
  | inr s ↦ destruction_source ws r key.origin (length (calls_of r key.origin)) key.stamp s.0 s.1
]

-- a message has the stamp of a call of its origin
pub message_source : (ws : List Wire) (r : Record) (stamp q : ℕ) (m : Message) → message ws r stamp q ≡ Some m → (i : ℕ) × (c : Call) × (slice_get (calls_of r q) i ≡ Some c) × (stamp_of c.answer ≡ Some stamp)
message_source ws r stamp q m e =
    let f = found_of_message ws r stamp q m e in
    let h = sent_at-call stamp (calls_of r q) f.0 f.1 in
    (f.0, h.0, h.1, sent_stamp stamp h.0.command h.0.answer h.2)

module _ (o : Opening) (r t : Record) (p : ℕ) (c : Call) (a : Appends r t p c) (legal : Legal o r) where
  -- a call of t that isn't the last of p is one of r
  pub earlier_call : (i : ℕ) (b : Call) → i < length (calls_of r p) → slice_get (calls_of t p) i ≡ Some b → slice_get (calls_of r p) i ≡ Some b
  earlier_call i b l at = sym (call_same o.wires (Found r) r t (keeps o r t p c a legal) p i l) ∙ at

  pub is_new : (b : Call) → slice_get (calls_of t p) (length (calls_of r p)) ≡ Some b → b ≡ c
  is_new b at = same_Some b c (sym at ∙ new_call o r t p c a legal)

  pub keys_unstamped : stamp_of c.answer ≡ None → KeepsKeys t p (length (calls_of r p))
  keys_unstamped none = record {
    even = λ d s at st. cc (none, ap (λ x. stamp_of x.answer) (is_new d at), st);
    once = λ i s b d l at_b at_d sb sd. let f : stamp_of d.answer ≡ None = ap (λ x. stamp_of x.answer) (is_new d at_d) ∙ none in cc (f, sd);
  }

  pub order_unstamped : stamp_of c.answer ≡ None → KeepsOrder t p (length (calls_of r p))
  order_unstamped none i s u b d l at_b at_d sb sd = let f : stamp_of d.answer ≡ None = ap (λ x. stamp_of x.answer) (is_new d at_d) ∙ none in cc (f, sd)

  pub keys_stamped : (stamp : ℕ) → stamp_of c.answer ≡ Some stamp → IsNewStamp r p stamp → KeepsKeys t p (length (calls_of r p))
  keys_stamped stamp is new = record {
    even = λ d s at st. subst (λ x. x % 2 ≡ 0) (same_Some stamp s (sym is ∙ ap (λ x. stamp_of x.answer) (sym (is_new d at)) ∙ st)) new.even;
    once = λ i s b d l at_b at_d sb sd.
        let e : stamp ≡ s = same_Some stamp s (sym is ∙ ap (λ x. stamp_of x.answer) (sym (is_new d at_d)) ∙ sd) in
        absurd (omega (arith, e, new.above i s b (earlier_call i b l at_b) (seen_of_stamp b.answer s sb)));
  }

  pub order_stamped : (stamp : ℕ) → stamp_of c.answer ≡ Some stamp → IsNewStamp r p stamp → KeepsOrder t p (length (calls_of r p))
  order_stamped stamp is new i s u b d l at_b at_d sb sd =
      let e : stamp ≡ u = same_Some stamp u (sym is ∙ ap (λ x. stamp_of x.answer) (sym (is_new d at_d)) ∙ sd) in
      subst (λ x. s < x) e (new.above i s b (earlier_call i b l at_b) sb)

  -- an answer that is no receipt but a release notice keeps the prefix and the contents
  pub next_free : (ws : List Wire) (x : Record) (k : ℕ) (b : Answer) → got_key b ≡ None → IsNextReceipt ws x p k b
  next_free ws x k (ans.Got (rec.Message key number offset handles payload)) e = cc
  next_free ws x k (ans.Got (rec.Destroyed key number)) e = cc
  next_free ws x k b e = tt

  pub sent_free : (ws : List Wire) (x : Record) (k : ℕ) (b : Answer) → got_key b ≡ None → IsWhatWasSent ws x p k b
  sent_free ws x k (ans.Got (rec.Message key number offset handles payload)) e = cc
  sent_free ws x k (ans.Got (rec.Destroyed key number)) e = cc
  sent_free ws x k b e = tt

  -- ---- the entries after a call that has no stamp

  pub late_unstamped : stamp_of c.answer ≡ None → (x : Node) (key : Key) → is_late o.wires t x key ≡ is_late o.wires r x key
  late_unstamped none x key = late_same o r t p c a legal x key (late_none p (made o.wires t p (length (calls_of r p))) (table o.wires t p (length (calls_of r p))) (destructions_of o.wires r p) c.command c.answer x key (λ s e. cc (none, e)))

  pub is_send_none : (stamp : ℕ) (d : Command) (b : Answer) → stamp_of b ≢ Some stamp → is_send stamp d b ≡ false
  is_send_none stamp d b n = elim (bool_cases (is_send stamp d b)) [ inl e ↦ absurd (n (sent_stamp stamp d b e)) | inr e ↦ e ]

  pub message_unstamped : (stamp q : ℕ) → stamp_of c.answer ≢ Some stamp → message o.wires t stamp q ≡ message o.wires r stamp q
  message_unstamped stamp q n = message_unsent o r t p c a legal stamp q (is_send_none stamp c.command c.answer n)

  pub doomed_unstamped : (key : Key) → stamp_of c.answer ≢ Some key.stamp → doomed_at o.wires t key ≡ doomed_at o.wires r key
  doomed_unstamped key n = doomed_same o r t p c a legal key (λ e. n)

  pub message_plain : stamp_of c.answer ≡ None → (q k : ℕ) (key : Key) → k ≤ length (calls_of r q) → is_message o.wires t q k key ≡ is_message o.wires r q k key
  message_plain none q k key l = is_message_same o r t p c a legal q k key l (message_unstamped key.stamp key.origin (λ e. cc (none, e))) (λ m x f g. late_unstamped none x key)

  pub notice_plain : stamp_of c.answer ≡ None → (q k : ℕ) (key : Key) → k ≤ length (calls_of r q) → is_notice o.wires t q k key ≡ is_notice o.wires r q k key
  notice_plain none q k key l = is_notice_same o r t p c a legal q k key l (doomed_unstamped key (λ e. cc (none, e)))

  pub candidate_plain : stamp_of c.answer ≡ None → (q k : ℕ) (key : Key) → k ≤ length (calls_of r q) → is_candidate o.wires t q k key ≡ is_candidate o.wires r q k key
  candidate_plain none q k key l = rw (message_plain none q k key l, notice_plain none q k key l) refl

  -- ---- legal

  pub fits_unstamped : stamp_of c.answer ≡ None → KeepsPrefix o.wires t p (length (calls_of r p)) → KeepsContents o.wires t p (length (calls_of r p)) → Legal o t
  fits_unstamped none prefix contents = legal_grows o r t p c a legal (record {
    keys = keys_unstamped none;
    order = order_unstamped none;
    prefix = prefix;
    contents = contents;
    timely = λ q k d key m x at g e n. late_unstamped none x key;
    above = λ q k d key other at g h. inl (sym (candidate_plain none q k other (omega (arith, slice_get_within (calls_of r q) k d at))) ∙ h);
  })

  -- a call without a stamp that is no receipt, or receives a release notice
  pub legal_plain : stamp_of c.answer ≡ None → got_key c.answer ≡ None → Legal o t
  legal_plain none free = fits_unstamped none
      (λ d at. next_free o.wires t (length (calls_of r p)) d.answer (ap (λ x. got_key x.answer) (is_new d at) ∙ free))
      (λ d at. sent_free o.wires t (length (calls_of r p)) d.answer (ap (λ x. got_key x.answer) (is_new d at) ∙ free))

  -- the destruction that the new call is, by the table of the record before it
  pub added_next : added o r t p c a legal ≡ next_destruction o r t p c
  added_next = ap (λ tab. destruction_by p (made o.wires t p (length (calls_of r p))) tab (destructions_of o.wires r p) c.command c.answer) (table_kept o r t p c a legal p (length (calls_of r p)) (omega arith))
