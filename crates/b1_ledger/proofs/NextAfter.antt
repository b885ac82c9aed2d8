-- What each peer may receive next, after one more call.
use Rattle.std.specs.Prelude.{◌≡◌, refl, ℕ, zero, suc, ◌+◌, ◌<◌, ◌≤◌, ◌≢◌, ◌⊎◌, Bool, true, false, ◌&&◌, ◌||◌, ◌==◌, List, [], ◌∷◌, find, length, slice_get, Some, None, flat_map}
use Rattle.std.specs.List.{list_any, range_with_len}
use Rattle.std.specs.Option.{option_or}
use Rattle.std.proofs.lemmas.List.{length-append}
use Rattle.std.proofs.lemmas.List.Folds.{list_any-append, find-append}
use Rattle.std.proofs.lemmas.Option.{slice_get_within}
use Rattle.std.proofs.lemmas.Bool.{cases_eq, and_parts}
use Rattle.std.proofs.Common.{arith, inl, inr, subst, sym, ap, ◌∙◌}
use Rattle.b1_model.specs.declared.naming.Key.{Key}
use Rattle.b1_model.specs.declared.naming.Opening.{Opening}
use Rattle.b1_model.specs.declared.commands.SendCmd.{SendCmd}
use Rattle.b1_model.specs.declared.answers.Sent.{Sent}
use Rattle.b1_model.specs.declared.answers.Receipt.TheVariants as rec
use Rattle.b1_model.specs.declared.answers.Answer.{Answer}
use Rattle.b1_model.specs.declared.answers.Answer.TheVariants as ans
use Rattle.b1_model.specs.declared.records.Call.{Call}
use Rattle.b1_model.specs.declared.records.Record.{Record}
use Rattle.b1_model.specs.Names.{Node, calls_of, calls_in}
use Rattle.b1_model.specs.Ledger.{stamp_of, got_key, is_below, Message, to_at, is_entry, message, slots, has_node, destructions_of, node_at, doomed_at, is_late_by, is_late}
use Rattle.b1_model.specs.Legal.{last_key, is_above, is_open_to, is_message, is_notice_of, is_notice, is_candidate, Legal}
use Rattle.b1_ledger.specs.Growth.{Appends, sent_call, IsNewStamp, next_destruction, is_quiet, may_receive_message, may_receive_notice, may_receive}
use Rattle.b1_ledger.proofs.Sequences.{or_left, or_right, bool_cases, option_cases}
use Rattle.b1_ledger.proofs.Bound.{seen_of_stamp}
use Rattle.b1_ledger.proofs.Grows.{new_call, added, destructions_here, late_same}
use Rattle.b1_ledger.proofs.Kept.{last_kept, open_same, notice_of_same}
use Rattle.b1_ledger.proofs.Plain.{destruction_source, added_next, doomed_unstamped, message_plain, candidate_plain}
use Rattle.b1_ledger.proofs.Stamped.{late_sent, notice_sent, candidate_sent_other}
use Rattle.b1_ledger.proofs.Steps.{message_quiet, notice_quiet, candidate_quiet, message_received, notice_received, candidate_notice, notice_of_received}
use Rattle.b1_model.specs.Keys.{compare_keys}
use Rattle.std.proofs.Common.{is_lt}
use Rattle.std.proofs.Math.Bool.{or-false}

-- the order of keys as the queue has it
pub below_is_less : (x y : Key) → is_below x y ≡ is_lt (compare_keys x y)
below_is_less x y = grind arith

pub list_any-flat_map_range : {B : Type 0} (test : B → Bool) (f : ℕ → List B) (p n low : ℕ) → low ≤ p → p < low + n → list_any test (f p) ≡ true → list_any test (flat_map f (range_with_len low n)) ≡ true
list_any-flat_map_range test f p zero low l m h = absurd (omega (arith, l, m))
list_any-flat_map_range test f p (suc n) low l m h = elim (cases_eq p low) [
  | inl e ↦ list_any-append test (f low) (flat_map f (range_with_len (low + 1) n)) ∙ or_left (list_any test (f low)) (list_any test (flat_map f (range_with_len (low + 1) n))) (subst (λ z. list_any test (f z) ≡ true) e h)
  | inr e ↦ list_any-append test (f low) (flat_map f (range_with_len (low + 1) n)) ∙ or_right (list_any test (f low)) (list_any test (flat_map f (range_with_len (low + 1) n))) (list_any-flat_map_range test f p n (low + 1) (step e) (omega (arith, m)) h)
]
  where
    step : (p ≡ low → ⊥) → low + 1 ≤ p
    step e = elim (split p low l) [ inl f ↦ absurd (e f) | inr f ↦ omega (arith, f) ]
      where
        split : (x y : ℕ) → y ≤ x → (x ≡ y) ⊎ (y < x)
        split zero zero k = inl refl
        split zero (suc y) k = absurd (omega (arith, k))
        split (suc x) zero k = inr (omega arith)
        split (suc x) (suc y) k = elim (split x y (omega (arith, k))) [ inl i ↦ inl (ap suc i) | inr i ↦ inr (omega (arith, i)) ]

-- a peer with a call is one of the peers
pub is_peer : (r : Record) (p k : ℕ) (c : Call) → slice_get (calls_of r p) k ≡ Some c → p < length r.peers
is_peer r p k c e = elim (option_cases (slice_get r.peers p)) [
  | inl n ↦ let none : slice_get (calls_of r p) k ≡ None = ap (λ z. slice_get (calls_in z) k) n in cc (none, e)
  | inr s ↦ slice_get_within r.peers p s.0 s.1
]

module _ (o : Opening) (r t : Record) (p : ℕ) (c : Call) (a : Appends r t p c) (legal : Legal o r) where
  -- what is late after the call
  pub late_is : (x : Node) (key : Key) → is_late o.wires t x key ≡ (is_late o.wires r x key || list_any (is_late_by x key) (next_destruction o r t p c))
  late_is x key = elim (bool_cases (list_any (is_late_by x key) (added o r t p c a legal))) [
    | inr n ↦ late_same o r t p c a legal x key n ∙ sym (ap (λ b. is_late o.wires r x key || b) (sym (ap (list_any (is_late_by x key)) (added_next o r t p c a legal)) ∙ n) ∙ or-false (is_late o.wires r x key))
    | inl y ↦ new y ∙ sym (or_right (is_late o.wires r x key) (list_any (is_late_by x key) (next_destruction o r t p c)) (sym (ap (list_any (is_late_by x key)) (added_next o r t p c a legal)) ∙ y))
  ]
    where
      new : list_any (is_late_by x key) (added o r t p c a legal) ≡ true → is_late o.wires t x key ≡ true
      new y = list_any-flat_map_range (is_late_by x key) (destructions_of o.wires t) p (length t.peers) 0 (omega arith) (omega (arith, is_peer t p (length (calls_of r p)) c (new_call o r t p c a legal)))
          (ap (list_any (is_late_by x key)) (destructions_here o r t p c a legal) ∙ list_any-append (is_late_by x key) (destructions_of o.wires r p) (added o r t p c a legal) ∙ or_right (list_any (is_late_by x key) (destructions_of o.wires r p)) (list_any (is_late_by x key) (added o r t p c a legal)) y)

  -- the notices with the stamp of a new destruction
  pub doomed_is : (stamp : ℕ) → IsNewStamp r p stamp → (key : Key) → key.stamp ≡ stamp → key.origin ≡ p → doomed_at o.wires t key ≡ node_at key.index (find (λ d. d.stamp == key.stamp) (next_destruction o r t p c))
  doomed_is stamp new key es eo =
      ap (node_at key.index)
      (subst (λ y. find (λ d. d.stamp == key.stamp) (destructions_of o.wires t y) ≡ find (λ d. d.stamp == key.stamp) (next_destruction o r t p c)) (sym eo)
      (ap (find (λ d. d.stamp == key.stamp)) (destructions_here o r t p c a legal)
      ∙ find-append (λ d. d.stamp == key.stamp) (destructions_of o.wires r p) (added o r t p c a legal)
      ∙ ap (λ z. option_or z (find (λ d. d.stamp == key.stamp) (added o r t p c a legal))) old
      ∙ ap (find (λ d. d.stamp == key.stamp)) (added_next o r t p c a legal)))
    where
      old : find (λ d. d.stamp == key.stamp) (destructions_of o.wires r p) ≡ None
      old = elim (option_cases (find (λ d. d.stamp == key.stamp) (destructions_of o.wires r p))) [
        | inl n ↦ n
        | inr y ↦ let src = destruction_source o.wires r p (length (calls_of r p)) key.stamp y.0 y.1 in absurd (omega (arith, es, new.above src.0 key.stamp src.1 src.2 (seen_of_stamp src.1.answer key.stamp src.3)))
      ]

  pub len_here : length (calls_of t p) ≡ suc (length (calls_of r p))
  len_here = ap length a.here ∙ length-append (calls_of r p) (c ∷ []) ∙ omega arith

  pub len_there : (q : ℕ) → q ≢ p → length (calls_of t q) ≡ length (calls_of r q)
  len_there q n = ap length (a.there q n)

  -- ---- at the ends of the lists

  -- a quiet call without a stamp changes nothing of what may be received
  pub may_plain : stamp_of c.answer ≡ None → is_quiet c.command c.answer ≡ true → (q : ℕ) (key : Key) → may_receive o t q key ≡ may_receive o r q key
  may_plain none quiet q key = elim (cases_eq q p) [
    | inl e ↦ subst (λ y. may_receive o t y key ≡ may_receive o r y key) (sym e)
        (ap (λ n. is_candidate o.wires t p n key) len_here ∙ candidate_quiet o.wires t p (length (calls_of r p)) c (new_call o r t p c a legal) quiet key ∙ candidate_plain o r t p c a legal none p (length (calls_of r p)) key (omega arith))
    | inr n ↦ ap (λ m. is_candidate o.wires t q m key) (len_there q n) ∙ candidate_plain o r t p c a legal none q (length (calls_of r q)) key (omega arith)
  ]

  -- a call without a stamp changes nothing of what other peers may receive
  pub may_others : stamp_of c.answer ≡ None → (q : ℕ) (key : Key) → q ≢ p → may_receive o t q key ≡ may_receive o r q key
  may_others none q key n = ap (λ m. is_candidate o.wires t q m key) (len_there q n) ∙ candidate_plain o r t p c a legal none q (length (calls_of r q)) key (omega arith)

  -- after a receipt: the messages above it
  pub may_message_received : (key : Key) → got_key c.answer ≡ Some key → is_above key (last_key r p (length (calls_of r p))) ≡ true → (other : Key) → may_receive_message o t p other ≡ (is_below key other && may_receive_message o r p other)
  may_message_received key e above other =
      ap (λ n. is_message o.wires t p n other) len_here
      ∙ message_received o.wires t p (length (calls_of r p)) c (new_call o r t p c a legal) key e (ap (is_above key) (last_kept o r t p c a legal p (length (calls_of r p)) (omega arith)) ∙ above) other
      ∙ ap (λ b. is_below key other && b) (message_plain o r t p c a legal (none c.answer e) p (length (calls_of r p)) other (omega arith))
    where
      none : (b : Answer) → got_key b ≡ Some key → stamp_of b ≡ None
      none (ans.Got receipt) e = refl
      none b e = cc

  -- after a destroy notice: all that is above it
  pub may_notice : (key : Key) (number : ℕ) → c.answer ≡ ans.Got (rec.Destroyed key number) → is_above key (last_key r p (length (calls_of r p))) ≡ true → (other : Key) → may_receive o t p other ≡ (is_below key other && may_receive o r p other)
  may_notice key number e above other =
      ap (λ n. is_candidate o.wires t p n other) len_here
      ∙ candidate_notice o.wires t p (length (calls_of r p)) c (new_call o r t p c a legal) key number e (ap (is_above key) (last_kept o r t p c a legal p (length (calls_of r p)) (omega arith)) ∙ above) other
      ∙ ap (λ b. is_below key other && b) (candidate_plain o r t p c a legal (ap stamp_of e) p (length (calls_of r p)) other (omega arith))

  -- after a message: the notices above it of nodes that concerned the peer before, or stood in a slot of the message
  pub may_notice_received : (key : Key) (number offset : ℕ) (handles payload : List ℕ) → c.answer ≡ ans.Got (rec.Message key number offset handles payload) → (other : Key) → may_receive_notice o t p other ≡ true → (is_below key other ≡ true) × ((x : Node) × (doomed_at o.wires r other ≡ Some x) × ((is_notice_of o.wires r p (length (calls_of r p)) (Some x) ≡ true) ⊎ (has_node x (slots o.wires t p key) ≡ true)))
  may_notice_received key number offset handles payload e other h =
      let l : length (calls_of r p) ≤ length (calls_of r p) = omega arith in
      let at = new_call o r t p c a legal in
      let both = and_parts (is_below key other) (is_notice_of o.wires t p (suc (length (calls_of r p))) (doomed_at o.wires t other))
      (sym (notice_received o.wires t p (length (calls_of r p)) c at key (ap got_key e) other) ∙ sym (ap (λ n. is_notice o.wires t p n other) len_here) ∙ h) in
      let none : stamp_of c.answer ≡ None = ap stamp_of e in
      let same : doomed_at o.wires t other ≡ doomed_at o.wires r other = doomed_unstamped o r t p c a legal other (λ f. cc (none, f)) in
      (both.0, node (option_cases (doomed_at o.wires r other)) (sym (ap (is_notice_of o.wires t p (suc (length (calls_of r p)))) same) ∙ both.1))
    where
      node : ((doomed_at o.wires r other ≡ None) ⊎ ((x : Node) × (doomed_at o.wires r other ≡ Some x))) → is_notice_of o.wires t p (suc (length (calls_of r p))) (doomed_at o.wires r other) ≡ true → (x : Node) × (doomed_at o.wires r other ≡ Some x) × ((is_notice_of o.wires r p (length (calls_of r p)) (Some x) ≡ true) ⊎ (has_node x (slots o.wires t p key) ≡ true))
      node (inl n) f = let no_one : is_notice_of o.wires t p (suc (length (calls_of r p))) (doomed_at o.wires r other) ≡ false = ap (is_notice_of o.wires t p (suc (length (calls_of r p)))) n in cc (no_one, f)
      node (inr y) f = (
        y.0,
        y.1,
        elim (notice_of_received o.wires t p (length (calls_of r p)) c (new_call o r t p c a legal) key number offset handles payload e y.0 (sym (ap (is_notice_of o.wires t p (suc (length (calls_of r p)))) y.1) ∙ f)) [
          | inl i ↦ inl (sym (notice_of_same o r t p c a legal p (length (calls_of r p)) (omega arith) (Some y.0)) ∙ i)
          | inr i ↦ inr i
        ],
      )

module _ (o : Opening) (r t : Record) (p : ℕ) (s : SendCmd) (b : Sent) (a : Appends r t p (sent_call s b)) (legal : Legal o r) where
  -- the message with the send's stamp that place key.index makes
  pub message_own_is : IsNewStamp r p b.stamp → (q k : ℕ) (key : Key) (m : Message) → k ≤ length (calls_of r q) → key.stamp ≡ b.stamp → key.origin ≡ p → message o.wires t b.stamp p ≡ Some m → is_message o.wires t q k key ≡ (is_above key (last_key r q k) && (is_entry q key.index m && is_open_to o.wires r q k key (to_at m key.index)))
  message_own_is new q k key m l es eo at =
      let found : message o.wires t key.stamp key.origin ≡ Some m = subst (λ u. message o.wires t u key.origin ≡ Some m) (sym es) (subst (λ u. message o.wires t b.stamp u ≡ Some m) (sym eo) at) in
      rw (last_kept o r t p (sent_call s b) a legal q k l, found, open_same o r t p (sent_call s b) a legal q k key l (to_at m key.index) (λ x e. late_sent o r t p s b a legal x key)) refl

  -- a send changes nothing of what may be received but under its own stamp and origin
  pub may_sent : (q : ℕ) (key : Key) → ((key.stamp ≡ b.stamp) → key.origin ≢ p) → may_receive o t q key ≡ may_receive o r q key
  may_sent q key other = elim (cases_eq q p) [
    | inl e ↦ subst (λ y. may_receive o t y key ≡ may_receive o r y key) (sym e)
        (ap (λ n. is_candidate o.wires t p n key) (len_here o r t p (sent_call s b) a legal) ∙ candidate_quiet o.wires t p (length (calls_of r p)) (sent_call s b) (new_call o r t p (sent_call s b) a legal) refl key ∙ candidate_sent_other o r t p s b a legal p (length (calls_of r p)) key (omega arith) other)
    | inr n ↦ ap (λ m. is_candidate o.wires t q m key) (len_there o r t p (sent_call s b) a legal q n) ∙ candidate_sent_other o r t p s b a legal q (length (calls_of r q)) key (omega arith) other
  ]

  -- no notice has the stamp and origin of a send
  pub may_sent_notice : (q : ℕ) (key : Key) → may_receive_notice o t q key ≡ may_receive_notice o r q key
  may_sent_notice q key = elim (cases_eq q p) [
    | inl e ↦ subst (λ y. may_receive_notice o t y key ≡ may_receive_notice o r y key) (sym e)
        (ap (λ n. is_notice o.wires t p n key) (len_here o r t p (sent_call s b) a legal) ∙ notice_quiet o.wires t p (length (calls_of r p)) (sent_call s b) (new_call o r t p (sent_call s b) a legal) refl key ∙ notice_sent o r t p s b a legal p (length (calls_of r p)) key (omega arith))
    | inr n ↦ ap (λ m. is_notice o.wires t q m key) (len_there o r t p (sent_call s b) a legal q n) ∙ notice_sent o r t p s b a legal q (length (calls_of r q)) key (omega arith)
  ]

  -- a message under the send's stamp and origin
  pub may_sent_own : IsNewStamp r p b.stamp → (q : ℕ) (key : Key) (m : Message) → key.stamp ≡ b.stamp → key.origin ≡ p → message o.wires t b.stamp p ≡ Some m → may_receive_message o t q key ≡ (is_above key (last_key r q (length (calls_of r q))) && (is_entry q key.index m && is_open_to o.wires r q (length (calls_of r q)) key (to_at m key.index)))
  may_sent_own new q key m es eo at = elim (cases_eq q p) [
    | inl e ↦ subst (λ y. may_receive_message o t y key ≡ (is_above key (last_key r y (length (calls_of r y))) && (is_entry y key.index m && is_open_to o.wires r y (length (calls_of r y)) key (to_at m key.index)))) (sym e)
        (ap (λ n. is_message o.wires t p n key) (len_here o r t p (sent_call s b) a legal) ∙ message_quiet o.wires t p (length (calls_of r p)) (sent_call s b) (new_call o r t p (sent_call s b) a legal) refl key ∙ message_own_is new p (length (calls_of r p)) key m (omega arith) es eo at)
    | inr n ↦ ap (λ z. is_message o.wires t q z key) (len_there o r t p (sent_call s b) a legal q n) ∙ message_own_is new q (length (calls_of r q)) key m (omega arith) es eo at
  ]
