-- A record stays legal under one more send or destruction, and what each adds to the entries that a peer may receive.
use Rattle.std.specs.Prelude.{◌≡◌, refl, ℕ, ◌<◌, ◌≤◌, ◌≢◌, ◌⊎◌, true, false, not, ◌==◌, map, find, length, slice_get, Option, Some, None}
use Rattle.std.specs.List.{list_any}
use Rattle.std.specs.Option.{option_or}
use Rattle.std.proofs.lemmas.List.Folds.{find-append}
use Rattle.std.proofs.lemmas.Option.{slice_get_within, same_Some}
use Rattle.std.proofs.lemmas.Bool.{cases_eq, and_parts}
use Rattle.std.proofs.Common.{arith, inl, inr, subst, sym, ap, ◌∙◌}
use Rattle.b1_model.specs.declared.naming.Key.{Key}
use Rattle.b1_model.specs.declared.naming.Opening.{Opening}
use Rattle.b1_model.specs.declared.commands.SendCmd.{SendCmd}
use Rattle.b1_model.specs.declared.answers.Sent.{Sent}
use Rattle.b1_model.specs.declared.records.Call.{Call}
use Rattle.b1_model.specs.declared.records.Record.{Record}
use Rattle.b1_model.specs.Names.{Node, calls_of, made, epoch_at}
use Rattle.b1_model.specs.Ledger.{got_key, is_before, is_below, Message, to_at, is_accepted, is_node_of, is_entry, message, table, node_of, is_destroyed_in, destruction_by, destructions_of, doomed_at, is_late_by, is_late}
use Rattle.b1_model.specs.Legal.{last_key, is_above, is_open_to, is_message_in, is_message, is_notice_of, is_notice, is_candidate, Legal}
use Rattle.b1_ledger.specs.Growth.{Appends, sent_call, message_key, destroy_stamp, IsNewStamp, GoesTo, IsAboveReceipts, next_destruction, Names, DestroysAbove}
use Rattle.b1_ledger.proofs.Sequences.{or_true, or_left, or_right, bool_cases, option_cases}
use Rattle.b1_ledger.proofs.KeyOrder.{Before, before_is}
use Rattle.b1_ledger.proofs.Bound.{seen_of_stamp, message_of_call}
use Rattle.b1_ledger.proofs.Grows.{new_call, message_of_other, message_unsent, added, destructions_here, late_same, unlate, doomed_same}
use Rattle.b1_ledger.proofs.Kept.{epoch_kept, table_kept, is_message_same, is_message_was, notice_of_same, is_notice_same, legal_grows}
use Rattle.b1_ledger.proofs.Plain.{destruction_source, is_new, keys_stamped, order_stamped, next_free, sent_free, message_unstamped}
use Rattle.b1_ledger.proofs.Calls.{stamp_of_destroy, no_send, got_none, destroyed_found, node_of_notice, late_added, not_below_less, order_grows, doomed_unadded}

-- ---- a send

module _ (o : Opening) (r t : Record) (p : ℕ) (s : SendCmd) (b : Sent) (a : Appends r t p (sent_call s b)) (legal : Legal o r) where
  pub late_sent : (x : Node) (key : Key) → is_late o.wires t x key ≡ is_late o.wires r x key
  late_sent x key = late_same o r t p (sent_call s b) a legal x key refl

  pub doomed_sent : (key : Key) → doomed_at o.wires t key ≡ doomed_at o.wires r key
  doomed_sent key = doomed_unadded o r t p (sent_call s b) a legal refl key

  pub unsent_other : (stamp q : ℕ) → ((stamp ≡ b.stamp) → q ≢ p) → message o.wires t stamp q ≡ message o.wires r stamp q
  unsent_other stamp q other = elim (cases_eq stamp b.stamp) [
    | inl e ↦ message_of_other o r t p (sent_call s b) a legal stamp q (other e)
    | inr n ↦ message_unstamped o r t p (sent_call s b) a legal stamp q (λ e. n (sym (same_Some b.stamp stamp e)))
  ]

  -- a send adds no notice
  pub notice_sent : (q k : ℕ) (key : Key) → k ≤ length (calls_of r q) → is_notice o.wires t q k key ≡ is_notice o.wires r q k key
  notice_sent q k key l = is_notice_same o r t p (sent_call s b) a legal q k key l (doomed_sent key)

  -- a send adds no message but with its own stamp and origin
  pub message_sent_other : (q k : ℕ) (key : Key) → k ≤ length (calls_of r q) → ((key.stamp ≡ b.stamp) → key.origin ≢ p) → is_message o.wires t q k key ≡ is_message o.wires r q k key
  message_sent_other q k key l other = is_message_same o r t p (sent_call s b) a legal q k key l (unsent_other key.stamp key.origin other) (λ m x f g. late_sent x key)

  pub candidate_sent_other : (q k : ℕ) (key : Key) → k ≤ length (calls_of r q) → ((key.stamp ≡ b.stamp) → key.origin ≢ p) → is_candidate o.wires t q k key ≡ is_candidate o.wires r q k key
  candidate_sent_other q k key l other = rw (message_sent_other q k key l other, notice_sent q k key l) refl

  -- the new message
  pub message_sent : IsNewStamp r p b.stamp → message o.wires t b.stamp p ≡ Some (record { to = map (node_of o.wires t p (length (calls_of r p))) s.to; carried = map (node_of o.wires t p (length (calls_of r p))) s.with; places = b.places; payload = s.payload })
  message_sent new = message_of_call o.wires t (order_grows o r t p (sent_call s b) a legal (order_stamped o r t p (sent_call s b) a legal b.stamp refl new)) p (length (calls_of r p)) s b (new_call o r t p (sent_call s b) a legal)

  -- a message candidate with the send's stamp and origin is an accepted place that goes to a node of the present epoch
  pub message_sent_own : IsNewStamp r p b.stamp → (q k : ℕ) (key : Key) → k ≤ length (calls_of r q) → key.stamp ≡ b.stamp → key.origin ≡ p → is_message o.wires t q k key ≡ true → (x : Node) × GoesTo (map (node_of o.wires t p (length (calls_of r p))) s.to) b key.index x × (x.owner ≡ q) × (x.epoch ≡ epoch_at r q k)
  message_sent_own new q k key l es eo h =
      let m : Message = record { to = map (node_of o.wires t p (length (calls_of r p))) s.to; carried = map (node_of o.wires t p (length (calls_of r p))) s.with; places = b.places; payload = s.payload } in
      let found : message o.wires t key.stamp key.origin ≡ Some m = subst (λ u. message o.wires t u key.origin ≡ Some m) (sym es) (subst (λ u. message o.wires t b.stamp u ≡ Some m) (sym eo) (message_sent new)) in
      let both = and_parts (is_above key (last_key t q k)) (is_message_in o.wires t q k key (message o.wires t key.stamp key.origin)) h in
      let entry = and_parts (is_entry q key.index m) (is_open_to o.wires t q k key (to_at m key.index)) (sym (ap (is_message_in o.wires t q k key) found) ∙ both.1) in
      let placed = and_parts (is_accepted (slice_get m.places key.index)) (is_node_of q (to_at m key.index)) entry.0 in
      let at = open_node (to_at m key.index) entry.1 placed.1 in
      (at.0, (placed.0, at.1), at.2, at.3)
    where
      open_node : (y : Option Node) → is_open_to o.wires t q k key y ≡ true → is_node_of q y ≡ true → (x : Node) × (y ≡ Some x) × (x.owner ≡ q) × (x.epoch ≡ epoch_at r q k)
      open_node None g f = cc
      open_node (Some x) g f =
          let both = and_parts (x.epoch == epoch_at t q k) (not (is_late o.wires t x key)) g in
          let present : (x.epoch == epoch_at r q k) ≡ true = sym (ap (λ e. x.epoch == e) (epoch_kept o r t p (sent_call s b) a legal q k l)) ∙ both.0 in
          let owner : (x.owner == q) ≡ true = f in
          (x, refl, grind (arith, owner), grind (arith, present))

  -- a send above all that its accepted destinations' owners have received
  pub legal_sent : IsNewStamp r p b.stamp → IsAboveReceipts r (map (node_of o.wires t p (length (calls_of r p))) s.to) b → Legal o t
  legal_sent new above = legal_grows o r t p (sent_call s b) a legal (record {
    keys = keys_stamped o r t p (sent_call s b) a legal b.stamp refl new;
    order = order_stamped o r t p (sent_call s b) a legal b.stamp refl new;
    prefix = λ d at. next_free o r t p (sent_call s b) a legal o.wires t (length (calls_of r p)) d.answer (ap (λ x. got_key x.answer) (is_new o r t p (sent_call s b) a legal d at));
    contents = λ d at. sent_free o r t p (sent_call s b) a legal o.wires t (length (calls_of r p)) d.answer (ap (λ x. got_key x.answer) (is_new o r t p (sent_call s b) a legal d at));
    timely = λ q k d key m x at g e n. late_sent x key;
    above = λ q k d key other at g h. over q k d key other at g h (cases_eq other.stamp b.stamp) (cases_eq other.origin p);
  })
    where
      over : (q k : ℕ) (d : Call) (key other : Key) → slice_get (calls_of r q) k ≡ Some d → got_key d.answer ≡ Some key → is_candidate o.wires t q k other ≡ true → ((other.stamp ≡ b.stamp) ⊎ (other.stamp ≢ b.stamp)) → ((other.origin ≡ p) ⊎ (other.origin ≢ p)) → (is_candidate o.wires r q k other ≡ true) ⊎ (is_below other key ≡ false)
      over q k d key other at g h (inr n) z = inl (sym (candidate_sent_other q k other (omega (arith, slice_get_within (calls_of r q) k d at)) (λ e. absurd (n e))) ∙ h)
      over q k d key other at g h (inl e) (inr n) = inl (sym (candidate_sent_other q k other (omega (arith, slice_get_within (calls_of r q) k d at)) (λ f. n)) ∙ h)
      over q k d key other at g h (inl e) (inl f) =
          let l : k ≤ length (calls_of r q) = omega (arith, slice_get_within (calls_of r q) k d at) in
          elim (or_true (is_message o.wires t q k other) (is_notice o.wires t q k other) h) [
            | inl m ↦
                let x = message_sent_own new q k other l e f m in
                let low : key.stamp < b.stamp = above k other.index x.0 d key x.1 (subst (λ y. slice_get (calls_of r y) k ≡ Some d) (sym x.2) at) g (x.3 ∙ ap (λ y. epoch_at r y k) (sym x.2)) in
                inr (not_below_less other key (subst (λ u. key.stamp < u) (sym e) low))
            | inr n ↦ inl (or_right (is_message o.wires r q k other) (is_notice o.wires r q k other) (sym (notice_sent q k other l) ∙ n))
          ]

-- ---- a destruction

module _ (o : Opening) (r t : Record) (p : ℕ) (c : Call) (a : Appends r t p c) (legal : Legal o r) (stamp : ℕ) (destroys : destroy_stamp c.answer ≡ Some stamp) where
  pub added_is_next : added o r t p c a legal ≡ next_destruction o r t p c
  added_is_next = ap (λ tab. destruction_by p (made o.wires t p (length (calls_of r p))) tab (destructions_of o.wires r p) c.command c.answer) (table_kept o r t p c a legal p (length (calls_of r p)) (omega arith))

  pub message_doomed : (s q : ℕ) → message o.wires t s q ≡ message o.wires r s q
  message_doomed s q = message_unsent o r t p c a legal s q (no_send c.command c.answer stamp s destroys)

  -- what becomes late: messages after the destruction to a node that it destroys
  pub late_doomed : (x : Node) (key : Key) → is_late o.wires t x key ≡ true → (is_late o.wires r x key ≡ true) ⊎ ((is_before stamp p key.stamp key.origin ≡ true) × (is_destroyed_in (next_destruction o r t p c) x ≡ true))
  late_doomed x key late = elim (bool_cases (list_any (is_late_by x key) (added o r t p c a legal))) [
    | inr n ↦ inl (sym (late_same o r t p c a legal x key n) ∙ late)
    | inl y ↦
        let h = late_added p (made o.wires t p (length (calls_of r p))) (table o.wires t p (length (calls_of r p))) (destructions_of o.wires r p) c.command c.answer stamp x key destroys y in
        inr (h.0, ap (λ ds. is_destroyed_in ds x) (sym added_is_next) ∙ h.1)
  ]

  -- no message is added
  pub message_doomed_was : (q k : ℕ) (key : Key) → k ≤ length (calls_of r q) → is_message o.wires t q k key ≡ true → is_message o.wires r q k key ≡ true
  message_doomed_was q k key l h = is_message_was o r t p c a legal q k key l (message_doomed key.stamp key.origin) h

  -- no notice is added but with the destruction's own stamp and origin
  pub notice_doomed_other : (q k : ℕ) (key : Key) → k ≤ length (calls_of r q) → ((key.stamp ≡ stamp) → key.origin ≢ p) → is_notice o.wires t q k key ≡ is_notice o.wires r q k key
  notice_doomed_other q k key l other = is_notice_same o r t p c a legal q k key l
      (doomed_same o r t p c a legal key (λ e f. other (same_Some key.stamp stamp (sym f ∙ stamp_of_destroy c.answer stamp destroys)) e))

  -- the nodes of the new notices
  pub doomed_own : IsNewStamp r p stamp → (key : Key) (x : Node) → key.stamp ≡ stamp → key.origin ≡ p → doomed_at o.wires t key ≡ Some x → is_destroyed_in (next_destruction o r t p c) x ≡ true
  doomed_own new key x es eo h =
      let at = node_of_notice key.index (find (λ d. d.stamp == key.stamp) (destructions_of o.wires t key.origin)) x h in
      let here : find (λ d. d.stamp == key.stamp) (destructions_of o.wires t p) ≡ Some at.0 = subst (λ y. find (λ d. d.stamp == key.stamp) (destructions_of o.wires t y) ≡ Some at.0) eo at.1 in
      let split : option_or (find (λ d. d.stamp == key.stamp) (destructions_of o.wires r p)) (find (λ d. d.stamp == key.stamp) (added o r t p c a legal)) ≡ Some at.0 =
      sym (ap (find (λ d. d.stamp == key.stamp)) (destructions_here o r t p c a legal) ∙ find-append (λ d. d.stamp == key.stamp) (destructions_of o.wires r p) (added o r t p c a legal)) ∙ here in
      elim (option_cases (find (λ d. d.stamp == key.stamp) (destructions_of o.wires r p))) [
        | inl n ↦ ap (λ ds. is_destroyed_in ds x) (sym added_is_next) ∙ destroyed_found (λ d. d.stamp == key.stamp) (added o r t p c a legal) at.0 x (sym (ap (λ z. option_or z (find (λ d. d.stamp == key.stamp) (added o r t p c a legal))) n) ∙ split) at.2
        | inr y ↦
            let src = destruction_source o.wires r p (length (calls_of r p)) key.stamp y.0 y.1 in
            absurd (omega (arith, es, new.above src.0 key.stamp src.1 src.2 (seen_of_stamp src.1.answer key.stamp src.3)))
      ]

  -- a destruction above all that the nodes' owners and holders have received, and above the messages that name its nodes
  pub legal_doomed : IsNewStamp r p stamp → DestroysAbove o r (next_destruction o r t p c) stamp → Legal o t
  legal_doomed new above = legal_grows o r t p c a legal (record {
    keys = keys_stamped o r t p c a legal stamp (stamp_of_destroy c.answer stamp destroys) new;
    order = order_stamped o r t p c a legal stamp (stamp_of_destroy c.answer stamp destroys) new;
    prefix = λ d at. next_free o r t p c a legal o.wires t (length (calls_of r p)) d.answer (ap (λ x. got_key x.answer) (is_new o r t p c a legal d at) ∙ got_none c.answer stamp (stamp_of_destroy c.answer stamp destroys));
    contents = λ d at. sent_free o r t p c a legal o.wires t (length (calls_of r p)) d.answer (ap (λ x. got_key x.answer) (is_new o r t p c a legal d at) ∙ got_none c.answer stamp (stamp_of_destroy c.answer stamp destroys));
    timely = λ q k d key m x at g e n. timely q k d key m x at g e n (bool_cases (is_late o.wires t x key)) (bool_cases (is_late o.wires r x key));
    above = λ q k d key other at g h. over q k d key other at g h (cases_eq other.stamp stamp) (cases_eq other.origin p);
  })
    where
      timely : (q k : ℕ) (d : Call) (key : Key) (m : Message) (x : Node) → slice_get (calls_of r q) k ≡ Some d → message_key d.answer ≡ Some key → message o.wires r key.stamp key.origin ≡ Some m → Names m key.index x → ((is_late o.wires t x key ≡ true) ⊎ (is_late o.wires t x key ≡ false)) → ((is_late o.wires r x key ≡ true) ⊎ (is_late o.wires r x key ≡ false)) → is_late o.wires t x key ≡ is_late o.wires r x key
      timely q k d key m x at g e n (inr f) z = f ∙ sym (unlate o r t p c a legal x key f)
      timely q k d key m x at g e n (inl f) (inl h) = f ∙ sym h
      timely q k d key m x at g e n (inl f) (inr h) = elim (late_doomed x key f) [
        | inl y ↦ cc y
        | inr y ↦ absurd (no (above.named q k x d key m y.1 at g e n h) (before_is stamp p key.stamp key.origin y.0))
      ]
        where
          no : key.stamp < stamp → Before stamp p key.stamp key.origin → ⊥
          no u v = omega (arith, u, v)

      candidate_same : (q k : ℕ) (key : Key) → k ≤ length (calls_of r q) → ((key.stamp ≡ stamp) → key.origin ≢ p) → is_candidate o.wires t q k key ≡ true → is_candidate o.wires r q k key ≡ true
      candidate_same q k key l other h = elim (or_true (is_message o.wires t q k key) (is_notice o.wires t q k key) h) [
        | inl m ↦ or_left (is_message o.wires r q k key) (is_notice o.wires r q k key) (message_doomed_was q k key l m)
        | inr n ↦ or_right (is_message o.wires r q k key) (is_notice o.wires r q k key) (sym (notice_doomed_other q k key l other) ∙ n)
      ]

      over : (q k : ℕ) (d : Call) (key other : Key) → slice_get (calls_of r q) k ≡ Some d → got_key d.answer ≡ Some key → is_candidate o.wires t q k other ≡ true → ((other.stamp ≡ stamp) ⊎ (other.stamp ≢ stamp)) → ((other.origin ≡ p) ⊎ (other.origin ≢ p)) → (is_candidate o.wires r q k other ≡ true) ⊎ (is_below other key ≡ false)
      over q k d key other at g h (inr n) z = inl (candidate_same q k other (omega (arith, slice_get_within (calls_of r q) k d at)) (λ e. absurd (n e)) h)
      over q k d key other at g h (inl e) (inr n) = inl (candidate_same q k other (omega (arith, slice_get_within (calls_of r q) k d at)) (λ f. n) h)
      over q k d key other at g h (inl e) (inl f) =
          let l : k ≤ length (calls_of r q) = omega (arith, slice_get_within (calls_of r q) k d at) in
          elim (or_true (is_message o.wires t q k other) (is_notice o.wires t q k other) h) [
            | inl m ↦ inl (or_left (is_message o.wires r q k other) (is_notice o.wires r q k other) (message_doomed_was q k other l m))
            | inr n ↦ inr (new_notice q k d key other l at g e f (and_parts (is_above other (last_key t q k)) (is_notice_of o.wires t q k (doomed_at o.wires t other)) n).1 (option_cases (doomed_at o.wires t other)))
          ]
        where
          new_notice : (q k : ℕ) (d : Call) (key other : Key) → k ≤ length (calls_of r q) → slice_get (calls_of r q) k ≡ Some d → got_key d.answer ≡ Some key → other.stamp ≡ stamp → other.origin ≡ p → is_notice_of o.wires t q k (doomed_at o.wires t other) ≡ true → ((doomed_at o.wires t other ≡ None) ⊎ ((x : Node) × (doomed_at o.wires t other ≡ Some x))) → is_below other key ≡ false
          new_notice q k d key other l at g e f h (inl n) = let none : is_notice_of o.wires t q k (doomed_at o.wires t other) ≡ false = ap (is_notice_of o.wires t q k) n in cc (none, h)
          new_notice q k d key other l at g e f h (inr y) =
              let of : is_notice_of o.wires r q k (Some y.0) ≡ true = sym (notice_of_same o r t p c a legal q k l (Some y.0)) ∙ sym (ap (is_notice_of o.wires t q k) y.1) ∙ h in
              let low : key.stamp < stamp = above.holders q k y.0 d key (doomed_own new other y.0 e f y.1) at g of in
              not_below_less other key (subst (λ u. key.stamp < u) (sym e) low)
