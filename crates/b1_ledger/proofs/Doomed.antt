-- What each peer may receive next, after one more destruction.
use Rattle.std.specs.Prelude.{◌≡◌, refl, ℕ, ◌≤◌, ◌≢◌, Bool, true, false, not, ◌&&◌, ◌||◌, ◌==◌, find, length, Some}
use Rattle.std.specs.List.{list_any}
use Rattle.std.proofs.lemmas.Bool.{cases_eq}
use Rattle.std.proofs.Common.{arith, inl, inr, subst, sym, ap, ◌∙◌}
use Rattle.b1_model.specs.declared.naming.Key.{Key}
use Rattle.b1_model.specs.declared.naming.Opening.{Opening}
use Rattle.b1_model.specs.declared.records.Call.{Call}
use Rattle.b1_model.specs.declared.records.Record.{Record}
use Rattle.b1_model.specs.Names.{Node, calls_of, epoch_at}
use Rattle.b1_model.specs.Ledger.{Message, to_at, is_entry, message, node_at, doomed_at, is_late_by, is_late}
use Rattle.b1_model.specs.Legal.{last_key, is_above, is_open_to, is_message_in, is_message, is_notice_of, is_notice, Legal}
use Rattle.b1_ledger.specs.Growth.{Appends, destroy_stamp, IsNewStamp, next_destruction, is_quiet, may_receive_message, may_receive_notice}
use Rattle.b1_ledger.proofs.Grows.{new_call}
use Rattle.b1_ledger.proofs.Kept.{epoch_kept, last_kept, notice_of_same}
use Rattle.b1_ledger.proofs.Stamped.{message_doomed, message_doomed_was, notice_doomed_other}
use Rattle.b1_ledger.proofs.Steps.{message_quiet, notice_quiet}
use Rattle.b1_ledger.proofs.NextAfter.{late_is, doomed_is, len_here, len_there}

pub shut_by : (b e f l n : Bool) → (b && (e && (f && not (l || n)))) ≡ ((b && (e && (f && not l))) && not n)
shut_by true true true true n = refl
shut_by true true true false n = refl
shut_by true true false l n = refl
shut_by true false f l n = refl
shut_by false e f l n = refl

module _ (o : Opening) (r t : Record) (p : ℕ) (c : Call) (a : Appends r t p c) (legal : Legal o r) (stamp : ℕ) (destroys : destroy_stamp c.answer ≡ Some stamp) where
  -- a message may be received where it could before, and its node isn't destroyed before it
  pub message_doomed_is : (q k : ℕ) (key : Key) (m : Message) (x : Node) → k ≤ length (calls_of r q) → message o.wires r key.stamp key.origin ≡ Some m → to_at m key.index ≡ Some x → is_message o.wires t q k key ≡ (is_message o.wires r q k key && not (list_any (is_late_by x key) (next_destruction o r t p c)))
  message_doomed_is q k key m x l e f =
      let new : is_message o.wires t q k key ≡ (is_above key (last_key t q k) && (is_entry q key.index m && ((x.epoch == epoch_at t q k) && not (is_late o.wires t x key)))) =
      ap (λ z. is_above key (last_key t q k) && is_message_in o.wires t q k key z) (message_doomed o r t p c a legal stamp destroys key.stamp key.origin ∙ e) ∙ ap (λ y. is_above key (last_key t q k) && (is_entry q key.index m && is_open_to o.wires t q k key y)) f in
      let old : is_message o.wires r q k key ≡ (is_above key (last_key r q k) && (is_entry q key.index m && ((x.epoch == epoch_at r q k) && not (is_late o.wires r x key)))) =
      ap (λ z. is_above key (last_key r q k) && is_message_in o.wires r q k key z) e ∙ ap (λ y. is_above key (last_key r q k) && (is_entry q key.index m && is_open_to o.wires r q k key y)) f in
      new
      ∙ ap (λ z. is_above key z && (is_entry q key.index m && ((x.epoch == epoch_at t q k) && not (is_late o.wires t x key)))) (last_kept o r t p c a legal q k l)
      ∙ ap (λ n. is_above key (last_key r q k) && (is_entry q key.index m && ((x.epoch == n) && not (is_late o.wires t x key)))) (epoch_kept o r t p c a legal q k l)
      ∙ ap (λ b. is_above key (last_key r q k) && (is_entry q key.index m && ((x.epoch == epoch_at r q k) && not b))) (late_is o r t p c a legal x key)
      ∙ shut_by (is_above key (last_key r q k)) (is_entry q key.index m) (x.epoch == epoch_at r q k) (is_late o.wires r x key) (list_any (is_late_by x key) (next_destruction o r t p c))
      ∙ ap (λ b. b && not (list_any (is_late_by x key) (next_destruction o r t p c))) (sym old)

  -- a notice with the destruction's stamp and origin may be received by those whom its node concerns
  pub notice_doomed_is : IsNewStamp r p stamp → (q k : ℕ) (key : Key) → k ≤ length (calls_of r q) → key.stamp ≡ stamp → key.origin ≡ p → is_notice o.wires t q k key ≡ (is_above key (last_key r q k) && is_notice_of o.wires r q k (node_at key.index (find (λ d. d.stamp == key.stamp) (next_destruction o r t p c))))
  notice_doomed_is new q k key l es eo =
      ap (λ z. is_above key z && is_notice_of o.wires t q k (doomed_at o.wires t key)) (last_kept o r t p c a legal q k l)
      ∙ ap (λ y. is_above key (last_key r q k) && is_notice_of o.wires t q k y) (doomed_is o r t p c a legal stamp new key es eo)
      ∙ ap (λ b. is_above key (last_key r q k) && b) (notice_of_same o r t p c a legal q k l (node_at key.index (find (λ d. d.stamp == key.stamp) (next_destruction o r t p c))))

  -- ---- at the ends of the lists, of the other peers, and of p where its epoch lasts

  pub end_is : (q : ℕ) → ((q ≡ p) → is_quiet c.command c.answer ≡ true) → (key : Key) → (may_receive_message o t q key ≡ is_message o.wires t q (length (calls_of r q)) key) × (may_receive_notice o t q key ≡ is_notice o.wires t q (length (calls_of r q)) key)
  end_is q quiet key = elim (cases_eq q p) [
    | inl e ↦ subst (λ y. (may_receive_message o t y key ≡ is_message o.wires t y (length (calls_of r y)) key) × (may_receive_notice o t y key ≡ is_notice o.wires t y (length (calls_of r y)) key)) (sym e) (
      ap (λ n. is_message o.wires t p n key) (len_here o r t p c a legal) ∙ message_quiet o.wires t p (length (calls_of r p)) c (new_call o r t p c a legal) (quiet e) key,
      ap (λ n. is_notice o.wires t p n key) (len_here o r t p c a legal) ∙ notice_quiet o.wires t p (length (calls_of r p)) c (new_call o r t p c a legal) (quiet e) key,
    )
    | inr n ↦ (ap (λ m. is_message o.wires t q m key) (len_there o r t p c a legal q n), ap (λ m. is_notice o.wires t q m key) (len_there o r t p c a legal q n))
  ]

  pub may_doomed_message : (q : ℕ) → ((q ≡ p) → is_quiet c.command c.answer ≡ true) → (key : Key) → may_receive_message o t q key ≡ true → may_receive_message o r q key ≡ true
  may_doomed_message q quiet key h = message_doomed_was o r t p c a legal stamp destroys q (length (calls_of r q)) key (omega arith) (sym (end_is q quiet key).0 ∙ h)

  pub may_doomed_message_is : (q : ℕ) → ((q ≡ p) → is_quiet c.command c.answer ≡ true) → (key : Key) (m : Message) (x : Node) → message o.wires r key.stamp key.origin ≡ Some m → to_at m key.index ≡ Some x → may_receive_message o t q key ≡ (may_receive_message o r q key && not (list_any (is_late_by x key) (next_destruction o r t p c)))
  may_doomed_message_is q quiet key m x e f = (end_is q quiet key).0 ∙ message_doomed_is q (length (calls_of r q)) key m x (omega arith) e f

  pub may_doomed_other : (q : ℕ) → ((q ≡ p) → is_quiet c.command c.answer ≡ true) → (key : Key) → ((key.stamp ≡ stamp) → key.origin ≢ p) → may_receive_notice o t q key ≡ may_receive_notice o r q key
  may_doomed_other q quiet key other = (end_is q quiet key).1 ∙ notice_doomed_other o r t p c a legal stamp destroys q (length (calls_of r q)) key (omega arith) other

  pub may_doomed_own : IsNewStamp r p stamp → (q : ℕ) → ((q ≡ p) → is_quiet c.command c.answer ≡ true) → (key : Key) → key.stamp ≡ stamp → key.origin ≡ p → may_receive_notice o t q key ≡ (is_above key (last_key r q (length (calls_of r q))) && is_notice_of o.wires r q (length (calls_of r q)) (node_at key.index (find (λ d. d.stamp == key.stamp) (next_destruction o r t p c))))
  may_doomed_own new q quiet key es eo = (end_is q quiet key).1 ∙ notice_doomed_is new q (length (calls_of r q)) key (omega arith) es eo
