-- A record stays legal where no peer's calls change.
use Rattle.std.specs.Prelude.{◌≡◌, refl, ℕ, zero, suc, ◌&&◌, ◌||◌, ◌==◌, List, length, slice_get, Option, Some, None, flat_map, find, take, option_and_then}
use Rattle.std.specs.List.{list_any, range_with_len}
use Rattle.std.proofs.Common.{sym, ap, ◌∙◌}
use Rattle.b1_model.specs.declared.naming.Key.{Key}
use Rattle.b1_model.specs.declared.naming.Wire.{Wire}
use Rattle.b1_model.specs.declared.naming.Opening.{Opening}
use Rattle.b1_model.specs.declared.answers.Receipt.TheVariants as rec
use Rattle.b1_model.specs.declared.answers.Answer.{Answer}
use Rattle.b1_model.specs.declared.answers.Answer.TheVariants as ans
use Rattle.b1_model.specs.declared.records.Call.{Call}
use Rattle.b1_model.specs.declared.records.Record.{Record}
use Rattle.b1_model.specs.Names.{Node, calls_of, wired, made_in, made, epoch_in, epoch_at}
use Rattle.b1_model.specs.Ledger.{message_within, message_at, sent_at, slots_by, message, slots, table_in, start, table, add_destruction, destructions_before, destructions_of, node_at, doomed_at, is_late, is_late_by, Message, to_at, is_entry}
use Rattle.b1_model.specs.Legal.{last_in, last_key, is_above, is_open_to, is_message_in, is_message, is_notice_of, is_notice, is_candidate, own_number_of, notice_number, arrived, IsNextReceipt, IsWhatWasSent, Legal}

module _ (ws : List Wire) (r t : Record) (peers : length t.peers ≡ length r.peers) (calls : (q : ℕ) → calls_of t q ≡ calls_of r q) where
  within_is : (n stamp q : ℕ) → message_within ws t n stamp q ≡ message_within ws r n stamp q
  within_is zero stamp q = refl
  within_is (suc n) stamp q =
      ap (λ cs. option_and_then (message_at ws q cs (slots_by (message_within ws t n) q)) (sent_at stamp cs)) (calls q)
      ∙ ap (λ f. option_and_then (message_at ws q (calls_of r q) (slots_by f q)) (sent_at stamp (calls_of r q))) (λ i s p. within_is n s p i)

  -- the messages are the same
  pub message_is : (stamp q : ℕ) → message ws t stamp q ≡ message ws r stamp q
  message_is stamp q = within_is (suc stamp) stamp q

  -- the names are the same
  pub made_is : (p k : ℕ) → made ws t p k ≡ made ws r p k
  made_is p k = ap (λ cs. made_in 0 (wired ws p) (take (suc k) cs)) (calls p)

  -- the tables are the same
  pub table_is : (p k : ℕ) → table ws t p k ≡ table ws r p k
  table_is p k =
      ap (λ cs. table_in (slots ws t p) (start ws p) (take k cs)) (calls p)
      ∙ ap (λ f. table_in (slots_by f p) (start ws p) (take k (calls_of r p))) (λ i stamp q. message_is stamp q i)

  -- the epochs are the same
  pub epoch_is : (p k : ℕ) → epoch_at t p k ≡ epoch_at r p k
  epoch_is p k = ap (λ cs. epoch_in 0 (take k cs)) (calls p)

  -- the last receipts are the same
  pub last_is : (p k : ℕ) → last_key t p k ≡ last_key r p k
  last_is p k = ap (λ cs. last_in None (take k cs)) (calls p)

  before_is : (p k : ℕ) → destructions_before ws t p k ≡ destructions_before ws r p k
  before_is p zero = refl
  before_is p (suc k) =
      ap (λ known. add_destruction p known (table ws t p k) (slice_get (calls_of t p) k) (destructions_before ws t p k)) (made_is p k)
      ∙ ap (λ tab. add_destruction p (made ws r p k) tab (slice_get (calls_of t p) k) (destructions_before ws t p k)) (table_is p k)
      ∙ ap (λ cs. add_destruction p (made ws r p k) (table ws r p k) (slice_get cs k) (destructions_before ws t p k)) (calls p)
      ∙ ap (add_destruction p (made ws r p k) (table ws r p k) (slice_get (calls_of r p) k)) (before_is p k)

  -- the destructions are the same
  pub destructions_is : (p : ℕ) → destructions_of ws t p ≡ destructions_of ws r p
  destructions_is p = ap (λ cs. destructions_before ws t p (length cs)) (calls p) ∙ before_is p (length (calls_of r p))

  -- the nodes of notices are the same
  pub doomed_is : (key : Key) → doomed_at ws t key ≡ doomed_at ws r key
  doomed_is key = ap (λ ds. node_at key.index (find (λ d. d.stamp == key.stamp) ds)) (destructions_is key.origin)

  -- the same is destroyed before a call
  pub late_is : (x : Node) (key : Key) → is_late ws t x key ≡ is_late ws r x key
  late_is x key =
      ap (λ n. list_any (is_late_by x key) (flat_map (destructions_of ws t) (range_with_len 0 n))) peers
      ∙ ap (λ f. list_any (is_late_by x key) (flat_map f (range_with_len 0 (length r.peers)))) (λ i p. destructions_is p i)

  open_is : (p k : ℕ) (key : Key) (y : Option Node) → is_open_to ws t p k key y ≡ is_open_to ws r p k key y
  open_is p k key None = refl
  open_is p k key (Some x) = rw (epoch_is p k, late_is x key) refl

  message_in_is : (p k : ℕ) (key : Key) (z : Option Message) → is_message_in ws t p k key z ≡ is_message_in ws r p k key z
  message_in_is p k key None = refl
  message_in_is p k key (Some m) = ap (λ b. is_entry p key.index m && b) (open_is p k key (to_at m key.index))

  is_message_is : (p k : ℕ) (key : Key) → is_message ws t p k key ≡ is_message ws r p k key
  is_message_is p k key =
      ap (λ l. is_above key l && is_message_in ws t p k key (message ws t key.stamp key.origin)) (last_is p k)
      ∙ ap (λ b. is_above key (last_key r p k) && b) (ap (is_message_in ws t p k key) (message_is key.stamp key.origin) ∙ message_in_is p k key (message ws r key.stamp key.origin))

  notice_of_is : (p k : ℕ) (y : Option Node) → is_notice_of ws t p k y ≡ is_notice_of ws r p k y
  notice_of_is p k None = refl
  notice_of_is p k (Some x) = rw (epoch_is p k, table_is p k) refl

  is_notice_is : (p k : ℕ) (key : Key) → is_notice ws t p k key ≡ is_notice ws r p k key
  is_notice_is p k key =
      ap (λ l. is_above key l && is_notice_of ws t p k (doomed_at ws t key)) (last_is p k)
      ∙ ap (λ b. is_above key (last_key r p k) && b) (ap (is_notice_of ws t p k) (doomed_is key) ∙ notice_of_is p k (doomed_at ws r key))

  -- the same may be received
  pub candidate_is : (p k : ℕ) (key : Key) → is_candidate ws t p k key ≡ is_candidate ws r p k key
  candidate_is p k key = ap (λ b. b || is_notice ws t p k key) (is_message_is p k key) ∙ ap (λ b. is_message ws r p k key || b) (is_notice_is p k key)

  next_stays : (p k : ℕ) (a : Answer) → IsNextReceipt ws r p k a → IsNextReceipt ws t p k a
  next_stays p k (ans.Got (rec.Message key number offset handles payload)) h = (is_message_is p k key ∙ h.0, λ other is. h.1 other (sym (candidate_is p k other) ∙ is))
  next_stays p k (ans.Got (rec.Destroyed key number)) h = (is_notice_is p k key ∙ h.0, λ other is. h.1 other (sym (candidate_is p k other) ∙ is))
  next_stays p k a h = tt

  handles_is : (p k : ℕ) (key : Key) (m : Message) → arrived (λ x. is_late ws t x key) p (made ws t p k) m.carried (table ws t p k) ≡ arrived (λ x. is_late ws r x key) p (made ws r p k) m.carried (table ws r p k)
  handles_is p k key m =
      ap (λ late. arrived late p (made ws t p k) m.carried (table ws t p k)) (λ i x. late_is x key i)
      ∙ ap (λ known. arrived (λ x. is_late ws r x key) p known m.carried (table ws t p k)) (made_is p k)
      ∙ ap (arrived (λ x. is_late ws r x key) p (made ws r p k) m.carried) (table_is p k)

  sent_stays : (p k : ℕ) (a : Answer) → IsWhatWasSent ws r p k a → IsWhatWasSent ws t p k a
  sent_stays p k (ans.Got (rec.Message key number offset handles payload)) h = (
    h.0,
    message_is key.stamp key.origin ∙ h.1,
    record {
      number = ap (λ known. own_number_of known (to_at h.0 key.index)) (made_is p k) ∙ h.2.number;
      payload = h.2.payload;
      handles = h.2.handles ∙ sym (handles_is p k key h.0);
    },
  )
  sent_stays p k (ans.Got (rec.Destroyed key number)) h =
      ap (λ known. notice_number p known (table ws t p k) (doomed_at ws t key)) (made_is p k)
      ∙ ap (λ tab. notice_number p (made ws r p k) tab (doomed_at ws t key)) (table_is p k)
      ∙ ap (notice_number p (made ws r p k) (table ws r p k)) (doomed_is key)
      ∙ h
  sent_stays p k a h = tt

-- the same calls are as legal
pub same_legal : (o : Opening) (r t : Record) → length t.peers ≡ length r.peers → ((q : ℕ) → calls_of t q ≡ calls_of r q) → Legal o r → Legal o t
same_legal o r t peers calls legal = record {
  keys = λ p k. record {
    even = λ c stamp at is. (legal.keys p k).even c stamp (old p k c at) is;
    once = λ i stamp b c before first second is. (legal.keys p k).once i stamp b c before (old p i b first) (old p k c second) is;
  };
  order = λ p k i low high b c before first second. legal.order p k i low high b c before (old p i b first) (old p k c second);
  prefix = λ p k c at. next_stays o.wires r t peers calls p k c.answer (legal.prefix p k c (old p k c at));
  contents = λ p k c at. sent_stays o.wires r t peers calls p k c.answer (legal.contents p k c (old p k c at));
}
  where
    old : (p k : ℕ) (c : Call) → slice_get (calls_of t p) k ≡ Some c → slice_get (calls_of r p) k ≡ Some c
    old p k c at = ap (λ cs. slice_get cs k) (sym (calls p)) ∙ at
