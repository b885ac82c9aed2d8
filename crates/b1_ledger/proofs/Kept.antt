-- Which entries a peer may receive after one more call, and when a record stays legal.
use Rattle.std.specs.Prelude.{◌≡◌, refl, ℕ, suc, ◌<◌, ◌≤◌, ◌⊎◌, Bool, true, false, not, ◌&&◌, ◌==◌, List, [], ◌∷◌, length, slice_get, Option, Some, None}
use Rattle.std.proofs.lemmas.Option.{slice_get_within}
use Rattle.std.proofs.Common.{arith, inl, inr, subst, sym, ap, ◌∙◌}
use Rattle.std.proofs.lemmas.Bool.{and_parts, not-true}
use Rattle.b1_model.specs.declared.naming.Key.{Key}
use Rattle.b1_model.specs.declared.naming.Opening.{Opening}
use Rattle.b1_model.specs.declared.answers.Receipt.TheVariants as rec
use Rattle.b1_model.specs.declared.answers.Answer.{Answer}
use Rattle.b1_model.specs.declared.answers.Answer.TheVariants as ans
use Rattle.b1_model.specs.declared.records.Call.{Call}
use Rattle.b1_model.specs.declared.records.Record.{Record}
use Rattle.b1_model.specs.Names.{Node, Name, calls_of, made, epoch_at}
use Rattle.b1_model.specs.Ledger.{got_key, is_below, Table, received, Message, to_at, is_entry, message, table, doomed_at, is_late}
use Rattle.b1_model.specs.Legal.{last_key, is_above, is_open_to, is_message_in, is_message, is_notice_of, is_notice, is_candidate, arrives, arrived, notice_number, KeepsKeys, KeepsOrder, IsNextReceipt, KeepsPrefix, IsWhatWasSent, KeepsContents, Legal}
use Rattle.b1_ledger.specs.Growth.{Appends, Names, message_key}
use Rattle.b1_ledger.proofs.Sequences.{and_of, option_cases}
use Rattle.b1_ledger.proofs.Stable.{Keeps, message_same, call_same, made_same, epoch_same, last_same, table_same}
use Rattle.b1_ledger.proofs.Grows.{Found, found_of_message, keeps, old_or_new, unlate, doomed_stays}

pub arrived-same : (late soon : Node → Bool) (q : ℕ) (known : List Name) (xs : List (Option Node)) (tab : Table) → ((j : ℕ) (x : Node) → slice_get xs j ≡ Some (Some x) → late x ≡ soon x) → arrived late q known xs tab ≡ arrived soon q known xs tab
arrived-same late soon q known [] tab h = refl
arrived-same late soon q known (x ∷ xs) tab h =
    let e : arrives late q known tab x ≡ arrives soon q known tab x = one x (h 0) in
    rw (e, arrived-same late soon q known xs (received (arrives soon q known tab x) x tab) (λ j y at. h (suc j) y at)) refl
  where
    one : (y : Option Node) → ((z : Node) → Some y ≡ Some (Some z) → late z ≡ soon z) → arrives late q known tab y ≡ arrives soon q known tab y
    one None g = refl
    one (Some z) g = rw (g z refl) refl

module _ (o : Opening) (r t : Record) (p : ℕ) (c : Call) (a : Appends r t p c) (legal : Legal o r) where
  abbrev kept : Keeps (Found r) r t
  kept = keeps o r t p c a legal

  pub epoch_kept : (q k : ℕ) → k ≤ length (calls_of r q) → epoch_at t q k ≡ epoch_at r q k
  epoch_kept q k l = epoch_same o.wires (Found r) r t kept q k l

  pub last_kept : (q k : ℕ) → k ≤ length (calls_of r q) → last_key t q k ≡ last_key r q k
  last_kept q k l = last_same o.wires (Found r) r t kept q k l

  pub table_kept : (q k : ℕ) → k ≤ length (calls_of r q) → table o.wires t q k ≡ table o.wires r q k
  table_kept q k l = table_same o.wires (Found r) r t kept q k l

  pub made_kept : (q k : ℕ) → k < length (calls_of r q) → made o.wires t q k ≡ made o.wires r q k
  made_kept q k l = made_same o.wires (Found r) r t kept q k l

  pub open_same : (q k : ℕ) (key : Key) → k ≤ length (calls_of r q) → (y : Option Node) → ((x : Node) → y ≡ Some x → is_late o.wires t x key ≡ is_late o.wires r x key) → is_open_to o.wires t q k key y ≡ is_open_to o.wires r q k key y
  open_same q k key l None h = refl
  open_same q k key l (Some x) h = rw (epoch_kept q k l, h x refl) refl

  pub message_in_same : (q k : ℕ) (key : Key) → k ≤ length (calls_of r q) → (z : Option Message) → ((m : Message) (x : Node) → z ≡ Some m → to_at m key.index ≡ Some x → is_late o.wires t x key ≡ is_late o.wires r x key) → is_message_in o.wires t q k key z ≡ is_message_in o.wires r q k key z
  message_in_same q k key l None h = refl
  message_in_same q k key l (Some m) h = ap (λ b. is_entry q key.index m && b) (open_same q k key l (to_at m key.index) (λ x e. h m x refl e))

  -- a message candidate is the same one, where its message is and no node becomes late
  pub is_message_same : (q k : ℕ) (key : Key) → k ≤ length (calls_of r q) → message o.wires t key.stamp key.origin ≡ message o.wires r key.stamp key.origin → ((m : Message) (x : Node) → message o.wires r key.stamp key.origin ≡ Some m → to_at m key.index ≡ Some x → is_late o.wires t x key ≡ is_late o.wires r x key) → is_message o.wires t q k key ≡ is_message o.wires r q k key
  is_message_same q k key l e h = rw (last_kept q k l, e, message_in_same q k key l (message o.wires r key.stamp key.origin) h) refl

  -- a message candidate after the call was one before, where its message is the same
  pub is_message_was : (q k : ℕ) (key : Key) → k ≤ length (calls_of r q) → message o.wires t key.stamp key.origin ≡ message o.wires r key.stamp key.origin → is_message o.wires t q k key ≡ true → is_message o.wires r q k key ≡ true
  is_message_was q k key l e h =
      let both = and_parts (is_above key (last_key t q k)) (is_message_in o.wires t q k key (message o.wires t key.stamp key.origin)) h in
      and_of (is_above key (last_key r q k)) (is_message_in o.wires r q k key (message o.wires r key.stamp key.origin))
      (sym (ap (is_above key) (last_kept q k l)) ∙ both.0)
      (was (message o.wires r key.stamp key.origin) (sym (ap (is_message_in o.wires t q k key) e) ∙ both.1))
    where
      opens : (y : Option Node) → is_open_to o.wires t q k key y ≡ true → is_open_to o.wires r q k key y ≡ true
      opens None g = g
      opens (Some x) g =
          let both = and_parts (x.epoch == epoch_at t q k) (not (is_late o.wires t x key)) g in
          and_of (x.epoch == epoch_at r q k) (not (is_late o.wires r x key)) (sym (ap (λ e. x.epoch == e) (epoch_kept q k l)) ∙ both.0)
          (ap not (unlate o r t p c a legal x key (not-true (is_late o.wires t x key) both.1)))

      was : (z : Option Message) → is_message_in o.wires t q k key z ≡ true → is_message_in o.wires r q k key z ≡ true
      was None g = g
      was (Some m) g = let both = and_parts (is_entry q key.index m) (is_open_to o.wires t q k key (to_at m key.index)) g in
          and_of (is_entry q key.index m) (is_open_to o.wires r q k key (to_at m key.index)) both.0 (opens (to_at m key.index) both.1)

  pub notice_of_same : (q k : ℕ) → k ≤ length (calls_of r q) → (y : Option Node) → is_notice_of o.wires t q k y ≡ is_notice_of o.wires r q k y
  notice_of_same q k l None = refl
  notice_of_same q k l (Some x) = rw (epoch_kept q k l, table_kept q k l) refl

  -- a notice candidate is the same one, where its node is
  pub is_notice_same : (q k : ℕ) (key : Key) → k ≤ length (calls_of r q) → doomed_at o.wires t key ≡ doomed_at o.wires r key → is_notice o.wires t q k key ≡ is_notice o.wires r q k key
  is_notice_same q k key l e = rw (last_kept q k l, e, notice_of_same q k l (doomed_at o.wires r key)) refl

  -- the contents of a receipt of r are judged the same, where no node that its message names becomes late
  pub contents_same : (q k : ℕ) (b : Answer) → k ≤ length (calls_of r q) → made o.wires t q k ≡ made o.wires r q k → ((key : Key) (m : Message) (x : Node) → message_key b ≡ Some key → message o.wires r key.stamp key.origin ≡ Some m → Names m key.index x → is_late o.wires t x key ≡ is_late o.wires r x key) → IsWhatWasSent o.wires r q k b → IsWhatWasSent o.wires t q k b
  contents_same q k (ans.Got (rec.Message key number offset handles payload)) l known h was = (
    was.0,
    message_same o.wires (Found r) r t kept key.stamp key.origin (found_of_message o.wires r key.stamp key.origin was.0 was.1) ∙ was.1,
    record {
      number = rw (known) was.2.number;
      payload = was.2.payload;
      handles = rw (known, table_kept q k l) (was.2.handles ∙ sym (arrived-same (λ x. is_late o.wires t x key) (λ x. is_late o.wires r x key) q (made o.wires r q k) was.0.carried (table o.wires r q k) (λ j x at. h key was.0 x refl was.1 (inr (j, at)))));
    },
  )
  contents_same q k (ans.Got (rec.Destroyed key number)) l known h was = elim (option_cases (doomed_at o.wires r key)) [
    | inl n ↦ let none : notice_number q (made o.wires r q k) (table o.wires r q k) (doomed_at o.wires r key) ≡ None = ap (notice_number q (made o.wires r q k) (table o.wires r q k)) n in cc (none, was)
    | inr s ↦ rw (known, table_kept q k l) (ap (notice_number q (made o.wires r q k) (table o.wires r q k)) (doomed_stays o r t p c a legal key s.0 s.1 ∙ sym s.1) ∙ was)
  ]
  contents_same q k b l known h was = was

  -- what the new call and the old receipts must keep
  pub record Fits : Type 0 where
    pub keys : KeepsKeys t p (length (calls_of r p))
    pub order : KeepsOrder t p (length (calls_of r p))
    pub prefix : KeepsPrefix o.wires t p (length (calls_of r p))
    pub contents : KeepsContents o.wires t p (length (calls_of r p))
    pub timely : (q k : ℕ) (d : Call) (key : Key) (m : Message) (x : Node) → slice_get (calls_of r q) k ≡ Some d → message_key d.answer ≡ Some key → message o.wires r key.stamp key.origin ≡ Some m → Names m key.index x → is_late o.wires t x key ≡ is_late o.wires r x key
    pub above : (q k : ℕ) (d : Call) (key other : Key) → slice_get (calls_of r q) k ≡ Some d → got_key d.answer ≡ Some key → is_candidate o.wires t q k other ≡ true → (is_candidate o.wires r q k other ≡ true) ⊎ (is_below other key ≡ false)

  pub next_same : (q k : ℕ) (d : Call) → slice_get (calls_of r q) k ≡ Some d → Fits → (b : Answer) → d.answer ≡ b → IsNextReceipt o.wires r q k b → IsWhatWasSent o.wires r q k b → IsNextReceipt o.wires t q k b
  next_same q k d at fits (ans.Got (rec.Message key number offset handles payload)) e next was =
      let l : k ≤ length (calls_of r q) = omega (arith, slice_get_within (calls_of r q) k d at) in (
        is_message_same q k key l (message_same o.wires (Found r) r t kept key.stamp key.origin (found_of_message o.wires r key.stamp key.origin was.0 was.1)) (λ m x f g. fits.timely q k d key m x at (ap message_key e) f (inl g)) ∙ next.0,
        λ other h. elim (fits.above q k d key other at (ap got_key e) h) [ inl i ↦ next.1 other i | inr i ↦ i ],
      )
  next_same q k d at fits (ans.Got (rec.Destroyed key number)) e next was =
      let l : k ≤ length (calls_of r q) = omega (arith, slice_get_within (calls_of r q) k d at) in (
        stays l (option_cases (doomed_at o.wires r key)) next.0,
        λ other h. elim (fits.above q k d key other at (ap got_key e) h) [ inl i ↦ next.1 other i | inr i ↦ i ],
      )
    where
      stays : k ≤ length (calls_of r q) → ((doomed_at o.wires r key ≡ None) ⊎ ((x : Node) × (doomed_at o.wires r key ≡ Some x))) → is_notice o.wires r q k key ≡ true → is_notice o.wires t q k key ≡ true
      stays l (inl n) h = let both = and_parts (is_above key (last_key r q k)) (is_notice_of o.wires r q k (doomed_at o.wires r key)) h in
          let none : is_notice_of o.wires r q k (doomed_at o.wires r key) ≡ false = ap (is_notice_of o.wires r q k) n in cc (none, both.1)
      stays l (inr s) h = is_notice_same q k key l (doomed_stays o r t p c a legal key s.0 s.1 ∙ sym s.1) ∙ h
  next_same q k d at fits b e next was = tt

  pub legal_grows : Fits → Legal o t
  legal_grows fits = record {
    keys = λ q k. record {
      even = λ d s at st. elim (old_or_new o r t p c a legal q k d at) [ inl h ↦ (legal.keys q k).even d s h st | inr e ↦ (keys_at q k e.0 e.1).even d s at st ];
      once = λ i s b d l at_b at_d sb. elim (old_or_new o r t p c a legal q k d at_d) [ inl h ↦ (legal.keys q k).once i s b d l (earlier q k i d b l h at_b) h sb | inr e ↦ (keys_at q k e.0 e.1).once i s b d l at_b at_d sb ];
    };
    order = λ q k i s u b d l at_b at_d sb sd. elim (old_or_new o r t p c a legal q k d at_d) [
      | inl h ↦ legal.order q k i s u b d l (earlier q k i d b l h at_b) h sb sd
      | inr e ↦ (subst (λ y. KeepsOrder t y k) (sym e.0) (subst (λ x. KeepsOrder t p x) (sym e.1) fits.order)) i s u b d l at_b at_d sb sd
    ];
    prefix = λ q k d at. elim (old_or_new o r t p c a legal q k d at) [
      | inl h ↦ next_same q k d h fits d.answer refl (legal.prefix q k d h) (legal.contents q k d h)
      | inr e ↦ (subst (λ y. KeepsPrefix o.wires t y k) (sym e.0) (subst (λ x. KeepsPrefix o.wires t p x) (sym e.1) fits.prefix)) d at
    ];
    contents = λ q k d at. elim (old_or_new o r t p c a legal q k d at) [
      | inl h ↦ contents_same q k d.answer (omega (arith, slice_get_within (calls_of r q) k d h)) (made_kept q k (slice_get_within (calls_of r q) k d h)) (λ key m x g f n. fits.timely q k d key m x h g f n) (legal.contents q k d h)
      | inr e ↦ (subst (λ y. KeepsContents o.wires t y k) (sym e.0) (subst (λ x. KeepsContents o.wires t p x) (sym e.1) fits.contents)) d at
    ];
  }
    where
      keys_at : (q k : ℕ) → q ≡ p → k ≡ length (calls_of r p) → KeepsKeys t q k
      keys_at q k e f = subst (λ y. KeepsKeys t y k) (sym e) (subst (λ x. KeepsKeys t p x) (sym f) fits.keys)

      earlier : (q k i : ℕ) (d b : Call) → i < k → slice_get (calls_of r q) k ≡ Some d → slice_get (calls_of t q) i ≡ Some b → slice_get (calls_of r q) i ≡ Some b
      earlier q k i d b l h at = sym (call_same o.wires (Found r) r t kept q i (omega (arith, l, slice_get_within (calls_of r q) k d h))) ∙ at
