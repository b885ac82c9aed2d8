-- A record grows: of a legal one nothing changes that its calls show; one more call adds a message, or a destruction, or none.
use Rattle.std.specs.Prelude.{◌≡◌, refl, ℕ, suc, ◌≢◌, ◌⊎◌, true, false, ◌==◌, List, [], ◌∷◌, ◌++◌, find, length, slice_get, Option, Some, None, option_and_then, flat_map}
use Rattle.std.specs.List.{list_any, range_with_len}
use Rattle.std.specs.Option.{option_or}
use Rattle.std.proofs.lemmas.List.{length-append}
use Rattle.std.proofs.lemmas.List.Folds.{list_any-append, find-append}
use Rattle.std.proofs.lemmas.Bool.{cases_eq}
use Rattle.std.proofs.Common.{arith, inl, inr, subst, sym, ap, ◌∙◌, append-nil}
use Rattle.std.proofs.Math.Bool.{or-false}
use Rattle.b1_model.specs.declared.naming.Key.{Key}
use Rattle.b1_model.specs.declared.naming.Wire.{Wire}
use Rattle.b1_model.specs.declared.naming.Opening.{Opening}
use Rattle.b1_model.specs.declared.commands.Command.{Command}
use Rattle.b1_model.specs.declared.answers.Receipt.TheVariants as rec
use Rattle.b1_model.specs.declared.answers.Answer.{Answer}
use Rattle.b1_model.specs.declared.answers.Answer.TheVariants as ans
use Rattle.b1_model.specs.declared.records.Call.{Call}
use Rattle.b1_model.specs.declared.records.Record.{Record}
use Rattle.b1_model.specs.Names.{Node, Name, calls_of, made}
use Rattle.b1_model.specs.Ledger.{stamp_of, is_before, peers_of, Table, Message, is_send, sent_at, message_at, slots_by, message_within, message, table, Destruction, destruction_by, destructions_before, destructions_of, node_at, doomed_at, is_late_by, is_late}
use Rattle.b1_model.specs.Legal.{IsWhatWasSent, Legal}
use Rattle.b1_ledger.specs.Growth.{Extends, Appends}
use Rattle.b1_ledger.proofs.Sequences.{slice_get-end, slice_get-more, each-of, list_any-flat_map, list_any-flat_map_more, or_left, bool_cases, option_cases}
use Rattle.b1_ledger.proofs.Walks.{sent_at-append, sent_at-more}
use Rattle.b1_ledger.proofs.Stable.{GoodIn, Keeps, message_same, destructions_before_same}

-- a send with this stamp of q stands in r
abbrev pub Found : Record → ℕ → ℕ → Type 0
Found r stamp q = (i : ℕ) × (sent_at stamp (calls_of r q) ≡ Some i)

pub found_of_message : (ws : List Wire) (r : Record) (stamp q : ℕ) (m : Message) → message ws r stamp q ≡ Some m → Found r stamp q
found_of_message ws r stamp q m e = elim (option_cases (sent_at stamp (calls_of r q))) [
  | inl n ↦ let none : message ws r stamp q ≡ None = ap (option_and_then (message_at ws q (calls_of r q) (slots_by (message_within ws r stamp) q))) n in cc (none, e)
  | inr s ↦ s
]

pub keeps_found : (o : Opening) (r t : Record) → Legal o r → Extends r t → Keeps (Found r) r t
keeps_found o r t legal x = record {
  grows = x.grows;
  found = λ stamp q f. rw ((x.grows q).1) (sent_at-append stamp (calls_of r q) (x.grows q).0 f.0 f.1) ∙ sym f.1;
  good = λ q. each-of (λ c. GoodIn (Found r) c.answer) (calls_of r q) (λ k c at. found q k c.answer (legal.contents q k c at));
}
  where
    found : (q k : ℕ) (a : Answer) → IsWhatWasSent o.wires r q k a → GoodIn (Found r) a
    found q k (ans.Got (rec.Message key number offset handles payload)) h = found_of_message o.wires r key.stamp key.origin h.0 h.1
    found q k a h = tt

pub extends_of : (r t : Record) (p : ℕ) (c : Call) → Appends r t p c → Extends r t
extends_of r t p c a = record { peers = a.peers; grows = λ q. elim (cases_eq q p) [ inl e ↦ (c ∷ [], subst (λ y. calls_of t y ≡ calls_of r y ++ c ∷ []) (sym e) a.here) | inr n ↦ ([], a.there q n ∙ sym (append-nil (calls_of r q))) ] }

pub peers_same : (r t : Record) → length t.peers ≡ length r.peers → peers_of t ≡ peers_of r
peers_same r t e = ap (range_with_len 0) e

-- ---- what a call destroys

pub destroys_none : (p : ℕ) (known : List Name) (tab : Table) (earlier : List Destruction) (c : Command) (a : Answer) → stamp_of a ≡ None → destruction_by p known tab earlier c a ≡ []
destroys_none p known tab earlier c (ans.Destroyed stamp) e = cc
destroys_none p known tab earlier c (ans.Reset (Some stamp)) e = cc
destroys_none p known tab earlier c a e = refl

pub find_other : (p : ℕ) (known : List Name) (tab : Table) (earlier : List Destruction) (c : Command) (a : Answer) (s : ℕ) → stamp_of a ≢ Some s → find (λ d. d.stamp == s) (destruction_by p known tab earlier c a) ≡ None
find_other p known tab earlier c (ans.Destroyed stamp) s n = elim (bool_cases (stamp == s)) [ inl e ↦ absurd (n (let f : stamp ≡ s = grind (arith, e) in ap Some f)) | inr e ↦ rw e refl ]
find_other p known tab earlier c (ans.Reset (Some stamp)) s n = elim (bool_cases (stamp == s)) [ inl e ↦ absurd (n (let f : stamp ≡ s = grind (arith, e) in ap Some f)) | inr e ↦ rw e refl ]
find_other p known tab earlier c a s n = refl

-- no destruction of the list is late for x at a key where their stamp isn't before the key
pub late_none : (p : ℕ) (known : List Name) (tab : Table) (earlier : List Destruction) (c : Command) (a : Answer) (x : Node) (key : Key) → ((s : ℕ) → stamp_of a ≡ Some s → is_before s p key.stamp key.origin ≡ false) → list_any (is_late_by x key) (destruction_by p known tab earlier c a) ≡ false
late_none p known tab earlier c (ans.Destroyed stamp) x key h = rw (h stamp refl) refl
late_none p known tab earlier c (ans.Reset (Some stamp)) x key h = rw (h stamp refl) refl
late_none p known tab earlier c a x key h = refl

module _ (o : Opening) (r t : Record) (p : ℕ) (c : Call) (a : Appends r t p c) (legal : Legal o r) where
  pub keeps : Keeps (Found r) r t
  keeps = keeps_found o r t legal (extends_of r t p c a)

  -- the new call
  pub new_call : slice_get (calls_of t p) (length (calls_of r p)) ≡ Some c
  new_call = rw a.here (slice_get-end (calls_of r p) c)

  -- a call of t is one of r, or the new one
  pub old_or_new : (q k : ℕ) (d : Call) → slice_get (calls_of t q) k ≡ Some d → (slice_get (calls_of r q) k ≡ Some d) ⊎ ((q ≡ p) × (k ≡ length (calls_of r p)) × (d ≡ c))
  old_or_new q k d at = elim (cases_eq q p) [
    | inl e ↦ elim (slice_get-more (calls_of r p) c k d (sym (ap (λ l. slice_get l k) a.here) ∙ subst (λ y. slice_get (calls_of t y) k ≡ Some d) e at)) [
      | inl h ↦ inl (subst (λ y. slice_get (calls_of r y) k ≡ Some d) (sym e) h)
      | inr h ↦ inr (e, h.0, h.1)
    ]
    | inr n ↦ inl (sym (ap (λ l. slice_get l k) (a.there q n)) ∙ at)
  ]

  -- a message stays, where the new call isn't its send
  pub message_stays : (stamp q : ℕ) → sent_at stamp (calls_of t q) ≡ sent_at stamp (calls_of r q) → message o.wires t stamp q ≡ message o.wires r stamp q
  message_stays stamp q e = elim (option_cases (sent_at stamp (calls_of r q))) [
    | inl n ↦
        let new : message o.wires t stamp q ≡ None = ap (option_and_then (message_at o.wires q (calls_of t q) (slots_by (message_within o.wires t stamp) q))) (e ∙ n) in
        let old : message o.wires r stamp q ≡ None = ap (option_and_then (message_at o.wires q (calls_of r q) (slots_by (message_within o.wires r stamp) q))) n in
        new ∙ sym old
    | inr s ↦ message_same o.wires (Found r) r t keeps stamp q s
  ]

  pub message_of_other : (stamp q : ℕ) → q ≢ p → message o.wires t stamp q ≡ message o.wires r stamp q
  message_of_other stamp q n = message_stays stamp q (ap (sent_at stamp) (a.there q n))

  pub message_unsent : (stamp q : ℕ) → is_send stamp c.command c.answer ≡ false → message o.wires t stamp q ≡ message o.wires r stamp q
  message_unsent stamp q f = elim (cases_eq q p) [
    | inl e ↦ message_stays stamp q (subst (λ y. sent_at stamp (calls_of t y) ≡ sent_at stamp (calls_of r y)) (sym e) (rw a.here (sent_at-more stamp (calls_of r p) c f)))
    | inr n ↦ message_of_other stamp q n
  ]

  -- the destruction that the new call is, if it is one
  abbrev pub added : List Destruction
  added = destruction_by p (made o.wires t p (length (calls_of r p))) (table o.wires t p (length (calls_of r p))) (destructions_of o.wires r p) c.command c.answer

  pub destructions_here : destructions_of o.wires t p ≡ destructions_of o.wires r p ++ added
  destructions_here =
      let n : length (calls_of t p) ≡ suc (length (calls_of r p)) = ap length a.here ∙ length-append (calls_of r p) (c ∷ []) ∙ omega arith in
      ap (destructions_before o.wires t p) n
      ∙ rw (new_call, destructions_before_same o.wires (Found r) r t keeps p (length (calls_of r p)) (omega arith)) refl

  pub destructions_there : (q : ℕ) → q ≢ p → destructions_of o.wires t q ≡ destructions_of o.wires r q
  destructions_there q n = ap (destructions_before o.wires t q) (ap length (a.there q n)) ∙ destructions_before_same o.wires (Found r) r t keeps q (length (calls_of r q)) (omega arith)

  pub late_same : (x : Node) (key : Key) → list_any (is_late_by x key) added ≡ false → is_late o.wires t x key ≡ is_late o.wires r x key
  late_same x key none =
      ap (λ ps. list_any (is_late_by x key) (flat_map (destructions_of o.wires t) ps)) (peers_same r t a.peers)
      ∙ list_any-flat_map (is_late_by x key) (destructions_of o.wires t) (destructions_of o.wires r) (peers_of r) each
    where
      each : (q : ℕ) → list_any (is_late_by x key) (destructions_of o.wires t q) ≡ list_any (is_late_by x key) (destructions_of o.wires r q)
      each q = elim (cases_eq q p) [
        | inl e ↦ subst (λ y. list_any (is_late_by x key) (destructions_of o.wires t y) ≡ list_any (is_late_by x key) (destructions_of o.wires r y)) (sym e)
            (ap (list_any (is_late_by x key)) destructions_here ∙ list_any-append (is_late_by x key) (destructions_of o.wires r p) added ∙ rw none (or-false (list_any (is_late_by x key) (destructions_of o.wires r p))))
        | inr n ↦ ap (list_any (is_late_by x key)) (destructions_there q n)
      ]

  -- what is late stays late
  pub late_stays : (x : Node) (key : Key) → is_late o.wires r x key ≡ true → is_late o.wires t x key ≡ true
  late_stays x key late =
      ap (λ ps. list_any (is_late_by x key) (flat_map (destructions_of o.wires t) ps)) (peers_same r t a.peers)
      ∙ list_any-flat_map_more (is_late_by x key) (destructions_of o.wires r) (destructions_of o.wires t) (peers_of r) each late
    where
      each : (q : ℕ) → list_any (is_late_by x key) (destructions_of o.wires r q) ≡ true → list_any (is_late_by x key) (destructions_of o.wires t q) ≡ true
      each q h = elim (cases_eq q p) [
        | inl e ↦ subst (λ y. list_any (is_late_by x key) (destructions_of o.wires r y) ≡ true → list_any (is_late_by x key) (destructions_of o.wires t y) ≡ true) (sym e)
            (λ g. ap (list_any (is_late_by x key)) destructions_here ∙ list_any-append (is_late_by x key) (destructions_of o.wires r p) added ∙ or_left (list_any (is_late_by x key) (destructions_of o.wires r p)) (list_any (is_late_by x key) added) g) h
        | inr n ↦ ap (list_any (is_late_by x key)) (destructions_there q n) ∙ h
      ]

  pub unlate : (x : Node) (key : Key) → is_late o.wires t x key ≡ false → is_late o.wires r x key ≡ false
  unlate x key e = elim (bool_cases (is_late o.wires r x key)) [ inl l ↦ cc (late_stays x key l, e) | inr n ↦ n ]

  -- the notice of a key stays, where the new call has another stamp or another origin
  pub doomed_same : (key : Key) → ((key.origin ≡ p) → stamp_of c.answer ≢ Some key.stamp) → doomed_at o.wires t key ≡ doomed_at o.wires r key
  doomed_same key other = ap (node_at key.index) (found (cases_eq key.origin p))
    where
      found : ((key.origin ≡ p) ⊎ (key.origin ≢ p)) → find (λ d. d.stamp == key.stamp) (destructions_of o.wires t key.origin) ≡ find (λ d. d.stamp == key.stamp) (destructions_of o.wires r key.origin)
      found (inr n) = ap (find (λ d. d.stamp == key.stamp)) (destructions_there key.origin n)
      found (inl e) = subst (λ y. find (λ d. d.stamp == key.stamp) (destructions_of o.wires t y) ≡ find (λ d. d.stamp == key.stamp) (destructions_of o.wires r y)) (sym e)
          (ap (find (λ d. d.stamp == key.stamp)) destructions_here
          ∙ find-append (λ d. d.stamp == key.stamp) (destructions_of o.wires r p) added
          ∙ rw (find_other p (made o.wires t p (length (calls_of r p))) (table o.wires t p (length (calls_of r p))) (destructions_of o.wires r p) c.command c.answer key.stamp (other e)) (or_none (find (λ d. d.stamp == key.stamp) (destructions_of o.wires r p))))
        where
          or_none : (z : Option Destruction) → option_or z None ≡ z
          or_none None = refl
          or_none (Some d) = refl

  -- a notice that was there stays
  pub doomed_stays : (key : Key) (x : Node) → doomed_at o.wires r key ≡ Some x → doomed_at o.wires t key ≡ Some x
  doomed_stays key x e = elim (option_cases (find (λ d. d.stamp == key.stamp) (destructions_of o.wires r key.origin))) [
    | inl n ↦ let none : doomed_at o.wires r key ≡ None = ap (node_at key.index) n in cc (none, e)
    | inr s ↦ ap (node_at key.index) (here s.0 s.1) ∙ sym (ap (node_at key.index) s.1) ∙ e
  ]
    where
      here : (d : Destruction) → find (λ d. d.stamp == key.stamp) (destructions_of o.wires r key.origin) ≡ Some d → find (λ d. d.stamp == key.stamp) (destructions_of o.wires t key.origin) ≡ Some d
      here d f = elim (cases_eq key.origin p) [
        | inl e ↦ subst (λ y. find (λ d. d.stamp == key.stamp) (destructions_of o.wires r y) ≡ Some d → find (λ d. d.stamp == key.stamp) (destructions_of o.wires t y) ≡ Some d) (sym e)
            (λ g. ap (find (λ d. d.stamp == key.stamp)) destructions_here ∙ find-append (λ d. d.stamp == key.stamp) (destructions_of o.wires r p) added ∙ rw g refl) f
        | inr n ↦ ap (find (λ d. d.stamp == key.stamp)) (destructions_there key.origin n) ∙ f
      ]
