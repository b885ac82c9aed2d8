-- Visits: a visited peer has a notice of each doomed node that it has a record of; and who is still to be visited after an answer.
use Rattle.std.proofs.Common.{◌≡◌, ◌≢◌, ◌⊎◌, refl, sym, ap, ◌∙◌, inl, inr, ℕ, zero, suc, ◌+◌, ◌<◌, ◌≤◌, ◌||◌, Bool, true, false, cond, not, nat_lt, List, [], ◌∷◌, drop, get_or, Option, Some, None}
use Rattle.std.specs.List.{list_any, range_with_len}
use Rattle.std.proofs.lemmas.Bool.{lt-ltb, cases_eq}
use Rattle.std.proofs.lemmas.Option.{same_Some}
use native.Mathlib.Omega.{arith}
use Rattle.b1_model.specs.declared.commands.Command.{Command}
use Rattle.b1_model.specs.declared.naming.NodeRef.{NodeRef}
use Rattle.b1_model.specs.declared.events.Destruction.{Destruction}
use Rattle.b1_model.specs.declared.events.Doing.{Doing}
use Rattle.b1_model.specs.declared.events.Outcome.{Outcome}
use Rattle.b1_model.specs.declared.events.Outcome.TheVariants as out
use Rattle.b1_model.specs.declared.events.Phase.{Phase}
use Rattle.b1_model.specs.declared.events.Phase.TheVariants.{Visiting}
use Rattle.b1_model.specs.MachineParts.{PeerPart, HandleRecord, record_of, node_at}
use Rattle.b1_model.specs.MachineTables.{is_needed, changed, noticed, count_of}
use Rattle.b1_model.specs.MachineDestroy.{needs_notice, notice_by, visited_from, visit_set}
use Rattle.b1_model.specs.MachineDriver.{turn, visiting, with_visit}
use Rattle.b1_step.specs.Rights.{Has}
use Rattle.b1_step.specs.Ordered.{Rising}
use Rattle.b1_step.proofs.Lists.{has_filter}
use Rattle.b1_step.proofs.Lookups.{rising_changed, own_changed, kept_by}
use Rattle.b1_inv_refs.proofs.GivenUp.{record_found}
use Rattle.b1_inv_notices.proofs.Turns.{doing_in, OnTurn, may_end}
use Rattle.b1_inv_notices.proofs.Sets.{has_drop_more}
use Rattle.b1_inv_record.specs.Holders.{left_of}
use Rattle.b1_inv_holders.proofs.Records.{Follows, at_visit}

abbrev Handles : Type 0
Handles = List HandleRecord

-- its notice is queued or has left the queue
abbrev pub Flagged : HandleRecord → Type 0
Flagged h = (h.notice ≡ true) ⊎ (h.dead ≡ true)

abbrev Never : NodeRef → Type 0
Never node = ⊥

pub still_flagged : (P : NodeRef → Type 0) (g h : HandleRecord) → Follows P g h → Flagged g → Flagged h
still_flagged P g h follows (inl noted) = follows.notice noted
still_flagged P g h follows (inr dies) = inr (follows.dead dies)

-- ---- a visit

record_at : (node : NodeRef) (hs : Handles) (h : HandleRecord) → Rising hs → Has hs h → h.node ≡ node → record_of node hs ≡ Some h
record_at node hs h up there is = ap (λ n. record_of n hs) (sym is) ∙ record_found hs h up there

notice_rises : (b : Bool) (origin index : ℕ) (node : NodeRef) (x : PeerPart) → Rising x.handles → Rising (notice_by b origin x index node).handles
notice_rises false origin index node x up = up
notice_rises true origin index node x up = rising_changed node noticed (λ h. refl) x.handles up

kept_flagged : (b : Bool) (r h : HandleRecord) → cond b (Some (noticed r)) None ≡ Some h → Flagged h
kept_flagged true r h is = let same : noticed r ≡ h = same_Some (noticed r) h is in inl (ap (λ k. k.notice) (sym same))
kept_flagged false r h is = absurd (cc is)

one_flagged : (origin index : ℕ) (node : NodeRef) (x : PeerPart) → Rising x.handles → (h : HandleRecord) → Has (notice_by (needs_notice x node) origin x index node).handles h → h.node ≡ node → Flagged h
one_flagged origin index node x up h there is = by (record_of node x.handles) refl there
  where
    noted : (b : Bool) (r : HandleRecord) → r.notice ≡ b → record_of node x.handles ≡ Some r → Has (notice_by (not b) origin x index node).handles h → Flagged h
    noted true r old found there = let same : r ≡ h = same_Some r h (sym found ∙ record_at node x.handles h up there is) in inl (ap (λ k. k.notice) (sym same) ∙ old)
    noted false r old found there =
        let after : record_of node (changed node noticed x.handles) ≡ Some h = record_at node (changed node noticed x.handles) h (rising_changed node noticed (λ k. refl) x.handles up) there is in
        kept_flagged (is_needed (noticed r)) r h (sym (own_changed node noticed (λ k. refl) x.handles up ∙ ap (kept_by noticed) found) ∙ after)

    by : (found : Option HandleRecord) → record_of node x.handles ≡ found → Has (notice_by (elim found [ None ↦ false | Some r ↦ not r.notice ]) origin x index node).handles h → Flagged h
    by None none there = let both : Some h ≡ None = sym (record_at node x.handles h up there is) ∙ none in absurd (cc both)
    by (Some r) found there = noted r.notice r refl found there

pub visit_flags : (origin index : ℕ) (serials : List ℕ) (x : PeerPart) → Rising x.handles → (serial : ℕ) → Has serials serial → (h : HandleRecord) → Has (visited_from origin index serials x).handles h → h.node ≡ record { owner = origin; serial = serial } → Flagged h
visit_flags origin index [] x up serial among h there is = absurd among
visit_flags origin index (first ∷ rest) x up serial (inl same) h there is =
    let node : NodeRef = record { owner = origin; serial = first } in
    let y = notice_by (needs_notice x node) origin x index node in
    let k = at_visit Never origin (index + 1) rest y h there in
    still_flagged Never k.0 h k.2 (one_flagged origin index node x up k.0 k.1 (k.2.node ∙ is ∙ ap (λ n. record { owner = origin; serial = n }) same))
visit_flags origin index (first ∷ rest) x up serial (inr more) h there is =
    let node : NodeRef = record { owner = origin; serial = first } in
    visit_flags origin (index + 1) rest (notice_by (needs_notice x node) origin x index node) (notice_rises (needs_notice x node) origin index node x up) serial more h there is

-- ---- who is to be visited

any_counted : (x : PeerPart) (q : ℕ) (doomed : List ℕ) (serial : ℕ) → Has doomed serial → 1 ≤ count_of (node_at x serial) q → list_any (λ one. nat_lt 0 (count_of (node_at x one) q)) doomed ≡ true
any_counted x q [] serial there some = absurd there
any_counted x q (first ∷ rest) serial (inl same) some = ap (λ b. b || list_any (λ one. nat_lt 0 (count_of (node_at x one) q)) rest) (ap (λ n. nat_lt 0 (count_of (node_at x n) q)) (sym same) ∙ lt-ltb 0 (count_of (node_at x serial) q) some)
any_counted x q (first ∷ rest) serial (inr more) some = elim (nat_lt 0 (count_of (node_at x first) q)) as (λ b. (b || list_any (λ one. nat_lt 0 (count_of (node_at x one) q)) rest) ≡ true) [ true ↦ refl | false ↦ any_counted x q rest serial more some ]

range_holds : (a n m : ℕ) → a ≤ m → m < a + n → Has (range_with_len a n) m
range_holds a zero m low high = absurd (omega (arith, low, high))
range_holds a (suc n) m low high = elim (cases_eq m a) [ inl same ↦ inl same | inr apart ↦ inr (range_holds (a + 1) n m (omega (arith, low, apart)) (omega (arith, high))) ]

-- a peer with a reference to a doomed node is visited
pub visit_has : (x : PeerPart) (q : ℕ) (doomed : List ℕ) (serial : ℕ) → q < x.peers → Has doomed serial → 1 ≤ count_of (node_at x serial) q → Has (visit_set x doomed) q
visit_has x q doomed serial within there some = has_filter (λ peer. list_any (λ one. nat_lt 0 (count_of (node_at x one) peer)) doomed) (range_with_len 0 x.peers) q (range_holds 0 x.peers q (omega arith) (omega (arith, within))) (any_counted x q doomed serial there some)

-- the peers that what is open is still to visit
abbrev pub LeftIn : ℕ → Option Doing → Type 0
LeftIn q None = ⊥
LeftIn q (Some doing) = Has (left_of doing.phase) q

module _ (command : Command) (q : ℕ) where
  pub left_visiting : (d : Destruction) (left : List ℕ) → Has left q → LeftIn q (Some (doing_in command (visiting d left)))
  left_visiting d [] h = absurd h
  left_visiting d (peer ∷ rest) h = h

  -- a peer that isn't visited now is left after the answer
  pub left_turn : (me : ℕ) (phase : Phase) (outcome : Outcome) → q ≢ get_or (left_of phase) 0 me → Has (left_of phase) q → OnTurn command (LeftIn q) (turn me command phase outcome)
  left_turn me (Visiting d left) (out.Visit got) apart h = left_visiting (with_visit d (get_or left 0 me) got) (drop 1 left) (has_drop_more 0 left q me h apart)
  left_turn me (Visiting d left) outcome apart h = h
  left_turn me phase outcome apart h = absurd h

  pub left_ends : (phase : Phase) → may_end phase ≡ true → LeftIn q (Some (doing_in command phase)) → LeftIn q None
  left_ends (Visiting d left) may h = absurd (cc may)
  left_ends phase may h = h
