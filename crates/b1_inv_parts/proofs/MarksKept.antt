-- Marks of records stay right in every step.
use Rattle.std.proofs.Common.{◌≡◌, refl, sym, ap, ◌∙◌, inl, inr, subst, arith, ℕ, ◌≤◌, Bool, true, false, cond, List, [], ◌∷◌, Option, Some, None}
use Rattle.b1_model.specs.declared.naming.Key.{Key}
use Rattle.b1_model.specs.declared.naming.NodeRef.{NodeRef}
use Rattle.b1_model.specs.declared.naming.Opening.{Opening}
use Rattle.b1_model.specs.declared.commands.Command.{Command}
use Rattle.b1_model.specs.declared.entries.Entry.{Entry}
use Rattle.b1_model.specs.declared.entries.Entry.TheVariants.{Message, OwnNotice, ForeignNotice, ReleaseNotice}
use Rattle.b1_model.specs.Names.{is_own}
use Rattle.b1_model.specs.MachineParts.{PeerPart, HandleRecord, State, same_ref, key_before, record_of}
use Rattle.b1_model.specs.MachineTables.{more_held, next_number, with_made}
use Rattle.b1_model.specs.MachineStep.{Step, opening_state, wire_made, wire_held}
use Rattle.b1_step.specs.Rights.{Has}
use Rattle.b1_step.specs.Ordered.{Ascending, Rising, HandlesRise}
use Rattle.b1_step.proofs.Orders.{same_ref_is, same_ref_itself, behind_has, key_not_itself}
use Rattle.b1_step.proofs.Lookups.{rising_made}
use Rattle.b1_inv.specs.Words.{IsPeer}
use Rattle.b1_inv.specs.Sound.{IsSound}
use Rattle.b1_inv_record.specs.Parts.{KeysAscend, MarksRight}
use Rattle.b1_inv_peer.specs.PeerOk.{count, is_notice_for}
use Rattle.b1_inv_peer.proofs.Counts.{one, count_cons, has_count, none_count}
use Rattle.b1_inv_peer.proofs.RecordFields.{or_none, field_stays_made, unneeded_notice}
use Rattle.b1_inv_refs.proofs.GivenUp.{record_found}
use Rattle.b1_inv_sends.proofs.StagesKept.{opening_queue}
use Rattle.b1_inv_tools.proofs.Leaves.{step_did}
use Rattle.b1_inv_tools.proofs.Openings.{opening_each}
use Rattle.b1_inv_parts.proofs.Steps.{kept_by_step}
use Rattle.b1_inv_parts.proofs.Marks.{mark, MarksOk, event_marks}

abbrev Queue : Type 0
Queue = List (Key × Entry)

-- ---- entries that pass a test

module _ (test : Key × Entry → Bool) where
  -- where those that pass have one key, at most one does
  pub few : (queue : Queue) → Ascending queue → ((f g : Key × Entry) → Has queue f → Has queue g → test f ≡ true → test g ≡ true → f.0 ≡ g.0) → count test queue ≤ 1
  few [] up same = omega arith
  few (f ∷ rest) up same = at (few rest up.1 (λ g h there also. same g h (inr there) (inr also))) (test f) refl
    where
      none_later : test f ≡ true → (g : Key × Entry) → Has rest g → (b : Bool) → test g ≡ b → b ≡ false
      none_later passes g there false is = refl
      none_later passes g there true is =
          let key : f.0 ≡ g.0 = same f g (inl refl) (inr there) passes is in
          let less : key_before f.0 f.0 ≡ true = subst (λ k. key_before f.0 k ≡ true) (sym key) (behind_has f.0 rest g up.0 there) in
          absurd (cc (sym less ∙ key_not_itself f.0))

      at : count test rest ≤ 1 → (b : Bool) → test f ≡ b → count test (f ∷ rest) ≤ 1
      at further true passes =
          let none = none_count test rest (λ g there. let k = none_later passes g there (test g) refl in k) in
          let whole = count_cons test f rest in
          let head : one (test f) ≡ 1 = ap one passes in
          omega (arith, none, whole, head)
      at further false fails = let whole = count_cons test f rest in let head : one (test f) ≡ 0 = ap one fails in omega (arith, further, whole, head)

  -- where at most one passes, two that do are one
  pub one_of : (queue : Queue) (f g : Key × Entry) → count test queue ≤ 1 → Has queue f → Has queue g → test f ≡ true → test g ≡ true → f ≡ g
  one_of [] f g low there also p q = absurd there
  one_of (e ∷ rest) f g low (inl a) (inl b) p q = a ∙ sym b
  one_of (e ∷ rest) f g low (inl a) (inr b) p q =
      let whole = count_cons test e rest in
      let head : one (test e) ≡ 1 = ap one (ap test (sym a) ∙ p) in
      let more = has_count test rest g b q in
      absurd (omega (arith, low, whole, head, more))
  one_of (e ∷ rest) f g low (inr a) (inl b) p q =
      let whole = count_cons test e rest in
      let head : one (test e) ≡ 1 = ap one (ap test (sym b) ∙ q) in
      let more = has_count test rest f a p in
      absurd (omega (arith, low, whole, head, more))
  one_of (e ∷ rest) f g low (inr a) (inr b) p q = one_of rest f g (let whole = count_cons test e rest in omega (arith, low, whole)) a b p q

  -- where some are counted, one is there
  pub some_of : (queue : Queue) → 1 ≤ count test queue → (f : Key × Entry) × Has queue f × (test f ≡ true)
  some_of [] some = absurd (omega (arith, some))
  some_of (f ∷ rest) some = at (some_of rest) (test f) refl
    where
      at : (1 ≤ count test rest → (g : Key × Entry) × Has rest g × (test g ≡ true)) → (b : Bool) → test f ≡ b → (g : Key × Entry) × Has (f ∷ rest) g × (test g ≡ true)
      at further true passes = (f, inl refl, passes)
      at further false fails =
          let whole = count_cons test f rest in
          let head : one (test f) ≡ 0 = ap one fails in
          let found = further (omega (arith, some, whole, head)) in
          (found.0, inr found.1, found.2)

-- ---- notices and records

notice_for_is : (node : NodeRef) (f : Key × Entry) → is_notice_for node f ≡ true → (index : ℕ) × (f ≡ (f.0, ForeignNotice node index))
notice_for_is node (k, Message origin user index serial offset len nodes slots handles payload) is = absurd (cc is)
notice_for_is node (k, OwnNotice serial index) is = absurd (cc is)
notice_for_is node (k, ForeignNotice other index) is = (index, ap (λ n. (k, ForeignNotice n index)) (same_ref_is other node is))
notice_for_is node (k, ReleaseNotice serial) is = absurd (cc is)

-- a record that is found is there, and is of the node
pub record_in : (node : NodeRef) (hs : List HandleRecord) (h : HandleRecord) → record_of node hs ≡ Some h → Has hs h × (h.node ≡ node)
record_in node [] h is = absurd (cc is)
record_in node (g ∷ rest) h is = at (record_in node rest h) (same_ref g.node node) refl is
  where
    at : (record_of node rest ≡ Some h → Has rest h × (h.node ≡ node)) → (b : Bool) → same_ref g.node node ≡ b → cond b (Some g) (record_of node rest) ≡ Some h → Has (g ∷ rest) h × (h.node ≡ node)
    at further true same here = let e : g ≡ h = cc here in (inl (sym e), ap (λ r. r.node) (sym e) ∙ same_ref_is g.node node same)
    at further false same here = let found = further here in (inr found.0, found.1)

one_true : (b : Bool) → 1 ≤ one b → b ≡ true
one_true true is = refl
one_true false is = absurd (omega (arith, is))

one_low : (b : Bool) → one b ≤ 1
one_low true = omega arith
one_low false = omega arith

-- ---- from the state's facts to a part's, and back

module _ (s : State) (right : MarksRight s) (keys : KeysAscend s) (rise : HandlesRise s) (q : ℕ) (x : PeerPart) (is : IsPeer s q x) where
  same_keys : (node : NodeRef) (f g : Key × Entry) → Has x.queue f → Has x.queue g → is_notice_for node f ≡ true → is_notice_for node g ≡ true → f.0 ≡ g.0
  same_keys node f g there also p r =
      let a = notice_for_is node f p in
      let b = notice_for_is node g r in
      right.once q a.0 b.0 x f.0 g.0 node is (subst (Has x.queue) a.1 there) (subst (Has x.queue) b.1 also)

  unmarked : (node : NodeRef) → mark node x.handles ≡ false → (f : Key × Entry) → Has x.queue f → (b : Bool) → is_notice_for node f ≡ b → b ≡ false
  unmarked node none f there false fails = refl
  unmarked node none f there true passes =
      let a = notice_for_is node f passes in
      absurd (cc (sym (right.marked q a.0 x f.0 node is (subst (Has x.queue) a.1 there)) ∙ none))

  marked : (node : NodeRef) (o : Option HandleRecord) → record_of node x.handles ≡ o → (or_none node o).notice ≡ true → 1 ≤ count (is_notice_for node) x.queue
  marked node None found notice = absurd (cc notice)
  marked node (Some h) found notice =
      let there = record_in node x.handles h found in
      let queued = right.queued q x h is there.0 notice in
      has_count (is_notice_for node) x.queue (queued.0, ForeignNotice h.node queued.1) queued.2 (ap (λ n. same_ref n node) there.1 ∙ same_ref_itself node)

  as_many : (node : NodeRef) (b : Bool) → mark node x.handles ≡ b → count (is_notice_for node) x.queue ≡ one b
  as_many node true notice =
      let low = few (is_notice_for node) x.queue (keys.ascending q x is) (same_keys node) in
      let some = marked node (record_of node x.handles) refl notice in
      omega (arith, low, some)
  as_many node false notice = none_count (is_notice_for node) x.queue (λ f there. let k = unmarked node notice f there (is_notice_for node f) refl in k)

  pub marks_of : MarksOk x
  marks_of = record { rising = rise q x is; as_many = λ node. as_many node (mark node x.handles) refl }

module _ (x : PeerPart) (ok : MarksOk x) where
  low_count : (node : NodeRef) → count (is_notice_for node) x.queue ≤ 1
  low_count node = let same = ok.as_many node in let low = one_low (mark node x.handles) in omega (arith, same, low)

  then_marked : (i : ℕ) (k : Key) (node : NodeRef) → Has x.queue (k, ForeignNotice node i) → mark node x.handles ≡ true
  then_marked i k node there =
      let some = has_count (is_notice_for node) x.queue (k, ForeignNotice node i) there (same_ref_itself node) in
      let same = ok.as_many node in
      one_true (mark node x.handles) (omega (arith, some, same))

  then_queued : (h : HandleRecord) → Has x.handles h → h.notice ≡ true → (k : Key) × (i : ℕ) × Has x.queue (k, ForeignNotice h.node i)
  then_queued h there notice =
      let found : mark h.node x.handles ≡ true = ap (λ o. (or_none h.node o).notice) (record_found x.handles h ok.rising there) ∙ notice in
      let same = ok.as_many h.node in
      let one_is : one (mark h.node x.handles) ≡ 1 = ap one found in
      let f = some_of (is_notice_for h.node) x.queue (omega (arith, same, one_is)) in
      let a = notice_for_is h.node f.0 f.2 in
      (f.0.0, a.0, subst (Has x.queue) a.1 f.1)

  then_once : (i j : ℕ) (k l : Key) (node : NodeRef) → Has x.queue (k, ForeignNotice node i) → Has x.queue (l, ForeignNotice node j) → k ≡ l
  then_once i j k l node there also =
      ap (λ f. f.0) (one_of (is_notice_for node) x.queue (k, ForeignNotice node i) (l, ForeignNotice node j) (low_count node) there also (same_ref_itself node) (same_ref_itself node))

right_of : (s : State) → ((q : ℕ) (x : PeerPart) → IsPeer s q x → MarksOk x) → MarksRight s
right_of s each = record {
  marked = λ q i x k node is there. then_marked x (each q x is) i k node there;
  queued = λ q x h is there notice. then_queued x (each q x is) h there notice;
  once = λ q i j x k l node is there also. then_once x (each q x is) i j k l node there also;
}

-- ---- steps

pub marks_kept : (o : Opening) (s : State) (p : ℕ) (c : Option Command) (t : State) → IsSound o s → KeysAscend s → MarksRight s → Step o s p c t → MarksRight t
marks_kept o s p c t sound keys right step =
    right_of t
    (kept_by_step step MarksOk (λ q x is. marks_of s right keys sound.rising q x is)
    (λ ok. event_marks o step.local.memory (step_did step).e (step_did step).doing step.peer ok step.action))

-- ---- the opening

-- no record is marked
abbrev Unmarked : PeerPart → Type 0
Unmarked x = Rising x.handles × ((node : NodeRef) → mark node x.handles ≡ false)

made_unmarked : (number : ℕ) (x : PeerPart) → Unmarked x → Unmarked (wire_made number x)
made_unmarked number x all = elim (is_own number) as (λ b. Unmarked (cond b (record x { nodes = with_made x.peers number x.nodes }) x)) [ true ↦ all | false ↦ all ]

held_unmarked : (node : NodeRef) (x : PeerPart) → Unmarked x → Unmarked (wire_held node x)
held_unmarked node x all = (
  rising_made node (more_held (next_number x.given)) (λ h. refl) x.handles all.0,
  λ other. field_stays_made (λ h. h.notice) false unneeded_notice (λ m. refl) (more_held (next_number x.given)) (λ h. refl) (λ h. refl) node other x.handles all.0 ∙ all.1 other,
)

pub marks_begin : (o : Opening) → MarksRight (opening_state o)
marks_begin o =
    right_of (opening_state o)
    (λ q x is.
    let all = opening_each Unmarked made_unmarked (λ node dest y it. it) held_unmarked o (λ me spec. (tt, λ node. refl)) q x is in
    record { rising = all.0; as_many = λ node. ap (count (is_notice_for node)) (opening_queue o q x is) ∙ ap one (sym (all.1 node)) })
