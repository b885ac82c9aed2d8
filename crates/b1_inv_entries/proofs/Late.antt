-- A send is late for a node whose destruction has a key before it; and what is late stays late.
use Rattle.std.proofs.Common.{◌≡◌, refl, sym, ap, ◌∙◌, inl, inr, ℕ, zero, suc, Bool, true, ◌==◌, List, [], ◌∷◌, length, get_or, Option, Some, None}
use Rattle.std.specs.Prelude.{slice_get, position}
use Rattle.std.specs.List.{list_any}
use Rattle.std.proofs.lemmas.Bool.{and_parts, and_from, eqb-true, eq-eqb}
use Rattle.std.proofs.lemmas.List.Quantifiers.{position-Some}
use Rattle.std.proofs.lemmas.Option.{same_Some, get_or_from_slice_get}
use native.Mathlib.Omega.{arith}
use Rattle.b1_model.specs.declared.commands.Command.{Command}
use Rattle.b1_model.specs.declared.naming.Key.{Key}
use Rattle.b1_model.specs.declared.naming.NodeRef.{NodeRef}
use Rattle.b1_model.specs.declared.naming.Wire.{Wire}
use Rattle.b1_model.specs.declared.naming.Opening.{Opening}
use Rattle.b1_model.specs.declared.answers.Answer.{Answer}
use Rattle.b1_model.specs.declared.answers.Answer.TheVariants as ans
use Rattle.b1_model.specs.declared.answers.Sent.{Sent}
use Rattle.b1_model.specs.declared.records.Call.{Call}
use Rattle.b1_model.specs.declared.records.Record.{Record}
use Rattle.b1_model.specs.Names.{Node, Name, calls_of, made}
use Rattle.b1_model.specs.Ledger.{stamp_of, is_before, Table, table, is_the_node, has_node, Destruction, destruction_by, add_destruction, destructions_before, destructions_of, is_late_by, is_late}
use Rattle.b1_model.specs.Legal.{Legal}
use Rattle.b1_model.specs.MachineParts.{State, key_before}
use Rattle.b1_model.specs.MachineStep.{Step, record_of_state}
use Rattle.b1_step.specs.Rights.{Has}
use Rattle.b1_step.proofs.Lists.{has_at, has_append}
use Rattle.b1_step.proofs.Orders.{key_before_is_below}
use Rattle.b1_inv.specs.Sound.{IsSound}
use Rattle.b1_ledger.specs.Growth.{destroy_stamp}
use Rattle.b1_ledger.proofs.Sequences.{or_left, or_right}
use Rattle.b1_ledger.proofs.Bound.{one_call}
use Rattle.b1_ledger.proofs.Calls.{stamp_of_destroy}
use Rattle.b1_ledger.proofs.Grows.{late_stays}
use Rattle.b1_ledger.proofs.KeyOrder.{Below, below_is, is_of_before}
use Rattle.b1_ledger.proofs.NextAfter.{list_any-flat_map_range}
use Rattle.b1_inv_record.specs.Epochs.{is_ref, ref_of, doom_from, doom_key}
use Rattle.b1_inv_record.specs.Right.{IsRight}
use Rattle.b1_inv_notices.proofs.Turns.{get_there}
use Rattle.b1_inv_entries.proofs.NewCalls.{new_call, as_many_records}
use Rattle.b1_inv_entries.proofs.Origins.{doom_origin, doom_owner}
use Rattle.b1_inv_entries.proofs.SameRecord.{late_same}

any_of : {X : Type 0} (test : X → Bool) (xs : List X) (x : X) → Has xs x → test x ≡ true → list_any test xs ≡ true
any_of test [] x has is = absurd has
any_of test (y ∷ ys) x (inl same) is = or_left (test y) (list_any test ys) (ap test (sym same) ∙ is)
any_of test (y ∷ ys) x (inr further) is = or_right (test y) (list_any test ys) (any_of test ys x further is)

-- ---- the destruction of a key

-- a destruction of some destructions, with a node's key
abbrev IsDoom : NodeRef → Key → Destruction → Type 0
IsDoom node key d = (d.stamp ≡ key.stamp) × (d.origin ≡ key.origin) × ((i : ℕ) × (position (is_ref node) d.nodes ≡ Some i))

doom_is : (node : NodeRef) (ds : List Destruction) (key : Key) → doom_from node ds ≡ Some key → (d : Destruction) × Has ds d × IsDoom node key d
doom_is node [] key is = absurd (cc is)
doom_is node (d ∷ rest) key is = by (position (is_ref node) d.nodes) refl is (doom_is node rest key)
  where
    by : (at : Option ℕ) → position (is_ref node) d.nodes ≡ at → elim at [ Some i ↦ Some (record { stamp = d.stamp; origin = d.origin; index = i }) | None ↦ doom_from node rest ] ≡ Some key
        → (doom_from node rest ≡ Some key → (e : Destruction) × Has rest e × IsDoom node key e) → (e : Destruction) × Has (d ∷ rest) e × IsDoom node key e
    by (Some i) at h further = let same : record { stamp = d.stamp; origin = d.origin; index = i } ≡ key = cc h in (d, inl refl, (ap (λ k. k.stamp) same, ap (λ k. k.origin) same, (i, at)))
    by None at h further = let k = further h in (k.0, inr k.1, k.2)

same_test : (x : Node) (y : Option Node) → is_ref (ref_of x) y ≡ true → is_the_node x y ≡ true
same_test x None is = absurd (cc is)
same_test x (Some y) is =
    let both = and_parts (y.owner == x.owner) (y.serial == x.serial) is in
    and_from (x.owner == y.owner) (x.serial == y.serial) (eq-eqb x.owner y.owner (sym (eqb-true y.owner x.owner both.0))) (eq-eqb x.serial y.serial (sym (eqb-true y.serial x.serial both.1)))

doomed_has : (x : Node) (nodes : List (Option Node)) (i : ℕ) → position (is_ref (ref_of x)) nodes ≡ Some i → has_node x nodes ≡ true
doomed_has x nodes i at =
    let k = position-Some (is_ref (ref_of x)) nodes i None at in
    let n = get_there nodes i k.0 in
    let same : get_or nodes i None ≡ n.0 = get_or_from_slice_get nodes i n.0 None n.1 in
    any_of (is_the_node x) nodes n.0 (has_at nodes i n.0 n.1) (same_test x n.0 (ap (is_ref (ref_of x)) (sym same) ∙ k.1))

-- ---- destructions come from calls that destroy

abbrev FromCall : List Call → Destruction → Type 0
FromCall calls d = (i : ℕ) × (c : Call) × (slice_get calls i ≡ Some c) × (destroy_stamp c.answer ≡ Some d.stamp)

one_from : (p : ℕ) (known : List Name) (tab : Table) (earlier : List Destruction) (c : Command) (a : Answer) (d : Destruction) → Has (destruction_by p known tab earlier c a) d → destroy_stamp a ≡ Some d.stamp
one_from p known tab earlier c (ans.Destroyed stamp) d (inl same) = ap (λ z. Some z.stamp) (sym same)
one_from p known tab earlier c (ans.Destroyed stamp) d (inr none) = absurd none
one_from p known tab earlier c (ans.Reset (Some stamp)) d (inl same) = ap (λ z. Some z.stamp) (sym same)
one_from p known tab earlier c (ans.Reset (Some stamp)) d (inr none) = absurd none
one_from p known tab earlier c a d has = absurd has

added_from : (calls : List Call) (p k : ℕ) (known : List Name) (tab : Table) (call : Option Call) (earlier : List Destruction) → slice_get calls k ≡ call → ((d : Destruction) → Has earlier d → FromCall calls d) → (d : Destruction) → Has (add_destruction p known tab call earlier) d → FromCall calls d
added_from calls p k known tab None earlier at all d has = all d has
added_from calls p k known tab (Some c) earlier at all d has = elim (has_append earlier (destruction_by p known tab earlier c.command c.answer) d has) [
  | inl old ↦ all d old
  | inr new ↦ (k, c, at, one_from p known tab earlier c.command c.answer d new)
]

before_from : (ws : List Wire) (r : Record) (p k : ℕ) (d : Destruction) → Has (destructions_before ws r p k) d → FromCall (calls_of r p) d
before_from ws r p zero d has = absurd has
before_from ws r p (suc k) d has = added_from (calls_of r p) p k (made ws r p k) (table ws r p k) (slice_get (calls_of r p) k) (destructions_before ws r p k) refl (before_from ws r p k) d has

no_sent : (a : Answer) (b : Sent) (stamp : ℕ) → a ≡ ans.Sent b → destroy_stamp a ≡ Some stamp → ⊥
no_sent a b stamp same is = let none : None ≡ Some stamp = ap destroy_stamp (sym same) ∙ is in cc none

module _ (o : Opening) (r : Record) (legal : Legal o r) (x : Node) (doom key : Key) (doomed : doom_key o.wires r (ref_of x) ≡ Some doom) where
  -- a send's stamp and origin are those of no destruction
  apart : (k : ℕ) (c : Call) (b : Sent) → slice_get (calls_of r key.origin) k ≡ Some c → c.answer ≡ ans.Sent b → b.stamp ≡ key.stamp → doom.stamp ≡ key.stamp → doom.origin ≡ key.origin → ⊥
  apart k c b at sent stamp same origin =
      let d = doom_is (ref_of x) (destructions_of o.wires r x.owner) doom doomed in
      let from = before_from o.wires r x.owner (length (calls_of r x.owner)) d.0 d.1 in
      let owner : x.owner ≡ key.origin = sym (doom_origin o.wires r (ref_of x) doom doomed) ∙ origin in
      let there : slice_get (calls_of r key.origin) from.0 ≡ Some from.1 = ap (λ q. slice_get (calls_of r q) from.0) (sym owner) ∙ from.2 in
      let destroys : destroy_stamp from.1.answer ≡ Some key.stamp = from.3 ∙ ap Some (d.2.0 ∙ same) in
      let one = one_call o.wires r legal.order key.origin from.0 k key.stamp from.1 c there at (stamp_of_destroy from.1.answer key.stamp destroys) (ap stamp_of sent ∙ ap Some stamp) in
      let equal : from.1 ≡ c = same_Some from.1 c (sym there ∙ ap (slice_get (calls_of r key.origin)) one ∙ at) in
      no_sent from.1.answer b key.stamp (ap (λ z. z.answer) equal ∙ sent) destroys

  -- a destruction before a send makes it late
  pub late_before : (k : ℕ) (c : Call) (b : Sent) → slice_get (calls_of r key.origin) k ≡ Some c → c.answer ≡ ans.Sent b → b.stamp ≡ key.stamp → key_before doom key ≡ true → is_late o.wires r x key ≡ true
  late_before k c b at sent stamp before =
      let d = doom_is (ref_of x) (destructions_of o.wires r x.owner) doom doomed in
      let below : Below doom key = below_is doom key (sym (key_before_is_below doom key) ∙ before) in
      let earlier : is_before d.0.stamp d.0.origin key.stamp key.origin ≡ true =
      elim below [
        | inl first ↦ ap (λ n. is_before n d.0.origin key.stamp key.origin) d.2.0 ∙ ap (λ n. is_before doom.stamp n key.stamp key.origin) d.2.1 ∙ is_of_before doom.stamp doom.origin key.stamp key.origin first
        | inr same ↦ absurd (apart k c b at sent stamp same.0 same.1)
      ] in
      let late : is_late_by x key d.0 ≡ true = and_from (is_before d.0.stamp d.0.origin key.stamp key.origin) (has_node x d.0.nodes) earlier (doomed_has x d.0.nodes d.2.2.0 d.2.2.1) in
      let low = doom_owner o.wires r (ref_of x) doom doomed in
      list_any-flat_map_range (is_late_by x key) (destructions_of o.wires r) x.owner (length r.peers) 0 (omega arith) (omega (arith, low)) (any_of (is_late_by x key) (destructions_of o.wires r x.owner) d.0 d.1 late)

-- what is late stays late over a step
pub step_late : {o : Opening} {s : State} {p : ℕ} {c : Option Command} {t : State} → IsSound o s → IsRight o s → (step : Step o s p c t) (x : Node) (key : Key) → is_late o.wires (record_of_state s) x key ≡ true → is_late o.wires (record_of_state t) x key ≡ true
step_late {o = o} {s = s} {p = p} {t = t} sound right step x key late = elim (new_call sound step) [
  | inl same ↦ late_same o (record_of_state s) (record_of_state t) (as_many_records sound step) same x key ∙ late
  | inr new ↦ late_stays o (record_of_state s) (record_of_state t) p new.call new.appends right.legal x key late
]
