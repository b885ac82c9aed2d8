-- A record stays legal under one more receipt, send or destruction.
use Rattle.std.specs.Prelude.{◌≡◌, refl, ℕ, zero, suc, ◌+◌, ◌<◌, ◌≤◌, ◌≢◌, ◌⊎◌, Bool, true, false, not, ◌&&◌, cond, ◌==◌, List, [], ◌∷◌, ◌++◌, map, filter, find, length, take, slice_get, Option, Some, None}
use Rattle.std.specs.List.{list_any}
use Rattle.std.specs.Option.{option_flatten}
use Rattle.std.proofs.lemmas.List.{length-append}
use Rattle.std.proofs.lemmas.Option.{slice_get_within, same_Some}
use Rattle.std.proofs.lemmas.Bool.{cases_eq, and_parts}
use Rattle.std.proofs.Common.{arith, inl, inr, subst, sym, ap, ◌∙◌, append-nil}
use Rattle.std.proofs.Math.Bool.{or-false}
use Rattle.b1_model.specs.declared.naming.Key.{Key}
use Rattle.b1_model.specs.declared.naming.Opening.{Opening}
use Rattle.b1_model.specs.declared.commands.Command.{Command}
use Rattle.b1_model.specs.declared.commands.Command.TheVariants as cmd
use Rattle.b1_model.specs.declared.answers.Receipt.{Receipt}
use Rattle.b1_model.specs.declared.answers.Receipt.TheVariants as rec
use Rattle.b1_model.specs.declared.answers.Answer.{Answer}
use Rattle.b1_model.specs.declared.answers.Answer.TheVariants as ans
use Rattle.b1_model.specs.declared.records.Call.{Call}
use Rattle.b1_model.specs.declared.records.Record.{Record}
use Rattle.b1_model.specs.Names.{Node, same_node, Name, add_new, wired, calls_of, carried_by, made_in, made, epoch_at, nodes_from}
use Rattle.b1_model.specs.Ledger.{stamp_of, got_key, is_before, is_below, Table, is_the_node, named, is_send, Destruction, has_node, is_destroyed_in, destroy_numbers, destruction_by, destructions_of, node_at, doomed_at, is_late_by}
use Rattle.b1_model.specs.Legal.{KeepsOrder, IsNextReceipt, IsWhatWasSent, Legal}
use Rattle.b1_ledger.specs.Growth.{Appends, destroy_stamp}
use Rattle.b1_ledger.proofs.Sequences.{take-end, take-past, or_left, or_right, bool_cases}
use Rattle.b1_ledger.proofs.Walks.{made_in-append}
use Rattle.b1_ledger.proofs.Stable.{call_same}
use Rattle.b1_ledger.proofs.KeyOrder.{Below, not_of_below}
use Rattle.b1_ledger.proofs.Grows.{Found, keeps, old_or_new, added, destructions_here, destructions_there}
use Rattle.b1_ledger.proofs.Kept.{contents_same}
use Rattle.b1_ledger.proofs.Plain.{is_new, late_unstamped, message_plain, notice_plain, candidate_plain, fits_unstamped}

pub carried_got : (d : Command) (b : Receipt) → carried_by d (ans.Got b) ≡ []
carried_got (cmd.Send s) b = refl
carried_got d b = refl

pub stamp_of_destroy : (b : Answer) (stamp : ℕ) → destroy_stamp b ≡ Some stamp → stamp_of b ≡ Some stamp
stamp_of_destroy (ans.Destroyed s) stamp e = e
stamp_of_destroy (ans.Reset s) stamp e = e
stamp_of_destroy b stamp e = cc

pub no_send : (d : Command) (b : Answer) (stamp s : ℕ) → destroy_stamp b ≡ Some stamp → is_send s d b ≡ false
no_send (cmd.Send m) (ans.Sent b) stamp s e = cc
no_send d b stamp s e = refl

pub got_none : (b : Answer) (stamp : ℕ) → stamp_of b ≡ Some stamp → got_key b ≡ None
got_none (ans.Got receipt) stamp e = cc
got_none b stamp e = refl

pub same_self : (x : Node) → same_node x x ≡ true
same_self x = grind arith

pub flat_some : {A : Type 0} (z : Option (Option A)) (x : A) → option_flatten z ≡ Some x → z ≡ Some (Some x)
flat_some None x e = cc
flat_some (Some y) x e = ap Some e

pub has_node_at : (nodes : List (Option Node)) (i : ℕ) (x : Node) → slice_get nodes i ≡ Some (Some x) → has_node x nodes ≡ true
has_node_at [] i x e = cc
has_node_at (y ∷ nodes) zero x e = or_left (is_the_node x y) (has_node x nodes) (subst (λ z. is_the_node x z ≡ true) (sym (same_Some y (Some x) e)) (same_self x))
has_node_at (y ∷ nodes) (suc i) x e = or_right (is_the_node x y) (has_node x nodes) (has_node_at nodes i x e)

pub destroyed_found : (test : Destruction → Bool) (ds : List Destruction) (d : Destruction) (x : Node) → find test ds ≡ Some d → has_node x d.nodes ≡ true → is_destroyed_in ds x ≡ true
destroyed_found test [] d x e h = cc
destroyed_found test (y ∷ ds) d x e h = elim (bool_cases (test y)) [
  | inl f ↦ let g : Some y ≡ Some d = sym (ap (λ b. cond b (Some y) (find test ds)) f) ∙ e in or_left (has_node x y.nodes) (is_destroyed_in ds x) (subst (λ z. has_node x z.nodes ≡ true) (sym (same_Some y d g)) h)
  | inr f ↦ or_right (has_node x y.nodes) (is_destroyed_in ds x) (destroyed_found test ds d x (sym (ap (λ b. cond b (Some y) (find test ds)) f) ∙ e) h)
]

pub node_of_notice : (i : ℕ) (z : Option Destruction) (x : Node) → node_at i z ≡ Some x → (d : Destruction) × (z ≡ Some d) × (has_node x d.nodes ≡ true)
node_of_notice i None x e = cc
node_of_notice i (Some d) x e = (d, refl, has_node_at d.nodes i x (flat_some (slice_get d.nodes i) x e))

-- a new destruction that is late for x at a key is before it and destroys x
pub late_added : (p : ℕ) (known : List Name) (tab : Table) (earlier : List Destruction) (d : Command) (b : Answer) (stamp : ℕ) (x : Node) (key : Key) → destroy_stamp b ≡ Some stamp → list_any (is_late_by x key) (destruction_by p known tab earlier d b) ≡ true → (is_before stamp p key.stamp key.origin ≡ true) × (is_destroyed_in (destruction_by p known tab earlier d b) x ≡ true)
late_added p known tab earlier d (ans.Destroyed s) stamp x key e h =
    let both = and_parts (is_before s p key.stamp key.origin) (has_node x (map (named p known tab) (destroy_numbers d))) (sym (or-false (is_before s p key.stamp key.origin && has_node x (map (named p known tab) (destroy_numbers d)))) ∙ h) in
    (subst (λ u. is_before u p key.stamp key.origin ≡ true) (same_Some s stamp e) both.0, rw both.1 refl)
late_added p known tab earlier d (ans.Reset (Some s)) stamp x key e h =
    let nodes : List (Option Node) = map Some (filter (λ x. not (is_destroyed_in earlier x)) (nodes_from p 0 known)) in
    let both = and_parts (is_before s p key.stamp key.origin) (has_node x nodes) (sym (or-false (is_before s p key.stamp key.origin && has_node x nodes)) ∙ h) in
    (subst (λ u. is_before u p key.stamp key.origin ≡ true) (same_Some s stamp e) both.0, rw both.1 refl)
late_added p known tab earlier d b stamp x key e h = cc

pub not_below_less : (a b : Key) → b.stamp < a.stamp → is_below a b ≡ false
not_below_less a b l = not_of_below a b (λ h. no h)
  where
    no : Below a b → ⊥
    no h = omega (arith, l, h)

module _ (o : Opening) (r t : Record) (p : ℕ) (c : Call) (a : Appends r t p c) (legal : Legal o r) where
  -- the names once the new call has begun
  pub made_new : made o.wires t p (length (calls_of r p)) ≡ add_new (epoch_at r p (length (calls_of r p))) (made o.wires r p (length (calls_of r p))) (carried_by c.command c.answer)
  made_new =
      let n : length (calls_of t p) ≤ suc (length (calls_of r p)) = let e : length (calls_of t p) ≡ length (calls_of r p) + 1 = ap length a.here ∙ length-append (calls_of r p) (c ∷ []) in omega (arith, e) in
      let all : take (suc (length (calls_of r p))) (calls_of t p) ≡ calls_of r p ++ c ∷ [] = take-past (calls_of t p) (suc (length (calls_of r p))) n ∙ a.here in
      let old : take (suc (length (calls_of r p))) (calls_of r p) ≡ calls_of r p = take-past (calls_of r p) (suc (length (calls_of r p))) (omega arith) in
      ap (made_in 0 (wired o.wires p)) all
      ∙ made_in-append 0 (wired o.wires p) (calls_of r p) (c ∷ [])
      ∙ rw (old, take-end (calls_of r p)) refl

  pub order_grows : KeepsOrder t p (length (calls_of r p)) → (q k : ℕ) → KeepsOrder t q k
  order_grows new q k i s u b d l at_b at_d sb sd = elim (old_or_new o r t p c a legal q k d at_d) [
    | inl h ↦ legal.order q k i s u b d l (sym (call_same o.wires (Found r) r t (keeps o r t p c a legal) q i (omega (arith, l, slice_get_within (calls_of r q) k d h))) ∙ at_b) h sb sd
    | inr e ↦ (subst (λ y. KeepsOrder t y k) (sym e.0) (subst (λ x. KeepsOrder t p x) (sym e.1) new)) i s u b d l at_b at_d sb sd
  ]

  -- a receipt that is next, with its contents, by the record before it
  pub legal_received : (b : Receipt) → c.answer ≡ ans.Got b → IsNextReceipt o.wires r p (length (calls_of r p)) (ans.Got b) → IsWhatWasSent o.wires r p (length (calls_of r p)) (ans.Got b) → Legal o t
  legal_received b e next was =
      let none : stamp_of c.answer ≡ None = ap stamp_of e in
      let known : made o.wires t p (length (calls_of r p)) ≡ made o.wires r p (length (calls_of r p)) = made_new ∙ ap (add_new (epoch_at r p (length (calls_of r p))) (made o.wires r p (length (calls_of r p)))) (ap (carried_by c.command) e ∙ carried_got c.command b) in
      fits_unstamped o r t p c a legal none
      (λ d at. subst (λ z. IsNextReceipt o.wires t p (length (calls_of r p)) z) (sym (ap (λ x. x.answer) (is_new o r t p c a legal d at) ∙ e)) (moved none b next))
      (λ d at. subst (λ z. IsWhatWasSent o.wires t p (length (calls_of r p)) z) (sym (ap (λ x. x.answer) (is_new o r t p c a legal d at) ∙ e)) (contents_same o r t p c a legal p (length (calls_of r p)) (ans.Got b) (omega arith) known (λ key m x f g n. late_unstamped o r t p c a legal none x key) was))
    where
      moved : stamp_of c.answer ≡ None → (b : Receipt) → IsNextReceipt o.wires r p (length (calls_of r p)) (ans.Got b) → IsNextReceipt o.wires t p (length (calls_of r p)) (ans.Got b)
      moved none (rec.Message key number offset handles payload) h = (message_plain o r t p c a legal none p (length (calls_of r p)) key (omega arith) ∙ h.0, λ other g. h.1 other (sym (candidate_plain o r t p c a legal none p (length (calls_of r p)) other (omega arith)) ∙ g))
      moved none (rec.Destroyed key number) h = (notice_plain o r t p c a legal none p (length (calls_of r p)) key (omega arith) ∙ h.0, λ other g. h.1 other (sym (candidate_plain o r t p c a legal none p (length (calls_of r p)) other (omega arith)) ∙ g))
      moved none b h = tt

  -- a call that destroys nothing leaves the notices and what is late
  pub doomed_unadded : added o r t p c a legal ≡ [] → (key : Key) → doomed_at o.wires t key ≡ doomed_at o.wires r key
  doomed_unadded none key = ap (λ ds. node_at key.index (find (λ d. d.stamp == key.stamp) ds)) (all (cases_eq key.origin p))
    where
      all : ((key.origin ≡ p) ⊎ (key.origin ≢ p)) → destructions_of o.wires t key.origin ≡ destructions_of o.wires r key.origin
      all (inl e) = subst (λ y. destructions_of o.wires t y ≡ destructions_of o.wires r y) (sym e) (destructions_here o r t p c a legal ∙ ap (λ ds. destructions_of o.wires r p ++ ds) none ∙ append-nil (destructions_of o.wires r p))
      all (inr n) = destructions_there o r t p c a legal key.origin n
