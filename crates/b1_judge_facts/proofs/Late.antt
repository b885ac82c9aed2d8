-- A node is late where a destruction of it stands earlier in the bus order.
use Rattle.std.specs.Prelude.{◌≡◌, refl, ℕ, zero, suc, ◌+◌, Bool, true, false, ◌&&◌, ◌||◌, List, [], ◌∷◌, length, flat_map, slice_get, Some}
use Rattle.std.specs.List.{list_any, range_with_len}
use Rattle.std.proofs.lemmas.Option.{slice_get_within, same_Some}
use Rattle.std.proofs.lemmas.List.Folds.{list_any-append}
use Rattle.std.proofs.Common.{arith, inl, inr, subst, sym, ap, ◌∙◌}
use Rattle.b1_model.specs.declared.naming.Key.{Key}
use Rattle.b1_model.specs.declared.naming.Wire.{Wire}
use Rattle.b1_model.specs.declared.records.Record.{Record}
use Rattle.b1_model.specs.declared.records.Stamp.{Stamp}
use Rattle.b1_model.specs.Names.{Node, calls_of}
use Rattle.b1_model.specs.Ledger.{is_before, order, has_node, Destruction, destructions_of, is_late_by, is_late}
use Rattle.b1_ledger.proofs.Sequences.{and_true, and_of, or_true, or_right}
use Rattle.b1_ledger.proofs.NextAfter.{list_any-flat_map_range, is_peer}
use Rattle.b1_judge_facts.specs.Facts.{Rises, doomed}
use Rattle.b1_judge_facts.proofs.Orders.{complete, sound}
use Rattle.b1_judge_facts.proofs.Dooms.{first_nodes, ComesFrom, destruction_at, source, among, doomed_is, of_node}

-- a stamped call destroys the node, and is before the call of a key
abbrev pub dooms_before : List Wire → Record → Node → Key → Stamp → Bool
dooms_before ws r x key s = is_before s.stamp s.origin key.stamp key.origin && has_node x (doomed ws r s.stamp s.origin)

any_at : {A : Type 0} (f : A → Bool) (xs : List A) → list_any f xs ≡ true → (i : ℕ) × (x : A) × (slice_get xs i ≡ Some x) × (f x ≡ true)
any_at f [] e = cc e
any_at f (y ∷ ys) e = go (f y) refl e (λ h. any_at f ys h)
  where
    go : (b : Bool) → f y ≡ b → (b || list_any f ys) ≡ true → (list_any f ys ≡ true → (i : ℕ) × (x : _) × (slice_get ys i ≡ Some x) × (f x ≡ true)) → (i : ℕ) × (x : _) × (slice_get (y ∷ ys) i ≡ Some x) × (f x ≡ true)
    go true g h ih = (0, y, refl, g)
    go false g h ih = let k = ih h in (suc k.0, k.1, k.2, k.3)

pub any_of : {A : Type 0} (f : A → Bool) (xs : List A) (i : ℕ) (x : A) → slice_get xs i ≡ Some x → f x ≡ true → list_any f xs ≡ true
any_of f [] i x e h = cc e
any_of f (y ∷ ys) zero x e h = let g : f y ≡ true = ap f (same_Some y x e) ∙ h in rw g refl
any_of f (y ∷ ys) (suc i) x e h = or_right (f y) (list_any f ys) (any_of f ys i x e h)

flat_any : {B : Type 0} (f : B → Bool) (g : ℕ → List B) (a n : ℕ) → list_any f (flat_map g (range_with_len a n)) ≡ true → (q : ℕ) × (list_any f (g q) ≡ true)
flat_any f g a zero e = cc e
flat_any f g a (suc n) e = elim (or_true (list_any f (g a)) (list_any f (flat_map g (range_with_len (a + 1) n))) (sym (list_any-append f (g a) (flat_map g (range_with_len (a + 1) n))) ∙ e)) [
  | inl h ↦ (a, h)
  | inr h ↦ flat_any f g (a + 1) n h
]

both_ways : (a b : Bool) → (a ≡ true → b ≡ true) → (b ≡ true → a ≡ true) → a ≡ b
both_ways true b f g = sym (f refl)
both_ways false true f g = cc (g refl)
both_ways false false f g = refl

module _ (ws : List Wire) (r : Record) (rises : Rises r) (x : Node) (key : Key) where
  to_late : list_any (dooms_before ws r x key) (order r) ≡ true → is_late ws r x key ≡ true
  to_late h =
      let at = any_at (dooms_before ws r x key) (order r) h in
      let s : Stamp = at.1 in
      let both = and_true (is_before s.stamp s.origin key.stamp key.origin) (has_node x (doomed ws r s.stamp s.origin)) at.3 in
      let call = sound r rises at.0 s at.2 in
      let nodes : has_node x (first_nodes (destruction_at ws r s.origin s.call)) ≡ true = sym (ap (has_node x) (doomed_is ws r rises s.origin s.call s.stamp call.0 call.1 call.2)) ∙ both.1 in
      let from = of_node ws r s.origin s.call x call.0 call.1 nodes in
      let stamp : from.0.stamp ≡ s.stamp = same_Some from.0.stamp s.stamp (sym from.1.2 ∙ call.2) in
      let late : is_late_by x key from.0 ≡ true =
      and_of (is_before from.0.stamp from.0.origin key.stamp key.origin) (has_node x from.0.nodes)
      (subst (λ t. is_before t from.0.origin key.stamp key.origin ≡ true) (sym stamp) (subst (λ q. is_before s.stamp q key.stamp key.origin ≡ true) (sym from.1.1) both.0))
      (sym (ap (λ ds. has_node x (first_nodes ds)) from.1.0) ∙ nodes) in
      list_any-flat_map_range (is_late_by x key) (destructions_of ws r) s.origin (length r.peers) 0 (omega arith) (omega (arith, is_peer r s.origin s.call call.0 call.1))
      (among ws r s.origin (is_late_by x key) (length (calls_of r s.origin)) s.call from.0 (slice_get_within (calls_of r s.origin) s.call call.0 call.1) from.1.0 late)

  from_late : is_late ws r x key ≡ true → list_any (dooms_before ws r x key) (order r) ≡ true
  from_late h =
      let peer = flat_any (is_late_by x key) (destructions_of ws r) 0 (length r.peers) h in
      let from = source ws r peer.0 (is_late_by x key) (length (calls_of r peer.0)) peer.1 in
      let d : Destruction = from.0 in
      let both = and_true (is_before d.stamp d.origin key.stamp key.origin) (has_node x d.nodes) from.2 in
      let c : ComesFrom ws r peer.0 d = from.1 in
      let at = complete r rises peer.0 c.place d.stamp c.call c.at c.stamp_is in
      let nodes : doomed ws r d.stamp peer.0 ≡ d.nodes = doomed_is ws r rises peer.0 c.place d.stamp c.call c.at c.stamp_is ∙ ap first_nodes c.alone in
      any_of (dooms_before ws r x key) (order r) at.0 (record { stamp = d.stamp; origin = peer.0; call = c.place }) at.1
      (and_of (is_before d.stamp peer.0 key.stamp key.origin) (has_node x (doomed ws r d.stamp peer.0)) (subst (λ q. is_before d.stamp q key.stamp key.origin ≡ true) c.origin_is both.0) (ap (has_node x) nodes ∙ both.1))

  pub late_by_order : list_any (dooms_before ws r x key) (order r) ≡ is_late ws r x key
  late_by_order = both_ways (list_any (dooms_before ws r x key) (order r)) (is_late ws r x key) to_late from_late
