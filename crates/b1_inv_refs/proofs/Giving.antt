-- A wire gives one reference: what holds of the parts while wires are laid stays so.
use Rattle.std.proofs.Common.{◌≡◌, ◌≢◌, ◌⊎◌, refl, sym, ap, ◌∙◌, inl, inr, subst, ℕ, ◌+◌, ◌<◌, ◌≤◌, ◌==◌, Bool, true, false, cond, ◌&&◌, List, [], ◌∷◌, ◌++◌, get_or, length, Option, Some, None, option_map, append-nil}
use Rattle.std.specs.Prelude.{slice_get}
use Rattle.std.specs.List.{list_any}
use Rattle.std.proofs.lemmas.Bool.{cases_eq, eq-eqb, ne_eqb, eqb-true}
use Rattle.std.proofs.lemmas.List.{length-set, length-append}
use Rattle.std.proofs.lemmas.Option.{same_Some}
use native.Mathlib.Omega.{arith}
use Rattle.b1_model.specs.declared.naming.NodeRef.{NodeRef}
use Rattle.b1_model.specs.declared.naming.Wire.{Wire}
use Rattle.b1_model.specs.Opening.{held_by, is_same, with_held}
use Rattle.b1_model.specs.MachineParts.{PeerPart, HandleRecord, NodePart, no_node, same_ref, record_of, record_or_none}
use Rattle.b1_model.specs.MachineTables.{serial_of, with_node, counted, changed_or_made, more_held, next_number}
use Rattle.b1_model.specs.MachineStep.{no_peer, with_part, wire_counted, wire_held}
use Rattle.b1_step.specs.Rights.{Has}
use Rattle.b1_step.specs.Ordered.{Rising}
use Rattle.b1_step.proofs.Lists.{has_at, has_filter, filter_has, has_within}
use Rattle.b1_step.proofs.Orders.{same_ref_is}
use Rattle.b1_step.proofs.Lookups.{rising_made}
use Rattle.b1_inv.specs.Numbers.{AreNumbered}
use Rattle.b1_inv_refs.proofs.Views.{Handles, or_none}
use Rattle.b1_inv_refs.proofs.Arrivals.{held_in}
use Rattle.b1_inv_refs.proofs.Numbered.{EachRecord, each_made, given_then}
use Rattle.b1_inv_refs.proofs.GivenUp.{held_of, found_has}
use Rattle.b1_inv_refs.proofs.Counts.{counted_one}
use Rattle.b1_inv_refs.proofs.Widths.{IsWide, EachNode, wide_counted}
use Rattle.b1_inv_refs.proofs.Places.{one_number, serial_within, serial_counted, part_there}
use Rattle.b1_inv_refs.proofs.SameWires.{symmetric, turned, any_has, any_none, has_place, filter_more, more_at, within_at, same_wire, is_same_wire}
use Rattle.b1_inv_refs.proofs.Wired.{held_given, made_there, stays_there, numbers_given}
use Rattle.b1_inv_refs.proofs.Wiring.{Peers, Laid, MadeIn, NamesAt, Names, count_read, held_read, Wiring, read_part, map_map, map_same, back, forth}

-- ---- a reference is given

module _ (n : ℕ) (held : List Wire) (xs : Peers) (k : Wiring n held xs) (node : NodeRef) (j : ℕ) (v : Wire) (to_is : v.to ≡ j) (from_is : v.from ≡ node.owner) (apart : node.owner ≢ j) (named : NamesAt xs v node.serial) (in_j : j < n) where
  abbrev pub given_parts : Peers
  given_parts = with_part j (wire_held node) (with_part node.owner (wire_counted node j) xs)

  abbrev give : ℕ → PeerPart → PeerPart
  give q x = record x {
    nodes = cond (q == node.owner) (with_node node.serial (counted j) x.nodes) x.nodes;
    handles = cond (q == j) (changed_or_made node (more_held (next_number x.given)) x.handles) x.handles;
    given = cond (q == j) (given_then x.given (held_in node x.handles)) x.given;
  }

  give_is : (q : ℕ) (x : PeerPart) → cond (q == j) (wire_held node (cond (q == node.owner) (wire_counted node j x) x)) (cond (q == node.owner) (wire_counted node j x) x) ≡ give q x
  give_is q x = at (q == j) (q == node.owner)
    where
      at : (b c : Bool) → ◌≡◌ {A = PeerPart} (cond b (wire_held node (cond c (wire_counted node j x) x)) (cond c (wire_counted node j x) x)) (record x { nodes = cond c (with_node node.serial (counted j) x.nodes) x.nodes; handles = cond b (changed_or_made node (more_held (next_number x.given)) x.handles) x.handles; given = cond b (given_then x.given (held_in node x.handles)) x.given })
      at true true = refl
      at true false = refl
      at false true = refl
      at false false = refl

  reads : (q : ℕ) → slice_get given_parts q ≡ option_map (give q) (slice_get xs q)
  reads q =
      read_part (with_part node.owner (wire_counted node j) xs) j q (wire_held node)
      ∙ ap (option_map (λ x. cond (q == j) (wire_held node x) x)) (read_part xs node.owner q (wire_counted node j))
      ∙ map_map (λ x. cond (q == node.owner) (wire_counted node j x) x) (λ x. cond (q == j) (wire_held node x) x) (slice_get xs q)
      ∙ map_same _ (give q) (give_is q) (slice_get xs q)

  -- the owner's part, and the part that gets the reference
  owner_is : slice_get xs node.owner ≡ Some named.0
  owner_is = ap (slice_get xs) (sym from_is) ∙ named.1

  abbrev goal : PeerPart
  goal = get_or xs j no_peer

  goal_is : slice_get xs j ≡ Some goal
  goal_is = part_there xs j (let c = k.count in omega (arith, c, in_j))

  in_nodes : node.serial < length named.0.nodes
  in_nodes = serial_within named.0.nodes node.serial v.number named.2

  in_counts : j < length (get_or named.0.nodes node.serial no_node).counts
  in_counts = let w = (k.part node.owner named.0 owner_is).wide (get_or named.0.nodes node.serial no_node) (has_within named.0.nodes node.serial no_node in_nodes) in omega (arith, w, in_j)

  -- ---- parts

  by_nodes : (P : List NodePart → Type 0) (q : ℕ) (x : PeerPart) → P x.nodes → P (with_node node.serial (counted j) x.nodes) → P (give q x).nodes
  by_nodes P q x old new = at (q == node.owner)
    where
      at : (b : Bool) → P (cond b (with_node node.serial (counted j) x.nodes) x.nodes)
      at true = new
      at false = old

  by_table : (P : ℕ → Handles → Type 0) (q : ℕ) (x : PeerPart) → P x.given x.handles → P (given_then x.given (held_in node x.handles)) (changed_or_made node (more_held (next_number x.given)) x.handles) → P (give q x).given (give q x).handles
  by_table P q x old new = at (q == j)
    where
      at : (b : Bool) → P (cond b (given_then x.given (held_in node x.handles)) x.given) (cond b (changed_or_made node (more_held (next_number x.given)) x.handles) x.handles)
      at true = new
      at false = old

  laid_then : (q : ℕ) (x : PeerPart) → Laid n q x → Laid n q (give q x)
  laid_then q x l = record {
    me = l.me;
    peers = l.peers;
    queue = l.queue;
    dead = l.dead;
    rising = by_table (λ g hs. Rising hs) q x l.rising (rising_made node (more_held (next_number x.given)) (λ h. refl) x.handles l.rising);
    numbered = by_table AreNumbered q x l.numbered (numbers_given x.given node x.handles l.rising l.numbered);
    still = by_table (λ g hs. EachRecord (λ h. h.flight ≡ 0) hs) q x l.still (each_made (λ h. h.flight ≡ 0) node (more_held (next_number x.given)) (λ h z. z) refl x.handles l.still);
    wide = by_nodes (EachNode (IsWide n)) q x l.wide (wide_counted n j node.serial x.nodes l.wide);
  }

  names_stay : (w : Wire) (serial : ℕ) → NamesAt xs w serial → NamesAt given_parts w serial
  names_stay w serial (y, is, found) = (give w.from y, forth xs given_parts give reads w.from y is, by_nodes (λ ns. serial_of w.number ns ≡ Some serial) w.from y found (serial_counted j node.serial w.number serial y.nodes found))

  made_stays : (m : NodeRef) → MadeIn xs m → MadeIn given_parts m
  made_stays m (x, is, less) = (give m.owner x, forth xs given_parts give reads m.owner x is, by_nodes (λ ns. m.serial < length ns) m.owner x less (let same = length-set x.nodes node.serial (counted j (get_or x.nodes node.serial no_node)) in omega (arith, less, same)))

  -- a node of a record then
  abbrev Known : ℕ → NodeRef → Type 0
  Known q m = MadeIn given_parts m × (m.owner ≢ q)

  new_known : Known j node
  new_known = (made_stays node (named.0, owner_is, in_nodes), apart)

  nodes_then : (q : ℕ) (x : PeerPart) → slice_get xs q ≡ Some x → EachRecord (λ h. Known q h.node) (give q x).handles
  nodes_then q x is = at (cases_eq q j)
    where
      old : EachRecord (λ h. Known q h.node) x.handles
      old h there = let m = k.nodes q x h is there in (made_stays h.node m.0, m.1)

      at : (q ≡ j) ⊎ (q ≡ j → ⊥) → EachRecord (λ h. Known q h.node) (give q x).handles
      at (inl same) = rw (eq-eqb q j same) (each_made (λ h. Known q h.node) node (more_held (next_number x.given)) (λ h z. z) (subst (λ z. Known z node) (sym same) new_known) x.handles old)
      at (inr other) = rw (ne_eqb q j other) old

  -- ---- counts

  abbrev counted_test : NodeRef → ℕ → Bool
  counted_test m q = (m.owner == node.owner) && ((node.serial == m.serial) && (j == q))

  count_moves : (m : NodeRef) (q : ℕ) → count_read m q (slice_get given_parts m.owner) ≡ count_read m q (slice_get xs m.owner) + cond (counted_test m q) 1 0
  count_moves m q = ap (count_read m q) (reads m.owner) ∙ at (slice_get xs m.owner) refl (cases_eq m.owner node.owner)
    where
      at : (r : Option PeerPart) → slice_get xs m.owner ≡ r → (m.owner ≡ node.owner) ⊎ (m.owner ≡ node.owner → ⊥) → count_read m q (option_map (give m.owner) r) ≡ count_read m q r + cond (counted_test m q) 1 0
      at None is (inl same) = absurd (cc (sym is ∙ ap (slice_get xs) same ∙ owner_is))
      at None is (inr other) = rw (ne_eqb m.owner node.owner other) refl
      at (Some x) is (inl same) =
          let alike : x ≡ named.0 = same_Some x named.0 (sym is ∙ ap (slice_get xs) same ∙ owner_is) in
          let one : node.serial < length x.nodes = subst (λ z. node.serial < length z.nodes) (sym alike) in_nodes in
          let two : j < length (get_or x.nodes node.serial no_node).counts = subst (λ z. j < length (get_or z.nodes node.serial no_node).counts) (sym alike) in_counts in
          rw (eq-eqb m.owner node.owner same) (counted_one x.nodes node.serial m.serial j q one two)
      at (Some x) is (inr other) = rw (ne_eqb m.owner node.owner other) (omega arith)

  held_moves : (m : NodeRef) (q : ℕ) → held_read m (slice_get given_parts q) ≡ held_read m (slice_get xs q) + cond ((q == j) && same_ref node m) 1 0
  held_moves m q = ap (held_read m) (reads q) ∙ at (slice_get xs q) refl (cases_eq q j)
    where
      at : (r : Option PeerPart) → slice_get xs q ≡ r → (q ≡ j) ⊎ (q ≡ j → ⊥) → held_read m (option_map (give q) r) ≡ held_read m r + cond ((q == j) && same_ref node m) 1 0
      at None is (inl same) = absurd (cc (sym is ∙ ap (slice_get xs) same ∙ goal_is))
      at None is (inr other) = rw (ne_eqb q j other) refl
      at (Some x) is (inl same) = rw (eq-eqb q j same) (held_given (next_number x.given) node m x.handles (k.part q x is).rising)
      at (Some x) is (inr other) = rw (ne_eqb q j other) (omega arith)

  tests_same : (m : NodeRef) (q : ℕ) → counted_test m q ≡ ((q == j) && same_ref node m)
  tests_same m q = ap (λ b. b && ((node.serial == m.serial) && (j == q))) (symmetric m.owner node.owner) ∙ turned (node.owner == m.owner) (node.serial == m.serial) (j == q) ∙ ap (λ b. b && same_ref node m) (symmetric j q)

  counts_then : (m : NodeRef) (q : ℕ) → count_read m q (slice_get given_parts m.owner) ≡ held_read m (slice_get given_parts q)
  counts_then m q =
      let a = count_moves m q in
      let b = held_moves m q in
      let c = k.counts m q in
      let d = ap (λ t. cond {A = ℕ} t 1 0) (tests_same m q) in
      omega (arith, a, b, c, d)

  -- ---- what is held

  numbered_goal : AreNumbered goal.given goal.handles
  numbered_goal = (k.part j goal goal_is).numbered

  up_goal : Rising goal.handles
  up_goal = (k.part j goal goal_is).rising

  -- a record that is named as v is, is of the node
  same_node : (h : HandleRecord) (w : Wire) → h.node.owner ≡ w.from → NamesAt xs w h.node.serial → w.from ≡ v.from → w.number ≡ v.number → h.node ≡ node
  same_node h w owner at from number =
      let y_same : at.0 ≡ named.0 = same_Some at.0 named.0 (sym at.1 ∙ ap (slice_get xs) from ∙ named.1) in
      let both : Some h.node.serial ≡ Some node.serial = sym at.2 ∙ ap (λ m. serial_of m at.0.nodes) number ∙ ap (λ z. serial_of v.number z.nodes) y_same ∙ named.2 in
      let serials : h.node.serial ≡ node.serial = cc both in
      let owners : h.node.owner ≡ node.owner = owner ∙ from ∙ from_is in
      λ l. record { owner = owners l; serial = serials l }

  held_some : (h : HandleRecord) (number : ℕ) → Has goal.handles h → h.number ≡ Some number → h.node ≡ node → 1 ≤ held_in node goal.handles
  held_some h number there is same =
      let one = held_of goal.handles h up_goal there in
      let two = ap (λ m. held_in m goal.handles) same in
      let three = (numbered_goal.held h number there is).0 in
      omega (arith, one, two, three)

  some_held : list_any (λ h. is_same h v) held ≡ true → 1 ≤ held_in node goal.handles
  some_held is =
      let w = any_has (λ h. is_same h v) held is in
      let same = same_wire w.0 v w.2 in
      let place = has_place (held_by held j) w.0 (has_filter (λ h. h.to == j) held w.0 w.1 (eq-eqb w.0.to j (same.1 ∙ to_is))) in
      let m = k.names j goal place.0 w.0 goal_is place.1 in
      held_some m.0 (next_number place.0) m.1 m.2 (same_node m.0 w.0 m.3 m.4 same.0 same.2)

  none_held : list_any (λ h. is_same h v) held ≡ false → held_in node goal.handles ≡ 0
  none_held is = at (record_of node goal.handles) refl
    where
      by_number : (h : HandleRecord) → Has goal.handles h → h.node ≡ node → (r : Option ℕ) → h.number ≡ r → h.held ≡ 0
      by_number h there same None none = numbered_goal.unheld h there none
      by_number h there same (Some number) some =
          let was = (numbered_goal.held h number there some).1 in
          let many = k.many j goal goal_is in
          let w = within_at (held_by held j) was.0 (let l = was.1 in omega (arith, l, many)) in
          let m = k.names j goal was.0 w.0 goal_is w.1 in
          let node_is : m.0.node ≡ node = numbered_goal.apart m.0 h number m.1 there (m.2 ∙ ap Some (sym was.2)) some ∙ same in
          let in_held = filter_has (λ z. z.to == j) held w.0 (has_at (held_by held j) was.0 w.0 w.1) in
          let from : w.0.from ≡ v.from = sym m.3 ∙ ap (λ z. z.owner) node_is ∙ sym from_is in
          let y_same : m.4.0 ≡ named.0 = same_Some m.4.0 named.0 (sym m.4.1 ∙ ap (slice_get xs) from ∙ named.1) in
          let number_is : w.0.number ≡ v.number = one_number named.0.nodes node.serial w.0.number v.number (ap (λ z. serial_of w.0.number z.nodes) (sym y_same) ∙ m.4.2 ∙ ap (λ z. Some z.serial) node_is) named.2 in
          absurd (cc (sym (any_none (λ z. is_same z v) held w.0 is in_held.0) ∙ is_same_wire w.0 v from (eqb-true w.0.to j in_held.1 ∙ sym to_is) number_is))

      at : (r : Option HandleRecord) → record_of node goal.handles ≡ r → (or_none node r).held ≡ 0
      at None found = refl
      at (Some h) found = let f = found_has (λ z. same_ref z.node node) goal.handles h found in by_number h f.0 (same_ref_is h.node node f.1) h.number refl

  -- ---- the names

  names_old : (q : ℕ) (x : PeerPart) (g : ℕ) (w : Wire) → slice_get xs q ≡ Some x → Names xs x.handles g w → Names given_parts (give q x).handles g w
  names_old q x g w is m = at (cases_eq q j)
    where
      at : (q ≡ j) ⊎ (q ≡ j → ⊥) → Names given_parts (give q x).handles g w
      at (inl same) =
          let l = k.part q x is in
          let s = stays_there x.given node x.handles l.rising l.numbered m.0 (next_number g) m.1 m.2 in
          rw (eq-eqb q j same) (s.0, s.1, s.2, ap (λ z. z.owner) s.3 ∙ m.3, subst (λ z. NamesAt given_parts w z.serial) (sym s.3) (names_stay w m.0.node.serial m.4))
      at (inr other) = rw (ne_eqb q j other) (m.0, m.1, m.2, m.3, names_stay w m.0.node.serial m.4)

  -- the new record is named by v
  names_new : held_in node goal.handles ≡ 0 → Names given_parts (changed_or_made node (more_held (next_number goal.given)) goal.handles) goal.given v
  names_new none =
      let node_is : (record_or_none node goal.handles).node ≡ node = node_at_or_none (record_of node goal.handles) refl in
      let number_is : (more_held (next_number goal.given) (record_or_none node goal.handles)).number ≡ Some (next_number goal.given) = ap (λ b. cond b (Some (next_number goal.given)) (record_or_none node goal.handles).number) (eq-eqb (held_in node goal.handles) 0 none) in
      (more_held (next_number goal.given) (record_or_none node goal.handles), made_there node (more_held (next_number goal.given)) (λ h. refl) goal.handles up_goal, number_is, ap (λ z. z.owner) node_is ∙ sym from_is, subst (λ z. NamesAt given_parts v z.serial) (sym node_is) (names_stay v node.serial named))
    where
      node_at_or_none : (r : Option HandleRecord) → record_of node goal.handles ≡ r → (or_none node r).node ≡ node
      node_at_or_none None found = refl
      node_at_or_none (Some h) found = same_ref_is h.node node (found_has (λ z. same_ref z.node node) goal.handles h found).1

  -- a part of which nothing more is held
  same_given : (q : ℕ) (x : PeerPart) → slice_get xs q ≡ Some x → 1 ≤ held_in node goal.handles → (give q x).given ≡ x.given
  same_given q x is some = at (cases_eq q j)
    where
      at : (q ≡ j) ⊎ (q ≡ j → ⊥) → (give q x).given ≡ x.given
      at (inl same) =
          let alike : x ≡ goal = same_Some x goal (sym is ∙ ap (slice_get xs) same ∙ goal_is) in
          let held_x : held_in node x.handles ≡ held_in node goal.handles = ap (λ z. held_in node z.handles) alike in
          rw (eq-eqb q j same, ne_eqb (held_in node x.handles) 0 (λ e. absurd (omega (arith, e, held_x, some)))) refl
      at (inr other) = rw (ne_eqb q j other) refl

  more_many : (q : ℕ) (x : PeerPart) → slice_get xs q ≡ Some x → held_in node goal.handles ≡ 0 → (give q x).given ≡ length (held_by (held ++ v ∷ []) q)
  more_many q x is none = at (cases_eq q j)
    where
      listed : held_by (held ++ v ∷ []) q ≡ held_by held q ++ cond (v.to == q) (v ∷ []) []
      listed = filter_more (λ w. w.to == q) held v

      at : (q ≡ j) ⊎ (q ≡ j → ⊥) → (give q x).given ≡ length (held_by (held ++ v ∷ []) q)
      at (inl same) =
          let alike : x ≡ goal = same_Some x goal (sym is ∙ ap (slice_get xs) same ∙ goal_is) in
          let zero_held : held_in node x.handles ≡ 0 = ap (λ z. held_in node z.handles) alike ∙ none in
          let many = k.many q x is in
          let long : length (held_by (held ++ v ∷ []) q) ≡ length (held_by held q) + 1 = ap length listed ∙ ap (λ b. length (held_by held q ++ cond b (v ∷ []) [])) (eq-eqb v.to q (to_is ∙ sym same)) ∙ length-append (held_by held q) (v ∷ []) in
          rw (eq-eqb q j same, eq-eqb (held_in node x.handles) 0 zero_held) (omega (arith, many, long))
      at (inr other) =
          let many = k.many q x is in
          let short : length (held_by (held ++ v ∷ []) q) ≡ length (held_by held q) + 0 = ap length listed ∙ ap (λ b. length (held_by held q ++ cond b (v ∷ []) [])) (ne_eqb v.to q (λ e. other (sym e ∙ to_is))) ∙ length-append (held_by held q) [] in
          rw (ne_eqb q j other) (omega (arith, many, short))

  more_names : (q : ℕ) (x : PeerPart) (g : ℕ) (w : Wire) → slice_get xs q ≡ Some x → held_in node goal.handles ≡ 0 → slice_get (held_by (held ++ v ∷ []) q) g ≡ Some w → Names given_parts (give q x).handles g w
  more_names q x g w is none found = by_test (v.to == q) refl (subst (λ l. slice_get l g ≡ Some w) (filter_more (λ z. z.to == q) held v) found)
    where
      last : slice_get (held_by held q ++ v ∷ []) g ≡ Some w → v.to ≡ q → Names given_parts (give q x).handles g w
      last here to = elim (more_at (held_by held q) v w g here) [
        | inl old ↦ names_old q x g w is (k.names q x g w is old)
        | inr new ↦
            let q_is : q ≡ j = sym to ∙ to_is in
            let alike : x ≡ goal = same_Some x goal (sym is ∙ ap (slice_get xs) q_is ∙ goal_is) in
            let g_is : goal.given ≡ g = ap (λ z. z.given) (sym alike) ∙ k.many q x is ∙ sym new.0 in
            subst (λ z. Names given_parts (give q x).handles g z) (sym new.1)
            (subst (λ m. Names given_parts (give q x).handles m v) g_is
            (rw (eq-eqb q j q_is) (subst (λ z. Names given_parts (changed_or_made node (more_held (next_number z.given)) z.handles) goal.given v) (sym alike) (names_new none))))
      ]

      by_test : (b : Bool) → (v.to == q) ≡ b → slice_get (held_by held q ++ cond b (v ∷ []) []) g ≡ Some w → Names given_parts (give q x).handles g w
      by_test true to here = last here (eqb-true v.to q to)
      by_test false to here = names_old q x g w is (k.names q x g w is (subst (λ l. slice_get l g ≡ Some w) (append-nil (held_by held q)) here))

  -- ---- together

  wiring_by : (b : Bool) → list_any (λ h. is_same h v) held ≡ b → Wiring n (cond b held (held ++ v ∷ [])) given_parts
  wiring_by true is = record {
    count = length-set (with_part node.owner (wire_counted node j) xs) j _ ∙ length-set xs node.owner _ ∙ k.count;
    part = λ q y at. let b = back xs given_parts give reads q y at in subst (Laid n q) (sym b.2) (laid_then q b.0 (k.part q b.0 b.1));
    nodes = λ q y h at there. let b = back xs given_parts give reads q y at in nodes_then q b.0 b.1 h (subst (λ z. Has z.handles h) b.2 there);
    counts = counts_then;
    many = λ q y at. let b = back xs given_parts give reads q y at in ap (λ z. z.given) b.2 ∙ same_given q b.0 b.1 (some_held is) ∙ k.many q b.0 b.1;
    names = λ q y g w at found. let b = back xs given_parts give reads q y at in subst (λ z. Names given_parts z.handles g w) (sym b.2) (names_old q b.0 g w b.1 (k.names q b.0 g w b.1 found));
  }
  wiring_by false is = record {
    count = length-set (with_part node.owner (wire_counted node j) xs) j _ ∙ length-set xs node.owner _ ∙ k.count;
    part = λ q y at. let b = back xs given_parts give reads q y at in subst (Laid n q) (sym b.2) (laid_then q b.0 (k.part q b.0 b.1));
    nodes = λ q y h at there. let b = back xs given_parts give reads q y at in nodes_then q b.0 b.1 h (subst (λ z. Has z.handles h) b.2 there);
    counts = counts_then;
    many = λ q y at. let b = back xs given_parts give reads q y at in ap (λ z. z.given) b.2 ∙ more_many q b.0 b.1 (none_held is);
    names = λ q y g w at found. let b = back xs given_parts give reads q y at in subst (λ z. Names given_parts z.handles g w) (sym b.2) (more_names q b.0 g w b.1 (none_held is) found);
  }

  pub wiring_given : Wiring n (with_held held v) given_parts
  wiring_given = wiring_by (list_any (λ h. is_same h v) held) refl
