-- Whom a destruction tells: on the machine those whom its owner counts, on the serial bus those who refer to a node of it.
use Rattle.std.proofs.Common.{◌≡◌, ◌≢◌, refl, sym, ap, ◌∙◌, subst, inl, inr, ℕ, zero, suc, ◌+◌, ◌<◌, ◌≤◌, max, Bool, true, false, cond, ◌||◌, not, nat_lt, List, [], ◌∷◌, map, filter, fold, length, zip, filter_map, Option, Some, None, is_some, arith}
use Rattle.std.specs.Prelude.{slice_get}
use Rattle.std.specs.List.{list_any, range_with_len}
use Rattle.std.proofs.lemmas.Option.{slice_get_within, slice_get-get_or}
use Rattle.std.proofs.lemmas.Bool.{cases_eq, false_from_ne_true}
use Rattle.std.proofs.lemmas.List.Sums.{sum_by-cons}
use Rattle.b1_model.specs.declared.naming.Key.{Key}
use Rattle.b1_model.specs.declared.naming.NodeRef.{NodeRef}
use Rattle.b1_model.specs.declared.naming.Opening.{Opening}
use Rattle.b1_model.specs.declared.parts.NodeState.{NodeState}
use Rattle.b1_model.specs.declared.parts.NodeState.TheVariants.{Live, Dying, Destroyed}
use Rattle.b1_model.specs.declared.parts.Slot.{Slot}
use Rattle.b1_model.specs.declared.parts.Slot.TheVariants as slot
use Rattle.b1_model.specs.declared.entries.Entry.{Entry}
use Rattle.b1_model.specs.declared.entries.Entry.TheVariants.{Message, OwnNotice, ForeignNotice, ReleaseNotice}
use Rattle.b1_model.specs.MachineParts.{PeerPart, DriverPart, HandleRecord, State, same_ref, is_live, record_of, record_or_none, node_at, no_node, carried}
use Rattle.b1_model.specs.MachineTables.{count_of}
use Rattle.b1_model.specs.MachineReceive.{reference_of}
use Rattle.b1_model.specs.MachineDestroy.{visit_set, needs_notice}
use Rattle.b1_step.specs.Rights.{Has}
use Rattle.b1_step.proofs.Lists.{filter_has, has_filter}
use Rattle.b1_step.proofs.Orders.{same_ref_is}
use Rattle.b1_inv.specs.Words.{IsPeer, IsDriver, IsMade}
use Rattle.b1_inv.specs.Sends.{IsFilled}
use Rattle.b1_inv.specs.Notices.{Rises}
use Rattle.b1_inv.specs.References.{AreFilled, times_in, carried_times}
use Rattle.b1_inv.specs.Sound.{IsSound}
use Rattle.b1_inv_notices.proofs.Sets.{range_has, rises_range, rises_filter}
use Rattle.b1_inv_refs.proofs.Views.{or_none, times_cons}
use Rattle.b1_inv_refs.proofs.GivenUp.{found_has}
use Rattle.b1_inv_refs.proofs.Arrivals.{carried_cons}
use Rattle.b1_inv_record.specs.Destructions.{doomed_key}
use Rattle.b1_inv_record.specs.Right.{IsRight}
use Rattle.b1_serial_bus.specs.Parts.{Part, Bus}
use Rattle.b1_serial_bus.specs.Lives.{destroyed_in, destroyed_at}
use Rattle.b1_serial_bus.specs.References.{boxed_references, refers}
use Rattle.b1_serial_bus.specs.Notices.{node_of, refers_to_doomed}
use Rattle.b1_serial_bus.specs.Doom.{doom_stamp}
use Rattle.b1_serial_rest.specs.Standing.{stamp_of, part_of, parts_of}
use Rattle.b1_serial_rest.specs.Rest.{held_times, boxed_times, AtRest}
use Rattle.b1_serial_rest.proofs.Records.{lines_held}
use Rattle.b1_serial_whole.proofs.Quiet.{driver_beside, element_there}
use Rattle.b1_serial_own.proofs.Shows.{part_there}
use Rattle.b1_serial_own.proofs.Abroad.{above_sum, refers_counts, refers_counted}
use Rattle.b1_serial_own.proofs.Dropped.{stamp_at}

-- ---- slots of one node

module _ (q : ℕ) (node : NodeRef) where
  -- a slot that is filled at peer q, where the node is another peer's and none of its slots is void
  slots_carried : (nodes : List NodeRef) (slots : List Slot) → AreFilled q nodes slots → node.owner ≢ q → ((t : Slot) → Has (zip nodes slots) (node, t) → t ≢ slot.Void)
      → times_in node (map (λ r. r.0) (filter_map reference_of (zip nodes slots))) ≡ times_in node nodes
  slots_carried [] slots filled apart alive = refl
  slots_carried (m ∷ nodes) [] filled apart alive = absurd filled
  slots_carried (m ∷ nodes) (t ∷ slots) filled apart alive = by t filled.0 alive (slots_carried nodes slots filled.1 apart (λ u there. alive u (inr there)))
    where
      other : m.owner ≡ q → times_in node (m ∷ nodes) ≡ times_in node nodes
      other mine = times_cons node m nodes ∙ ap (λ b. cond b 1 0 + times_in node nodes) (false_from_ne_true (same_ref m node) (λ same. apart (sym (ap (λ z. z.owner) (same_ref_is m node same)) ∙ mine))) ∙ omega arith

      void : ((u : Slot) → Has (zip (m ∷ nodes) (slot.Void ∷ slots)) (node, u) → u ≢ slot.Void) → times_in node (m ∷ nodes) ≡ times_in node nodes
      void alive = times_cons node m nodes ∙ ap (λ b. cond b 1 0 + times_in node nodes) (false_from_ne_true (same_ref m node) (λ same. alive slot.Void (inl (ap (λ z. (z, slot.Void)) (sym (same_ref_is m node same)))) refl)) ∙ omega arith

      by : (t : Slot) → IsFilled (record { owner = q; serial = 0 }) m t → ((u : Slot) → Has (zip (m ∷ nodes) (t ∷ slots)) (node, u) → u ≢ slot.Void)
          → times_in node (map (λ r. r.0) (filter_map reference_of (zip nodes slots))) ≡ times_in node nodes
          → times_in node (map (λ r. r.0) (filter_map reference_of (zip (m ∷ nodes) (t ∷ slots)))) ≡ times_in node (m ∷ nodes)
      by slot.Unattached filled alive further = absurd filled
      by slot.Void filled alive further = further ∙ sym (void alive)
      by slot.Own mine alive further = further ∙ sym (other mine)
      by slot.Attached filled alive further =
          times_cons node m (map (λ r. r.0) (filter_map reference_of (zip nodes slots))) ∙ ap (λ n. cond (same_ref m node) 1 0 + n) further ∙ sym (times_cons node m nodes)

  -- an own node has no reference
  slots_own : (nodes : List NodeRef) (slots : List Slot) → AreFilled q nodes slots → node.owner ≡ q → times_in node (map (λ r. r.0) (filter_map reference_of (zip nodes slots))) ≡ 0
  slots_own [] slots filled mine = refl
  slots_own (m ∷ nodes) [] filled mine = absurd filled
  slots_own (m ∷ nodes) (slot.Unattached ∷ slots) filled mine = absurd filled.0
  slots_own (m ∷ nodes) (slot.Void ∷ slots) filled mine = slots_own nodes slots filled.1 mine
  slots_own (m ∷ nodes) (slot.Own ∷ slots) filled mine = slots_own nodes slots filled.1 mine
  slots_own (m ∷ nodes) (slot.Attached ∷ slots) filled mine =
      times_cons node m (map (λ r. r.0) (filter_map reference_of (zip nodes slots)))
      ∙ ap (λ n. cond (same_ref m node) 1 0 + n) (slots_own nodes slots filled.1 mine)
      ∙ ap (λ b. cond b 1 0 + 0) (false_from_ne_true (same_ref m node) (λ same. filled.0 (ap (λ z. z.owner) (same_ref_is m node same) ∙ mine)))
      ∙ omega arith

-- ---- a peer at rest

module _ {o : Opening} {s : State} {bus : Bus} (sound : IsSound o s) (right : IsRight o s) (rest : AtRest o s bus) where
  part_here : (q : ℕ) (z : PeerPart) (e : DriverPart) → IsPeer s q z → IsDriver s q e → slice_get bus q ≡ Some (part_of z e)
  part_here q z e is_z is_e = ap (λ b. slice_get b q) rest.is_bus ∙ part_there s.peers s.drivers q z e is_z is_e

  -- a live node isn't destroyed on the bus
  pub live_shown : (n : NodeRef) (w : PeerPart) → IsPeer s n.owner w → is_live (node_at w n.serial).state ≡ true → n.serial < length w.nodes → is_some (destroyed_in bus n) ≡ false
  live_shown n w is_w live made =
      let e = driver_beside sound.numbered n.owner w is_w in
      ap (λ r. is_some (elim r [ None ↦ None | Some y ↦ destroyed_at y n.serial ])) (part_here n.owner w e.0 is_w e.1)
      ∙ ap is_some (stamp_at w.nodes n.serial made)
      ∙ by (node_at w n.serial).state live
    where
      by : (state : NodeState) → is_live state ≡ true → is_some (stamp_of state) ≡ false
      by Live is = refl
      by Dying is = refl
      by (Destroyed stamp) is = absurd (cc is)

  -- of a live node of another peer the box has as many references as it carries it
  module _ (q : ℕ) (z : PeerPart) (e : DriverPart) (is_z : IsPeer s q z) (is_e : IsDriver s q e) (n : NodeRef) (apart : n.owner ≢ q) (alive : is_some (destroyed_in bus n) ≡ false) where
    entry_carried : (f : Key × Entry) → Has z.queue f → times_in n (boxed_references f) ≡ times_in n (carried f.1)
    entry_carried (k, Message origin user index serial offset len nodes slots handles payload) there =
        let f : Key × Entry = (k, Message origin user index serial offset len nodes slots handles payload) in
        slots_carried q n nodes slots (sound.slots.filled q z f is_z there refl (rest.quiet.committed q z f is_z there)) apart
        (λ t in_it void. absurd (cc (sym alive ∙ rest.boxes.void q (part_of z e) f (n, t) (part_here q z e is_z is_e) there in_it void)))
    entry_carried (k, OwnNotice serial index) there = refl
    entry_carried (k, ForeignNotice node index) there = refl
    entry_carried (k, ReleaseNotice serial) there = refl

    box_carried : (queue : List (Key × Entry)) → ((f : Key × Entry) → Has queue f → Has z.queue f) → boxed_times n queue ≡ carried_times n queue
    box_carried [] of = refl
    box_carried (f ∷ queue) of =
        sum_by-cons (λ g. times_in n (boxed_references g)) f queue
        ∙ ap (λ k. k + boxed_times n queue) (entry_carried f (of f (inl refl)))
        ∙ ap (λ k. times_in n (carried f.1) + k) (box_carried queue (λ g there. of g (inr there)))
        ∙ sym (carried_cons n f queue)

    -- so it refers to it where it has a record of it
    refers_record : refers n (part_of z e) ≡ nat_lt 0 ((record_or_none n z.handles).held + (record_or_none n z.handles).flight)
    refers_record =
        refers_counts n z e (sound.rising q z is_z) (sound.numbers.numbered q z is_z)
        ∙ ap (λ k. nat_lt 0 (k + boxed_times n z.queue)) (lines_held n z.handles (sound.rising q z is_z) (sound.numbers.numbered q z is_z).unheld)
        ∙ ap (λ k. nat_lt 0 ((record_or_none n z.handles).held + k)) (box_carried z.queue (λ f there. there) ∙ sym (sound.flights.counted q z n is_z apart))

    -- and no notice of it is queued
    unmarked : IsMade s n → (h : HandleRecord) → record_of n z.handles ≡ Some h → h.notice ≡ false
    unmarked made h found = false_from_ne_true h.notice (λ marked.
        let has = found_has (λ g. same_ref g.node n) z.handles h found in
        let node : h.node ≡ n = same_ref_is h.node n has.1 in
        let queued = right.parts.marks.queued q z h is_z has.0 marked in
        let there : Has z.queue (queued.0, ForeignNotice n queued.1) = subst (λ m. Has z.queue (queued.0, ForeignNotice m queued.1)) node queued.2 in
        let doomed = right.destructions.foreign.queued q queued.1 z queued.0 n is_z there (rest.quiet.committed q z (queued.0, ForeignNotice n queued.1) is_z there) in
        cc (sym alive ∙ dead_shown n queued.0 made doomed))
      where
        dead_shown : (m : NodeRef) (key : Key) → IsMade s m → doomed_key o s m ≡ Some key → is_some (destroyed_in bus m) ≡ true
        dead_shown m key made doomed =
            let w = made.0 in
            let b = driver_beside sound.numbered m.owner w made.1 in
            let state = right.destructions.dying.recorded m.owner m.serial w (node_at w m.serial) key made.1 (slice_get-get_or w.nodes m.serial no_node made.2) doomed in
            ap (λ r. is_some (elim r [ None ↦ None | Some y ↦ destroyed_at y m.serial ])) (part_here m.owner w b.0 made.1 b.1)
            ∙ ap is_some (stamp_at w.nodes m.serial made.2)
            ∙ ap (λ state. is_some (stamp_of state)) state

    -- a visit tells it where it refers to the node
    pub needs_refers : IsMade s n → needs_notice z n ≡ refers n (part_of z e)
    needs_refers made = by (record_of n z.handles) refl ∙ sym refers_record
      where
        some : (h : HandleRecord) → record_of n z.handles ≡ Some h → h.notice ≡ false → not h.notice ≡ nat_lt 0 (h.held + h.flight)
        some h found plain =
            let has = found_has (λ g. same_ref g.node n) z.handles h found in
            ap not plain
            ∙ sym (right.parts.records.needed q z h is_z has.0)
            ∙ ap (λ b. (nat_lt 0 h.held || nat_lt 0 h.flight) || b) plain
            ∙ or_nothing (nat_lt 0 h.held || nat_lt 0 h.flight)
            ∙ sym (above_sum h.held h.flight)
          where
            or_nothing : (b : Bool) → b || false ≡ b
            or_nothing true = refl
            or_nothing false = refl

        by : (r : Option HandleRecord) → record_of n z.handles ≡ r → elim r [ None ↦ false | Some h ↦ not h.notice ] ≡ nat_lt 0 ((or_none n r).held + (or_none n r).flight)
        by None found = refl
        by (Some h) found = some h found (unmarked made h found)

  -- nobody refers to an own node
  module _ (q : ℕ) (z : PeerPart) (e : DriverPart) (is_z : IsPeer s q z) (n : NodeRef) (mine : n.owner ≡ q) where
    entry_own : (f : Key × Entry) → Has z.queue f → times_in n (boxed_references f) ≡ 0
    entry_own (k, Message origin user index serial offset len nodes slots handles payload) there =
        let f : Key × Entry = (k, Message origin user index serial offset len nodes slots handles payload) in
        slots_own q n nodes slots (sound.slots.filled q z f is_z there refl (rest.quiet.committed q z f is_z there)) mine
    entry_own (k, OwnNotice serial index) there = refl
    entry_own (k, ForeignNotice node index) there = refl
    entry_own (k, ReleaseNotice serial) there = refl

    box_own : (queue : List (Key × Entry)) → ((f : Key × Entry) → Has queue f → Has z.queue f) → boxed_times n queue ≡ 0
    box_own [] of = refl
    box_own (f ∷ queue) of =
        let one = sum_by-cons (λ g. times_in n (boxed_references g)) f queue in
        let two = entry_own f (of f (inl refl)) in
        let three = box_own queue (λ g there. of g (inr there)) in
        omega (arith, one, two, three)

    held_own : (r : Option HandleRecord) → record_of n z.handles ≡ r → (or_none n r).held ≡ 0
    held_own None found = refl
    held_own (Some h) found =
        let has = found_has (λ g. same_ref g.node n) z.handles h found in
        absurd (sound.flights.foreign q z h is_z has.0 (ap (λ m. m.owner) (same_ref_is h.node n has.1) ∙ mine))

    pub own_refers : refers n (part_of z e) ≡ false
    own_refers =
        refers_counts n z e (sound.rising q z is_z) (sound.numbers.numbered q z is_z)
        ∙ ap (nat_lt 0) none
      where
        none : held_times n (part_of z e).lines + boxed_times n z.queue ≡ 0
        none =
            let one = lines_held n z.handles (sound.rising q z is_z) (sound.numbers.numbered q z is_z).unheld in
            let two = held_own (record_of n z.handles) refl in
            let three = box_own z.queue (λ f there. there) in
            omega (arith, one, two, three)

-- ---- the list of a destruction

any_same : {X : Type 0} (test other : X → Bool) (xs : List X) → ((x : X) → Has xs x → test x ≡ other x) → list_any test xs ≡ list_any other xs
any_same test other [] same = refl
any_same test other (x ∷ xs) same = ap (λ b. b || list_any test xs) (same x (inl refl)) ∙ ap (λ b. other x || b) (any_same test other xs (λ y there. same y (inr there)))

module _ {o : Opening} {s : State} {bus : Bus} (sound : IsSound o s) (right : IsRight o s) (rest : AtRest o s bus) (p : ℕ) (x : PeerPart) (d : DriverPart) (is_x : IsPeer s p x) (is_d : IsDriver s p d)
    (doomed : List ℕ) (made : (n : ℕ) → Has doomed n → n < length x.nodes) (live : (n : ℕ) → Has doomed n → is_live (node_at x n).state ≡ true) where
  -- whom the owner counts
  abbrev counts_one : ℕ → Bool
  counts_one q = list_any (λ n. nat_lt 0 (count_of (node_at x n) q)) doomed

  pub counts_refers : (q : ℕ) (z : PeerPart) (e : DriverPart) → IsPeer s q z → IsDriver s q e → counts_one q ≡ refers_to_doomed p doomed (part_of z e)
  counts_refers q z e is_z is_e =
      any_same (λ n. nat_lt 0 (count_of (node_at x n) q)) (λ n. refers (node_of p n) (part_of z e)) doomed (λ n there.
      ap (λ r. nat_lt 0 (elim r [ None ↦ 0 | Some v ↦ count_of (node_at v n) q ])) (sym is_x)
      ∙ sym (refers_counted sound rest.quiet (node_of p n) q (part_of z e) (part_there s.peers s.drivers q z e is_z is_e)))

  -- the owner isn't among them
  pub none_own : refers_to_doomed p doomed (part_of x d) ≡ false
  none_own = by doomed
    where
      by : (list : List ℕ) → list_any (λ n. refers (node_of p n) (part_of x d)) list ≡ false
      by [] = refl
      by (n ∷ list) = ap (λ b. b || list_any (λ m. refers (node_of p m) (part_of x d)) list) (own_refers sound right rest p x d is_x (node_of p n) refl) ∙ by list

  -- a visited peer needs a notice of the nodes that it refers to
  pub needs_all : (q : ℕ) (z : PeerPart) (e : DriverPart) → IsPeer s q z → IsDriver s q e → q ≢ p → (n : ℕ) → Has doomed n → needs_notice z (record { owner = p; serial = n }) ≡ refers (node_of p n) (part_of z e)
  needs_all q z e is_z is_e apart n there =
      needs_refers sound right rest q z e is_z is_e (node_of p n) (λ same. apart (sym same)) (live_shown sound right rest (node_of p n) x is_x (live n there) (made n there)) (x, is_x, made n there)

  abbrev pub list : List ℕ
  list = visit_set x doomed

  me : x.me ≡ p
  me = (sound.numbered.peers p x is_x).me

  peers_are : x.peers ≡ length s.peers
  peers_are = (sound.numbered.peers p x is_x).peers ∙ sym sound.numbered.as_many_peers

  pub list_rises : Rises list
  list_rises = rises_filter counts_one (range_with_len 0 x.peers) (rises_range 0 x.peers)

  listed : (q : ℕ) → Has list q → (q < length s.peers) × (counts_one q ≡ true)
  listed q there =
      let k = filter_has counts_one (range_with_len 0 x.peers) q there in
      let less = (range_has 0 x.peers q k.0).1 in
      let peers = peers_are in
      (omega (arith, less, peers), k.1)

  pub list_others : (q : ℕ) → Has list q → (q ≢ p) × ((z : PeerPart) × IsPeer s q z)
  list_others q there =
      let k = listed q there in (
        λ same. cc (sym k.1 ∙ ap counts_one same ∙ counts_refers p x d is_x is_d ∙ none_own),
        element_there s.peers q k.0,
      )

  pub list_needs : (q : ℕ) (z : PeerPart) → Has list q → IsPeer s q z → list_any (λ n. needs_notice z (record { owner = p; serial = n })) doomed ≡ true
  list_needs q z there is_z =
      let e = driver_beside sound.numbered q z is_z in
      any_same (λ n. needs_notice z (record { owner = p; serial = n })) (λ n. refers (node_of p n) (part_of z e.0)) doomed (λ n in_it. needs_all q z e.0 is_z e.1 (list_others q there).0 n in_it)
      ∙ sym (counts_refers q z e.0 is_z e.1) ∙ (listed q there).1

  range_there : (q from len : ℕ) → from ≤ q → q < from + len → Has (range_with_len from len) q
  range_there q from zero low high = absurd (omega (arith, low, high))
  range_there q from (suc len) low high = elim (cases_eq q from) [
    | inl same ↦ inl same
    | inr apart ↦ inr (range_there q (from + 1) len (omega (arith, low, apart)) (omega (arith, high)))
  ]

  -- who refers to one of the nodes is among them
  pub list_has : (q : ℕ) (z : PeerPart) (e : DriverPart) → IsPeer s q z → IsDriver s q e → refers_to_doomed p doomed (part_of z e) ≡ true → Has list q
  list_has q z e is_z is_e some =
      let less = slice_get_within s.peers q z is_z in
      let peers = peers_are in
      has_filter counts_one (range_with_len 0 x.peers) q (range_there q 0 x.peers (omega arith) (omega (arith, less, peers))) (counts_refers q z e is_z is_e ∙ some)

  pub list_refers : (q : ℕ) (z : PeerPart) (e : DriverPart) → Has list q → IsPeer s q z → IsDriver s q e → refers_to_doomed p doomed (part_of z e) ≡ true
  list_refers q z e there is_z is_e = sym (counts_refers q z e is_z is_e) ∙ (listed q there).1

  -- ---- the stamp

  -- the greatest clock of those that pass a test, over a list of peers' parts from one number on
  greatest : (test : ℕ → Bool) (clock : ℕ → ℕ) (tells : Part → Bool) (a : ℕ) (xs : List PeerPart) (ds : List DriverPart) (from : ℕ) → length xs ≡ length ds
      → ((i : ℕ) (z : PeerPart) (e : DriverPart) → slice_get xs i ≡ Some z → slice_get ds i ≡ Some e → (test (from + i) ≡ tells (part_of z e)) × (clock (from + i) ≡ z.clock))
      → fold (λ c q. max c (clock q)) a (filter test (range_with_len from (length xs))) ≡ fold max a (map (λ y. y.clock) (filter tells (parts_of xs ds)))
  greatest test clock tells a [] ds from many same = refl
  greatest test clock tells a (v ∷ xs) [] from many same = absurd (omega (arith, many))
  greatest test clock tells a (v ∷ xs) (w ∷ ds) from many same =
      let here = same 0 v w refl refl in
      let at : from + 0 ≡ from = omega arith in
      let one : test from ≡ tells (part_of v w) = ap test (sym at) ∙ here.0 in
      let two : clock from ≡ v.clock = ap clock (sym at) ∙ here.1 in
      ap (λ b. fold (λ c q. max c (clock q)) a (cond b (from ∷ filter test (range_with_len (from + 1) (length xs))) (filter test (range_with_len (from + 1) (length xs))))) one
      ∙ by (tells (part_of v w)) two (λ a. greatest test clock tells a xs ds (from + 1) (omega (arith, many)) (λ i z e is_z is_e.
      let k = same (suc i) z e is_z is_e in
      let moved : from + 1 + i ≡ from + suc i = omega arith in
      (ap test moved ∙ k.0, ap clock moved ∙ k.1)))
    where
      by : (b : Bool) → clock from ≡ v.clock
          → ((c : ℕ) → fold (λ c q. max c (clock q)) c (filter test (range_with_len (from + 1) (length xs))) ≡ fold max c (map (λ y. y.clock) (filter tells (parts_of xs ds))))
          → fold (λ c q. max c (clock q)) a (cond b (from ∷ filter test (range_with_len (from + 1) (length xs))) (filter test (range_with_len (from + 1) (length xs))))
          ≡ fold max a (map (λ y. y.clock) (cond b (part_of v w ∷ filter tells (parts_of xs ds)) (filter tells (parts_of xs ds))))
      by true clock_is further = ap (λ n. fold (λ c q. max c (clock q)) (max a n) (filter test (range_with_len (from + 1) (length xs)))) clock_is ∙ further (max a v.clock)
      by false clock_is further = further a

  -- a greatest number from another one on
  from_other : (clock : ℕ → ℕ) (a b : ℕ) (l : List ℕ) → fold (λ c q. max c (clock q)) (max a b) l ≡ max a (fold (λ c q. max c (clock q)) b l)
  from_other clock a b [] = refl
  from_other clock a b (q ∷ l) = ap (λ n. fold (λ c r. max c (clock r)) n l) (omega arith) ∙ from_other clock a (max b (clock q)) l

  pub greatest_below : (clock : ℕ → ℕ) (a : ℕ) (l : List ℕ) → a ≤ fold (λ c q. max c (clock q)) a l
  greatest_below clock a [] = omega arith
  greatest_below clock a (q ∷ l) = let k = greatest_below clock (max a (clock q)) l in omega (arith, k)

  pub greatest_has : (clock : ℕ → ℕ) (a : ℕ) (l : List ℕ) (q : ℕ) → Has l q → clock q ≤ fold (λ c r. max c (clock r)) a l
  greatest_has clock a (r ∷ l) q (inl same) = let k = greatest_below clock (max a (clock r)) l in let c = ap clock same in omega (arith, k, c)
  greatest_has clock a (r ∷ l) q (inr there) = greatest_has clock (max a (clock r)) l q there
  greatest_has clock a [] q there = absurd there

  abbrev pub clock_of : ℕ → ℕ
  clock_of q = elim (slice_get s.peers q) [ None ↦ 0 | Some z ↦ z.clock ]

  pub stamp_alike : (y : Part) → y ≡ part_of x d → max x.clock (fold (λ c q. max c (clock_of q)) 0 list) + 2 ≡ doom_stamp y doomed bus
  stamp_alike y is =
      ap (λ n. n + 2) (
      sym (from_other clock_of x.clock 0 list) ∙ ap (λ n. fold (λ c q. max c (clock_of q)) n list) (omega arith)
      ∙ ap (λ n. fold (λ c q. max c (clock_of q)) x.clock (filter counts_one (range_with_len 0 n))) peers_are
      ∙ greatest counts_one clock_of (refers_to_doomed p doomed) x.clock s.peers s.drivers 0 (sound.numbered.as_many_peers ∙ sym sound.numbered.as_many_drivers)
      (λ i z e is_z is_e. let at : 0 + i ≡ i = omega arith in (ap counts_one at ∙ counts_refers i z e is_z is_e, ap clock_of at ∙ ap (λ r. elim r [ None ↦ 0 | Some v ↦ v.clock ]) is_z))
      ∙ ap (λ b. fold max x.clock (map (λ v. v.clock) (filter (refers_to_doomed p doomed) b))) (sym rest.is_bus)
      ∙ ap (λ q. fold max x.clock (map (λ v. v.clock) (filter (refers_to_doomed q doomed) bus))) (sym me)
      ∙ ap (λ v. fold max v.clock (map (λ v. v.clock) (filter (refers_to_doomed v.me doomed) bus))) (sym is))
