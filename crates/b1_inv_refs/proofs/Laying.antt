-- Every bus begins with numbers, flights and references right: the wires are laid one after another.
use Rattle.std.proofs.Common.{◌≡◌, ◌≢◌, refl, sym, ap, ◌∙◌, inl, subst, ℕ, zero, suc, ◌+◌, ◌/◌, ◌%◌, ◌==◌, Bool, true, false, cond, List, [], ◌∷◌, fold, get_or, length, sum_by, find, Option, Some, None, option_map, IsSomeAnd, unwrap_or}
use Rattle.std.specs.Prelude.{slice_get}
use Rattle.std.proofs.lemmas.Bool.{eq-eqb, eqb-true}
use Rattle.std.proofs.lemmas.List.Sums.{sum_by-cons}
use Rattle.std.proofs.lemmas.Option.{same_Some}
use native.Mathlib.Omega.{arith}
use Rattle.b1_model.specs.declared.naming.NodeRef.{NodeRef}
use Rattle.b1_model.specs.declared.naming.PeerSpec.{PeerSpec}
use Rattle.b1_model.specs.declared.naming.Wire.{Wire}
use Rattle.b1_model.specs.declared.naming.Opening.{Opening}
use Rattle.b1_model.specs.Names.{is_own, is_given}
use Rattle.b1_model.specs.Opening.{held_by, from_owner, with_held, after_wire, CanWire, AreWired, IsOpening}
use Rattle.b1_model.specs.MachineParts.{PeerPart, HandleRecord, same_ref, record_of}
use Rattle.b1_model.specs.MachineTables.{serial_of, with_made, is_number, next_number, held_node, node_named}
use Rattle.b1_model.specs.MachineCounts.{driver_amount, peer_amount}
use Rattle.b1_model.specs.MachineStep.{no_peer, with_part, wire_made, wire_counted, wire_held, wired, peer_before, peers_before, idle_driver, idle_drivers, opening_state}
use Rattle.b1_step.specs.Rights.{Has}
use Rattle.b1_inv.specs.Numbers.{NumbersRight}
use Rattle.b1_inv.specs.References.{FlightsRight, ReferencesRight, carried_times}
use Rattle.b1_inv_tools.proofs.Openings.{opening_idle}
use Rattle.b1_inv_refs.proofs.Views.{or_none}
use Rattle.b1_inv_refs.proofs.Arrivals.{flight_in}
use Rattle.b1_inv_refs.proofs.Numbered.{EachRecord, numbers_none}
use Rattle.b1_inv_refs.proofs.GivenUp.{found_has, found_none, number_is}
use Rattle.b1_inv_refs.proofs.Places.{made_serial, part_there}
use Rattle.b1_inv_refs.proofs.Wiring.{Peers, Laid, NamesAt, count_read, held_read, Wiring, read_part, wiring_made}
use Rattle.b1_inv_refs.proofs.Giving.{wiring_given}

-- what a number names at a part
named_own : (x : PeerPart) (number serial : ℕ) → is_own number ≡ true → serial_of number x.nodes ≡ Some serial → node_named x number ≡ Some (record { owner = x.me; serial = serial })
named_own x number serial own found = ap (λ b. cond b (elim (serial_of number x.nodes) [ None ↦ None | Some one ↦ Some (record { owner = x.me; serial = one }) ]) (held_node number x.handles)) own ∙ ap (λ r. elim r [ None ↦ None | Some one ↦ Some (record { owner = x.me; serial = one }) ]) found

named_given : (x : PeerPart) (number : ℕ) (g : HandleRecord) → is_own number ≡ false → find (is_number number) x.handles ≡ Some g → node_named x number ≡ Some g.node
named_given x number g own found = ap (λ b. cond b (elim (serial_of number x.nodes) [ None ↦ None | Some one ↦ Some (record { owner = x.me; serial = one }) ]) (held_node number x.handles)) own ∙ ap (λ r. elim r [ None ↦ None | Some h ↦ Some h.node ]) found

-- ---- one wire

-- what a wire gives: the wire from the node's owner, and the node that its number names at its giver
pub record Gives (held : List Wire) (xs : Peers) (w : Wire) : Type 0 where
  pub given : Wire
  pub node : NodeRef
  pub is_given : from_owner held w ≡ Some given
  pub is_node : node_named (get_or xs w.from no_peer) w.number ≡ Some node
  pub to : given.to ≡ w.to
  pub from : given.from ≡ node.owner
  pub named : NamesAt xs given node.serial

module _ (n : ℕ) (held : List Wire) (xs : Peers) (k : Wiring n held xs) (w : Wire) (can : CanWire n held w) where
  abbrev made : Peers
  made = with_part w.from (wire_made w.number) xs

  made_wiring : Wiring n held made
  made_wiring = wiring_made n held xs k w.from w.number

  abbrev giver : PeerPart
  giver = get_or made w.from no_peer

  giver_is : slice_get made w.from ≡ Some giver
  giver_is = part_there made w.from (let c = made_wiring.count in let f = can.from in omega (arith, c, f))

  abbrev old : PeerPart
  old = get_or xs w.from no_peer

  giver_was : giver ≡ wire_made w.number old
  giver_was =
      let old_is : slice_get xs w.from ≡ Some old = part_there xs w.from (let c = k.count in let f = can.from in omega (arith, c, f)) in
      same_Some giver (wire_made w.number old) (sym giver_is ∙ read_part xs w.from w.from (wire_made w.number) ∙ ap (option_map (λ x. cond (w.from == w.from) (wire_made w.number x) x)) old_is ∙ ap (λ b. Some (cond b (wire_made w.number old) old)) (eq-eqb w.from w.from refl))

  -- an own number
  own_gives : is_own w.number ≡ true → Gives held made w
  own_gives own =
      let serial = made_serial old.peers w.number old.nodes in
      let nodes_is : giver.nodes ≡ with_made old.peers w.number old.nodes = ap (λ x. x.nodes) giver_was ∙ ap (λ b. (cond b (record old { nodes = with_made old.peers w.number old.nodes }) old).nodes) own in
      let found : serial_of w.number giver.nodes ≡ Some serial.0 = ap (serial_of w.number) nodes_is ∙ serial.1 in
      let me_is : giver.me ≡ w.from = (made_wiring.part w.from giver giver_is).me in
      record {
        given = w;
        node = record { owner = giver.me; serial = serial.0 };
        is_given = rw own refl;
        is_node = named_own giver w.number serial.0 own found;
        to = refl;
        from = sym me_is;
        named = (giver, giver_is, found);
      }

  -- a given number
  by_record : is_own w.number ≡ false → is_given w.number ≡ true → (h : Wire) → slice_get (held_by held w.from) (w.number / 4) ≡ Some h → Gives held made w
  by_record own given h found =
      let m = made_wiring.names w.from giver (w.number / 4) h giver_is found in
      let fourth : next_number (w.number / 4) ≡ w.number = (let r : w.number % 4 ≡ 2 = eqb-true (w.number % 4) 2 given in omega (arith, r)) in
      let number_of : m.0.number ≡ Some w.number = m.2 ∙ ap Some fourth in
      by_find own given h found m.0 m.1 number_of m.3 m.4 (find (is_number w.number) giver.handles) refl
    where
      by_find : is_own w.number ≡ false → is_given w.number ≡ true → (h : Wire) → slice_get (held_by held w.from) (w.number / 4) ≡ Some h → (r : HandleRecord) → Has giver.handles r → r.number ≡ Some w.number → r.node.owner ≡ h.from → NamesAt made h r.node.serial
          → (one : Option HandleRecord) → find (is_number w.number) giver.handles ≡ one → Gives held made w
      by_find own given h found r there number owner names None none =
          let passes : is_number w.number r ≡ true = rw number (eq-eqb w.number w.number refl) in
          absurd (cc (sym (found_none (is_number w.number) giver.handles r none there) ∙ passes))
      by_find own given h found r there number owner names (Some g) some =
          let f = found_has (is_number w.number) giver.handles g some in
          let node_is : r.node ≡ g.node = (made_wiring.part w.from giver giver_is).numbered.apart r g w.number there f.0 number (number_is w.number g f.1) in
          record {
            given = record { from = h.from; to = w.to; number = h.number };
            node = g.node;
            is_given = rw (own, given, found) refl;
            is_node = named_given giver w.number g own some;
            to = refl;
            from = sym owner ∙ ap (λ z. z.owner) node_is;
            named = subst (λ z. NamesAt made h z.serial) node_is names;
          }

  given_gives : is_own w.number ≡ false → (b : Bool) → is_given w.number ≡ b → (r : Option Wire) → slice_get (held_by held w.from) (w.number / 4) ≡ r → Gives held made w
  given_gives own true given (Some h) found = by_record own given h found
  given_gives own true given None found =
      let none : from_owner held w ≡ None = rw (own, given, found) refl in
      absurd (subst (λ r. IsSomeAnd r (λ v. v.from ≢ w.to)) none can.gives)
  given_gives own false given r found =
      let none : from_owner held w ≡ None = rw (own, given) refl in
      absurd (subst (λ z. IsSomeAnd z (λ v. v.from ≢ w.to)) none can.gives)

  gives : (b : Bool) → is_own w.number ≡ b → Gives held made w
  gives true own = own_gives own
  gives false own = given_gives own (is_given w.number) refl (slice_get (held_by held w.from) (w.number / 4)) refl

  pub wire_kept : Wiring n (after_wire held w) (wired xs w)
  wire_kept =
      let g = gives (is_own w.number) refl in
      let other : g.given.from ≢ w.to = subst (λ r. IsSomeAnd r (λ v. v.from ≢ w.to)) g.is_given can.gives in
      let parts = wiring_given n held made made_wiring g.node w.to g.given g.to g.from (λ e. other (g.from ∙ e)) g.named can.to in
      subst (λ r. Wiring n (unwrap_or (option_map (with_held held) r) held) (wired xs w)) (sym g.is_given)
      (subst (λ r. Wiring n (with_held held g.given) (elim r [ None ↦ made | Some node ↦ with_part w.to (wire_held node) (with_part node.owner (wire_counted node w.to) made) ])) (sym g.is_node) parts)

-- ---- all wires

before_is : (o : Opening) (here : ℕ) (specs : List PeerSpec) (q : ℕ) (x : PeerPart) → slice_get (peers_before o here specs) q ≡ Some x → (spec : PeerSpec) × (x ≡ peer_before o (here + q) spec)
before_is o here [] q x is = absurd (cc is)
before_is o here (spec ∷ rest) zero x is = let moved : here ≡ here + 0 = omega arith in (spec, sym (same_Some (peer_before o here spec) x is) ∙ ap (λ m. peer_before o m spec) moved)
before_is o here (spec ∷ rest) (suc q) x is = let k = before_is o (here + 1) rest q x is in let moved : here + 1 + q ≡ here + suc q = omega arith in (k.0, k.1 ∙ ap (λ m. peer_before o m k.0) moved)

before_count : (o : Opening) (here : ℕ) (specs : List PeerSpec) → length (peers_before o here specs) ≡ length specs
before_count o here [] = refl
before_count o here (spec ∷ rest) = ap suc (before_count o (here + 1) rest)

module _ (o : Opening) where
  first_laid : (q : ℕ) (spec : PeerSpec) → Laid (length o.peers) q (peer_before o (0 + q) spec)
  first_laid q spec = record {
    me = omega arith;
    peers = refl;
    queue = refl;
    dead = refl;
    rising = tt;
    numbered = numbers_none 0;
    still = λ h there. absurd there;
    wide = λ m there. absurd there;
  }

  first_none : (node : NodeRef) (q : ℕ) (r : Option PeerPart) → ((x : PeerPart) → r ≡ Some x → x.nodes ≡ []) → count_read node q r ≡ 0
  first_none node q None none = refl
  first_none node q (Some x) none = rw (none x refl) refl

  first_held : (node : NodeRef) (r : Option PeerPart) → ((x : PeerPart) → r ≡ Some x → x.handles ≡ []) → held_read node r ≡ 0
  first_held node None none = refl
  first_held node (Some x) none = rw (none x refl) refl

  pub before_wiring : Wiring (length o.peers) [] (peers_before o 0 o.peers)
  before_wiring = record {
    count = before_count o 0 o.peers;
    part = λ q x is. let b = before_is o 0 o.peers q x is in subst (Laid (length o.peers) q) (sym b.1) (first_laid q b.0);
    nodes = λ q x h is there. let b = before_is o 0 o.peers q x is in absurd (subst (λ z. Has z.handles h) b.1 there);
    counts = λ node q. first_none node q (slice_get (peers_before o 0 o.peers) node.owner) (λ x is. ap (λ z. z.nodes) (before_is o 0 o.peers node.owner x is).1) ∙ sym (first_held node (slice_get (peers_before o 0 o.peers) q) (λ x is. ap (λ z. z.handles) (before_is o 0 o.peers q x is).1));
    many = λ q x is. ap (λ z. z.given) (before_is o 0 o.peers q x is).1;
    names = λ q x g w is at. absurd (cc at);
  }

  wires_kept : (ws held : List Wire) (xs : Peers) → Wiring (length o.peers) held xs → AreWired (length o.peers) held ws → (after : List Wire) × Wiring (length o.peers) after (fold wired xs ws)
  wires_kept [] held xs k wires = (held, k)
  wires_kept (w ∷ rest) held xs k wires = wires_kept rest (after_wire held w) (wired xs w) (wire_kept (length o.peers) held xs k w wires.0) wires.1

  module _ (valid : IsOpening o) where
    laid : (after : List Wire) × Wiring (length o.peers) after (fold wired (peers_before o 0 o.peers) o.wires)
    laid = wires_kept o.wires [] (peers_before o 0 o.peers) before_wiring valid.wires

    pub numbers_opening : NumbersRight (opening_state o)
    numbers_opening = record { numbered = λ q x is. (laid.1.part q x is).numbered }

    still_flight : (node : NodeRef) (x : PeerPart) → EachRecord (λ h. h.flight ≡ 0) x.handles → flight_in node x.handles ≡ 0
    still_flight node x still = at (record_of node x.handles) refl
      where
        at : (r : Option HandleRecord) → record_of node x.handles ≡ r → (or_none node r).flight ≡ 0
        at None found = refl
        at (Some h) found = still h (found_has (λ z. same_ref z.node node) x.handles h found).0

    pub flights_opening : FlightsRight (opening_state o)
    flights_opening = record {
      made = λ q x h is there. (laid.1.nodes q x h is there).0;
      foreign = λ q x h is there. (laid.1.nodes q x h is there).1;
      counted = λ q x node is apart. let l = laid.1.part q x is in still_flight node x l.still ∙ sym (ap (carried_times node) l.queue);
    }

    idle_none : (node : NodeRef) (q here : ℕ) (specs : List PeerSpec) → sum_by (driver_amount node q) (idle_drivers here specs) ≡ 0
    idle_none node q here [] = refl
    idle_none node q here (spec ∷ rest) = let one = sum_by-cons (driver_amount node q) (idle_driver here) (idle_drivers (here + 1) rest) in let two = idle_none node q (here + 1) rest in omega (arith, one, two)

    part_amounts : (node : NodeRef) (q : ℕ) (r : Option PeerPart) → ((x : PeerPart) → r ≡ Some x → Laid (length o.peers) q x) → elim r [ None ↦ 0 | Some x ↦ peer_amount node x ] ≡ held_read node r
    part_amounts node q None l = refl
    part_amounts node q (Some x) l = let k = l x refl in rw (k.queue, k.dead) (omega arith)

    pub references_opening : ReferencesRight (opening_state o)
    references_opening = record {
      widths = λ q x m is there. (laid.1.part q x is).wide m there ∙ sym laid.1.count;
      counts = λ node q.
          let a = laid.1.counts node q in
          let b = part_amounts node q (slice_get (fold wired (peers_before o 0 o.peers) o.wires) q) (λ x is. laid.1.part q x is) in
          let c = idle_none node q 0 o.peers in
          omega (arith, a, b, c);
      owed = λ p d one is there. absurd (subst (λ l. Has l one) (ap (λ e. e.owed) (opening_idle o p d is)) there);
      owing = λ p d is. inl (ap (λ e. e.owed) (opening_idle o p d is));
      dead = λ q x item r is there inside. absurd (subst (λ l. Has l item) (laid.1.part q x is).dead there);
    }
