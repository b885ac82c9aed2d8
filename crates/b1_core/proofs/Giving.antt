-- The next wire of an opening can be given to the peers that have the wires before it.
use Rattle.std.proofs.Common.{◌≡◌, ◌≢◌, refl, sym, ap, ◌∙◌, subst, ℕ, zero, suc, ◌+◌, ◌-◌, ◌^◌, ◌<◌, false, List, [], ◌∷◌, ◌++◌, length, set, get_or, inl, inr, Option, Some, None, slice_get, append_assoc}
use Rattle.std.proofs.lemmas.Bool.{cases_eq}
use Rattle.std.proofs.lemmas.List.{length-set}
use Rattle.std.proofs.lemmas.List.Sums.{fold-append}
use native.Mathlib.Omega.{arith}
use Rattle.b1_model.specs.declared.naming.NodeRef.{NodeRef}
use Rattle.b1_model.specs.declared.naming.PeerSpec.{PeerSpec}
use Rattle.b1_model.specs.declared.naming.Wire.{Wire}
use Rattle.b1_model.specs.declared.naming.Opening.{Opening}
use Rattle.b1_model.specs.Opening.{IsOpening, AreWired, CanWire}
use Rattle.b1_model.specs.MachineParts.{PeerPart, DriverPart, HandleRecord, State, no_node, node_at, no_record, record_or_none, same_ref}
use Rattle.b1_model.specs.MachineTables.{count_of, counted, more_held, next_number, node_named}
use Rattle.b1_model.specs.MachineStep.{Reached, no_peer, with_part, wire_made, wire_counted, wire_held, wired, peers_before, idle_driver, idle_drivers, opening_state}
use Rattle.b1_step.specs.Rights.{Has}
use Rattle.b1_inv.specs.Words.{IsPeer, IsDriver}
use Rattle.b1_inv.specs.Bounds.{call_bound}
use Rattle.b1_inv.specs.Sound.{IsSound}
use Rattle.b1_core.specs.Wiring.{part_of, CanHold, CanPass, CanGive}
use Rattle.b1_event.specs.Borne.{AreShort}
use Rattle.b1_event.proofs.Bounds.{calls_few, all_calls_few}
use Rattle.b1_event.proofs.Facts.{peer_within, few_drivers}
use Rattle.b1_core.proofs.Wiring.{Plain, ArePlain, with_wires, fewer, after, after_is, next_wired, plain_part, made_plain, after_plain, has_get, held_there, found_or, count_rises, set_read, set_apart, there, made_me}

some_same : {A : Type 0} (x y : A) → Some x ≡ Some y → x ≡ y
some_same x y same = cc same

pub idle_calls : (here : ℕ) (specs : List PeerSpec) (p : ℕ) (d : DriverPart) → slice_get (idle_drivers here specs) p ≡ Some d → d.calls ≡ []
idle_calls here [] p d is = absurd (cc is)
idle_calls here (spec ∷ rest) zero d is = let same : idle_driver here ≡ d = cc is in ap (λ e. e.calls) (sym same)
idle_calls here (spec ∷ rest) (suc p) d is = idle_calls (here + 1) rest p d is

idle_there : (here : ℕ) (specs : List PeerSpec) (p : ℕ) → p < length specs → (d : DriverPart) × (slice_get (idle_drivers here specs) p ≡ Some d)
idle_there here [] p within = absurd (omega (arith, within))
idle_there here (spec ∷ rest) zero within = (idle_driver here, refl)
idle_there here (spec ∷ rest) (suc p) within = idle_there (here + 1) rest p (omega (arith, within))

-- a change that keeps these two keeps them everywhere
module _ (f : PeerPart → PeerPart) (keeps : (x : PeerPart) → ((f x).me ≡ x.me) × ((f x).peers ≡ x.peers)) (xs : List PeerPart) (i q : ℕ) where
  part_keeps : q < length xs → ((part_of (with_part i f xs) q).me ≡ (part_of xs q).me) × ((part_of (with_part i f xs) q).peers ≡ (part_of xs q).peers)
  part_keeps within = elim (cases_eq i q) [
    | inl same ↦
        let at : part_of (with_part i f xs) q ≡ f (part_of xs q) = subst (λ n. get_or (set xs n (f (get_or xs n no_peer))) q no_peer ≡ f (part_of xs q)) (sym same) (set_read xs q (f (part_of xs q)) no_peer within) in
        (ap (λ z. z.me) at ∙ (keeps (part_of xs q)).0, ap (λ z. z.peers) at ∙ (keeps (part_of xs q)).1)
    | inr apart ↦
        let at : part_of (with_part i f xs) q ≡ part_of xs q = set_apart xs i q (f (get_or xs i no_peer)) no_peer apart in
        (ap (λ z. z.me) at, ap (λ z. z.peers) at)
  ]

module _ (law : (o : Opening) (s : State) → IsOpening o → Reached o s → IsSound o s) (o : Opening) (opening : IsOpening o) where
  abbrev pub state_after : List Wire → State
  state_after ws = opening_state (with_wires o ws)

  pub sound_after : (ws rest : List Wire) → ws ++ rest ≡ o.wires → IsSound (with_wires o ws) (state_after ws)
  sound_after ws rest split = law (with_wires o ws) (state_after ws) (fewer o ws rest opening split) (record { steps = []; run = refl })

  pub short_after : (ws : List Wire) → AreShort (state_after ws)
  short_after ws p d is = let none = ap length (idle_calls 0 o.peers p d is) in omega (arith, none)

  -- a peer's bound
  pub bound_after : (ws rest : List Wire) → ws ++ rest ≡ o.wires → (p : ℕ) → p < length o.peers → (d : DriverPart) × IsDriver (state_after ws) p d × (call_bound (with_wires o ws) d < 2 ^ 32 - 64)
  bound_after ws rest split p within =
      let (d, is) = idle_there 0 o.peers p within in
      (d, is, calls_few (with_wires o ws) d (fewer o ws rest opening split).few (short_after ws p d is))

  module _ (ws : List Wire) (w : Wire) (rest : List Wire) (split : ws ++ w ∷ rest ≡ o.wires) where
    abbrev xs : List PeerPart
    xs = (state_after ws).peers

    abbrev ys : List PeerPart
    ys = with_part w.from (wire_made w.number) xs

    before : IsSound (with_wires o ws) (state_after ws)
    before = sound_after ws (w ∷ rest) split

    behind : IsSound (with_wires o (ws ++ w ∷ [])) (state_after (ws ++ w ∷ []))
    behind = sound_after (ws ++ w ∷ []) rest (append_assoc ws (w ∷ []) rest ∙ split)

    as_many : length xs ≡ length o.peers
    as_many = before.numbered.as_many_peers

    can : (held : List Wire) × CanWire (length o.peers) held w
    can = next_wired (length o.peers) [] ws w rest (subst (AreWired (length o.peers) []) (sym split) opening.wires)

    next_is : (state_after (ws ++ w ∷ [])).peers ≡ wired xs w
    next_is = after_is o (ws ++ w ∷ []) ∙ fold-append wired (peers_before o 0 o.peers) ws (w ∷ []) ∙ ap (λ l. wired l w) (sym (after_is o ws))

    plain : ArePlain ys
    plain = plain_part (wire_made w.number) (made_plain w.number) xs w.from (subst ArePlain (sym (after_is o ws)) (after_plain o ws))

    as_many_ys : length ys ≡ length xs
    as_many_ys = length-set xs w.from (wire_made w.number (part_of xs w.from))

    giver : w.from < length xs
    giver = let k = can.1.from in omega (arith, k, as_many)

    nodes_few : length (part_of xs w.from).nodes < 2 ^ 32 - 1
    nodes_few =
        let (d, is, bound) = bound_after ws (w ∷ rest) split w.from can.1.from in
        let k = before.bounds.nodes w.from d (part_of xs w.from) is (there xs w.from giver) in
        omega (arith, k, bound)

    module _ (node : NodeRef) (named : node_named (part_of ys w.from) w.number ≡ Some node) where
      abbrev us : List PeerPart
      us = with_part node.owner (wire_counted node w.to) ys

      abbrev vs : List PeerPart
      vs = with_part w.to (wire_held node) us

      vs_is : (state_after (ws ++ w ∷ [])).peers ≡ vs
      vs_is = next_is ∙ ap (λ (n : Option NodeRef). elim n as (λ z. List PeerPart) [ None ↦ ys | Some m ↦ with_part w.to (wire_held m) (with_part m.owner (wire_counted m w.to) ys) ]) named

      as_many_us : length us ≡ length xs
      as_many_us = length-set ys node.owner (wire_counted node w.to (part_of ys node.owner)) ∙ as_many_ys

      as_many_vs : length vs ≡ length xs
      as_many_vs = length-set us w.to (wire_held node (part_of us w.to)) ∙ as_many_us

      dest : w.to < length xs
      dest = let k = can.1.to in omega (arith, k, as_many)

      -- the record that the other peer has afterwards
      held_at : IsPeer (state_after (ws ++ w ∷ [])) w.to (wire_held node (part_of us w.to))
      held_at =
          subst (λ l. slice_get l w.to ≡ Some (wire_held node (part_of us w.to))) (sym vs_is)
          (there vs w.to (omega (arith, dest, as_many_vs)) ∙ ap (λ z. Some z) (set_read us w.to (wire_held node (part_of us w.to)) no_peer (omega (arith, dest, as_many_us))))

      record_is : (g : HandleRecord) × Has (wire_held node (part_of us w.to)).handles g × (g.node.owner ≡ node.owner) × (g.node.serial ≡ node.serial)
      record_is = held_there node (more_held (next_number (part_of us w.to).given)) (λ h. refl) (part_of us w.to).handles

      apart : w.to ≢ node.owner
      apart same =
          let (g, has, owner, serial) = record_is in
          behind.flights.foreign w.to (wire_held node (part_of us w.to)) g held_at has (owner ∙ sym same)

      made : (z : PeerPart) × IsPeer (state_after (ws ++ w ∷ [])) node.owner z × (node.serial < length z.nodes)
      made =
          let (g, has, owner, serial) = record_is in
          let (z, is, within) = behind.flights.made w.to (wire_held node (part_of us w.to)) g held_at has in
          (z, subst (λ n. IsPeer (state_after (ws ++ w ∷ [])) n z) owner is, subst (λ n. n < length z.nodes) serial within)

      owner_within : node.owner < length xs
      owner_within =
          let k = peer_within (with_wires o (ws ++ w ∷ [])) (state_after (ws ++ w ∷ [])) behind node.owner made.0 made.1 in
          omega (arith, k, as_many_vs, ap length vs_is)

      -- the owner's part afterwards
      owner_is : made.0 ≡ wire_counted node w.to (part_of ys node.owner)
      owner_is =
          let there_is : Some made.0 ≡ Some (part_of vs node.owner) = sym made.1 ∙ ap (λ l. slice_get l node.owner) vs_is ∙ there vs node.owner (omega (arith, owner_within, as_many_vs)) in
          some_same made.0 (part_of vs node.owner) there_is ∙ set_apart us w.to node.owner (wire_held node (part_of us w.to)) no_peer apart
          ∙ set_read ys node.owner (wire_counted node w.to (part_of ys node.owner)) no_peer (omega (arith, owner_within, as_many_ys))

      serial_made : node.serial < length (part_of ys node.owner).nodes
      serial_made =
          let k = made.2 in
          let same = ap (λ z. length z.nodes) owner_is in
          let l = length-set (part_of ys node.owner).nodes node.serial (counted w.to (get_or (part_of ys node.owner).nodes node.serial no_node)) in
          omega (arith, k, same, l)

      owner_plain : Plain (part_of ys node.owner)
      owner_plain = plain node.owner (part_of ys node.owner) (there ys node.owner (omega (arith, owner_within, as_many_ys)))

      counts : count_of (node_at (part_of ys node.owner) node.serial) w.to < 2 ^ 63
      counts =
          let after_one = behind.bounds.counts node.owner made.0 node.serial w.to made.1 in
          let bound = all_calls_few (with_wires o (ws ++ w ∷ [])) (state_after (ws ++ w ∷ [])) (fewer o (ws ++ w ∷ []) rest opening (append_assoc ws (w ∷ []) rest ∙ split)).few (few_drivers (with_wires o (ws ++ w ∷ [])) (state_after (ws ++ w ∷ [])) behind) (short_after (ws ++ w ∷ [])) in
          let node_is : node_at made.0 node.serial ≡ counted w.to (node_at (part_of ys node.owner) node.serial) = ap (λ z. node_at z node.serial) owner_is ∙ set_read (part_of ys node.owner).nodes node.serial (counted w.to (node_at (part_of ys node.owner) node.serial)) no_node serial_made in
          let rises = count_rises (node_at (part_of ys node.owner) node.serial).counts w.to in
          let same = ap (λ m. count_of m w.to) node_is in
          omega (arith, after_one, bound, rises, same)

      owner_kept : ((part_of ys node.owner).me ≡ (part_of xs node.owner).me) × ((part_of ys node.owner).peers ≡ (part_of xs node.owner).peers)
      owner_kept = part_keeps (wire_made w.number) (made_me w.number) xs w.from node.owner owner_within

      owner_number : ((part_of xs node.owner).me ≡ node.owner) × ((part_of xs node.owner).peers ≡ length o.peers)
      owner_number = let k = before.numbered.peers node.owner (part_of xs node.owner) (there xs node.owner owner_within) in (k.me, k.peers)

      -- the other peer's part
      dest_is : part_of ys w.to ≡ part_of xs w.to
      dest_is = set_apart xs w.from w.to (wire_made w.number (part_of xs w.from)) no_peer (λ e. can.1.apart (sym e))

      dest_there : IsPeer (state_after ws) w.to (part_of xs w.to)
      dest_there = there xs w.to dest

      dest_alive : Plain (part_of ys w.to)
      dest_alive = plain w.to (part_of ys w.to) (there ys w.to (omega (arith, dest, as_many_ys)))

      passes : CanPass ys node w.to
      passes = record {
        owner = omega (arith, owner_within, as_many_ys);
        dest = omega (arith, dest, as_many_ys);
        apart = apart;
        counts = record {
          me = owner_kept.0 ∙ owner_number.0;
          made = serial_made;
          peer = let k = owner_kept.1 in let l = owner_number.1 in let m = can.1.to in omega (arith, k, l, m);
          live = owner_plain.live (node_at (part_of ys node.owner) node.serial) (has_get (part_of ys node.owner).nodes node.serial no_node serial_made);
          unused = owner_plain.unused;
          fits = counts;
        };
        holds = holds;
      }
        where
          holds : CanHold (part_of ys w.to) node
          holds =
              let (d, is, bound) = bound_after ws (w ∷ rest) split w.to can.1.to in
              let given = before.bounds.given w.to d (part_of xs w.to) is dest_there in
              let number = (before.numbered.peers w.to (part_of xs w.to) dest_there).me in
              record {
                other = λ same. apart (sym number ∙ ap (λ z. z.me) (sym dest_is) ∙ sym same);
                few = let k = ap (λ z. z.given) dest_is in omega (arith, given, bound, k);
                not_dead = found_or (λ h. h.dead ≡ false) (λ h. same_ref h.node node) (part_of ys w.to).handles (no_record node) refl dest_alive.alive;
                fits = subst (λ z. (record_or_none node z.handles).held < 2 ^ 63) (sym dest_is)
                    (found_or (λ h. h.held < 2 ^ 63) (λ h. same_ref h.node node) (part_of xs w.to).handles (no_record node) (omega arith) (λ h has. let k = before.bounds.held w.to d (part_of xs w.to) h is dest_there has in omega (arith, k, bound)));
              }

    -- the wire can be given
    pub can_give : CanGive (after o ws) w
    can_give = subst (λ l. CanGive l w) (after_is o ws) (record { giver = giver; few = nodes_few; passes = passes })
