-- The peers behind a destruction are those of the serial bus behind it.
use Rattle.std.proofs.Common.{◌≡◌, ◌≢◌, refl, sym, ap, ◌∙◌, inl, inr, ℕ, zero, suc, ◌+◌, ◌<◌, ◌≤◌, max, Bool, true, false, cond, List, [], ◌∷◌, ◌++◌, map, fold, get_or, length, Option, Some, None, option_map, arith}
use Rattle.std.specs.Prelude.{slice_get}
use Rattle.std.proofs.lemmas.Option.{same_Some, slice_get-map}
use Rattle.std.proofs.lemmas.Bool.{cases_eq, eq-eqb, ne_eqb, false_from_ne_true}
use Rattle.b1_model.specs.declared.naming.Key.{Key}
use Rattle.b1_model.specs.declared.naming.Opening.{Opening}
use Rattle.b1_model.specs.declared.parts.NodeState.{NodeState}
use Rattle.b1_model.specs.declared.parts.NodeState.TheVariants.{Live, Dying, Destroyed}
use Rattle.b1_model.specs.MachineParts.{PeerPart, DriverPart, State, is_live, is_odd, node_at, no_node}
use Rattle.b1_model.specs.MachineSend.{synced, notices_committed}
use Rattle.b1_model.specs.MachineDestroy.{visit_set, needs_notice, visited, doomed_part, doom_stamped}
use Rattle.b1_step.specs.Rights.{Has}
use Rattle.b1_inv.specs.Words.{IsPeer, IsDriver, is_among}
use Rattle.b1_inv.specs.Notices.{Apart}
use Rattle.b1_inv.specs.Sound.{IsSound}
use Rattle.b1_inv_record.specs.Right.{IsRight}
use Rattle.b1_inv_destroys.proofs.Keyed.{odd_is}
use Rattle.b1_inv_entries.proofs.Behind.{before_stamp}
use Rattle.b1_inv_notices.proofs.Sets.{has_among}
use Rattle.b1_serial_bus.specs.Parts.{Part, Bus, at_peer}
use Rattle.b1_serial_bus.specs.References.{refers}
use Rattle.b1_serial_bus.specs.Notices.{node_of, refers_to_doomed, with_notices}
use Rattle.b1_serial_bus.specs.Doom.{doom_stamp, with_all_doomed, destroyed}
use Rattle.b1_serial_rest.specs.Standing.{stamp_of, part_of, parts_of}
use Rattle.b1_serial_rest.specs.Rest.{AtRest}
use Rattle.b1_serial_whole.proofs.Quiet.{driver_beside}
use Rattle.b1_serial_own.proofs.Shows.{read_at, read_beside, part_there}
use Rattle.b1_serial_own.proofs.Visits.{destroys, among_has}
use Rattle.b1_serial_own.proofs.Notes.{key_at, AllBefore, notes, notes_same}
use Rattle.b1_serial_own.proofs.Told.{foreign_note, told_shown, notices_shown, notices_none}
use Rattle.b1_serial_own.proofs.Doomed.{owner_after, owner_shown, owner_doomed}
use Rattle.b1_serial_own.proofs.Holders.{none_own, needs_all, list_others, list_has, list_refers, greatest_has, stamp_alike}

-- ---- lists that agree at every index

pub same_all : {X : Type 0} (xs ys : List X) → ((i : ℕ) → slice_get xs i ≡ slice_get ys i) → xs ≡ ys
same_all [] [] same = refl
same_all [] (y ∷ ys) same = absurd (cc (same 0))
same_all (x ∷ xs) [] same = absurd (cc (same 0))
same_all (x ∷ xs) (y ∷ ys) same = ap (λ z. z ∷ xs) (same_Some x y (same 0)) ∙ ap (λ zs. y ∷ zs) (same_all xs ys (λ i. same (suc i)))

-- the peer of two lists of parts
abbrev pub of_both : Option PeerPart → Option DriverPart → Option Part
of_both r e = elim r [ None ↦ None | Some x ↦ elim e [ None ↦ None | Some d ↦ Some (part_of x d) ] ]

pub parts_read : (xs : List PeerPart) (ds : List DriverPart) (q : ℕ) → slice_get (parts_of xs ds) q ≡ of_both (slice_get xs q) (slice_get ds q)
parts_read [] ds q = refl
parts_read (x ∷ xs) [] q = none (slice_get (x ∷ xs) q)
  where
    none : (r : Option PeerPart) → None ≡ of_both r None
    none None = refl
    none (Some v) = refl
parts_read (x ∷ xs) (d ∷ ds) zero = refl
parts_read (x ∷ xs) (d ∷ ds) (suc q) = parts_read xs ds q

-- ---- a peer

abbrev clock_at : Option PeerPart → ℕ
clock_at r = elim r [ None ↦ 0 | Some v ↦ v.clock ]

module _ {o : Opening} {s : State} {bus : Bus} (sound : IsSound o s) (right : IsRight o s) (rest : AtRest o s bus) where
  -- its box is before a key with a greater stamp than its clock
  pub queue_before : (q : ℕ) (z : PeerPart) → IsPeer s q z → (k : Key) → z.clock < k.stamp → AllBefore z.queue k
  queue_before q z is_z k less f there =
      let below = right.clocks.committed.below q z f is_z there (rest.quiet.committed q z f is_z there) in
      before_stamp f.0 k (omega (arith, below, less))

  odd_clock : (q : ℕ) (z : PeerPart) → IsPeer s q z → is_odd (z.clock + 1) ≡ true
  odd_clock q z is_z = odd_is z.clock (sound.clocks.clock q z is_z).0

  module _ (p : ℕ) (x : PeerPart) (d : DriverPart) (is_x : IsPeer s p x) (is_d : IsDriver s p d)
      (doomed : List ℕ) (made : (n : ℕ) → Has doomed n → n < length x.nodes) (live : (n : ℕ) → Has doomed n → is_live (node_at x n).state ≡ true) (apart : Apart doomed) where
    abbrev pub told_list : List ℕ
    told_list = visit_set x doomed

    abbrev pub collected : ℕ
    collected = fold (λ c q. max c (elim (slice_get s.peers q) [ None ↦ 0 | Some z ↦ z.clock ])) 0 told_list

    abbrev pub stamp : ℕ
    stamp = max x.clock collected + 2

    me : x.me ≡ p
    me = (sound.numbered.peers p x is_x).me

    alive : (n : ℕ) → Has doomed n → stamp_of (get_or x.nodes n no_node).state ≡ None
    alive n there = by (get_or x.nodes n no_node).state (live n there)
      where
        by : (state : NodeState) → is_live state ≡ true → stamp_of state ≡ None
        by Live is = refl
        by Dying is = refl
        by (Destroyed at) is = absurd (cc is)

    -- the owner on the serial bus
    pub own_doomed : with_all_doomed stamp 0 doomed (part_of x d) ≡ owner_after stamp x d doomed
    own_doomed = owner_doomed p x d doomed collected me (odd_clock p x is_x) (λ f there. rest.quiet.committed p x f is_x there) alive (λ j. queue_before p x is_x (key_at (x.clock + 1) x.me j) (omega arith)) (λ j. queue_before p x is_x (key_at stamp x.me j) (omega arith))

    -- a peer that is told has a lesser clock than the stamp
    pub clock_below : (q : ℕ) (z : PeerPart) → IsPeer s q z → Has told_list q → z.clock < stamp
    clock_below q z is_z there =
        let least = greatest_has sound right rest p x d is_x is_d doomed made live (λ r. clock_at (slice_get s.peers r)) 0 told_list q there in
        let own : clock_at (slice_get s.peers q) ≡ z.clock = ap clock_at is_z in
        omega (arith, least, own)

    -- the owner
    own_alike : part_of (notices_committed (doom_stamped (doomed_part x doomed) collected doomed) p stamp) d ≡ with_all_doomed stamp 0 doomed (with_notices stamp p 0 doomed (part_of x d))
    own_alike =
        owner_shown p x d doomed collected me (odd_clock p x is_x) (λ f there. rest.quiet.committed p x f is_x there) alive (λ j. queue_before p x is_x (key_at (x.clock + 1) x.me j) (omega arith)) (λ j. queue_before p x is_x (key_at stamp x.me j) (omega arith))
        ∙ sym (owner_doomed p x d doomed collected me (odd_clock p x is_x) (λ f there. rest.quiet.committed p x f is_x there) alive (λ j. queue_before p x is_x (key_at (x.clock + 1) x.me j) (omega arith)) (λ j. queue_before p x is_x (key_at stamp x.me j) (omega arith)))
        ∙ ap (with_all_doomed stamp 0 doomed) (sym (notices_none p stamp doomed 0 (part_of x d) (none_own sound right rest p x d is_x is_d doomed made live)))

    module _ (q : ℕ) (z : PeerPart) (e : DriverPart) (is_z : IsPeer s q z) (is_e : IsDriver s q e) where
      -- one that is told
      told_alike : Has told_list q → part_of (notices_committed (synced (visited z p doomed) stamp) p stamp) e ≡ with_notices stamp p 0 doomed (part_of z e)
      told_alike there =
          let least = greatest_has sound right rest p x d is_x is_d doomed made live (λ r. clock_at (slice_get s.peers r)) 0 told_list q there in
          let own : clock_at (slice_get s.peers q) ≡ z.clock = ap clock_at is_z in
          let clock : z.clock ≤ collected = omega (arith, least, own) in
          told_shown p e stamp doomed z apart (sound.numbers.numbered q z is_z) (odd_clock q z is_z) (λ f in_it. rest.quiet.committed q z f is_z in_it)
          (λ j. queue_before q z is_z (key_at (z.clock + 1) p j) (omega arith)) (λ j. queue_before q z is_z (key_at stamp p j) (omega (arith, clock)))
          ∙ ap (λ c. record (part_of z e) { clock = c; box = z.queue ++ notes (foreign_note p) (λ n. needs_notice z (record { owner = p; serial = n })) stamp p 0 doomed }) (omega (arith, clock))
          ∙ ap (λ l. record (part_of z e) { clock = stamp; box = z.queue ++ l }) (notes_same (foreign_note p) p (λ n. needs_notice z (record { owner = p; serial = n })) (λ n. refers (node_of p n) (part_of z e)) stamp 0 doomed
          (λ n in_it. needs_all sound right rest p x d is_x is_d doomed made live q z e is_z is_e (list_others sound right rest p x d is_x is_d doomed made live q there).0 n in_it))
          ∙ ap (λ b. record (part_of z e) { clock = cond b stamp z.clock; box = z.queue ++ notes (foreign_note p) (λ n. refers (node_of p n) (part_of z e)) stamp p 0 doomed }) (sym (list_refers sound right rest p x d is_x is_d doomed made live q z e there is_z is_e))
          ∙ sym (notices_shown p stamp doomed 0 (part_of z e) (queue_before q z is_z (key_at stamp p 0) (omega (arith, clock))))

      -- any other one
      left_alike : (Has told_list q → ⊥) → part_of z e ≡ with_notices stamp p 0 doomed (part_of z e)
      left_alike none = sym (notices_none p stamp doomed 0 (part_of z e) (false_from_ne_true (refers_to_doomed p doomed (part_of z e)) (λ some. none (list_has sound right rest p x d is_x is_d doomed made live q z e is_z is_e some))))

      beside_alike : part_of (cond (is_among q told_list) (notices_committed (synced (visited z p doomed) stamp) p stamp) z) e ≡ with_notices stamp p 0 doomed (part_of z e)
      beside_alike = by (is_among q told_list) refl
        where
          by : (b : Bool) → is_among q told_list ≡ b → part_of (cond b (notices_committed (synced (visited z p doomed) stamp) p stamp) z) e ≡ with_notices stamp p 0 doomed (part_of z e)
          by true is = told_alike (among_has q told_list is)
          by false is = left_alike (λ there. cc (sym (has_among q told_list there) ∙ is))

    -- ---- the bus

    module _ (peers : List PeerPart) (become : (q : ℕ) → slice_get peers q ≡ option_map (destroys p doomed collected stamp told_list q) (slice_get s.peers q)) where
      destroyed_read : (q : ℕ) (z : PeerPart) (e : DriverPart) → IsPeer s q z → IsDriver s q e → slice_get (map (with_notices stamp p 0 doomed) bus) q ≡ Some (with_notices stamp p 0 doomed (part_of z e))
      destroyed_read q z e is_z is_e =
          slice_get-map (with_notices stamp p 0 doomed) bus q ∙ ap (option_map (with_notices stamp p 0 doomed)) (ap (λ b. slice_get b q) rest.is_bus ∙ part_there s.peers s.drivers q z e is_z is_e)

      abbrev bus_then : Bus
      bus_then = at_peer p (with_all_doomed stamp 0 doomed) (map (with_notices stamp p 0 doomed) bus)

      at_owner : slice_get (parts_of peers s.drivers) p ≡ slice_get bus_then p
      at_owner =
          parts_read peers s.drivers p
          ∙ ap (λ r. of_both r (slice_get s.drivers p)) (become p ∙ ap (option_map (destroys p doomed collected stamp told_list p)) is_x)
          ∙ ap (of_both (Some (destroys p doomed collected stamp told_list p x))) is_d
          ∙ ap (λ b. Some (part_of (cond b (notices_committed (doom_stamped (doomed_part x doomed) collected doomed) p stamp) (cond (is_among p told_list) (notices_committed (synced (visited x p doomed) stamp) p stamp) x)) d)) (eq-eqb p p refl)
          ∙ ap Some own_alike
          ∙ sym (read_at p (with_all_doomed stamp 0 doomed) (map (with_notices stamp p 0 doomed) bus) (with_notices stamp p 0 doomed (part_of x d)) (destroyed_read p x d is_x is_d))

      at_other : (q : ℕ) (z : PeerPart) (e : DriverPart) → q ≢ p → IsPeer s q z → IsDriver s q e → slice_get (parts_of peers s.drivers) q ≡ slice_get bus_then q
      at_other q z e other is_z is_e =
          parts_read peers s.drivers q
          ∙ ap (λ r. of_both r (slice_get s.drivers q)) (become q ∙ ap (option_map (destroys p doomed collected stamp told_list q)) is_z)
          ∙ ap (of_both (Some (destroys p doomed collected stamp told_list q z))) is_e
          ∙ ap (λ b. Some (part_of (cond b (notices_committed (doom_stamped (doomed_part z doomed) collected doomed) p stamp) (cond (is_among q told_list) (notices_committed (synced (visited z p doomed) stamp) p stamp) z)) e)) (ne_eqb q p other)
          ∙ ap Some (beside_alike q z e is_z is_e)
          ∙ sym (read_beside p q (with_all_doomed stamp 0 doomed) (map (with_notices stamp p 0 doomed) bus) (λ same. other (sym same)) ∙ destroyed_read q z e is_z is_e)

      -- nobody is there in neither
      at_none : (q : ℕ) → slice_get s.peers q ≡ None → slice_get (parts_of peers s.drivers) q ≡ slice_get bus_then q
      at_none q none =
          parts_read peers s.drivers q ∙ ap (λ r. of_both r (slice_get s.drivers q)) (become q ∙ ap (option_map (destroys p doomed collected stamp told_list q)) none)
          ∙ sym (read_beside p q (with_all_doomed stamp 0 doomed) (map (with_notices stamp p 0 doomed) bus) (λ same. cc (sym is_x ∙ ap (slice_get s.peers) same ∙ none))
          ∙ slice_get-map (with_notices stamp p 0 doomed) bus q
          ∙ ap (λ b. option_map (with_notices stamp p 0 doomed) (slice_get b q)) rest.is_bus
          ∙ ap (option_map (with_notices stamp p 0 doomed)) (parts_read s.peers s.drivers q ∙ ap (λ r. of_both r (slice_get s.drivers q)) none))

      at_each : (q : ℕ) → slice_get (parts_of peers s.drivers) q ≡ slice_get bus_then q
      at_each q = elim (cases_eq q p) [ inl same ↦ ap (slice_get (parts_of peers s.drivers)) same ∙ at_owner ∙ ap (slice_get bus_then) (sym same) | inr other ↦ by (slice_get s.peers q) refl other ]
        where
          by : (r : Option PeerPart) → slice_get s.peers q ≡ r → q ≢ p → slice_get (parts_of peers s.drivers) q ≡ slice_get bus_then q
          by None none other = at_none q none
          by (Some z) is_z other = let e = driver_beside sound.numbered q z is_z in at_other q z e.0 other is_z e.1

      -- with the drivers as they were
      pub then_shown : parts_of peers s.drivers ≡ bus_then
      then_shown = same_all (parts_of peers s.drivers) bus_then at_each

    -- the serial bus behind it
    pub then_is : (y : Part) → y ≡ part_of x d → at_peer p (with_all_doomed stamp 0 doomed) (map (with_notices stamp p 0 doomed) bus) ≡ destroyed (doom_stamp y doomed bus) y doomed bus
    then_is y is_y =
        ap (λ q. at_peer q (with_all_doomed stamp 0 doomed) (map (with_notices stamp q 0 doomed) bus)) (sym (ap (λ v. v.me) is_y ∙ me))
        ∙ ap (λ n. destroyed n y doomed bus) (stamp_alike sound right rest p x d is_x is_d doomed made live y is_y)
