-- A SEND that some destination accepted, from its last stage on to its end at rest.
use Rattle.std.proofs.Common.{◌≡◌, refl, sym, ap, ap₂, ◌∙◌, subst, ℕ, ◌+◌, ◌<◌, ◌≤◌, ◌==◌, ◌&&◌, ◌%◌, max, Bool, true, false, cond, nat_lt, List, [], ◌∷◌, ◌++◌, map, fold, filter_map, length, zip, get_or, Option, Some, None, arith}
use Rattle.std.specs.Prelude.{slice_get}
use Rattle.std.proofs.lemmas.Bool.{lt-ltb, eqb-true}
use Rattle.std.proofs.lemmas.Option.{same_Some}
use Rattle.b1_model.specs.declared.naming.NodeRef.{NodeRef}
use Rattle.b1_model.specs.declared.naming.Opening.{Opening}
use Rattle.b1_model.specs.Opening.{IsOpening}
use Rattle.b1_model.specs.declared.commands.Command.TheVariants as cmd
use Rattle.b1_model.specs.declared.commands.SendCmd.{SendCmd}
use Rattle.b1_model.specs.declared.parts.Begun.{Begun}
use Rattle.b1_model.specs.declared.parts.Slot.{Slot}
use Rattle.b1_model.specs.declared.answers.Answer.TheVariants as ans
use Rattle.b1_model.specs.declared.events.Phase.TheVariants.{Starting, Attaching, Stamping, Committing}
use Rattle.b1_model.specs.declared.events.Sending.{Sending}
use Rattle.b1_model.specs.MachineParts.{PeerPart, DriverPart, State, no_node, is_odd, node_at, is_dying}
use Rattle.b1_model.specs.MachineSend.{staged, synced, is_committed, final_stamp}
use Rattle.b1_model.specs.MachineDriver.{Turn, Goes, accepted_from, is_place, attaching, all_staged, syncing}
use Rattle.b1_model.specs.MachineTook.{ended}
use Rattle.b1_model.specs.MachineEvents.{user_of}
use Rattle.b1_model.specs.MachineStep.{Reached}
use Rattle.b1_schedule.specs.Shortage.{Shortage}
use Rattle.b1_step.specs.Rights.{Has}
use Rattle.b1_step.proofs.Lists.{has_at}
use Rattle.b1_law.proofs.Reached.{reached_sound}
use Rattle.b1_serial_bus.specs.Parts.{Part, Bus, at_peer, called}
use Rattle.b1_serial_bus.specs.Lives.{destroyed_in}
use Rattle.b1_serial_bus.specs.Letters.{Letter, Places, accepted, clock_at}
use Rattle.b1_serial_bus.specs.Delivery.{slot_for, delivered_from}
use Rattle.b1_serial_rest.specs.Standing.{part_of, bus_of}
use Rattle.b1_serial_rest.specs.Rest.{BoxesRight, AtRest}
use Rattle.b1_serial_rest.proofs.Shown.{boxes_same}
use Rattle.b1_serial_whole.proofs.Quiet.{driver_beside}
use Rattle.b1_serial_send.proofs.Midway.{Answered, with_begin, over, stage_at, attach_at, attach_all, stamp_at, sync_at, commit_at, sending_driver, midway}
use Rattle.b1_serial_send.proofs.Lists.{over_keeps, zip_len, over_nothing}
use Rattle.b1_serial_send.proofs.Parts.{at_keeps, at_own, read_map}
use Rattle.b1_serial_send.proofs.Goes.{WillEnd, same_parts}
use Rattle.b1_serial_send.proofs.Charges.{count_at}
use Rattle.b1_serial_send.proofs.Staging.{turned_to}
use Rattle.b1_serial_send.proofs.Attaching.{no_slots, rows, rows_none_done, rows_at, attach_me, attaches_keep, places_attach}
use Rattle.b1_serial_send.proofs.Committing.{stamp_goes, syncs_go, commits_go}
use Rattle.b1_serial_send.proofs.Keys.{IsLast, before_stamp, not_back}
use Rattle.b1_serial_send.proofs.Copies.{place_key}
use Rattle.b1_serial_send.proofs.Delivered.{clock_after, read_change, behind, delivered_read}
use Rattle.b1_serial_send.proofs.Finals.{part_is, found_is}
use Rattle.b1_serial_send.proofs.Finals as final_part
use Rattle.b1_serial_send.proofs.Ending.{bus_none, bus_same, at_none, delivered_none, ends_here}
use Rattle.b1_serial_send.proofs.Boxes.{AreAlive, making_boxes, letter_boxes}
use Rattle.b1_serial_send.proofs.Stamps.{is_any, any_is, collected_by, collected_once, stamps_same, fold_above, fold_has, count_has, accepted_has, map_has, zip_split}
use Rattle.b1_serial_send.proofs.Facts.{placed, begun_me, begun_quiet, begun_low, begun_odd, begun_releases, begun_bus, begun_there}

-- the clock at the end of the destinations, where it is the stamp at their beginning
stamp_stays : (q stamp : ℕ) (ds : Answered) → clock_after q stamp ds stamp ≡ stamp
stamp_stays q stamp [] = refl
stamp_stays q stamp ((to, Some r) ∷ rest) = stamp_stays q stamp rest
stamp_stays q stamp ((to, None) ∷ rest) = by (to.owner == q) (stamp_stays q stamp rest)
  where
    by : (b : Bool) → clock_after q stamp rest stamp ≡ stamp → clock_after q stamp rest (cond b stamp stamp) ≡ stamp
    by true same = same
    by false same = same

rows_empty : (bus : Bus) (tos : List NodeRef) (before : Places) → rows bus [] tos before ≡ map (λ to. []) tos
rows_empty bus [] before = refl
rows_empty bus (t ∷ ts) [] = ap (λ rs. [] ∷ rs) (rows_empty bus ts [])
rows_empty bus (t ∷ ts) (None ∷ rest) = ap (λ rs. [] ∷ rs) (rows_empty bus ts rest)
rows_empty bus (t ∷ ts) (Some r ∷ rest) = ap (λ rs. [] ∷ rs) (rows_empty bus ts rest)

module _ {o : Opening} {s : State} {bus : Bus} (opens : IsOpening o) (reached : Reached o s) (rest : AtRest o s bus) (m : Shortage)
    (d : DriverPart) (is_driver : slice_get s.drivers d.me ≡ Some d) (x : PeerPart) (is_peer : slice_get s.peers d.me ≡ Some x) (c : SendCmd) (begun : Begun)
    (final : Places) (len : length final ≡ length begun.to) (any : is_any final ≡ true) where
  -- the parts with the nodes made, and the serial bus then
  abbrev f : PeerPart → PeerPart
  f = with_begin d.me c

  abbrev with_nodes : Bus
  with_nodes = begun_bus opens reached rest d.me c

  abbrev letter : Letter
  letter = record { origin = d.me; user = user_of o d.me; to = begun.to; with = begun.with; payload = c.payload }

  abbrev ds : Answered
  ds = zip begun.to final

  abbrev There : NodeRef → Type 0
  There to = (z : PeerPart) × (w : DriverPart) × (slice_get s.peers to.owner ≡ Some z) × (slice_get with_nodes to.owner ≡ Some (part_of (f z) w))
      × (to.serial < length (f z).nodes) × (is_dying (node_at (f z) to.serial).state ≡ false)

  abbrev owners : List ℕ
  owners = map (clock_at with_nodes) (accepted letter final)

  abbrev first : ℕ
  first = fold max 0 owners

  abbrev voids : List ℕ
  voids = filter_map (destroyed_in with_nodes) begun.with

  -- the SEND with all its slots
  abbrev sending : Sending
  sending = record { begun = begun; places = final; collected = collected_by voids first final; slots = rows with_nodes begun.with begun.to final }

  abbrev staged_part : PeerPart → PeerPart
  staged_part y = over (stage_at letter) 0 ds (f y)

  abbrev attached_part : PeerPart → PeerPart
  attached_part y = over (attach_all begun.with) 0 ds (staged_part y)

  abbrev stamp : ℕ
  stamp = final_stamp (attached_part x) sending.collected

  abbrev slots : ℕ → List Slot
  slots q = map (slot_for with_nodes q) begun.with

  abbrev last_part : PeerPart → PeerPart
  last_part y = over (commit_at d.me stamp slots) 0 ds (over (sync_at stamp) 0 ds (stamp_at d.me stamp (attached_part y)))

  -- the bus after it
  abbrev pub target : Bus
  target = at_peer d.me (λ y. called (cmd.Send c) (ans.Sent (record { stamp = stamp; places = final })) (record y { clock = stamp })) (delivered_from letter stamp 0 ds with_nodes)

  -- ---- the stamp

  attached_clock : (y : PeerPart) → (attached_part y).clock ≡ (f y).clock
  attached_clock y = final_part.clock_before letter ds 0 slots (f y)

  pub stamp_is : stamp ≡ fold max (f x).clock (owners ++ voids) + 2
  stamp_is =
      ap₂ (λ k j. max k j + 2) (attached_clock x) (collected_once voids first final any)
      ∙ ap (λ k. k + 2) (stamps_same (f x).clock owners voids)

  clock_there : (to : NodeRef) (z : Part) → slice_get with_nodes to.owner ≡ Some z → clock_at with_nodes to ≡ z.clock
  clock_there to z is = ap (λ r. elim r [ None ↦ 0 | Some y ↦ y.clock ]) is

  -- it is above the clock of each peer that accepted
  high : (q : ℕ) (y : PeerPart) (w : DriverPart) → slice_get s.peers q ≡ Some y → slice_get s.drivers q ≡ Some w → 1 ≤ count_at q ds → (f y).clock + 2 ≤ stamp
  high q y w is is_w some =
      let k = count_has q ds some in
      let same : clock_at with_nodes k.0 ≡ (f y).clock = clock_there k.0 (part_of (f y) w) (ap (slice_get with_nodes) k.2 ∙ begun_there opens reached rest d.me c q y w is is_w) in
      let below = fold_has 0 owners (clock_at with_nodes k.0) (map_has (clock_at with_nodes) (accepted letter final) k.0 (accepted_has ds k.0 k.1)) in
      let above = fold_above first voids in
      let collected = collected_once voids first final any in
      omega (arith, same, below, above, collected)

  -- ---- the end

  me_of : (q : ℕ) (y : PeerPart) → slice_get s.peers q ≡ Some y → (f y).me ≡ q
  me_of q y is = begun_me opens reached rest d.me c y ∙ placed opens reached rest q y is

  module _ (even : is_odd stamp ≡ false) where
    abbrev driver_last : DriverPart
    driver_last = ended (sending_driver d c Starting) (cmd.Send c) (ans.Sent (record { stamp = stamp; places = final }))

    last_if : (q : ℕ) (y : PeerPart) (w : DriverPart) → slice_get s.peers q ≡ Some y → slice_get s.drivers q ≡ Some w → 1 ≤ count_at q ds → IsLast (place_key letter stamp 0) (f y).queue
    last_if q y w is is_w some g there =
        not_back g.0 (place_key letter stamp 0) (before_stamp g.0 (place_key letter stamp 0)
        (let l = begun_low opens reached rest d.me c q y is g there in let h = high q y w is is_w some in omega (arith, l, h)))

    module _ (q : ℕ) (y : PeerPart) (w : DriverPart) (is : slice_get s.peers q ≡ Some y) (is_w : slice_get s.drivers q ≡ Some w) where
      abbrev shown_here : DriverPart → Part
      shown_here v = record (behind letter stamp with_nodes q 0 ds (part_of (f y) v)) { clock = clock_after q stamp ds (cond (d.me == q) stamp (f y).clock) }

      last_is : (v : DriverPart) → part_of (last_part y) v ≡ shown_here v
      last_is v =
          part_is letter ds stamp slots (f y) (begun_quiet opens reached rest d.me c q y is) (begun_low opens reached rest d.me c q y is) (begun_releases opens reached rest d.me c q y is) (begun_odd opens reached rest d.me c q y is) even
          (λ some. high q y w is is_w (subst (λ k. 1 ≤ count_at k ds) (me_of q y is) some)) v
          ∙ ap (λ k. record (behind letter stamp with_nodes k 0 ds (part_of (f y) v)) { clock = clock_after k stamp ds (cond (d.me == k) stamp (f y).clock) }) (me_of q y is)

      own_read : slice_get target q ≡ Some (part_of (last_part y) (cond (d.me == q) driver_last w))
      own_read =
          read_change d.me q (λ z. called (cmd.Send c) (ans.Sent (record { stamp = stamp; places = final })) (record z { clock = stamp })) (delivered_from letter stamp 0 ds with_nodes) (behind letter stamp with_nodes q 0 ds (part_of (f y) w))
          (delivered_read letter stamp with_nodes q ds 0 with_nodes (part_of (f y) w) (begun_there opens reached rest d.me c q y w is is_w) (λ n. refl) (last_if q y w is is_w))
          ∙ ap Some (by (d.me == q) refl)
        where
          by : (b : Bool) → d.me == q ≡ b
              → cond b (called (cmd.Send c) (ans.Sent (record { stamp = stamp; places = final })) (record (behind letter stamp with_nodes q 0 ds (part_of (f y) w)) { clock = stamp })) (behind letter stamp with_nodes q 0 ds (part_of (f y) w))
              ≡ part_of (last_part y) (cond b driver_last w)
          by true own =
              let driver_is : w ≡ d = same_Some w d (sym is_w ∙ ap (slice_get s.drivers) (sym (eqb-true d.me q own)) ∙ is_driver) in
              ap (λ v. called (cmd.Send c) (ans.Sent (record { stamp = stamp; places = final })) (record (behind letter stamp with_nodes q 0 ds (part_of (f y) v)) { clock = stamp })) driver_is
              ∙ ap (λ k. called (cmd.Send c) (ans.Sent (record { stamp = stamp; places = final })) (record (behind letter stamp with_nodes q 0 ds (part_of (f y) d)) { clock = k })) (sym (ap (λ b. clock_after q stamp ds (cond b stamp (f y).clock)) own ∙ stamp_stays q stamp ds))
              ∙ ap (called (cmd.Send c) (ans.Sent (record { stamp = stamp; places = final }))) (sym (last_is d))
          by false other = sym (last_is w ∙ ap (λ b. record (behind letter stamp with_nodes q 0 ds (part_of (f y) w)) { clock = clock_after q stamp ds (cond b stamp (f y).clock) }) other)

    none_read : (q : ℕ) → slice_get (bus_of s) q ≡ None → slice_get target q ≡ None
    none_read q none =
        at_none d.me q _ (delivered_from letter stamp 0 ds with_nodes) (delivered_none letter stamp 0 ds q with_nodes (at_none d.me q _ bus (ap (λ b. slice_get b q) rest.is_bus ∙ none)))

    -- the boxes of the bus after it
    target_boxes : AreAlive with_nodes ds → BoxesRight target
    target_boxes alive =
        boxes_same (λ y. called (cmd.Send c) (ans.Sent (record { stamp = stamp; places = final })) (record y { clock = stamp })) (λ y. refl) (delivered_from letter stamp 0 ds with_nodes) d.me
        (letter_boxes letter stamp with_nodes ds (making_boxes d.me c.with bus rest.boxes) alive numbered last)
      where
        part_there : (q : ℕ) (z : Part) → slice_get with_nodes q ≡ Some z → (y : PeerPart) × (w : DriverPart) × (slice_get s.peers q ≡ Some y) × (slice_get s.drivers q ≡ Some w) × (z ≡ part_of (f y) w)
        part_there q z is = by (slice_get s.peers q) refl
          where
            by : (r : Option PeerPart) → slice_get s.peers q ≡ r → (y : PeerPart) × (w : DriverPart) × (slice_get s.peers q ≡ Some y) × (slice_get s.drivers q ≡ Some w) × (z ≡ part_of (f y) w)
            by None none = absurd (cc (sym (at_none d.me q _ bus (ap (λ b. slice_get b q) rest.is_bus ∙ bus_none s q none)) ∙ is))
            by (Some y) there =
                let w = driver_beside rest.numbered q y there in
                (y, w.0, there, w.1, same_Some z (part_of (f y) w.0) (sym is ∙ begun_there opens reached rest d.me c q y w.0 there w.1))

        numbered : (q : ℕ) (z : Part) → slice_get with_nodes q ≡ Some z → z.me ≡ q
        numbered q z is = let k = part_there q z is in ap (λ v. v.me) k.4 ∙ me_of q k.0 k.2

        last : (q : ℕ) (z : Part) → slice_get with_nodes q ≡ Some z → 1 ≤ count_at q ds → IsLast (place_key letter stamp 0) z.box
        last q z is some = let k = part_there q z is in subst (IsLast (place_key letter stamp 0)) (sym (ap (λ v. v.box) k.4)) (last_if q k.0 k.1 k.2 k.3 some)

  -- ---- the steps

  abbrev At : (PeerPart → PeerPart) → Turn → Type 0
  At h turn = WillEnd o m d.me target (midway s d.me (turned_to d c turn) h)

  staged_me : (y : PeerPart) → (staged_part y).me ≡ y.me
  staged_me y =
      over_keeps (λ z. z.me) (stage_at letter) (λ place to z. at_keeps (λ v. v.me) to.owner (λ v. staged v d.me (user_of o d.me) place to.serial c.payload begun.with) z refl) 0 ds (f y)
      ∙ begun_me opens reached rest d.me c y

  staged_nodes : (y : PeerPart) → (staged_part y).nodes ≡ (f y).nodes
  staged_nodes y = over_keeps (λ z. z.nodes) (stage_at letter) (λ place to z. at_keeps (λ v. v.nodes) to.owner (λ v. staged v d.me (user_of o d.me) place to.serial c.payload begun.with) z refl) 0 ds (f y)

  attached_me : (y : PeerPart) → (attached_part y).me ≡ y.me
  attached_me y = over_keeps (λ z. z.me) (attach_all begun.with) (λ place to z. attaches_keep (λ v. v.me) attach_me to.owner begun.with z) 0 ds (staged_part y) ∙ staged_me y

  stamped_me : (y : PeerPart) → (stamp_at d.me stamp (attached_part y)).me ≡ y.me
  stamped_me y = at_keeps (λ z. z.me) d.me (λ z. record z { clock = stamp }) (attached_part y) refl ∙ attached_me y

  synced_me : (y : PeerPart) → (over (sync_at stamp) 0 ds (stamp_at d.me stamp (attached_part y))).me ≡ y.me
  synced_me y = over_keeps (λ z. z.me) (sync_at stamp) (λ place to z. at_keeps (λ v. v.me) to.owner (λ v. synced v stamp) z refl) 0 ds (stamp_at d.me stamp (attached_part y)) ∙ stamped_me y

  module _ (destinations : (to : NodeRef) → Has begun.to to → There to) (alive : AreAlive with_nodes ds) where
    place_there : (before : Places) (to : NodeRef) → slice_get begun.to (length before) ≡ Some to → There to
    place_there before to is_to = destinations to (has_at begun.to (length before) to is_to)

    -- the commits, with an even stamp
    commits : is_odd stamp ≡ false → At (λ y. over (sync_at stamp) 0 ds (stamp_at d.me stamp (attached_part y))) (Goes (Committing sending stamp (accepted_from 0 final)))
    commits even =
        commits_go o m d.me target s d c sending (placed opens reached rest) is_driver len stamp (λ y. over (sync_at stamp) 0 ds (stamp_at d.me stamp (attached_part y))) synced_me slots owner
        (ends_here o m d.me target s d opens rest.quiet is_driver (driver_last even) last_part refl
        (bus_same s d.me (driver_last even) last_part target (λ q y w is is_w. own_read even q y w is is_w) (none_read even)) (target_boxes even alive))
      where
        owner : (before more : Places) (to : NodeRef) → final ≡ before ++ None ∷ more → slice_get begun.to (length before) ≡ Some to
            → (z : PeerPart) × (slice_get s.peers to.owner ≡ Some z)
            × (is_committed (over (commit_at d.me stamp slots) 0 (zip begun.to before) (over (sync_at stamp) 0 ds (stamp_at d.me stamp (attached_part z)))) d.me (length before) ≡ true)
            × (get_or (rows with_nodes begun.with begun.to final) (length before) [] ≡ slots to.owner)
        owner before more to all is_to =
            let there = place_there before to is_to in
            let split = zip_split begun.to before None more to is_to in
            let y = there.0 in (
              y,
              there.2,
              ap (λ i. is_committed (over (commit_at d.me stamp slots) 0 (zip begun.to before) (over (sync_at stamp) 0 ds (stamp_at d.me stamp (attached_part y)))) d.me i) (sym (zip_len begun.to before to is_to))
                  ∙ found_is letter ds stamp slots (f y) (begun_quiet opens reached rest d.me c to.owner y there.2) (begun_low opens reached rest d.me c to.owner y there.2) (begun_releases opens reached rest d.me c to.owner y there.2) (begun_odd opens reached rest d.me c to.owner y there.2) even
                  (λ some. high to.owner y (driver_beside rest.numbered to.owner y there.2).0 there.2 (driver_beside rest.numbered to.owner y there.2).1 (subst (λ k. 1 ≤ count_at k ds) (me_of to.owner y there.2) some))
                  (zip begun.to before) split.0 to (ap (zip begun.to) all ∙ split.1) (sym (me_of to.owner y there.2)),
              ap (λ zs. get_or (rows with_nodes begun.with begun.to zs) (length before) []) all ∙ rows_at with_nodes begun.with begun.to before more to is_to,
            )

    -- from the stamp on
    stamps : At attached_part (Goes (Stamping sending))
    stamps =
        stamp_goes o m d.me target s d c sending (placed opens reached rest) is_driver len attached_part attached_me refl x is_peer
        (λ led. syncs_go o m d.me target s d c sending (placed opens reached rest) is_driver len stamp (λ y. stamp_at d.me stamp (attached_part y)) stamped_me
        (λ before more to all is_to. let there = place_there before to is_to in (there.0, there.2))
        (commits (even led)) led)
      where
        even : Reached o (midway s d.me (turned_to d c (Goes (syncing sending stamp (accepted_from 0 final)))) (λ y. stamp_at d.me stamp (attached_part y))) → is_odd stamp ≡ false
        even led =
            let sound = reached_sound o (midway s d.me (turned_to d c (Goes (syncing sending stamp (accepted_from 0 final)))) (λ y. stamp_at d.me stamp (attached_part y))) opens led in
            let there = read_map (λ y. stamp_at d.me stamp (attached_part y)) s.peers d.me x is_peer in
            let clock : (stamp_at d.me stamp (attached_part x)).clock ≡ stamp = ap (λ z. z.clock) (at_own d.me (λ z. record z { clock = stamp }) (attached_part x) (attached_me x ∙ placed opens reached rest d.me x is_peer)) in
            ap (λ k. k == 1) (sym (ap (λ k. k % 2) clock) ∙ (sound.clocks.clock d.me (stamp_at d.me stamp (attached_part x)) there).0)

    -- from the attaches on
    pub sent_ends : ((node : NodeRef) → Has begun.with node → There node) → At staged_part (Goes (attaching (all_staged begun final first) (accepted_from 0 final) 0))
    sent_ends carried = by begun.with refl
      where
        start : Sending
        start = all_staged begun final first

        same_at : (h j : PeerPart → PeerPart) (turn : Turn) → ((y : PeerPart) → h y ≡ j y) → At h turn → At j turn
        same_at h j turn same = same_parts o m d.me target s (turned_to d c turn) h j same

        by : (w : List NodeRef) → begun.with ≡ w → At staged_part (Goes (attaching start (accepted_from 0 final) 0))
        by [] nil =
            subst (λ b. At staged_part (Goes (cond b (Attaching start (accepted_from 0 final) 0) (cond (b && is_place (accepted_from (accepted_from 0 final + 1) final) final) (Attaching start (accepted_from (accepted_from 0 final + 1) final) 0) (Stamping start))))) (sym (ap (λ w. nat_lt 0 (length w)) nil))
            (subst (λ z. At staged_part (Goes (Stamping z))) (sym start_is)
            (same_at attached_part staged_part (Goes (Stamping sending)) nothing stamps))
          where
            nothing : (y : PeerPart) → attached_part y ≡ staged_part y
            nothing y = over_keeps (λ z. z) (attach_all begun.with) (λ place to z. ap (λ w. fold (λ v node. attach_at to.owner node v) z w) nil) 0 ds (staged_part y)

            start_is : start ≡ sending
            start_is = ap₂ (λ k sl. record { begun = begun; places = final; collected = k; slots = sl })
                (sym (collected_once voids first final any ∙ ap (λ w. fold max first (filter_map (destroyed_in with_nodes) w)) nil))
                (ap (λ w. map (λ to. no_slots w) begun.to) nil ∙ sym (ap (λ w. rows with_nodes w begun.to final) nil ∙ rows_empty with_nodes begun.to final))
        by (n ∷ ns) more =
            subst (λ b. At staged_part (Goes (cond b (Attaching start (accepted_from 0 final) 0) (cond (b && is_place (accepted_from (accepted_from 0 final + 1) final) final) (Attaching start (accepted_from (accepted_from 0 final + 1) final) 0) (Stamping start))))) (sym (lt-ltb 0 (length begun.with) some))
            (subst (λ z. At staged_part (Goes (Attaching z (accepted_from 0 final) 0))) (sym start_is)
            (subst (λ b. At staged_part (Goes (cond b (Attaching none_yet (accepted_from 0 final) 0) (Stamping none_yet)))) (any_is final ∙ any)
            (same_at (λ y. over (attach_all begun.with) 0 (zip begun.to []) (staged_part y)) staged_part (Goes (cond (is_place (accepted_from 0 final) final) (Attaching none_yet (accepted_from 0 final) 0) (Stamping none_yet))) (λ y. over_nothing (attach_all begun.with) begun.to (staged_part y))
            (places_attach o m d.me target s d c begun (placed opens reached rest) is_driver f with_nodes staged_part staged_me (λ y j. ap (λ zs. (get_or zs j no_node).state) (staged_nodes y)) final len first some carried stamps))))
          where
            some : 0 < length begun.with
            some = let e = ap length more in omega (arith, e)

            none_yet : Sending
            none_yet = record { begun = begun; places = final; collected = first; slots = rows with_nodes begun.with begun.to [] }

            start_is : start ≡ none_yet
            start_is = ap (λ sl. record { begun = begun; places = final; collected = first; slots = sl }) (rows_none_done with_nodes begun.with begun.to)
