-- Behind the flush of a peer and its drops the machine shows the serial bus behind that flush.
use Rattle.std.proofs.Common.{◌≡◌, ◌≢◌, ◌⊎◌, refl, sym, ap, ◌∙◌, subst, inl, inr, ℕ, suc, ◌<◌, ◌==◌, max, Bool, true, false, cond, ◌&&◌, ◌||◌, not, List, [], ◌∷◌, ◌++◌, fold, length, Option, Some, None, is_none, is_some, arith}
use Rattle.std.specs.Prelude.{slice_get}
use Rattle.std.specs.List.{list_any}
use Rattle.std.proofs.lemmas.Option.{same_Some, slice_get_within}
use Rattle.std.proofs.lemmas.Bool.{cases_eq, and_from, eq-eqb, eqb-true, false_from_ne_true}
use Rattle.b1_model.specs.declared.naming.Key.{Key}
use Rattle.b1_model.specs.declared.naming.NodeRef.{NodeRef}
use Rattle.b1_model.specs.declared.naming.Opening.{Opening}
use Rattle.b1_model.specs.Opening.{IsOpening}
use Rattle.b1_model.specs.declared.entries.Entry.{Entry}
use Rattle.b1_model.specs.declared.entries.Entry.TheVariants.{Message, OwnNotice, ForeignNotice, ReleaseNotice}
use Rattle.b1_model.specs.declared.commands.Command.{Command}
use Rattle.b1_model.specs.declared.answers.Answer.TheVariants as ans
use Rattle.b1_model.specs.declared.events.Phase.TheVariants.{Flushing}
use Rattle.b1_model.specs.MachineParts.{PeerPart, DriverPart, HandleRecord, State, same_ref, is_live, is_release_notice, no_origin, record_of, node_at, no_node}
use Rattle.b1_model.specs.MachineTables.{is_unheld}
use Rattle.b1_model.specs.MachineReceive.{is_released}
use Rattle.b1_model.specs.MachineTook.{is_disconnect, call_of}
use Rattle.b1_model.specs.MachineStep.{Step}
use Rattle.b1_step.specs.Rights.{Has}
use Rattle.b1_step.specs.Ordered.{Ascending}
use Rattle.b1_step.proofs.Lists.{has_append, has_within}
use Rattle.b1_step.proofs.Orders.{same_ref_is}
use Rattle.b1_inv.specs.Words.{IsPeer, IsDriver}
use Rattle.b1_inv.specs.Sound.{IsSound}
use Rattle.b1_inv_record.specs.Right.{IsRight}
use Rattle.b1_inv_refs.proofs.Views.{or_none}
use Rattle.b1_inv_refs.proofs.GivenUp.{found_has}
use Rattle.b1_inv_refs.proofs.SameWires.{any_has}
use Rattle.b1_inv_ends.proofs.Ending.{there_any}
use Rattle.b1_law.proofs.Reached.{reached_sound}
use Rattle.b1_legal.proofs.Reached.{reached_right}
use Rattle.b1_serial_bus.specs.Parts.{Part, Bus, at_peer}
use Rattle.b1_serial_bus.specs.Named.{line_of}
use Rattle.b1_serial_bus.specs.Lives.{destroyed_at}
use Rattle.b1_serial_bus.specs.References.{has_slot, refers, is_abroad}
use Rattle.b1_serial_bus.specs.GivenUp.{given_up}
use Rattle.b1_serial_bus.specs.Flush as bus_flush
use Rattle.b1_serial_bus.specs.Flush.{all_references, emptied, flush}
use Rattle.b1_serial_rest.specs.Standing.{lines_of, part_of, parts_of, bus_of}
use Rattle.b1_serial_rest.specs.Rest.{IsQuiet, BoxesRight, AtRest}
use Rattle.b1_serial_rest.proofs.Own.{parts_at}
use Rattle.b1_serial_whole.proofs.Whole.{GoesOn}
use Rattle.b1_serial_whole.proofs.Quiet.{element_there, is_quiet}
use Rattle.b1_serial_own.proofs.Shows.{read_at, read_beside, as_many_at, part_there}
use Rattle.b1_serial_own.proofs.BoxKept.{stamp_in, boxes_kept}
use Rattle.b1_serial_own.proofs.Abroad.{any_found, any_at, unheld_abroad}
use Rattle.b1_serial_own.proofs.Dropped.{live_is}
use Rattle.b1_serial_own.proofs.Amid.{Become, Amid}
use Rattle.b1_serial_own.proofs.Drops.{Refs, DropsAt, DroppedAt, release_note, touches}
use Rattle.b1_serial_own.proofs.Flushes.{Items, Giving, Comes, all_refs, give_all, given_end}
use Rattle.b1_serial_own.proofs.Items.{nodes_of}
use Rattle.b1_serial_own.proofs.GivenAll.{GivenOf, GivenAt, none_given, concerns, same_entries, all_given, given_all_boxes}
use Rattle.b1_serial_own.proofs.Emptied.{flat, flush_begun, flush_beside, gives_references}

-- ---- lists

-- two lists have the same entries of a kind
any_both : (test : Key × Entry → Bool) (a b : List (Key × Entry)) → ((f : Key × Entry) → Has a f → test f ≡ true → Has b f) → ((f : Key × Entry) → Has b f → test f ≡ true → Has a f) → list_any test a ≡ list_any test b
any_both test a b to from = by (list_any test a) refl (list_any test b) refl
  where
    by : (c : Bool) → list_any test a ≡ c → (e : Bool) → list_any test b ≡ e → c ≡ e
    by true one true two = refl
    by false one false two = refl
    by true one false two = let k = any_has test a one in absurd (cc (sym two ∙ there_any test b k.0 (to k.0 k.1 k.2) k.2))
    by false one true two = let k = any_has test b two in absurd (cc (sym one ∙ there_any test a k.0 (from k.0 k.1 k.2) k.2))

-- two buses whose peers pass alike
any_alike : (test : Part → Bool) (a b : Bus) → ((i : ℕ) (y : Part) → slice_get a i ≡ Some y → (w : Part) × (slice_get b i ≡ Some w) × (test w ≡ test y)) → ((i : ℕ) (w : Part) → slice_get b i ≡ Some w → (y : Part) × (slice_get a i ≡ Some y)) → list_any test a ≡ list_any test b
any_alike test a b alike from = by (list_any test a) refl (list_any test b) refl
  where
    by : (c : Bool) → list_any test a ≡ c → (e : Bool) → list_any test b ≡ e → c ≡ e
    by true one true two = refl
    by false one false two = refl
    by true one false two =
        let k = any_found test a one in
        let w = alike k.0 k.1 k.2 in
        absurd (cc (sym two ∙ any_at test b k.0 w.0 w.1 (w.2 ∙ k.3)))
    by false one true two =
        let k = any_found test b two in
        let y = from k.0 k.1 k.2 in
        let w = alike k.0 y.0 y.1 in
        let same = same_Some w.0 k.1 (sym w.1 ∙ k.2) in
        absurd (cc (sym one ∙ any_at test a k.0 y.0 y.1 (sym w.2 ∙ ap test same ∙ k.3)))

-- lists of one length, of which one has what the other has
same_by : (xs ys : Bus) → length xs ≡ length ys → ((i : ℕ) (y : Part) → slice_get xs i ≡ Some y → slice_get ys i ≡ Some y) → xs ≡ ys
same_by [] [] many same = refl
same_by [] (y ∷ ys) many same = absurd (omega (arith, many))
same_by (x ∷ xs) [] many same = absurd (omega (arith, many))
same_by (x ∷ xs) (y ∷ ys) many same = ap (λ z. z ∷ xs) (sym (same_Some y x (same 0 x refl))) ∙ ap (λ zs. y ∷ zs) (same_by xs ys (omega (arith, many)) (λ i. same (suc i)))

parts_many : (xs : List PeerPart) (ds : List DriverPart) → length xs ≡ length ds → length (parts_of xs ds) ≡ length xs
parts_many [] ds many = refl
parts_many (x ∷ xs) [] many = absurd (omega (arith, many))
parts_many (x ∷ xs) (d ∷ ds) many = ap suc (parts_many xs ds (omega (arith, many)))

given_many : (c : ℕ) (left : List NodeRef) (bus : Bus) → length (fold (given_up c) bus left) ≡ length bus
given_many c [] bus = refl
given_many c (n ∷ left) bus = given_many c left (given_up c bus n) ∙ as_many_at n.owner _ bus

nodes_has : (done : Refs) (n : NodeRef) → Has (nodes_of done) n → (r : NodeRef × ℕ) × Has done r × (r.0 ≡ n)
nodes_has [] n there = absurd there
nodes_has (r ∷ rest) n (inl same) = (r, inl refl, sym same)
nodes_has (r ∷ rest) n (inr there) = let k = nodes_has rest n there in (k.0, inr k.1, k.2)

has_nodes : (done : Refs) (r : NodeRef × ℕ) → Has done r → Has (nodes_of done) r.0
has_nodes [] r there = absurd there
has_nodes (t ∷ rest) r (inl same) = inl (ap (λ (z : NodeRef × ℕ). z.0) same)
has_nodes (t ∷ rest) r (inr there) = inr (has_nodes rest r there)

refs_has : (items : Items) (r : NodeRef × ℕ) → Has (all_refs items) r → (item : Refs) × Has items item × Has item r
refs_has [] r there = absurd there
refs_has (item ∷ rest) r there = by (refs_has rest r) (has_append item (all_refs rest) r there)
  where
    by : (Has (all_refs rest) r → (one : Refs) × Has rest one × Has one r) → Has item r ⊎ Has (all_refs rest) r → (one : Refs) × Has (item ∷ rest) one × Has one r
    by further (inl here) = (item, inl refl, here)
    by further (inr later) = let k = further later in (k.0, inr k.1, k.2)

touches_concerns : (q : ℕ) (done : Refs) → touches q done ≡ concerns q (nodes_of done)
touches_concerns q [] = refl
touches_concerns q (r ∷ rest) = ap (λ b. (r.0.owner == q) || b) (touches_concerns q rest)

-- ---- from the flush to the end

module _ (o : Opening) (s : State) (bus : Bus) (p : ℕ) (d : DriverPart) (command : Command) (opens : IsOpening o) (stamp : Option ℕ) (rest : AtRest o s bus) (is_d : IsDriver s p d) (t : State) {u w : State} {g : Become}
    (at : Amid o s p d command u (Flushing stamp) g) (step : Step o u p None w) (x : PeerPart) (is_x : IsPeer u p x) (is_open : d.shut ≡ false) (idle_end : (e : DriverPart) → IsDriver t p e → e.doing ≡ None)
    (left : ℕ) (goes_on : GoesOn o p left w t) (call_is : call_of command (ans.Reset stamp) ≡ record { command = command; answer = ans.Reset stamp } ∷ []) where
  abbrev flat_x : PeerPart
  flat_x = flat o s p d command opens stamp at step x is_x

  abbrev shut_x : Bool
  shut_x = d.shut || is_disconnect command

  begun : Giving o s p d command opens stamp w flat_x shut_x w [] flat_x.dead []
  begun = flush_begun o s p d command opens stamp at step x is_x

  abbrev done : Refs
  done = all_refs flat_x.dead

  ends : Comes o s p d command opens stamp w flat_x shut_x t idle_end [] [] done
  ends = give_all o s p d command opens stamp w flat_x shut_x t idle_end flat_x.dead [] (record { state = w; at = begun; left = left; goes_on = goes_on })

  abbrev e : State
  e = ends.state

  end_same : ends.state ≡ t
  end_same = given_end o s p d command opens stamp w flat_x shut_x t idle_end done ends

  sound_u : IsSound o u
  sound_u = reached_sound o u opens at.reached

  right_u : IsRight o u
  right_u = reached_right o u opens at.reached

  sound_e : IsSound o e
  sound_e = reached_sound o e opens ends.at.reached

  right_e : IsRight o e
  right_e = reached_right o e opens ends.at.reached

  idle_e : (r : ℕ) (f : DriverPart) → IsDriver e r f → f.doing ≡ None
  idle_e r f is_f = elim (cases_eq r p) [
    | inl same ↦ ap (λ z. z.doing) (same_Some f ends.at.driver (sym is_f ∙ ap (slice_get e.drivers) same ∙ ends.at.is_driver)) ∙ (ends.at.over refl).0
    | inr apart ↦ rest.quiet.idle r f (sym (ends.at.others r apart) ∙ is_f)
  ]

  quiet_e : IsQuiet e
  quiet_e = is_quiet opens ends.at.reached idle_e

  -- ---- the bus before the flush, and without the peer's box and lines

  abbrev pub before : Bus
  before = parts_of u.peers s.drivers

  abbrev start : Bus
  start = at_peer p (emptied command stamp) before

  abbrev given : List NodeRef
  given = nodes_of done

  abbrev clock : ℕ
  clock = x.clock

  abbrev after : Bus
  after = fold (given_up clock) start given

  before_own : slice_get before p ≡ Some (part_of x d)
  before_own = part_there u.peers s.drivers p x d is_x is_d

  abbrev own_start : Part
  own_start = emptied command stamp (part_of x d)

  start_own : slice_get start p ≡ Some own_start
  start_own = read_at p (emptied command stamp) before (part_of x d) before_own

  data Which (q : ℕ) (y : Part) : Type 0 where
    mine : q ≡ p → y ≡ own_start → Which q y
    another : q ≢ p → (z : PeerPart) (f : DriverPart) → IsPeer u q z → IsDriver s q f → y ≡ part_of z f → Which q y

  which : (q : ℕ) (y : Part) → slice_get start q ≡ Some y → Which q y
  which q y is = elim (cases_eq q p) [
    | inl same ↦ mine same (same_Some y own_start (sym is ∙ ap (slice_get start) same ∙ start_own))
    | inr apart ↦ (let k = parts_at u.peers s.drivers q y (sym (read_beside p q (emptied command stamp) before (λ same. apart (sym same))) ∙ is) in another apart k.0 k.1 k.2 k.3 k.4)
  ]

  start_other : (q : ℕ) (z : PeerPart) (f : DriverPart) → q ≢ p → IsPeer u q z → IsDriver s q f → slice_get start q ≡ Some (part_of z f)
  start_other q z f apart is_z is_f = read_beside p q (emptied command stamp) before (λ same. apart (sym same)) ∙ part_there u.peers s.drivers q z f is_z is_f

  -- ---- a peer of the bus before and behind

  few : (q : ℕ) (z : PeerPart) → IsPeer u q z → q ≢ no_origin
  few q z is_z same =
      let less = slice_get_within u.peers q z is_z in
      let peers = sound_u.numbered.as_many_peers in
      let most = sound_u.opening.most in
      absurd (omega (arith, less, same, peers, most))

  -- only a release notice has that origin
  plain_other : (q : ℕ) (z : PeerPart) (f : Key × Entry) → IsPeer u q z → Has z.queue f → f.0.origin ≡ no_origin → is_release_notice f.0.index f ≡ true
  plain_other q z (k, Message origin user index serial offset len nodes slots handles payload) is_z there own =
      let shape = sound_u.notices.queued q z (k, Message origin user index serial offset len nodes slots handles payload) is_z there in
      absurd (shape.2 (sym shape.0 ∙ own))
  plain_other q z (k, OwnNotice serial index) is_z there own = absurd (few q z is_z (sym (sound_u.notices.queued q z (k, OwnNotice serial index) is_z there).0 ∙ own))
  plain_other q z (k, ForeignNotice node index) is_z there own = by (record_of node z.handles) refl
    where
      by : (r : Option HandleRecord) → record_of node z.handles ≡ r → is_release_notice k.index (k, ForeignNotice node index) ≡ true
      by None none = absurd (cc (sym (right_u.parts.marks.marked q index z k node is_z there) ∙ ap (λ r. (or_none node r).notice) none))
      by (Some h) some =
          let found = found_has (λ n. same_ref n.node node) z.handles h some in
          let made = sound_u.flights.made q z h is_z found.0 in
          absurd (few h.node.owner made.0 made.1 (ap (λ n. n.owner) (same_ref_is h.node node found.1) ∙ sym (sound_u.notices.queued q z (k, ForeignNotice node index) is_z there).0 ∙ own))
  plain_other q z (k, ReleaseNotice serial) is_z there own =
      let shape = sound_u.notices.queued q z (k, ReleaseNotice serial) is_z there in
      eq-eqb serial k.index (sym shape.1)

  plain : (q : ℕ) (y : Part) (f : Key × Entry) → slice_get start q ≡ Some y → Has y.box f → f.0.origin ≡ no_origin → is_release_notice f.0.index f ≡ true
  plain q y f is there own = by (which q y is)
    where
      by : Which q y → is_release_notice f.0.index f ≡ true
      by (mine same yes_it) = absurd (subst (λ v. Has v.box f) yes_it there)
      by (another apart z k is_z is_k yes_it) = plain_other q z f is_z (subst (λ v. Has v.box f) yes_it there) own

  -- another peer's part at the flush, and at the end
  at_flush : (q : ℕ) (z : PeerPart) → q ≢ p → IsPeer u q z → IsPeer w q z
  at_flush q z apart is_z = flush_beside o s p d command opens stamp at step x is_x q apart ∙ is_z

  at_end : (q : ℕ) (z : PeerPart) → q ≢ p → IsPeer u q z → (v : PeerPart) × IsPeer e q v × DropsAt clock q done z v
  at_end q z apart is_z = ends.at.peers q z apart (at_flush q z apart is_z)

  dropped_of : (q : ℕ) (n : NodeRef) → Has given n → n.owner ≡ q → DroppedAt q done n.serial
  dropped_of q n there own = let k = nodes_has done n there in record { ref = k.0; there = k.1; owner = ap (λ m. m.owner) k.2 ∙ own; serial_is = ap (λ m. m.serial) k.2 }

  given_of : (q serial : ℕ) → DroppedAt q done serial → GivenOf q given serial
  given_of q serial k = record { node = k.ref.0; there = has_nodes done k.ref k.there; owner = k.owner; serial_is = k.serial_is }

  back_of : (q serial : ℕ) → GivenOf q given serial → DroppedAt q done serial
  back_of q serial k = subst (DroppedAt q done) k.serial_is (dropped_of q k.node k.there k.owner)

  unnoticed : (n : NodeRef) (y : Part) (f : Key × Entry) → Has given n → slice_get start n.owner ≡ Some y → Has y.box f → is_release_notice n.serial f ≡ false
  unnoticed n y f in_it is there = by (which n.owner y is)
    where
      by : Which n.owner y → is_release_notice n.serial f ≡ false
      by (mine same yes_it) = absurd (subst (λ v. Has v.box f) yes_it there)
      by (another apart z k is_z is_k yes_it) = (at_end n.owner z apart is_z).2.unnoticed n.serial f (dropped_of n.owner n in_it refl) (subst (λ v. Has v.box f) yes_it there)

  ordered : (q : ℕ) (y : Part) → slice_get start q ≡ Some y → Ascending y.box
  ordered q y is = by (which q y is)
    where
      by : Which q y → Ascending y.box
      by (mine same yes_it) = subst (λ v. Ascending v.box) (sym yes_it) tt
      by (another apart z k is_z is_k yes_it) = subst (λ v. Ascending v.box) (sym yes_it) (right_u.parts.keys.ascending q z is_z)

  abbrev abroad : NodeRef → Bool
  abroad n = is_abroad n start

  gives : (q : ℕ) (y : Part) → slice_get start q ≡ Some y → (v : Part) × (slice_get after q ≡ Some v) × GivenAt clock q abroad given y v
  gives = all_given clock start plain given [] start (λ m. refl) unnoticed (λ q y is. (y, is, none_given clock q abroad y (ordered q y is)))

  -- ---- who is abroad

  end_part : (q : ℕ) (z : PeerPart) (f : DriverPart) → q ≢ p → (v : PeerPart) → IsPeer e q v → IsDriver s q f → slice_get (bus_of e) q ≡ Some (part_of v f)
  end_part q z f apart v is_v is_f = part_there e.peers e.drivers q v f is_v (ends.at.others q apart ∙ is_f)

  end_own : slice_get (bus_of e) p ≡ Some (part_of (record flat_x { dead = [] }) ends.at.driver)
  end_own = part_there e.peers e.drivers p (record flat_x { dead = [] }) ends.at.driver ends.at.own ends.at.is_driver

  refers_alike : (n : NodeRef) (q : ℕ) (z v : PeerPart) (f : DriverPart) → DropsAt clock q done z v → refers n (part_of v f) ≡ refers n (part_of z f)
  refers_alike n q z v f k =
      ap (λ hs. is_some (line_of n (lines_of hs)) || list_any (has_slot n) v.queue) (ap (λ r. r.handles) k.shape)
      ∙ ap (λ b. is_some (line_of n (lines_of z.handles)) || b) (any_both (has_slot n) v.queue z.queue (λ h there slot. by h slot (k.comes h there)) (λ h there slot. k.stays h there))
    where
      by : (h : Key × Entry) → has_slot n h ≡ true → Has z.queue h ⊎ ((serial : ℕ) × DroppedAt q done serial × (h ≡ release_note (max z.clock clock) serial)) → Has z.queue h
      by h slot (inl old) = old
      by h slot (inr new) = absurd (cc (sym slot ∙ ap (has_slot n) new.2))

  abroad_alike : (n : NodeRef) → is_abroad n start ≡ is_abroad n (bus_of e)
  abroad_alike n = any_alike (refers n) start (bus_of e) (λ q y is. by q y (which q y is)) back
    where
      by : (q : ℕ) (y : Part) → Which q y → (v : Part) × (slice_get (bus_of e) q ≡ Some v) × (refers n v ≡ refers n y)
      by q y (mine same yes_it) = (part_of (record flat_x { dead = [] }) ends.at.driver, ap (slice_get (bus_of e)) same ∙ end_own, ap (refers n) (sym yes_it))
      by q y (another apart z f is_z is_f yes_it) =
          let v = at_end q z apart is_z in
          (part_of v.0 f, end_part q z f apart v.0 v.1 is_f, refers_alike n q z v.0 f v.2 ∙ ap (refers n) (sym yes_it))

      back : (q : ℕ) (v : Part) → slice_get (bus_of e) q ≡ Some v → (y : Part) × (slice_get start q ≡ Some y)
      back q v is =
          let k = parts_at e.peers e.drivers q v is in
          let less = slice_get_within e.peers q k.0 k.2 in
          let many_e = sound_e.numbered.as_many_peers in
          let many_u = sound_u.numbered.as_many_peers in
          let z = element_there u.peers q (omega (arith, less, many_e, many_u)) in
          elim (cases_eq q p) [
            | inl same ↦ (own_start, ap (slice_get start) same ∙ start_own)
            | inr apart ↦ (part_of z.0 k.1, start_other q z.0 k.1 apart z.1 (sym (ends.at.others q apart) ∙ k.3))
          ]

  -- ---- another peer

  module _ (q : ℕ) (z : PeerPart) (f : DriverPart) (apart : q ≢ p) (is_z : IsPeer u q z) (is_f : IsDriver s q f) (v : PeerPart) (is_v : IsPeer e q v) (k : DropsAt clock q done z v) (y : Part) (r : GivenAt clock q abroad given (part_of z f) y) where
    -- whether a release notice is due, on both
    due_alike : (serial : ℕ) → serial < length v.nodes → is_released v serial ≡ is_none (destroyed_at (part_of z f) serial) && not (abroad (record { owner = q; serial = serial }))
    due_alike serial made =
        ap (λ b. b && is_unheld (node_at v serial)) (live_is v f serial made (quiet_e.stamped q v (node_at v serial) is_v (has_within v.nodes serial no_node made)) ∙ ap (λ nodes. is_none (stamp_in nodes serial)) k.nodes)
        ∙ ap (λ b. is_none (destroyed_at (part_of z f) serial) && b) (unheld_abroad sound_e quiet_e (record { owner = q; serial = serial }) v is_v made ∙ ap not (sym (abroad_alike (record { owner = q; serial = serial }))))

    to : (h : Key × Entry) → Has v.queue h → Has y.box h
    to h there = by (k.comes h there)
      where
        by : Has z.queue h ⊎ ((serial : ℕ) × DroppedAt q done serial × (h ≡ release_note (max z.clock clock) serial)) → Has y.box h
        by (inl old) = r.stays h old
        by (inr new) =
            let queued = subst (Has v.queue) new.2 there in
            let live = right_e.parts.releases.live q new.0 v (release_note (max z.clock clock) new.0).0 is_v queued in
            let unheld = right_e.parts.releases.unheld q new.0 v (release_note (max z.clock clock) new.0).0 is_v queued in
            let due = sym (due_alike new.0 (k.made new.0 new.1)) ∙ and_from (is_live (node_at v new.0).state) (is_unheld (node_at v new.0)) live unheld in
            subst (Has y.box) (sym new.2) (r.noticed_so new.0 (given_of q new.0 new.1) due)

    from : (h : Key × Entry) → Has y.box h → Has v.queue h
    from h there = by (r.comes h there)
      where
        queued_note : (serial : ℕ) → DroppedAt q done serial → (key : Key) → Has v.queue (key, ReleaseNotice serial) → Has v.queue (release_note (max z.clock clock) serial)
        queued_note serial dropped key queued = at_which (k.comes (key, ReleaseNotice serial) queued)
          where
            at_which : Has z.queue (key, ReleaseNotice serial) ⊎ ((other : ℕ) × DroppedAt q done other × ((key, ReleaseNotice serial) ≡ release_note (max z.clock clock) other)) → Has v.queue (release_note (max z.clock clock) serial)
            at_which (inl old) = absurd (cc (sym (k.unnoticed serial (key, ReleaseNotice serial) dropped old) ∙ eq-eqb serial serial refl))
            at_which (inr new) =
                let serial_same : serial ≡ new.0 = same_serial (ap (λ (g : Key × Entry). g.1) new.2) in
                subst (Has v.queue) (new.2 ∙ ap (release_note (max z.clock clock)) (sym serial_same)) queued
              where
                same_serial : {a b : ℕ} → ReleaseNotice a ≡ ReleaseNotice b → a ≡ b
                same_serial is = cc is

        by : Has z.queue h ⊎ ((serial : ℕ) × GivenOf q given serial × (is_none (destroyed_at (part_of z f) serial) && not (abroad (record { owner = q; serial = serial })) ≡ true) × (h ≡ release_note (max z.clock clock) serial)) → Has v.queue h
        by (inl old) = k.stays h old
        by (inr new) =
            let dropped = back_of q new.0 new.1 in
            let noticed = k.noticed new.0 dropped (due_alike new.0 (k.made new.0 dropped) ∙ new.2) in
            subst (Has v.queue) (sym new.3) (queued_note new.0 dropped noticed.0 noticed.1)

    other_alike : part_of v f ≡ y
    other_alike =
        ap (λ c. part_of c f) k.shape
        ∙ ap (λ nodes. record (part_of z f) { clock = v.clock; box = v.queue; nodes = nodes }) k.nodes
        ∙ ap (λ c. record (part_of z f) { clock = c; box = v.queue }) (k.clock ∙ ap (λ b. cond b (max z.clock clock) z.clock) (touches_concerns q done) ∙ sym r.clock)
        ∙ ap (λ l. record (part_of z f) { clock = y.clock; box = l }) (same_entries v.queue y.box (right_e.parts.keys.ascending q v is_v) r.ordered to from)
        ∙ sym r.shape

  -- ---- the peer itself

  begun_own : IsPeer w p flat_x
  begun_own = begun.own

  owners : (n : NodeRef) → Has given n → n.owner ≢ p
  owners n there =
      let r = nodes_has done n there in
      let item = refs_has flat_x.dead r.0 r.1 in
      let dead = (reached_sound o w opens begun.reached).references.dead p flat_x item.0 r.0 begun_own item.1 item.2 in
      λ own. dead.2 (ap (λ m. m.owner) r.2 ∙ own)

  none_own : concerns p given ≡ false
  none_own = false_from_ne_true (concerns p given) (λ some. let k = any_has (λ (n : NodeRef). n.owner == p) given some in owners k.0 k.1 (eqb-true k.0.owner p k.2))

  own_given : (y : Part) → GivenAt clock p abroad given own_start y → y ≡ own_start
  own_given y r = r.shape ∙ ap (λ c. record own_start { clock = c; box = y.box }) (r.clock ∙ ap (λ b. cond b (max own_start.clock clock) own_start.clock) none_own) ∙ ap (λ l. record own_start { box = l }) (empty y.box (λ f there. by f (r.comes f there)))
    where
      by : (f : Key × Entry) → ⊥ ⊎ ((serial : ℕ) × GivenOf p given serial × (is_none (destroyed_at own_start serial) && not (abroad (record { owner = p; serial = serial })) ≡ true) × (f ≡ release_note (max own_start.clock clock) serial)) → ⊥
      by f (inl none) = none
      by f (inr new) = owners new.1.node new.1.there new.1.owner

      empty : (l : List (Key × Entry)) → ((f : Key × Entry) → Has l f → ⊥) → l ≡ []
      empty [] none = refl
      empty (f ∷ l) none = absurd (none f (inl refl))

  own_shown : part_of (record flat_x { dead = [] }) ends.at.driver ≡ own_start
  own_shown =
      ap (λ b. record own_start { shut = b; calls = ends.at.driver.calls }) (ends.at.shut_is ∙ ap (λ b. b || is_disconnect command) is_open)
      ∙ ap (λ cs. record own_start { calls = cs }) ((ends.at.over refl).1 ∙ ap (λ l. d.calls ++ l) call_is)

  -- ---- all peers

  many : length (bus_of e) ≡ length after
  many =
      let peers_e = sound_e.numbered.as_many_peers in
      let drivers_e = sound_e.numbered.as_many_drivers in
      let peers_u = sound_u.numbered.as_many_peers in
      let drivers_s = rest.numbered.as_many_drivers in
      parts_many e.peers e.drivers (omega (arith, peers_e, drivers_e))
      ∙ omega (arith, peers_e, peers_u)
      ∙ sym (given_many clock given start ∙ as_many_at p (emptied command stamp) before ∙ parts_many u.peers s.drivers (omega (arith, peers_u, drivers_s)))

  each : (q : ℕ) (y : Part) → slice_get (bus_of e) q ≡ Some y → slice_get after q ≡ Some y
  each q y is = elim (cases_eq q p) [ inl same ↦ own same | inr apart ↦ other apart ]
    where
      own : q ≡ p → slice_get after q ≡ Some y
      own same =
          let k = gives p own_start start_own in
          ap (slice_get after) same ∙ k.1 ∙ ap Some (own_given k.0 k.2 ∙ sym own_shown ∙ same_Some (part_of (record flat_x { dead = [] }) ends.at.driver) y (sym end_own ∙ ap (slice_get (bus_of e)) (sym same) ∙ is))

      other : q ≢ p → slice_get after q ≡ Some y
      other apart =
          let k = parts_at e.peers e.drivers q y is in
          let less = slice_get_within e.peers q k.0 k.2 in
          let many_e = sound_e.numbered.as_many_peers in
          let many_u = sound_u.numbered.as_many_peers in
          let z = element_there u.peers q (omega (arith, less, many_e, many_u)) in
          let is_f : IsDriver s q k.1 = sym (ends.at.others q apart) ∙ k.3 in
          let v = at_end q z.0 apart z.1 in
          let same : v.0 ≡ k.0 = same_Some v.0 k.0 (sym v.1 ∙ k.2) in
          let r = gives q (part_of z.0 k.1) (start_other q z.0 k.1 apart z.1 is_f) in
          r.1 ∙ ap Some (sym (other_alike q z.0 k.1 apart z.1 is_f v.0 v.1 v.2 r.0 r.2) ∙ ap (λ c. part_of c k.1) same ∙ sym k.4)

  end_is : bus_of e ≡ after
  end_is = same_by (bus_of e) after many each

  abbrev flush_of : Option Part → Bus
  flush_of found = elim found [ None ↦ before | Some v ↦ bus_flush.flushed command stamp v before ]

  after_is : after ≡ flush command stamp p before
  after_is =
      ap (fold (given_up clock) start) (gives_references o s bus p d command opens stamp rest at x is_x)
      ∙ ap (λ q. fold (given_up clock) (at_peer q (emptied command stamp) before) (all_references (part_of x d))) (sym (sound_u.numbered.peers p x is_x).me)
      ∙ ap flush_of (sym before_own)

  -- behind the drops
  pub flush_shows : bus_of t ≡ flush command stamp p before
  flush_shows = ap bus_of (sym end_same) ∙ end_is ∙ after_is

  pub flush_boxes : BoxesRight before → BoxesRight (flush command stamp p before)
  flush_boxes boxes =
      subst BoxesRight after_is
      (given_all_boxes clock given start
      (boxes_kept (emptied command stamp) p before (λ y there. record { me = refl; nodes = refl; comes = λ f in_it. absurd in_it; noticed = λ f n in_it old is. absurd in_it }) boxes))
