-- In a state at rest a peer of the machine receives as its peer of the serial bus does.
use Rattle.std.proofs.Common.{◌≡◌, refl, sym, ap, ◌∙◌, subst, inl, inr, ℕ, ◌≤◌, ◌==◌, Bool, true, false, cond, ◌&&◌, not, nat_lt, List, [], ◌∷◌, ◌++◌, length, drop, get_or, map, fold, zip, Option, Some, None, Ok, Err, is_some, is_none, option_map, unwrap_or, take_while, append-nil, arith}
use Rattle.std.proofs.lemmas.Bool.{eqb-true, eq-eqb, ne_eqb, ltb-true, ltb-false, and_parts, false_from_ne_true}
use Rattle.std.proofs.lemmas.List.Sums.{take_while-cons}
use Rattle.b1_model.specs.declared.naming.Key.{Key}
use Rattle.b1_model.specs.declared.naming.NodeRef.{NodeRef}
use Rattle.b1_model.specs.declared.naming.Opening.{Opening}
use Rattle.b1_model.specs.declared.parts.Slot.{Slot}
use Rattle.b1_model.specs.declared.parts.Slot.TheVariants as slot
use Rattle.b1_model.specs.declared.entries.Entry.{Entry}
use Rattle.b1_model.specs.declared.entries.Entry.TheVariants.{Message, OwnNotice, ForeignNotice, ReleaseNotice}
use Rattle.b1_model.specs.declared.answers.Receipt.{Receipt}
use Rattle.b1_model.specs.declared.answers.Receipt.TheVariants as receipt
use Rattle.b1_model.specs.declared.answers.Front.TheVariants.{Absent}
use Rattle.b1_model.specs.declared.commands.Command.TheVariants as cmd
use Rattle.b1_model.specs.Names.{invalid}
use Rattle.b1_model.specs.MachineParts.{PeerPart, DriverPart, State, same_ref, key_before, is_staged, is_data, record_or_none, node_at, no_node, carried, slots_of}
use Rattle.b1_model.specs.MachinePool.{published}
use Rattle.b1_model.specs.MachineTables as tables
use Rattle.b1_model.specs.MachineTables.{changed, notice_taken}
use Rattle.b1_model.specs.MachineReceive as machine
use Rattle.b1_model.specs.MachineReceive.{discards, discarded, slot_arrives, front_by, front_taken, received_part}
use Rattle.b1_model.specs.MachineDriver.{recv_answer}
use Rattle.b1_step.specs.Rights.{Has}
use Rattle.b1_step.specs.Ordered.{Rising, Ascending}
use Rattle.b1_step.proofs.Lists.{has_left, has_right, map_set}
use Rattle.b1_step.proofs.Lookups.{rising_changed, other_changed}
use Rattle.b1_step.proofs.Orders.{behind_has, same_ref_is}
use Rattle.b1_inv.specs.Words.{IsPeer, IsDriver}
use Rattle.b1_inv.specs.Numbers.{AreNumbered}
use Rattle.b1_inv.specs.References.{AreFilled, times_in, carried_times}
use Rattle.b1_inv.specs.Sound.{IsSound}
use Rattle.b1_inv_refs.proofs.Views.{Handles, or_none, held_same}
use Rattle.b1_inv_refs.proofs.Numbered.{numbers_same}
use Rattle.b1_inv_refs.proofs.Tables.{at_discards}
use Rattle.b1_inv_refs.proofs.Flying.{numbers_closed}
use Rattle.b1_inv_refs.proofs.Arrivals.{flight_in, carried_cons, slots_rest, passes, queue_parts, Cleared, is_cleared}
use Rattle.b1_inv_record.specs.Right.{IsRight}
use Rattle.b1_serial_bus.specs.Parts.{HeldLine, Part, Bus, called}
use Rattle.b1_serial_bus.specs.Named.{line_of}
use Rattle.b1_serial_bus.specs.Arrival.{arrived, held_number, made_dead, taken_entry}
use Rattle.b1_serial_bus.specs.Receive.{is_for_nobody, without_discards, cleared, receipt_called, received_from, received}
use Rattle.b1_serial_rest.specs.Standing.{own_of, part_of, lines_of}
use Rattle.b1_serial_rest.specs.Rest.{AtRest}
use Rattle.b1_serial_rest.proofs.Records.{lines_held}
use Rattle.b1_serial_own.proofs.Abroad.{has_line}
use Rattle.b1_serial_own.proofs.Marked.{marked_none, lines_marked, line_number}
use Rattle.b1_serial_own.proofs.Arrives.{own_number_is, CanArrive, slots_alike}
use Rattle.b1_serial_own.proofs.Safe.{sent_untaken, own_untaken, attached_alive, none_before}

-- ---- what is for nobody

none_is : {X : Type 0} (r : Option X) (n : ℕ) → is_some r ≡ nat_lt 0 n → is_none r ≡ (n == 0)
none_is None n is = let most = ltb-false 0 n (sym is) in sym (eq-eqb n 0 (omega (arith, most)))
none_is (Some x) n is = let less = ltb-true 0 n (sym is) in sym (ne_eqb n 0 (λ e. absurd (omega (arith, less, e))))

module _ (hs : Handles) (given : ℕ) (up : Rising hs) (numbered : AreNumbered given hs) where
  -- a node has a line where its record is held
  line_held : (n : NodeRef) → is_some (line_of n (lines_of hs)) ≡ nat_lt 0 (record_or_none n hs).held
  line_held n = has_line n given hs up numbered ∙ ap (nat_lt 0) (lines_held n hs up numbered.unheld)

  pub unheld_alike : (n : NodeRef) → is_none (line_of n (lines_of hs)) ≡ ((record_or_none n hs).held == 0)
  unheld_alike n = none_is (line_of n (lines_of hs)) (record_or_none n hs).held (line_held n)

  -- a mark that no line shows
  unheld_marked : (n : NodeRef) → (record_or_none n hs).held ≡ 0 → lines_of (changed n tables.made_dead hs) ≡ lines_of hs
  unheld_marked n none =
      lines_marked n hs up (λ h k there is. (numbered.held h k there is).0)
      ∙ marked_none n (lines_of hs) (line_held n ∙ ap (nat_lt 0) none)

-- what is left of a box behind the discards
discards_alike : (y : Part) (test : Key × Entry → Bool) (queue : List (Key × Entry)) → ((f : Key × Entry) → Has queue f → test f ≡ is_for_nobody y f.1) → without_discards y queue ≡ drop (length (take_while test queue)) queue
discards_alike y test [] same = refl
discards_alike y test (f ∷ rest) same =
    ap (λ b. cond b (without_discards y rest) (f ∷ rest)) (sym (same f (inl refl)))
    ∙ by (discards_alike y test rest (λ g there. same g (inr there))) (test f)
    ∙ ap (λ l. drop (length l) (f ∷ rest)) (sym (take_while-cons test f rest))
  where
    by : without_discards y rest ≡ drop (length (take_while test rest)) rest → (b : Bool) → cond b (without_discards y rest) (f ∷ rest) ≡ drop (length (cond b (f ∷ take_while test rest) [])) (f ∷ rest)
    by further true = further
    by further false = refl

-- ---- the discards

-- a notice of a node that isn't held
pub record IsNobodys (hs : Handles) (f : Key × Entry) : Type 0 where
  pub node : NodeRef
  pub index : ℕ
  pub is : f.1 ≡ ForeignNotice node index
  pub unheld : (record_or_none node hs).held ≡ 0

nobodys_then : (n : NodeRef) (hs : Handles) (f : Key × Entry) → Rising hs → IsNobodys hs f → IsNobodys (changed n tables.made_dead hs) f
nobodys_then n hs f up k = record { node = k.node; index = k.index; is = k.is; unheld = held_same tables.made_dead (λ h. refl) (λ h. refl) n k.node hs up ∙ k.unheld }

module _ (d : DriverPart) where
  abbrev after_discards : PeerPart → List (Key × Entry) → PeerPart
  after_discards z es = fold (λ y f. discarded y f.1) z es

  -- no peer of the bus shows them, and they give nothing up
  pub discards_shown : (es : List (Key × Entry)) (z : PeerPart) → Rising z.handles → AreNumbered z.given z.handles → ((f : Key × Entry) → Has es f → IsNobodys z.handles f)
      → (part_of (after_discards z es) d ≡ part_of z d) × ((after_discards z es).dead ≡ z.dead)
  discards_shown [] z up numbered nobodys = (refl, refl)
  discards_shown (f ∷ rest) z up numbered nobodys =
      let k = nobodys f (inl refl) in
      let one : discarded z f.1 ≡ record z { handles = changed k.node tables.made_dead z.handles } = ap (discarded z) k.is in
      let further = discards_shown rest (record z { handles = changed k.node tables.made_dead z.handles }) (rising_changed k.node tables.made_dead (λ h. refl) z.handles up)
      (numbers_same z.given k.node tables.made_dead (λ h. refl) (λ h. refl) (λ h. refl) z.handles numbered)
      (λ g there. nobodys_then k.node z.handles g up (nobodys g (inr there))) in (
        ap (λ v. part_of (after_discards v rest) d) one ∙ further.0 ∙ ap (λ ls. record (part_of z d) { lines = ls }) (unheld_marked z.handles z.given up numbered k.node k.unheld),
        ap (λ v. (after_discards v rest).dead) one ∙ further.1,
      )

  -- and mark no other record
  pub discards_alive : (m : NodeRef) (es : List (Key × Entry)) (z : PeerPart) → ((f : Key × Entry) → Has es f → IsNobodys z.handles f) → ((f : Key × Entry) (index : ℕ) → Has es f → f.1 ≡ ForeignNotice m index → ⊥) → Rising z.handles → (record_or_none m z.handles).dead ≡ false → (record_or_none m (after_discards z es).handles).dead ≡ false
  discards_alive m [] z nobodys others up alive = alive
  discards_alive m (f ∷ rest) z nobodys others up alive =
      let k = nobodys f (inl refl) in
      let one : discarded z f.1 ≡ record z { handles = changed k.node tables.made_dead z.handles } = ap (discarded z) k.is in
      let apart : same_ref k.node m ≡ false = false_from_ne_true (same_ref k.node m) (λ same. others f k.index (inl refl) (k.is ∙ ap (λ n. ForeignNotice n k.index) (same_ref_is k.node m same))) in
      ap (λ v. (record_or_none m (after_discards v rest).handles).dead) one
      ∙ discards_alive m rest (record z { handles = changed k.node tables.made_dead z.handles })
      (λ g there. nobodys_then k.node z.handles g up (nobodys g (inr there)))
      (λ g index there is. others g index (inr there) is)
      (rising_changed k.node tables.made_dead (λ h. refl) z.handles up)
      (ap (λ r. (or_none m r).dead) (other_changed k.node tables.made_dead (λ h. refl) m apart z.handles) ∙ alive)

-- an entry before another one in a queue
pub key_in_front : (xs ys : List (Key × Entry)) (f g : Key × Entry) → Ascending (xs ++ f ∷ ys) → Has xs g → key_before g.0 f.0 ≡ true
key_in_front [] ys f g up there = absurd there
key_in_front (h ∷ xs) ys f g up (inl same) = ap (λ z. key_before z.0 f.0) same ∙ behind_has h.0 (xs ++ f ∷ ys) f up.0 (has_right xs (f ∷ ys) f (inl refl))
key_in_front (h ∷ xs) ys f g up (inr there) = key_in_front xs ys f g up.1 there

-- ---- the front

module _ (q : ℕ) (d : DriverPart) (c : PeerPart) (up : Rising c.handles) (numbered : AreNumbered c.given c.handles) (none : c.dead ≡ []) where
  abbrev Alike : Key → Entry → Type 0
  Alike k e = (taken_entry k e (part_of c d) ≡ ((machine.taken_entry c k e).0, part_of (machine.taken_entry c k e).1 d)) × ((machine.taken_entry c k e).1.dead ≡ [])

  notice_number : (n : NodeRef) → held_number (part_of c d) n ≡ unwrap_or (record_or_none n c.handles).number invalid
  notice_number n = at (line_of n (lines_of c.handles)) ∙ ap (λ r. unwrap_or r invalid) (line_number n c.handles up)
    where
      at : (r : Option HeldLine) → elim r [ None ↦ invalid | Some l ↦ l.number ] ≡ unwrap_or (option_map (λ l. l.number) r) invalid
      at None = refl
      at (Some l) = refl

  pub taken_alike : (k : Key) (e : Entry) → CanArrive q (carried e) (slots_of e) c → Alike k e
  taken_alike k (Message origin user index serial offset len nodes slots handles payload) can =
      let start : machine.Arriving = record { part = record c { slices = published offset c.slices }; numbers = []; refs = [] } in
      let same = slots_alike q d nodes slots start (record { me = can.me; rising = can.rising; numbered = can.numbered; filled = can.filled; flies = can.flies; alive = can.alive; untaken = can.untaken }) in (
        ap (λ n. (receipt.Message k n offset (arrived nodes slots (part_of start.part d)).numbers payload, (arrived nodes slots (part_of start.part d)).part)) (own_number_is c d serial)
            ∙ ap (λ a. (receipt.Message k (node_at c serial).number offset a.numbers payload, a.part)) same.0,
        ap (λ refs. machine.with_item refs (fold slot_arrives start (zip nodes slots)).part.dead) same.1 ∙ (slots_rest nodes slots start).dead ∙ none,
      )
  taken_alike k (OwnNotice serial index) can = (
    ap (λ n. (receipt.Destroyed k n, part_of c d)) (own_number_is c d serial)
        ∙ ap (λ nodes. (receipt.Destroyed k (node_at c serial).number, record (part_of c d) { nodes = nodes })) (sym (map_set own_of c.nodes serial (notice_taken (get_or c.nodes serial no_node)) no_node refl)),
    none,
  )
  taken_alike k (ForeignNotice node index) can = (
    ap (λ n. (receipt.Destroyed k n, record (part_of c d) { lines = map (made_dead node) (lines_of c.handles) })) (notice_number node)
        ∙ ap (λ ls. (receipt.Destroyed k (unwrap_or (record_or_none node c.handles).number invalid), record (part_of c d) { lines = ls })) (sym (lines_marked node c.handles up (λ h n there is. (numbered.held h n there is).0))),
    none,
  )
  taken_alike k (ReleaseNotice serial) can = (ap (λ n. (receipt.Released k.stamp n, part_of c d)) (own_number_is c d serial), none)

-- a notice carries nothing
carried_none : (e : Entry) → is_data e ≡ false → carried e ≡ []
carried_none (Message origin user index serial offset len nodes slots handles payload) is = absurd (cc is)
carried_none (OwnNotice serial index) is = refl
carried_none (ForeignNotice node index) is = refl
carried_none (ReleaseNotice serial) is = refl

slots_none : (e : Entry) (r : NodeRef × Slot) → is_data e ≡ false → Has (zip (carried e) (slots_of e)) r → ⊥
slots_none (Message origin user index serial offset len nodes slots handles payload) r is there = cc is
slots_none (OwnNotice serial index) r is there = there
slots_none (ForeignNotice node index) r is there = there
slots_none (ReleaseNotice serial) r is there = there

-- ---- a whole attempt

module _ {o : Opening} {s : State} {bus : Bus} (p : ℕ) (x : PeerPart) (d : DriverPart) (sound : IsSound o s) (right : IsRight o s) (rest : AtRest o s bus) (is_x : IsPeer s p x) (is_d : IsDriver s p d) where
  up : Rising x.handles
  up = sound.rising p x is_x

  numbered : AreNumbered x.given x.handles
  numbered = sound.numbers.numbered p x is_x

  abbrev test : Key × Entry → Bool
  test f = not (is_staged f) && machine.is_for_nobody x f.1

  test_alike : (f : Key × Entry) → Has x.queue f → test f ≡ is_for_nobody (part_of x d) f.1
  test_alike f there = ap (λ b. not b && machine.is_for_nobody x f.1) (rest.quiet.committed p x f is_x there) ∙ by f there
    where
      by : (f : Key × Entry) → Has x.queue f → machine.is_for_nobody x f.1 ≡ is_for_nobody (part_of x d) f.1
      by (k, Message origin user index serial offset len nodes slots handles payload) there = sent_untaken p x d sound right rest is_x is_d (k, Message origin user index serial offset len nodes slots handles payload) serial there refl
      by (k, OwnNotice serial index) there = refl
      by (k, ForeignNotice node index) there = sym (unheld_alike x.handles x.given up numbered node)
      by (k, ReleaseNotice serial) there = refl

  discard_there : (f : Key × Entry) → Has (discards x) f → Has x.queue f
  discard_there f there = subst (λ l. Has l f) (sym (queue_parts x)) (has_left (discards x) (machine.cleared x).queue f there)

  nobodys : (f : Key × Entry) → Has (discards x) f → IsNobodys x.handles f
  nobodys f there = by f (discard_there f there) (and_parts (not (is_staged f)) (machine.is_for_nobody x f.1) (passes test x.queue f there)).1
    where
      by : (f : Key × Entry) → Has x.queue f → machine.is_for_nobody x f.1 ≡ true → IsNobodys x.handles f
      by (k, Message origin user index serial offset len nodes slots handles payload) queued is =
          absurd (cc (sym is ∙ sent_untaken p x d sound right rest is_x is_d (k, Message origin user index serial offset len nodes slots handles payload) serial queued refl))
      by (k, OwnNotice serial index) queued is = absurd (cc is)
      by (k, ForeignNotice node index) queued is = record { node = node; index = index; is = refl; unheld = eqb-true (record_or_none node x.handles).held 0 is }
      by (k, ReleaseNotice serial) queued is = absurd (cc is)

  -- the part after the removals
  abbrev c : PeerPart
  c = machine.cleared x

  abbrev start : PeerPart
  start = record x { queue = drop (length (discards x)) x.queue }

  cleared_parts : (part_of c d ≡ part_of start d) × (c.dead ≡ x.dead)
  cleared_parts = discards_shown d (discards x) start up numbered nobodys

  pub cleared_alike : cleared (part_of x d) ≡ part_of c d
  cleared_alike = ap (λ box. record (part_of x d) { box = box }) (discards_alike (part_of x d) test x.queue test_alike) ∙ sym cleared_parts.0

  pub cleared_none : c.dead ≡ []
  cleared_none = cleared_parts.1 ∙ rest.quiet.given_up p x is_x

  left : Cleared x
  left = is_cleared x up

  c_numbered : AreNumbered c.given c.handles
  c_numbered = at_discards AreNumbered _ numbers_closed (discards x) start numbered

  module _ (f : Key × Entry) (behind : List (Key × Entry)) (is : c.queue ≡ f ∷ behind) where
    split : x.queue ≡ discards x ++ f ∷ behind
    split = queue_parts x ∙ ap (λ l. discards x ++ l) is

    front_there : Has x.queue f
    front_there = subst (λ l. Has l f) (sym split) (has_right (discards x) (f ∷ behind) f (inl refl))

    ordered : Ascending (discards x ++ f ∷ behind)
    ordered = subst Ascending split (right.parts.keys.ascending p x is_x)

    alive : (n : NodeRef) → Has (zip (carried f.1) (slots_of f.1)) (n, slot.Attached) → (record_or_none n c.handles).dead ≡ false
    alive n in_it =
        discards_alive d n (discards x) start nobodys
        (λ g index there notice. none_before p x d sound right rest is_x is_d f n g.0 index front_there in_it (subst (Has x.queue) (ap (λ e. (g.0, e)) notice) (discard_there g there)) (key_in_front (discards x) behind f g ordered there))
        up (attached_alive p x d sound right rest is_x is_d f n front_there in_it)

    can : is_data f.1 ≡ true → CanArrive p (carried f.1) (slots_of f.1) (record c { queue = behind })
    can data_is = record {
      me = left.me ∙ (sound.numbered.peers p x is_x).me;
      rising = left.rising;
      numbered = c_numbered;
      filled = sound.slots.filled p x f is_x front_there data_is (rest.quiet.committed p x f is_x front_there);
      flies = λ m apart.
          let flies = left.flight m (λ e. apart (e ∙ (sound.numbered.peers p x is_x).me)) (sound.flights.counted p x m is_x apart) in
          let queue = ap (carried_times m) is in
          let one = carried_cons m f behind in
          omega (arith, flies, queue, one);
      alive = alive;
      untaken = λ n in_it. ap (λ ns. (get_or ns n.serial no_node).taken) left.nodes ∙ own_untaken p x d sound right rest is_x is_d f n front_there in_it;
    }

  filled_none : (e : Entry) → is_data e ≡ false → AreFilled p (carried e) (slots_of e)
  filled_none (Message origin user index serial offset len nodes slots handles payload) is = absurd (cc is)
  filled_none (OwnNotice serial index) is = tt
  filled_none (ForeignNotice node index) is = tt
  filled_none (ReleaseNotice serial) is = tt

  -- the front arrives alike
  front_can : (f : Key × Entry) (behind : List (Key × Entry)) → c.queue ≡ f ∷ behind → CanArrive p (carried f.1) (slots_of f.1) (record c { queue = behind })
  front_can f behind is = by (is_data f.1) refl
    where
      by : (b : Bool) → is_data f.1 ≡ b → CanArrive p (carried f.1) (slots_of f.1) (record c { queue = behind })
      by true data_is = can f behind is data_is
      by false notice = record {
        me = left.me ∙ (sound.numbered.peers p x is_x).me;
        rising = left.rising;
        numbered = c_numbered;
        filled = filled_none f.1 notice;
        flies = λ m apart. subst (λ l. times_in m l ≤ flight_in m c.handles) (sym (carried_none f.1 notice)) (omega arith);
        alive = λ n in_it. absurd (slots_none f.1 (n, slot.Attached) notice in_it);
        untaken = λ n in_it. absurd (slots_none f.1 (n, slot.Own) notice in_it);
      }

  -- what is received, of a queue of which the removals are gone
  front_alike : (queue : List (Key × Entry)) (n : ℕ) → c.queue ≡ queue
      → (received_from queue (part_of c d) ≡ called cmd.Recv (recv_answer (record { front = (front_taken c queue).0; removed = n })) (part_of (front_taken c queue).1 d)) × ((front_taken c queue).1.dead ≡ [])
  front_alike [] n is = (refl, cleared_none)
  front_alike (f ∷ behind) n is =
      let there : Has x.queue f = front_there f behind is in
      let unstaged = rest.quiet.committed p x f is_x there in
      let k = taken_alike p d (record c { queue = behind }) left.rising c_numbered cleared_none f.0 f.1 (front_can f behind is) in (
        ap receipt_called k.0 ∙ ap (λ b. called cmd.Recv (recv_answer (record { front = (front_by b c f behind).0; removed = n })) (part_of (front_by b c f behind).1 d)) (sym unstaged),
        ap (λ b. (front_by b c f behind).1.dead) unstaged ∙ k.1,
      )

  -- the peer after an attempt, and nothing is to be given up
  pub received_alike : received (part_of x d) ≡ called cmd.Recv (recv_answer (machine.received x)) (part_of (received_part x) d)
  received_alike = ap (λ z. received_from z.box z) cleared_alike ∙ (front_alike c.queue (length (discards x)) refl).0

  pub received_none : (received_part x).dead ≡ []
  received_none = (front_alike c.queue (length (discards x)) refl).1

  -- where nothing is left but what is for nobody
  pub left_empty : (cleared (part_of x d)).box ≡ [] → c.queue ≡ []
  left_empty none = sym (ap (λ z. z.box) cleared_alike) ∙ none

  pub nothing_left : (cleared (part_of x d)).box ≡ [] → ((machine.received x).front ≡ Err Absent) × (received_part x ≡ c) × (length x.queue ≡ length (discards x))
  nothing_left none =
      let empty = left_empty none in (
        ap (λ queue. (front_taken c queue).0) empty,
        ap (λ queue. (front_taken c queue).1) empty,
        ap length (queue_parts x ∙ ap (λ l. discards x ++ l) empty ∙ append-nil (discards x)),
      )

  -- where something is left, an answer is got
  pub something_left : (f : Key × Entry) (behind : List (Key × Entry)) → c.queue ≡ f ∷ behind → (r : Receipt) × ((machine.received x).front ≡ Ok r)
  something_left f behind is = (
    (machine.taken_entry (record c { queue = behind }) f.0 f.1).0,
    ap (λ queue. (front_taken c queue).0) is ∙ ap (λ b. (front_by b c f behind).0) (rest.quiet.committed p x f is_x (front_there f behind is)),
  )
