-- The attaches of a SEND: each carried handle at each accepted place, by its owner's answer.
use Rattle.std.proofs.Common.{◌≡◌, refl, sym, ap, ap₂, ◌∙◌, subst, inl, inr, ℕ, zero, suc, ◌+◌, ◌<◌, ◌==◌, ◌&&◌, ◌⊎◌, max, Bool, true, false, cond, nat_lt, List, [], ◌∷◌, ◌++◌, map, le_of_eq, fold, filter_map, length, set, zip, get_or, Option, Some, None, is_some, arith}
use Rattle.std.specs.Prelude.{slice_get}
use Rattle.std.specs.List.{cons_option}
use Rattle.std.proofs.lemmas.Bool.{lt-ltb, eq-eqb, ne_eqb, cases_eq}
use Rattle.std.proofs.lemmas.List.{append_assoc, append-nil, length-append, set-set, get_or-set_same, map-append}
use Rattle.std.proofs.lemmas.Option.{get_or_from_slice_get, slice_get_within}
use Rattle.std.proofs.lemmas.List.Sums.{fold-append}
use Rattle.b1_model.specs.declared.naming.NodeRef.{NodeRef}
use Rattle.b1_model.specs.declared.naming.Opening.{Opening}
use Rattle.b1_model.specs.declared.commands.Command.TheVariants as cmd
use Rattle.b1_model.specs.declared.commands.SendCmd.{SendCmd}
use Rattle.b1_model.specs.declared.parts.Begun.{Begun}
use Rattle.b1_model.specs.declared.parts.NodeState.{NodeState}
use Rattle.b1_model.specs.declared.parts.NodeState.TheVariants.{Live, Dying, Destroyed}
use Rattle.b1_model.specs.declared.parts.Attach.{Attach}
use Rattle.b1_model.specs.declared.parts.Attach.TheVariants as attach
use Rattle.b1_model.specs.declared.parts.Slot.{Slot}
use Rattle.b1_model.specs.declared.parts.Slot.TheVariants as slot
use Rattle.b1_model.specs.declared.answers.Reason.{Reason}
use Rattle.b1_model.specs.declared.events.Phase.{Phase}
use Rattle.b1_model.specs.declared.events.Phase.TheVariants.{Attaching, Stamping}
use Rattle.b1_model.specs.declared.events.Sending.{Sending}
use Rattle.b1_model.specs.MachineParts.{PeerPart, DriverPart, NodePart, State, no_node, node_at, is_dying}
use Rattle.b1_model.specs.MachineTables.{with_node, counted}
use Rattle.b1_model.specs.MachineSend.{attach_by, attach_answer, attached_by, attached}
use Rattle.b1_model.specs.MachineDriver.{Turn, Goes, no_ref, node_of_place, accepted_from, is_place, attaching, slot_of, collected_with, with_slot}
use Rattle.b1_model.specs.MachineTook.{took, turned}
use Rattle.b1_model.specs.MachineEvents.{attach_event}
use Rattle.b1_model.specs.MachineStep.{effect}
use Rattle.b1_schedule.specs.Shortage.{Shortage, is_short}
use Rattle.b1_step.specs.Rights.{Has}
use Rattle.b1_serial_bus.specs.Parts.{Bus}
use Rattle.b1_serial_bus.specs.Lives.{destroyed_in}
use Rattle.b1_serial_bus.specs.Letters.{Letter, Places}
use Rattle.b1_serial_bus.specs.Delivery.{slot_for}
use Rattle.b1_serial_rest.specs.Standing.{stamp_of, part_of}
use Rattle.b1_serial_send.proofs.Midway.{over, attach_at, attach_all, sending_driver, midway}
use Rattle.b1_serial_send.proofs.Lists.{over_keeps, over_one, over_none}
use Rattle.b1_serial_send.proofs.Parts.{Placed, at_keeps}
use Rattle.b1_serial_send.proofs.Goes.{WillEnd, goes, same_parts}
use Rattle.b1_serial_send.proofs.Answers.{destroyed_so}
use Rattle.b1_serial_send.proofs.Accepted.{not_below, none_left, set_middle, set_itself, place_to, refused_from, accepted_at, is_place_at, places_back}
use Rattle.b1_serial_send.proofs.Staging.{turned_to, turned_so}

-- ---- slots

abbrev pub no_slots : List NodeRef → List Slot
no_slots nodes = map (λ node. slot.Unattached) nodes

-- the slots of a place that was done
abbrev pub row : Bus → List NodeRef → NodeRef → Option Reason → List Slot
row bus nodes to None = map (slot_for bus to.owner) nodes
row bus nodes to (Some r) = no_slots nodes

-- the slots of all places, where the first ones were done
abbrev pub rows : Bus → List NodeRef → List NodeRef → Places → List (List Slot)
rows bus nodes [] before = []
rows bus nodes (t ∷ ts) [] = no_slots nodes ∷ rows bus nodes ts []
rows bus nodes (t ∷ ts) (a ∷ rest) = row bus nodes t a ∷ rows bus nodes ts rest

module _ (bus : Bus) (nodes : List NodeRef) where
  pub rows_none_done : (tos : List NodeRef) → map (λ to. no_slots nodes) tos ≡ rows bus nodes tos []
  rows_none_done [] = refl
  rows_none_done (t ∷ ts) = ap (λ rs. no_slots nodes ∷ rs) (rows_none_done ts)

  pub rows_len : (tos : List NodeRef) (before : Places) → length (rows bus nodes tos before) ≡ length tos
  rows_len [] before = refl
  rows_len (t ∷ ts) [] = ap suc (rows_len ts [])
  rows_len (t ∷ ts) (a ∷ rest) = ap suc (rows_len ts rest)

  pub rows_next : (tos : List NodeRef) (before : Places) (to : NodeRef) → slice_get tos (length before) ≡ Some to → get_or (rows bus nodes tos before) (length before) [] ≡ no_slots nodes
  rows_next [] [] to is = absurd (cc is)
  rows_next [] (a ∷ rest) to is = absurd (cc is)
  rows_next (t ∷ ts) [] to is = refl
  rows_next (t ∷ ts) (a ∷ rest) to is = rows_next ts rest to is

  pub rows_one : (tos : List NodeRef) (before : Places) (to : NodeRef) → slice_get tos (length before) ≡ Some to → set (rows bus nodes tos before) (length before) (map (slot_for bus to.owner) nodes) ≡ rows bus nodes tos (before ++ None ∷ [])
  rows_one [] [] to is = absurd (cc is)
  rows_one [] (a ∷ rest) to is = absurd (cc is)
  rows_one (t ∷ ts) [] to is = ap (λ z. map (slot_for bus z.owner) nodes ∷ rows bus nodes ts []) (sym (same t to is))
    where
      same : (t to : NodeRef) → Some t ≡ Some to → t ≡ to
      same t to is = cc is
  rows_one (t ∷ ts) (a ∷ rest) to is = ap (λ rs. row bus nodes t a ∷ rs) (rows_one ts rest to is)

  pub rows_refused : (tos : List NodeRef) (before : Places) (r : Reason) → rows bus nodes tos before ≡ rows bus nodes tos (before ++ Some r ∷ [])
  rows_refused [] before r = refl
  rows_refused (t ∷ ts) [] r = refl
  rows_refused (t ∷ ts) (a ∷ rest) r = ap (λ rs. row bus nodes t a ∷ rs) (rows_refused ts rest r)

  -- the slots of an accepted place
  pub rows_at : (tos : List NodeRef) (before rest : Places) (to : NodeRef) → slice_get tos (length before) ≡ Some to → get_or (rows bus nodes tos (before ++ None ∷ rest)) (length before) [] ≡ map (slot_for bus to.owner) nodes
  rows_at [] [] rest to is = absurd (cc is)
  rows_at [] (a ∷ before) rest to is = absurd (cc is)
  rows_at (t ∷ ts) [] rest to is = ap (λ z. map (slot_for bus z.owner) nodes) (same t to is)
    where
      same : (t to : NodeRef) → Some t ≡ Some to → t ≡ to
      same t to is = cc is
  rows_at (t ∷ ts) (a ∷ before) rest to is = rows_at ts before rest to is

-- ---- what attaches leave

pub eqb_turned : (a b : ℕ) → a == b ≡ b == a
eqb_turned a b = by (cases_eq a b)
  where
    by : (a ≡ b) ⊎ (a ≡ b → ⊥) → a == b ≡ b == a
    by (inl same) = eq-eqb a b same ∙ sym (eq-eqb b a (sym same))
    by (inr apart) = ne_eqb a b apart ∙ sym (ne_eqb b a (λ e. apart (sym e)))

-- counting a reference leaves each node's life
counted_state : (nodes : List NodePart) (i j dest : ℕ) → (get_or (with_node i (counted dest) nodes) j no_node).state ≡ (get_or nodes j no_node).state
counted_state [] i j dest = refl
counted_state (n ∷ ns) zero zero dest = refl
counted_state (n ∷ ns) zero (suc j) dest = refl
counted_state (n ∷ ns) (suc i) zero dest = refl
counted_state (n ∷ ns) (suc i) (suc j) dest = counted_state ns i j dest

attached_state : (a : Attach) (x : PeerPart) (serial dest j : ℕ) → (node_at (attached_by a x serial dest) j).state ≡ (node_at x j).state
attached_state attach.Counted x serial dest j = counted_state x.nodes serial j dest
attached_state attach.Own x serial dest j = refl
attached_state (attach.Void stamp) x serial dest j = refl

attached_me : (a : Attach) (x : PeerPart) (serial dest : ℕ) → (attached_by a x serial dest).me ≡ x.me
attached_me attach.Counted x serial dest = refl
attached_me attach.Own x serial dest = refl
attached_me (attach.Void stamp) x serial dest = refl

pub attach_state : (dest : ℕ) (node : NodeRef) (x : PeerPart) (j : ℕ) → (node_at (attach_at dest node x) j).state ≡ (node_at x j).state
attach_state dest node x j = at_keeps (λ z. (node_at z j).state) node.owner (λ z. attached z node.serial dest) x (attached_state (attach_answer x node.serial dest) x node.serial dest j)

pub attach_me : (dest : ℕ) (node : NodeRef) (x : PeerPart) → (attach_at dest node x).me ≡ x.me
attach_me dest node x = at_keeps (λ z. z.me) node.owner (λ z. attached z node.serial dest) x (attached_me (attach_answer x node.serial dest) x node.serial dest)

-- what each attach keeps all keep
pub attaches_keep : {Y : Type 0} (view : PeerPart → Y) → ((dest : ℕ) (node : NodeRef) (x : PeerPart) → view (attach_at dest node x) ≡ view x) → (dest : ℕ) (nodes : List NodeRef) (x : PeerPart) → view (fold (λ y node. attach_at dest node y) x nodes) ≡ view x
attaches_keep view keeps dest [] x = refl
attaches_keep view keeps dest (n ∷ rest) x = attaches_keep view keeps dest rest (attach_at dest n x) ∙ keeps dest n x

-- an owner's answer is the slot of the serial bus
answer_slot : (state : NodeState) (own : Bool) → is_dying state ≡ false → slot_of (attach_by state own) ≡ cond (is_some (stamp_of state)) slot.Void (cond own slot.Own slot.Attached)
answer_slot Live true living = refl
answer_slot Live false living = refl
answer_slot Dying own dying = absurd (cc dying)
answer_slot (Destroyed stamp) own living = refl

answer_clock : (state : NodeState) (own : Bool) (k : ℕ) → is_dying state ≡ false → collected_with k (attach_by state own) ≡ elim (stamp_of state) [ None ↦ k | Some stamp ↦ max k stamp ]
answer_clock Live true k living = refl
answer_clock Live false k living = refl
answer_clock Dying own k dying = absurd (cc dying)
answer_clock (Destroyed stamp) own k living = refl

-- ---- the attaches

module _ (o : Opening) (m : Shortage) (p : ℕ) (target : Bus) (s : State) (d : DriverPart) (c : SendCmd) (begun : Begun)
    (placed : Placed s.peers) (is_driver : slice_get s.drivers p ≡ Some d)
    (f : PeerPart → PeerPart) (bus : Bus)
    (g : PeerPart → PeerPart) (g_keeps : (y : PeerPart) → (g y).me ≡ y.me) (g_lives : (y : PeerPart) (j : ℕ) → (node_at (g y) j).state ≡ (node_at (f y) j).state)
    (final : Places) (len : length final ≡ length begun.to) (first : ℕ) where
  -- a carried node that was made and isn't dying, its owner's part, and its owner in the serial bus
  abbrev Carried : NodeRef → Type 0
  Carried node = (x : PeerPart) × (w : DriverPart) × (slice_get s.peers node.owner ≡ Some x) × (slice_get bus node.owner ≡ Some (part_of (f x) w))
      × (node.serial < length (f x).nodes) × (is_dying (node_at (f x) node.serial).state ≡ false)

  abbrev sending : List (List Slot) → ℕ → Sending
  sending slots collected = record { begun = begun; places = final; collected = collected; slots = slots }

  -- a part after the attaches of the first places
  abbrev pub after_attaches : Places → PeerPart → PeerPart
  after_attaches before x = over (attach_all begun.with) 0 (zip begun.to before) (g x)

  -- and of some handles of the next one
  abbrev within_place : Places → NodeRef → List NodeRef → PeerPart → PeerPart
  within_place before to nodes x = fold (λ y node. attach_at to.owner node y) (after_attaches before x) nodes

  -- the slots of a place, some of its handles attached
  abbrev row_within : NodeRef → List NodeRef → List NodeRef → List Slot
  row_within to nodes rest = map (slot_for bus to.owner) nodes ++ no_slots rest

  -- the clocks collected with a node
  abbrev collected_of : ℕ → List NodeRef → ℕ
  collected_of k nodes = fold max k (filter_map (destroyed_in bus) nodes)

  after_me : (before : Places) (y : PeerPart) → (after_attaches before y).me ≡ y.me
  after_me before y = over_keeps (λ z. z.me) (attach_all begun.with) (λ place to x. attaches_keep (λ z. z.me) attach_me to.owner begun.with x) 0 (zip begun.to before) (g y) ∙ g_keeps y

  within_me : (before : Places) (to : NodeRef) (nodes : List NodeRef) (y : PeerPart) → (within_place before to nodes y).me ≡ y.me
  within_me before to nodes y = attaches_keep (λ z. z.me) attach_me to.owner nodes (after_attaches before y) ∙ after_me before y

  within_lives : (before : Places) (to : NodeRef) (nodes : List NodeRef) (y : PeerPart) (j : ℕ) → (node_at (within_place before to nodes y) j).state ≡ (node_at (f y) j).state
  within_lives before to nodes y j =
      attaches_keep (λ z. (node_at z j).state) (λ dest node x. attach_state dest node x j) to.owner nodes (after_attaches before y)
      ∙ over_keeps (λ z. (node_at z j).state) (attach_all begun.with) (λ place t x. attaches_keep (λ z. (node_at z j).state) (λ dest node z. attach_state dest node z j) t.owner begun.with x) 0 (zip begun.to before) (g y)
      ∙ g_lives y j

  abbrev At : (PeerPart → PeerPart) → Turn → Type 0
  At h turn = WillEnd o m p target (midway s p (turned_to d c turn) h)

  -- ---- one attach

  module _ (before : Places) (to : NodeRef) (is_to : slice_get begun.to (length before) ≡ Some to) (nodes : List NodeRef) (node : NodeRef) (rest : List NodeRef) (carries : begun.with ≡ nodes ++ node ∷ rest) (there : Carried node) (k : ℕ) where
    abbrev base : List (List Slot)
    base = rows bus begun.with begun.to before

    abbrev now : Sending
    now = sending (set base (length before) (row_within to nodes (node ∷ rest))) k

    abbrev next : Sending
    next = sending (set base (length before) (row_within to (nodes ++ node ∷ []) rest)) (collected_of k (node ∷ []))

    abbrev driver_now : DriverPart
    driver_now = sending_driver d c (Attaching now (length before) (length nodes))

    abbrev x : PeerPart
    x = within_place before to nodes there.0

    abbrev got : Attach
    got = attach_answer x node.serial to.owner

    x_me : x.me ≡ node.owner
    x_me = within_me before to nodes there.0 ∙ placed node.owner there.0 there.2

    dead : destroyed_in bus node ≡ stamp_of (node_at (f there.0) node.serial).state
    dead =
        ap (λ (r : Option _). elim r [ None ↦ None | Some y ↦ elim (slice_get y.nodes node.serial) [ None ↦ None | Some n ↦ n.destroyed ] ]) there.3
        ∙ destroyed_so (f there.0) there.1 node.serial there.4 there.5

    state_is : (node_at x node.serial).state ≡ (node_at (f there.0) node.serial).state
    state_is = within_lives before to nodes there.0 node.serial

    slot_is : slot_of got ≡ slot_for bus to.owner node
    slot_is =
        ap₂ (λ st own. slot_of (attach_by st own)) state_is (ap (λ q. to.owner == q) x_me ∙ eqb_turned to.owner node.owner)
        ∙ answer_slot (node_at (f there.0) node.serial).state (node.owner == to.owner) there.5
        ∙ ap (λ r. cond (is_some r) slot.Void (cond (node.owner == to.owner) slot.Own slot.Attached)) (sym dead)

    clock_is : collected_with k got ≡ collected_of k (node ∷ [])
    clock_is =
        ap (λ st. collected_with k (attach_by st (to.owner == x.me))) state_is
        ∙ answer_clock (node_at (f there.0) node.serial).state (to.owner == x.me) k there.5
        ∙ ap (λ r. elim r [ None ↦ k | Some stamp ↦ max k stamp ]) (sym dead)
        ∙ by (destroyed_in bus node)
      where
        by : (r : Option ℕ) → elim r [ None ↦ k | Some stamp ↦ max k stamp ] ≡ fold max k (cons_option r [])
        by None = refl
        by (Some stamp) = refl

    within : length before < length base
    within = let one = rows_len bus begun.with begun.to before in let two = slice_get_within begun.to (length before) to is_to in omega (arith, one, two)

    row_is : set (get_or (set base (length before) (row_within to nodes (node ∷ rest))) (length before) []) (length nodes) (slot_of got) ≡ row_within to (nodes ++ node ∷ []) rest
    row_is =
        ap (λ r. set r (length nodes) (slot_of got)) (get_or-set_same base (length before) (row_within to nodes (node ∷ rest)) [] within)
        ∙ ap (λ i. set (row_within to nodes (node ∷ rest)) i (slot_of got)) (sym (len_map nodes))
        ∙ set_middle (map (slot_for bus to.owner) nodes) slot.Unattached (slot_of got) (no_slots rest)
        ∙ ap (λ v. map (slot_for bus to.owner) nodes ++ v ∷ no_slots rest) slot_is
        ∙ sym (append_assoc (map (slot_for bus to.owner) nodes) (slot_for bus to.owner node ∷ []) (no_slots rest))
        ∙ ap (λ r. r ++ no_slots rest) (sym (map-append (slot_for bus to.owner) nodes (node ∷ [])))
      where
        len_map : (ns : List NodeRef) → length (map (slot_for bus to.owner) ns) ≡ length ns
        len_map [] = refl
        len_map (n ∷ rest) = ap suc (len_map rest)

    next_is : with_slot now (length before) (length nodes) got ≡ next
    next_is = ap₂ (λ slots j. sending slots j) (set-set base (length before) (row_within to nodes (node ∷ rest)) _ ∙ ap (set base (length before)) row_is) clock_is

    node_is : node_of_place begun.with (length nodes) ≡ node
    node_is = ap (λ ns. get_or ns (length nodes) no_ref) carries ∙ read nodes
      where
        read : (ns : List NodeRef) → get_or (ns ++ node ∷ rest) (length ns) no_ref ≡ node
        read [] = refl
        read (n ∷ ns) = read ns

    to_is : node_of_place begun.to (length before) ≡ to
    to_is = get_or_from_slice_get begun.to (length before) to no_ref is_to

    abbrev memory : Bool
    memory = is_short m driver_now None

    effect_is : effect o memory driver_now None x ≡ (turned_to d c (Goes (attaching next (length before) (length nodes + 1))), attached x node.serial to.owner)
    effect_is =
        ap₂ (λ n t. (took driver_now (attach_event n.serial t.owner x).0, (attach_event n.serial t.owner x).1)) node_is to_is
        ∙ ap (λ z. (turned driver_now (cmd.Send c) (Goes (attaching z (length before) (length nodes + 1))), attached x node.serial to.owner)) next_is
        ∙ ap (λ e. (e, attached x node.serial to.owner)) (turned_so d c (Attaching now (length before) (length nodes)) (Goes (attaching next (length before) (length nodes + 1))))

    one_attach : At (within_place before to (nodes ++ node ∷ [])) (Goes (attaching next (length before) (length nodes + 1))) → At (within_place before to nodes) (Goes (Attaching now (length before) (length nodes)))
    one_attach =
        goes o m p target s d c placed is_driver (Attaching now (length before) (length nodes)) (within_place before to nodes) (λ y. attached y node.serial to.owner) (within_place before to (nodes ++ node ∷ []))
        node.owner there.0 _ (within_me before to nodes) there.2 (ap (λ n. n.owner) node_is) effect_is
        (λ y. sym (fold-append (λ z n. attach_at to.owner n z) (after_attaches before y) nodes (node ∷ [])))

  -- ---- the handles of one place

  same_at : (h j : PeerPart → PeerPart) (turn : Turn) → ((y : PeerPart) → h y ≡ j y) → At h turn → At j turn
  same_at h j turn same = same_parts o m p target s (turned_to d c turn) h j same

  collected_more : (k : ℕ) (node : NodeRef) (rest : List NodeRef) → collected_of (collected_of k (node ∷ [])) rest ≡ collected_of k (node ∷ rest)
  collected_more k node rest = by (destroyed_in bus node)
    where
      by : (r : Option ℕ) → fold max (fold max k (cons_option r [])) (filter_map (destroyed_in bus) rest) ≡ fold max k (cons_option r (filter_map (destroyed_in bus) rest))
      by None = refl
      by (Some stamp) = refl

  handles_attach : (before : Places) (to : NodeRef) → slice_get begun.to (length before) ≡ Some to → (rest nodes : List NodeRef) (k : ℕ) → begun.with ≡ nodes ++ rest → ((node : NodeRef) → Has rest node → Carried node)
      → At (within_place before to begun.with) (Goes (attaching (sending (set (rows bus begun.with begun.to before) (length before) (map (slot_for bus to.owner) begun.with)) (collected_of k rest)) (length before) (length begun.with)))
      → At (within_place before to nodes) (Goes (attaching (sending (set (rows bus begun.with begun.to before) (length before) (row_within to nodes rest)) k) (length before) (length nodes)))
  handles_attach before to is_to [] nodes k carries there ends =
      subst (λ ns. At (within_place before to ns) (Goes (attaching (sending (set (rows bus begun.with begun.to before) (length before) (map (slot_for bus to.owner) ns ++ [])) k) (length before) (length ns)))) (carries ∙ append-nil nodes)
      (subst (λ r. At (within_place before to begun.with) (Goes (attaching (sending (set (rows bus begun.with begun.to before) (length before) r) k) (length before) (length begun.with)))) (sym (append-nil (map (slot_for bus to.owner) begun.with))) ends)
  handles_attach before to is_to (node ∷ rest) nodes k carries there ends =
      subst (λ b. At (within_place before to nodes) (Goes (cond b (Attaching now (length before) (length nodes)) (cond (nat_lt 0 (length begun.with) && is_place (accepted_from (length before + 1) final) final) (Attaching now (accepted_from (length before + 1) final) 0) (Stamping now))))) (sym less)
      (one_attach before to is_to nodes node rest carries (there node (inl refl)) k
      (subst (λ i. At (within_place before to (nodes ++ node ∷ [])) (Goes (attaching (sending (set (rows bus begun.with begun.to before) (length before) (row_within to (nodes ++ node ∷ []) rest)) (collected_of k (node ∷ []))) (length before) i))) (length-append nodes (node ∷ []))
      (handles_attach before to is_to rest (nodes ++ node ∷ []) (collected_of k (node ∷ [])) (carries ∙ sym (append_assoc nodes (node ∷ []) rest)) (λ n in_it. there n (inr in_it))
      (subst (λ j. At (within_place before to begun.with) (Goes (attaching (sending (set (rows bus begun.with begun.to before) (length before) (map (slot_for bus to.owner) begun.with)) j) (length before) (length begun.with)))) (sym (collected_more k node rest)) ends))))
    where
      now : Sending
      now = sending (set (rows bus begun.with begun.to before) (length before) (row_within to nodes (node ∷ rest))) k

      less : nat_lt (length nodes) (length begun.with) ≡ true
      less = lt-ltb (length nodes) (length begun.with) (let one = ap length carries in let two = length-append nodes (node ∷ rest) in omega (arith, one, two))

  -- ---- all places

  -- the clocks collected with the first places
  abbrev pub collected_at : Places → ℕ
  collected_at before = fold (λ k a. elim a [ None ↦ collected_of k begun.with | Some r ↦ k ]) first before

  -- the SEND where the first places are attached
  abbrev pub attached_so_far : Places → Sending
  attached_so_far before = sending (rows bus begun.with begun.to before) (collected_at before)

  -- the phase behind the first places
  abbrev pub behind : Places → Phase
  behind before = cond (is_place (accepted_from (length before) final) final) (Attaching (attached_so_far before) (accepted_from (length before) final) 0) (Stamping (attached_so_far before))

  module _ (some : 0 < length begun.with) (carried : (node : NodeRef) → Has begun.with node → Carried node) (at_stamp : At (after_attaches final) (Goes (Stamping (attached_so_far final)))) where
    refused_place : (before rest : Places) (r : Reason) → final ≡ before ++ Some r ∷ rest → At (after_attaches (before ++ Some r ∷ [])) (Goes (behind (before ++ Some r ∷ []))) → At (after_attaches before) (Goes (behind before))
    refused_place before rest r all next =
        let to = place_to final before rest begun.to (Some r) (le_of_eq len) all in
        let same_sending : attached_so_far (before ++ Some r ∷ []) ≡ attached_so_far before =
        ap₂ (λ slots k. sending slots k) (sym (rows_refused bus begun.with begun.to before r)) (fold-append (λ k a. elim a [ None ↦ collected_of k begun.with | Some e ↦ k ]) first before (Some r ∷ [])) in
        same_at (after_attaches (before ++ Some r ∷ [])) (after_attaches before) (Goes (behind before)) (λ y. over_none letter before to.0 to.1 (attach_all begun.with) r (g y))
        (subst (λ ph. At (after_attaches (before ++ Some r ∷ [])) (Goes ph)) (ap₂ (λ k z. cond (is_place k final) (Attaching z k 0) (Stamping z)) (refused_from final before rest r all) same_sending) next)
      where
        letter : Letter
        letter = record { origin = d.me; user = 0; to = begun.to; with = begun.with; payload = c.payload }

    accepted_place : (before rest : Places) → final ≡ before ++ None ∷ rest → At (after_attaches (before ++ None ∷ [])) (Goes (behind (before ++ None ∷ []))) → At (after_attaches before) (Goes (behind before))
    accepted_place before rest all next =
        subst (λ ph. At (after_attaches before) (Goes ph)) (sym here)
        (subst (λ z. At (after_attaches before) (Goes (Attaching z (length before) 0))) unchanged
        (subst (λ b. At (after_attaches before) (Goes (cond b (Attaching start (length before) 0) (cond (b && is_place (accepted_from (length before + 1) final) final) (Attaching start (accepted_from (length before + 1) final) 0) (Stamping start))))) some_is
        (handles_attach before to.0 to.1 begun.with [] (collected_at before) refl carried
        (subst (λ ph. At (within_place before to.0 begun.with) (Goes ph)) (sym there)
        (same_at (after_attaches (before ++ None ∷ [])) (within_place before to.0 begun.with) (Goes (behind (before ++ None ∷ []))) (λ y. over_one letter before to.0 to.1 (attach_all begun.with) (g y)) next)))))
      where
        letter : Letter
        letter = record { origin = d.me; user = 0; to = begun.to; with = begun.with; payload = c.payload }

        to : (to : NodeRef) × (slice_get begun.to (length before) ≡ Some to)
        to = place_to final before rest begun.to None (le_of_eq len) all

        start : Sending
        start = sending (set (rows bus begun.with begun.to before) (length before) (no_slots begun.with)) (collected_at before)

        some_is : nat_lt 0 (length begun.with) ≡ true
        some_is = lt-ltb 0 (length begun.with) some

        unchanged : start ≡ attached_so_far before
        unchanged = ap (λ slots. sending slots (collected_at before)) (ap (set (rows bus begun.with begun.to before) (length before)) (sym (rows_next bus begun.with begun.to before to.0 to.1)) ∙ set_itself (rows bus begun.with begun.to before) (length before) [])

        here : behind before ≡ Attaching (attached_so_far before) (length before) 0
        here =
            ap (λ k. cond (is_place k final) (Attaching (attached_so_far before) k 0) (Stamping (attached_so_far before))) (accepted_at final before rest all)
            ∙ ap (λ b. cond b (Attaching (attached_so_far before) (length before) 0) (Stamping (attached_so_far before))) (is_place_at final before rest all)

        done : Sending
        done = sending (set (rows bus begun.with begun.to before) (length before) (map (slot_for bus to.0.owner) begun.with)) (collected_of (collected_at before) begun.with)

        done_is : done ≡ attached_so_far (before ++ None ∷ [])
        done_is = ap₂ (λ slots k. sending slots k) (rows_one bus begun.with begun.to before to.0 to.1) (sym (fold-append (λ k a. elim a [ None ↦ collected_of k begun.with | Some e ↦ k ]) first before (None ∷ [])))

        there : attaching done (length before) (length begun.with) ≡ behind (before ++ None ∷ [])
        there =
            ap (λ b. cond b (Attaching done (length before) (length begun.with)) (cond (nat_lt 0 (length begun.with) && is_place (accepted_from (length before + 1) final) final) (Attaching done (accepted_from (length before + 1) final) 0) (Stamping done))) (not_below (length begun.with) (length begun.with) (omega arith))
            ∙ ap (λ b. cond (b && is_place (accepted_from (length before + 1) final) final) (Attaching done (accepted_from (length before + 1) final) 0) (Stamping done)) some_is
            ∙ ap₂ (λ k z. cond (is_place (accepted_from k final) final) (Attaching z (accepted_from k final) 0) (Stamping z)) (sym (length-append before (None ∷ []))) done_is

    pub places_attach : At (after_attaches []) (Goes (behind []))
    places_attach =
        places_back final (λ before. At (after_attaches before) (Goes (behind before))) refused_place accepted_place
        (subst (λ b. At (after_attaches final) (Goes (cond b (Attaching (attached_so_far final) (accepted_from (length final) final) 0) (Stamping (attached_so_far final))))) (sym (none_left final)) at_stamp)
        final [] refl
