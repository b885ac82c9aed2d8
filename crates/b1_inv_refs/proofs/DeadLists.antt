-- A fact of each reference in a part's dead list holds after every event, where it holds of what is held and carried.
use Rattle.std.proofs.Common.{◌≡◌, ◌≢◌, refl, sym, ap, ◌∙◌, inl, inr, subst, ℕ, ◌+◌, ◌≤◌, Bool, true, false, cond, not, ◌&&◌, List, [], ◌∷◌, ◌++◌, drop, fold, filter_map, zip, find, length, Option, Some, None, option_map}
use Rattle.std.specs.List.{range_with_len, cons_option}
use Rattle.std.proofs.lemmas.Bool.{and_parts, not-true}
use Rattle.b1_model.specs.declared.naming.Key.{Key}
use Rattle.b1_model.specs.declared.naming.NodeRef.{NodeRef}
use Rattle.b1_model.specs.declared.naming.Opening.{Opening}
use Rattle.b1_model.specs.declared.parts.Slot.{Slot}
use Rattle.b1_model.specs.declared.parts.Slot.TheVariants as slot
use Rattle.b1_model.specs.declared.entries.Entry.{Entry}
use Rattle.b1_model.specs.declared.entries.Entry.TheVariants.{Message, OwnNotice, ForeignNotice, ReleaseNotice}
use Rattle.b1_model.specs.declared.events.Action.{Action}
use Rattle.b1_model.specs.declared.events.Action.TheVariants as act
use Rattle.b1_model.specs.declared.events.Doing.{Doing}
use Rattle.b1_model.specs.MachineParts.{PeerPart, DriverPart, HandleRecord, is_staged, is_data, record_or_none, carried, slots_of}
use Rattle.b1_model.specs.MachinePool.{published}
use Rattle.b1_model.specs.MachineTables.{is_number, next_number}
use Rattle.b1_model.specs.MachineReceive.{is_for_nobody, discards, discarded, cleared, references, reference_of, with_item, Arriving, reference_by, slot_arrives, taken_entry, front_by, front_taken, received_part}
use Rattle.b1_model.specs.MachineDestroy.{queued_items, held_item, held_items}
use Rattle.b1_model.specs.MachineEvents.{happens}
use Rattle.b1_step.specs.Rights.{Has}
use Rattle.b1_step.proofs.Changed.{changes}
use Rattle.b1_inv.specs.Sends.{IsFilled}
use Rattle.b1_inv.specs.References.{AreFilled}
use Rattle.b1_inv.specs.Numbers.{AreNumbered}
use Rattle.b1_inv_refs.proofs.Amounts.{Refs, Items}
use Rattle.b1_inv_refs.proofs.Arrivals.{passes, queue_parts, slots_rest}
use Rattle.b1_inv_refs.proofs.GivenUp.{found_has, number_is}
use Rattle.b1_step.proofs.Lists.{has_append, has_left, has_right}

module _ (R : NodeRef × ℕ → Type 0) where
  abbrev pub EachRef : Refs → Type 0
  EachRef refs = (r : NodeRef × ℕ) → Has refs r → R r

  abbrev pub EachDead : List Refs → Type 0
  EachDead dead = (item : Refs) → Has dead item → EachRef item

  each_item : (refs : Refs) (dead : List Refs) → EachRef refs → EachDead dead → EachDead (with_item refs dead)
  each_item [] dead new each = each
  each_item (r ∷ rest) dead new each = λ item h. elim (has_append dead ((r ∷ rest) ∷ []) item h) [
    | inl old ↦ each item old
    | inr last ↦ elim last [ inl same ↦ subst EachRef (sym same) new | inr there ↦ absurd there ]
  ]

  -- of nodes that are carried in attached slots, at a peer
  abbrev pub Carries : ℕ → List NodeRef → Type 0
  Carries q nodes = (n : NodeRef) → Has nodes n → n.owner ≢ q → R (n, 1)

  pub slot_refs : (q : ℕ) (nodes : List NodeRef) (slots : List Slot) → AreFilled q nodes slots → Carries q nodes → EachRef (filter_map reference_of (zip nodes slots))
  slot_refs q [] slots filled carries r h = absurd h
  slot_refs q (n ∷ nodes) [] filled carries r h = absurd filled
  slot_refs q (n ∷ nodes) (slot.Unattached ∷ slots) filled carries r h = absurd filled.0
  slot_refs q (n ∷ nodes) (slot.Own ∷ slots) filled carries r h = slot_refs q nodes slots filled.1 (λ m there. carries m (inr there)) r h
  slot_refs q (n ∷ nodes) (slot.Void ∷ slots) filled carries r h = slot_refs q nodes slots filled.1 (λ m there. carries m (inr there)) r h
  slot_refs q (n ∷ nodes) (slot.Attached ∷ slots) filled carries r (inl same) = subst R (sym same) (carries n (inl refl) filled.0)
  slot_refs q (n ∷ nodes) (slot.Attached ∷ slots) filled carries r (inr h) = slot_refs q nodes slots filled.1 (λ m there. carries m (inr there)) r h

  -- of the references that a taken message gives up
  one_slot : (q : ℕ) (a : Arriving) (n : NodeRef) (t : Slot) → IsFilled (record { owner = q; serial = 0 }) n t → (n.owner ≢ q → R (n, 1)) → EachRef a.refs → EachRef (slot_arrives a (n, t)).refs
  one_slot q a n slot.Unattached filled new each = absurd filled
  one_slot q a n slot.Own filled new each = each
  one_slot q a n slot.Void filled new each = each
  one_slot q a n slot.Attached filled new each = at (record_or_none n a.part.handles).dead
    where
      at : (b : Bool) → EachRef (reference_by b a n).refs
      at true = λ r h. elim (has_append a.refs ((n, 1) ∷ []) r h) [ inl old ↦ each r old | inr last ↦ elim last [ inl same ↦ subst R (sym same) (new filled) | inr there ↦ absurd there ] ]
      at false = each

  arrived_refs : (q : ℕ) (nodes : List NodeRef) (slots : List Slot) (a : Arriving) → AreFilled q nodes slots → Carries q nodes → EachRef a.refs → EachRef (fold slot_arrives a (zip nodes slots)).refs
  arrived_refs q [] slots a filled carries each = each
  arrived_refs q (n ∷ nodes) [] a filled carries each = each
  arrived_refs q (n ∷ nodes) (t ∷ slots) a filled carries each = arrived_refs q nodes slots (slot_arrives a (n, t)) filled.1 (λ m there. carries m (inr there)) (one_slot q a n t filled.0 (carries n (inl refl)) each)

  -- an entry of the queue of peer q that is committed: its slots are right, and the fact holds of what it carries
  abbrev pub Right : ℕ → Key × Entry → Type 0
  Right q f = is_data f.1 ≡ true → is_staged f ≡ false → AreFilled q (carried f.1) (slots_of f.1) × Carries q (carried f.1)

  entry_refs : (q : ℕ) (f : Key × Entry) → is_staged f ≡ false → Right q f → EachRef (references f.1)
  entry_refs q (k, Message origin user index serial offset len nodes slots handles payload) committed right = let both = right refl committed in slot_refs q nodes slots both.0 both.1
  entry_refs q (k, OwnNotice serial index) committed right = λ r h. absurd h
  entry_refs q (k, ForeignNotice node index) committed right = λ r h. absurd h
  entry_refs q (k, ReleaseNotice serial) committed right = λ r h. absurd h

  one_discard : (q : ℕ) (f : Key × Entry) (x : PeerPart) → is_staged f ≡ false → Right q f → EachDead x.dead → EachDead (discarded x f.1).dead
  one_discard q (k, Message origin user index serial offset len nodes slots handles payload) x committed right each = each_item (references (Message origin user index serial offset len nodes slots handles payload)) x.dead (entry_refs q (k, Message origin user index serial offset len nodes slots handles payload) committed right) each
  one_discard q (k, OwnNotice serial index) x committed right each = each
  one_discard q (k, ForeignNotice node index) x committed right each = each
  one_discard q (k, ReleaseNotice serial) x committed right each = each

  all_discards : (q : ℕ) (es : Items) (x : PeerPart) → ((f : Key × Entry) → Has es f → (is_staged f ≡ false) × Right q f) → EachDead x.dead → EachDead (fold (λ y f. discarded y f.1) x es).dead
  all_discards q [] x rights each = each
  all_discards q (f ∷ rest) x rights each = all_discards q rest (discarded x f.1) (λ g h. rights g (inr h)) (one_discard q f x (rights f (inl refl)).0 (rights f (inl refl)).1 each)

  module _ (q : ℕ) (x : PeerPart) (rights : (f : Key × Entry) → Has x.queue f → Right q f) (each : EachDead x.dead) where
    cleared_dead : EachDead (cleared x).dead
    cleared_dead =
        all_discards q (discards x) (record x { queue = drop (length (discards x)) x.queue })
        (λ f h. (not-true (is_staged f) (and_parts (not (is_staged f)) (is_for_nobody x f.1) (passes (λ g. not (is_staged g) && is_for_nobody x g.1) x.queue f h)).0, rights f (subst (λ l. Has l f) (sym (queue_parts x)) (has_left (discards x) (cleared x).queue f h)))) each

    taken_dead : (e : Entry) (k : Key) (rest : Items) → is_staged (k, e) ≡ false → Right q (k, e) → EachDead (taken_entry (record (cleared x) { queue = rest }) k e).1.dead
    taken_dead (Message origin user index serial offset len nodes slots handles payload) k rest committed right =
        let start : Arriving = record { part = record (cleared x) { queue = rest; slices = published offset (cleared x).slices }; numbers = []; refs = [] } in
        let both = right refl committed in
        each_item (fold slot_arrives start (zip nodes slots)).refs (fold slot_arrives start (zip nodes slots)).part.dead (arrived_refs q nodes slots start both.0 both.1 (λ r h. absurd h)) (subst EachDead (sym (slots_rest nodes slots start).dead) cleared_dead)
    taken_dead (OwnNotice serial index) k rest committed right = cleared_dead
    taken_dead (ForeignNotice node index) k rest committed right = cleared_dead
    taken_dead (ReleaseNotice serial) k rest committed right = cleared_dead

    front_dead : (b : Bool) (f : Key × Entry) (rest : Items) → is_staged f ≡ b → Right q f → EachDead (front_by b (cleared x) f rest).1.dead
    front_dead true f rest is right = cleared_dead
    front_dead false f rest is right = taken_dead f.1 f.0 rest is right

    by_queue : (queue : Items) → (cleared x).queue ≡ queue → EachDead (front_taken (cleared x) queue).1.dead
    by_queue [] is = cleared_dead
    by_queue (f ∷ rest) is = front_dead (is_staged f) f rest refl (rights f (subst (λ l. Has l f) (sym (queue_parts x)) (has_right (discards x) (cleared x).queue f (subst (λ l. Has l f) (sym is) (inl refl)))))

    recv_dead : EachDead (received_part x).dead
    recv_dead = by_queue (cleared x).queue refl

    -- ---- a flush

    queued_dead : (queue : Items) (dead : List Refs) → ((f : Key × Entry) → Has queue f → Right q f) → EachDead dead → EachDead (queued_items queue dead)
    queued_dead [] dead all old = old
    queued_dead (f ∷ rest) dead all old = at (is_staged f) refl (λ d. queued_dead rest d (λ g h. all g (inr h)))
      where
        at : (b : Bool) → is_staged f ≡ b → ((d : List Refs) → EachDead d → EachDead (queued_items rest d)) → EachDead (queued_items rest (cond b dead (with_item (references f.1) dead)))
        at true is further = further dead old
        at false is further = further (with_item (references f.1) dead) (each_item (references f.1) dead (entry_refs q f is (all f (inl refl))) old)

    module _ (held : (h : HandleRecord) → Has x.handles h → 1 ≤ h.held → R (h.node, h.held)) (all : AreNumbered x.given x.handles) where
      item_dead : (r : Option HandleRecord) (number : ℕ) (item : Refs) → find (is_number number) x.handles ≡ r → option_map (λ h. (h.node, h.held) ∷ []) r ≡ Some item → EachRef item
      item_dead None number item found is = absurd (cc is)
      item_dead (Some h) number item found is = λ r there.
          let same : (h.node, h.held) ∷ [] ≡ item = cc is in
          elim (subst (λ l. Has l r) (sym same) there) [
            | inl one ↦ let k = found_has (is_number number) x.handles h found in subst R (sym one) (held h k.0 (all.held h number k.0 (number_is number h k.1)).0)
            | inr none ↦ absurd none
          ]

      map_has : (make : ℕ → Option Refs) (gs : List ℕ) (item : Refs) → Has (filter_map make gs) item → (g : ℕ) × (make g ≡ Some item)
      map_has make [] item h = absurd h
      map_has make (g ∷ rest) item h = at (make g) refl (map_has make rest item) h
        where
          at : (r : Option Refs) → make g ≡ r → (Has (filter_map make rest) item → (g : ℕ) × (make g ≡ Some item)) → Has (cons_option r (filter_map make rest)) item → (g : ℕ) × (make g ≡ Some item)
          at None is further there = further there
          at (Some y) is further (inl same) = (g, is ∙ ap Some (sym same))
          at (Some y) is further (inr there) = further there

      held_dead : EachDead (held_items x.given x.handles)
      held_dead item h = let k = map_has (λ g. held_item x.handles (next_number g)) (range_with_len 0 x.given) item h in item_dead (find (is_number (next_number k.0)) x.handles) (next_number k.0) item refl k.1

      flush_dead : EachDead (queued_items x.queue x.dead ++ held_items x.given x.handles)
      flush_dead item h = elim (has_append (queued_items x.queue x.dead) (held_items x.given x.handles) item h) [ inl old ↦ queued_dead x.queue x.dead rights each item old | inr new ↦ held_dead item new ]

      rest_dead : (dead : List Refs) → EachDead dead → EachDead (drop 1 dead)
      rest_dead [] old item h = absurd h
      rest_dead (first ∷ rest) old item h = old item (inr h)

      by_same : (y : PeerPart) → y.dead ≡ x.dead → EachDead y.dead
      by_same y same = subst EachDead (sym same) each

      -- each event keeps it
      pub dead_after : (o : Opening) (memory : Bool) (d : DriverPart) (doing : Doing) (action : Action) → EachDead (happens o memory d doing action x).1.dead
      dead_after o memory d doing act.Recv = recv_dead
      dead_after o memory d doing act.Reap = rest_dead x.dead each
      dead_after o memory d doing act.Flush = flush_dead
      dead_after o memory d doing act.Rest = each
      dead_after o memory d doing act.Begin = by_same (happens o memory d doing act.Begin x).1 (ap (λ y. y.dead) (changes o memory d doing act.Begin x))
      dead_after o memory d doing (act.Stage peer place) = by_same (happens o memory d doing (act.Stage peer place) x).1 (ap (λ y. y.dead) (changes o memory d doing (act.Stage peer place) x))
      dead_after o memory d doing (act.Unstage peer place) = by_same (happens o memory d doing (act.Unstage peer place) x).1 (ap (λ y. y.dead) (changes o memory d doing (act.Unstage peer place) x))
      dead_after o memory d doing (act.Attach peer serial dest) = by_same (happens o memory d doing (act.Attach peer serial dest) x).1 (ap (λ y. y.dead) (changes o memory d doing (act.Attach peer serial dest) x))
      dead_after o memory d doing act.Stamp = each
      dead_after o memory d doing (act.Sync peer stamp) = each
      dead_after o memory d doing (act.Commit peer place stamp) = by_same (happens o memory d doing (act.Commit peer place stamp) x).1 (ap (λ y. y.dead) (changes o memory d doing (act.Commit peer place stamp) x))
      dead_after o memory d doing (act.CommitNotices peer stamp) = each
      dead_after o memory d doing act.Release = by_same (happens o memory d doing act.Release x).1 (ap (λ y. y.dead) (changes o memory d doing act.Release x))
      dead_after o memory d doing (act.DropRefs peer serial holder k clock) = by_same (happens o memory d doing (act.DropRefs peer serial holder k clock) x).1 (ap (λ y. y.dead) (changes o memory d doing (act.DropRefs peer serial holder k clock) x))
      dead_after o memory d doing act.BeginDestroy = by_same (happens o memory d doing act.BeginDestroy x).1 (ap (λ y. y.dead) (changes o memory d doing act.BeginDestroy x))
      dead_after o memory d doing (act.Visit peer) = by_same (happens o memory d doing (act.Visit peer) x).1 (ap (λ y. y.dead) (changes o memory d doing (act.Visit peer) x))
      dead_after o memory d doing act.StampDestroy = by_same (happens o memory d doing act.StampDestroy x).1 (ap (λ y. y.dead) (changes o memory d doing act.StampDestroy x))
      dead_after o memory d doing act.Local = by_same (happens o memory d doing act.Local x).1 (ap (λ y. y.dead) (changes o memory d doing act.Local x))
