-- What an open command's next event needs holds in a reached state.
use Rattle.std.proofs.Common.{◌≡◌, ◌≢◌, refl, sym, ap, ◌∙◌, inl, inr, subst, ℕ, zero, suc, ◌-◌, ◌<◌, ◌≤◌, ◌%◌, ◌==◌, Bool, true, false, cond, ◌&&◌, List, [], ◌∷◌, length, find, get_or, Option, Some, None}
use Rattle.std.specs.List.{All}
use Rattle.std.proofs.lemmas.Bool.{eqb-true, ne_eqb}
use Rattle.std.proofs.lemmas.Option.{slice_get_within}
use Rattle.std.proofs.lemmas.List.Elements.{All-get_or, All-head, All-tail}
use native.Mathlib.Omega.{arith}
use Rattle.b1_model.specs.declared.limits.TheConstants.{MOST_PEERS, MOST_HANDLES}
use Rattle.b1_model.specs.declared.naming.Key.{Key}
use Rattle.b1_model.specs.declared.naming.NodeRef.{NodeRef}
use Rattle.b1_model.specs.declared.naming.Opening.{Opening}
use Rattle.b1_model.specs.declared.commands.Command.{Command}
use Rattle.b1_model.specs.declared.answers.Reason.{Reason}
use Rattle.b1_model.specs.declared.parts.Begun.{Begun}
use Rattle.b1_model.specs.declared.parts.Slot.{Slot}
use Rattle.b1_model.specs.declared.parts.Slot.TheVariants as slot
use Rattle.b1_model.specs.declared.entries.Entry.{Entry}
use Rattle.b1_model.specs.declared.entries.Entry.TheVariants.{Message, OwnNotice, ForeignNotice, ReleaseNotice}
use Rattle.b1_model.specs.declared.events.Doing.{Doing}
use Rattle.b1_model.specs.declared.events.Phase.{Phase}
use Rattle.b1_model.specs.declared.events.Sending.{Sending}
use Rattle.b1_model.specs.MachineParts.{PeerPart, DriverPart, State, is_staged, is_data, no_origin, carried}
use Rattle.b1_model.specs.MachineTables.{is_stage}
use Rattle.b1_model.specs.MachineSend.{find_stage}
use Rattle.b1_model.specs.MachineDriver.{no_ref, node_of_place}
use Rattle.b1_model.specs.MachineEvents.{begun_of, slots_at, collected_of}
use Rattle.b1_step.specs.Rights.{Has}
use Rattle.b1_inv.specs.Words.{IsPeer, IsDriver, IsMade, is_accepted_place, waits_at, is_uncommitted, fixed_stamp}
use Rattle.b1_inv.specs.Sends.{IsBegun, IsFilled, IsAttached, SendShape}
use Rattle.b1_inv.specs.Stages.{IsMessageOf}
use Rattle.b1_inv.specs.Stamps.{WasCommitted}
use Rattle.b1_inv_peer.specs.Needs.{IsClock, IsSlot, AreSlots, SlotsFit, CommitsAnew}
use Rattle.b1_event.specs.Borne.{AreShort}
use Rattle.b1_event.specs.Events.{StageAllowed, AttachAllowed, CommitAllowed}
use Rattle.b1_inv.specs.Sound.{IsSound}
use Rattle.b1_event.proofs.Bounds.{clock_is, all_calls_few}
use Rattle.b1_event.proofs.Facts.{Free, new_key, driver_same, made_here, peer_within, few_peers, few_drivers, stage_free}

-- ---- places

pub accepted_past : (places : List (Option Reason)) (at : ℕ) → length places ≤ at → is_accepted_place places at ≡ false
accepted_past [] at past = refl
accepted_past (one ∷ rest) zero past = absurd (omega (arith, past))
accepted_past (one ∷ rest) (suc at) past = accepted_past rest at (omega (arith, past))

pub accepted_within : (places : List (Option Reason)) (at : ℕ) → is_accepted_place places at ≡ true → at < length places
accepted_within [] at is = absurd (cc is)
accepted_within (one ∷ rest) zero is = omega arith
accepted_within (one ∷ rest) (suc at) is = let k = accepted_within rest at is in omega (arith, k)

-- ---- finding

find_has : {X : Type 0} (test : X → Bool) (xs : List X) (x : X) → find test xs ≡ Some x → Has xs x × (test x ≡ true)
find_has test [] x is = absurd (cc is)
find_has test (y ∷ ys) x is = at (find_has test ys x) (test y) refl is
  where
    at : (find test ys ≡ Some x → Has ys x × (test x ≡ true)) → (b : Bool) → test y ≡ b → cond b (Some y) (find test ys) ≡ Some x → Has (y ∷ ys) x × (test x ≡ true)
    at further true passes is = let same : y ≡ x = cc is in (inl (sym same), ap test (sym same) ∙ passes)
    at further false passes is = let k = further is in (inr k.0, k.1)

both : (a b : Bool) → (a && b) ≡ true → (a ≡ true) × (b ≡ true)
both true b is = (refl, is)
both false b is = absurd (cc is)

-- a staged message of a driver for a place
record IsStage (origin index : ℕ) (f : Key × Entry) : Type 0 where
  pub data_is : is_data f.1 ≡ true
  pub staged : is_staged f ≡ true
  pub from : f.0.origin ≡ origin
  pub at : f.0.index ≡ index

is_stage_of : (origin index : ℕ) (f : Key × Entry) → is_stage origin index f ≡ true → IsStage origin index f
is_stage_of origin index f is =
    let one = both (is_data f.1 && is_staged f && (f.0.origin == origin)) (f.0.index == index) is in
    let two = both (is_data f.1 && is_staged f) (f.0.origin == origin) one.0 in
    let three = both (is_data f.1) (is_staged f) two.0 in
    record { data_is = three.0; staged = three.1; from = eqb-true f.0.origin origin two.1; at = eqb-true f.0.index index one.1 }

module _ (o : Opening) (s : State) (sound : IsSound o s) (short : AreShort s) (p : ℕ) (d : DriverPart) (is_driver : IsDriver s p d) where
  pub few : length s.peers ≤ MOST_PEERS
  few = few_peers o s sound

  pub me_is : d.me ≡ p
  me_is = sound.numbered.drivers p d is_driver

  pub driver_me : IsDriver s d.me d
  driver_me = subst (λ n. IsDriver s n d) (sym me_is) is_driver

  pub clock : (q : ℕ) (x : PeerPart) → IsPeer s q x → IsClock x.clock
  clock q x is = clock_is s x.clock few (sound.clocks.clock q x is)

  module _ (command : Command) (p_of : Phase) (open_is : d.doing ≡ Some (record { command = command; phase = p_of })) where
    abbrev doing : Doing
    doing = record { command = command; phase = p_of }

    pub send : SendShape s command p_of
    send = sound.sends.shape p d doing is_driver open_is

    pub collected : IsClock (collected_of p_of)
    collected = clock_is s (collected_of p_of) few (sound.clocks.collected p d doing is_driver open_is)

    pub stamp_clock : (stamp : ℕ) → fixed_stamp d ≡ Some stamp → IsClock stamp
    stamp_clock stamp is = clock_is s stamp few (sound.clocks.stamp p d stamp is_driver is)

    same_doing : (other : Doing) → d.doing ≡ Some other → doing ≡ other
    same_doing other is = let same : Some doing ≡ Some other = sym open_is ∙ is in cc same

    -- nothing of the driver is staged at a place where its phase doesn't wait
    pub free : (index q : ℕ) → waits_at p_of index ≡ false → is_uncommitted d q ≡ false → Free o s sound d index q
    free index q waits uncommitted = record { waits = λ other is. ap (λ z. waits_at z.phase index) (sym (same_doing other is)) ∙ waits; uncommitted = uncommitted }

    -- a staged message of the driver waits at its place
    found : (q index : ℕ) (x : PeerPart) (f : Key × Entry) → IsPeer s q x → find_stage x d.me index ≡ Some f → (waits_at p_of index ≡ true) × (carried f.1 ≡ (begun_of p_of).with) × Has x.queue f × IsStage d.me index f
    found q index x f is there =
        let k = find_has (is_stage d.me index) x.queue f there in
        let st = is_stage_of d.me index f k.1 in
        let sender = sound.stages.sender q x f is k.0 st.data_is st.staged in
        let same : sender.driver ≡ d = driver_same o s sound f.0.origin sender.driver d sender.is_driver (subst (λ n. IsDriver s n d) (sym st.from) driver_me) in
        let doings = same_doing sender.doing (ap (λ e. e.doing) (sym same) ∙ sender.is_open) in
        (ap (λ z. waits_at z.phase index) doings ∙ ap (waits_at sender.doing.phase) (sym st.at) ∙ sender.waits, nodes_of q sender.doing f.0 f.1 sender.message ∙ ap (λ z. (begun_of z.phase).with) (sym doings), k.0, st)
      where
        nodes_of : (q : ℕ) (one : Doing) (k : Key) (e : Entry) → IsMessageOf o q one k e → carried e ≡ (begun_of one.phase).with
        nodes_of q one k (Message origin user place serial offset len nodes slots handles payload) m = m.4
        nodes_of q one k (OwnNotice serial place) m = absurd m
        nodes_of q one k (ForeignNotice node place) m = absurd m
        nodes_of q one k (ReleaseNotice serial) m = absurd m

    none_found : (q index : ℕ) (x : PeerPart) → IsPeer s q x → waits_at p_of index ≡ false → find_stage x d.me index ≡ None
    none_found q index x is waits = at (find_stage x d.me index) refl
      where
        at : (r : Option (Key × Entry)) → find_stage x d.me index ≡ r → find_stage x d.me index ≡ None
        at None there = there
        at (Some f) there = absurd (cc (sym (found q index x f is there).0 ∙ waits))

    -- ---- the events of a SEND

    pub stage_allowed : (begun : Begun) (place q : ℕ) (x : PeerPart) → IsBegun s command begun → place < length begun.to → begun_of p_of ≡ begun → IsPeer s q x → q ≡ (node_of_place begun.to place).owner
        → waits_at p_of place ≡ false → is_uncommitted d q ≡ false → StageAllowed d doing x place
    stage_allowed begun place q x right within same is at waits uncommitted =
        let node_made : IsMade s (node_of_place begun.to place) = All-get_or (IsMade s) begun.to place no_ref within right.to in
        let serial_made : (node_of_place begun.to place).serial < length x.nodes = made_here o s sound (node_of_place begun.to place) x node_made (subst (λ n. IsPeer s n x) at is) in
        record {
          clock = clock q x is;
          made = subst (λ b. (node_of_place b.to place).serial < length x.nodes) (sym same) serial_made;
          send = right.send.is_send;
          within = subst (λ b. place < length b.to) (sym same) within;
          short = right.send.payload;
          few = subst (λ b. length b.with ≤ MOST_HANDLES) (sym same) (let k = right.send.handles in omega (arith, k, right.handles));
          unstaged = none_found q place x is waits;
          new_key = stage_free o s sound d.me q place x d is driver_me (clock q x is).even (free place q waits uncommitted);
        }

    pub attach_allowed : (begun : Begun) (place handle : ℕ) (x : PeerPart) → IsBegun s command begun → place < length begun.to → handle < length begun.with → IsPeer s (node_of_place begun.with handle).owner x
        → AttachAllowed x (node_of_place begun.with handle).serial (node_of_place begun.to place).owner
    attach_allowed begun place handle x right within carries is =
        let to_made : IsMade s (node_of_place begun.to place) = All-get_or (IsMade s) begun.to place no_ref within right.to in
        let with_made : IsMade s (node_of_place begun.with handle) = All-get_or (IsMade s) begun.with handle no_ref carries right.with in
        let number = sound.numbered.peers (node_of_place begun.with handle).owner x is in
        let there = peer_within o s sound (node_of_place begun.to place).owner to_made.0 to_made.1 in
        let as_many = sound.numbered.as_many_peers in
        let counts = sound.bounds.counts (node_of_place begun.with handle).owner x (node_of_place begun.with handle).serial (node_of_place begun.to place).owner is in
        let bound = all_calls_few o s sound.opening.few (few_drivers o s sound) short in
        record {
          made = made_here o s sound (node_of_place begun.with handle) x with_made is;
          peer = omega (arith, there, as_many, number.peers);
          fits = omega (arith, counts, bound);
        }

    -- the slots of a place that is accepted
    slot_fits : (to node : NodeRef) (x : PeerPart) (t : Slot) → IsPeer s to.owner x → IsMade s node → IsFilled to node t → IsSlot x.me (length x.nodes) node t
    slot_fits to node x slot.Unattached is made filled = absurd filled
    slot_fits to node x slot.Attached is made filled = λ same. filled (same ∙ (sound.numbered.peers to.owner x is).me)
    slot_fits to node x slot.Own is made filled =
        (filled ∙ sym (sound.numbered.peers to.owner x is).me, made_here o s sound node x made (subst (λ n. IsPeer s n x) (sym filled) is))
    slot_fits to node x slot.Void is made filled = tt

    slots_fit : (to : NodeRef) (x : PeerPart) (nodes : List NodeRef) (slots : List Slot) → IsPeer s to.owner x → All (IsMade s) nodes → length slots ≡ length nodes
        → ((j : ℕ) → j < length nodes → IsFilled to (node_of_place nodes j) (get_or slots j slot.Unattached)) → AreSlots x.me (length x.nodes) nodes slots
    slots_fit to x [] [] is made as_many filled = tt
    slots_fit to x [] (t ∷ slots) is made as_many filled = absurd (omega (arith, as_many))
    slots_fit to x (node ∷ nodes) [] is made as_many filled = absurd (omega (arith, as_many))
    slots_fit to x (node ∷ nodes) (t ∷ slots) is made as_many filled =
        (slot_fits to node x t is (All-head (IsMade s) node nodes made) (filled 0 (omega arith)), slots_fit to x nodes slots is (All-tail (IsMade s) node nodes made) (omega (arith, as_many)) (λ j within. filled (suc j) (omega (arith, within))))

    -- ---- committed keys

    origin_is : d.me ≢ no_origin
    origin_is same = let k = peer_of_driver in omega (arith, k, few, same)
      where
        peer_of_driver : d.me < length s.peers
        peer_of_driver =
            let drivers = sound.numbered.as_many_drivers in
            let peers = sound.numbered.as_many_peers in
            let within = slice_get_within s.drivers d.me d driver_me in
            omega (arith, drivers, peers, within)

    -- an entry with the fixed stamp of the driver was committed with it
    pub committed_with : (q stamp : ℕ) (x : PeerPart) (g : Key × Entry) → IsPeer s q x → Has x.queue g → fixed_stamp d ≡ Some stamp → stamp % 2 ≡ 0 → g.0.stamp ≡ stamp → g.0.origin ≡ d.me → WasCommitted d doing q g
    committed_with q stamp x g is h fixed even at from =
        let unstaged : is_staged g ≡ false = ne_eqb (g.0.stamp % 2) 1 (λ odd. absurd (omega (arith, odd, at, even))) in
        let one = sound.stamps.committed q x g is h unstaged (λ none. origin_is (sym from ∙ none)) in
        let same : one.driver ≡ d = driver_same o s sound g.0.origin one.driver d one.is_driver (subst (λ n. IsDriver s n d) (sym from) driver_me) in
        subst (λ e. WasCommitted e doing q g) same (one.fixed doing (ap (λ e. e.doing) same ∙ open_is) (ap fixed_stamp same ∙ fixed ∙ ap (λ n. Some n) (sym at)))

    pub commit_allowed : (sending : Sending) (place stamp q : ℕ) (x : PeerPart) → IsAttached s command sending → begun_of p_of ≡ sending.begun → slots_at p_of place ≡ get_or sending.slots place [] → IsPeer s q x → q ≡ (node_of_place sending.begun.to place).owner
        → fixed_stamp d ≡ Some stamp → (waits_at p_of place ≡ true → is_accepted_place sending.places place ≡ true) → ((g : Key × Entry) → g.0.index ≡ place → waits_at p_of place ≡ true → WasCommitted d doing q g → ⊥) → CommitAllowed d doing x place stamp
    commit_allowed sending place stamp q x right same slots is at fixed waits other =
        record {
          stamp_is = stamp_clock stamp fixed;
          slots = fits (find_stage x d.me place) refl;
          new_key = anew (find_stage x d.me place) refl;
        }
      where
        fits : (r : Option (Key × Entry)) → find_stage x d.me place ≡ r → SlotsFit x r (slots_at p_of place)
        fits None there = tt
        fits (Some f) there =
            let k = found q place x f is there in
            let accepted = waits k.0 in
            let within : place < length sending.begun.to = let w = accepted_within sending.places place accepted in omega (arith, w, right.places) in
            let lists : place < length sending.slots = omega (arith, within, right.lists) in
            let one : AreSlots x.me (length x.nodes) sending.begun.with (get_or sending.slots place []) =
            slots_fit (node_of_place sending.begun.to place) x sending.begun.with (get_or sending.slots place []) (subst (λ n. IsPeer s n x) at is) right.begun.with
            (All-get_or (λ l. length l ≡ length sending.begun.with) sending.slots place [] lists right.slots)
            (λ j carries. right.filled place j accepted carries (inl within)) in
            subst (λ nodes. AreSlots x.me (length x.nodes) nodes (slots_at p_of place)) (ap (λ b. b.with) (sym same) ∙ sym k.1) (subst (AreSlots x.me (length x.nodes) sending.begun.with) (sym slots) one)

        anew : (r : Option (Key × Entry)) → find_stage x d.me place ≡ r → CommitsAnew x r (record { stamp = stamp; origin = d.me; index = place })
        anew None there = tt
        anew (Some f) there =
            let k = found q place x f is there in
            new_key (record { stamp = stamp; origin = d.me; index = place }) x.queue (λ g h key. other g (ap (λ z. z.index) key) k.0
            (committed_with q stamp x g is h fixed (stamp_clock stamp fixed).even (ap (λ z. z.stamp) key) (ap (λ z. z.origin) key)))
