-- What the events of an attempt leave of a peer's level.
use Rattle.std.proofs.Common.{◌≡◌, refl, sym, ap, ◌∙◌, arith, ℕ, zero, suc, ◌+◌, ◌-◌, ◌≤◌, ◌<◌, Bool, true, false, ◌&&◌, not, List, [], ◌∷◌, drop, fold, zip, length, set, get_or, sum_by, take, take_while, Ok, Err, Result}
use Rattle.std.specs.List.{prefix_len}
use Rattle.std.proofs.lemmas.List.Sums.{sum_by-set, sum_by-cons}
use Rattle.b1_model.specs.declared.naming.Key.{Key}
use Rattle.b1_model.specs.declared.naming.NodeRef.{NodeRef}
use Rattle.b1_model.specs.declared.answers.Front.{Front}
use Rattle.b1_model.specs.declared.answers.Receipt.{Receipt}
use Rattle.b1_model.specs.declared.parts.Slot.{Slot}
use Rattle.b1_model.specs.declared.parts.Slot.TheVariants as slot
use Rattle.b1_model.specs.declared.entries.Entry.{Entry}
use Rattle.b1_model.specs.declared.entries.Entry.TheVariants.{Message, OwnNotice, ForeignNotice, ReleaseNotice}
use Rattle.b1_model.specs.MachineParts.{PeerPart, NodePart, is_staged, record_or_none, no_node, node_at, no_origin}
use Rattle.b1_model.specs.MachineTables.{put, count_of, uncounted, notice_taken}
use Rattle.b1_model.specs.MachineReceive.{Arriving, discards, discarded, cleared, reference_by, slot_arrives, taken_entry, front_by, front_taken, received, received_part, is_for_nobody, dropped, dropped_refs, with_release_notice, is_released}
use Rattle.b1_progress.specs.Level.{node_level, peer_level}

-- ---- lists

front_within : {X : Type 0} (n : ℕ) (xs : List X) → length (take n xs) ≤ length xs
front_within zero xs = omega arith
front_within (suc n) [] = omega arith
front_within (suc n) (x ∷ rest) = omega (arith, front_within n rest)

pub taken_within : {X : Type 0} (test : X → Bool) (xs : List X) → length (take_while test xs) ≤ length xs
taken_within test xs = front_within (prefix_len test xs) xs

pub dropped_length : {X : Type 0} (n : ℕ) (xs : List X) → n ≤ length xs → length (drop n xs) + n ≡ length xs
dropped_length zero xs within = omega arith
dropped_length (suc n) [] within = absurd (omega (arith, within))
dropped_length (suc n) (x ∷ rest) within = omega (arith, dropped_length n rest (omega (arith, within)))

-- a change that keeps each element's number keeps the sum
pub same_sum : {X : Type 0} (f : X → ℕ) (g : X → X) (d : X) (xs : List X) (i : ℕ) → ((x : X) → f (g x) ≡ f x) → sum_by f (set xs i (g (get_or xs i d))) ≡ sum_by f xs
same_sum f g d [] i same = refl
same_sum f g d (x ∷ rest) zero same = sum_by-cons f (g x) rest ∙ ap (λ n. n + sum_by f rest) (same x) ∙ sym (sum_by-cons f x rest)
same_sum f g d (x ∷ rest) (suc i) same = sum_by-cons f x (set rest i (g (get_or rest i d))) ∙ ap (λ n. f x + n) (same_sum f g d rest i same) ∙ sym (sum_by-cons f x rest)

pub put_length : (k : Key) (e : Entry) (queue : List (Key × Entry)) → length (put k e queue) ≡ length queue + 1
put_length k e [] = refl
put_length k e (f ∷ rest) = let ih = put_length k e rest in grind (arith, ih)

-- what is read of a list that isn't the default stands in it
pub read_within : (xs : List ℕ) (i : ℕ) → 1 ≤ get_or xs i 0 → i < length xs
read_within [] i some = absurd (omega (arith, some))
read_within (x ∷ rest) zero some = omega arith
read_within (x ∷ rest) (suc i) some = omega (arith, read_within rest i some)

-- ---- RECV

-- the same queue, and the same counts
abbrev SameLevel : PeerPart → PeerPart → Type 0
SameLevel x y = (y.queue ≡ x.queue) × (sum_by node_level y.nodes ≡ sum_by node_level x.nodes)

same_trans : (x y z : PeerPart) → SameLevel x y → SameLevel y z → SameLevel x z
same_trans x y z a b = (b.0 ∙ a.0, b.1 ∙ a.1)

at_discard : (e : Entry) (x : PeerPart) → SameLevel x (discarded x e)
at_discard (Message origin user index serial offset len nodes slots handles payload) x = (refl, refl)
at_discard (OwnNotice serial index) x = (refl, refl)
at_discard (ForeignNotice node index) x = (refl, refl)
at_discard (ReleaseNotice serial) x = (refl, refl)

at_discards : (es : List (Key × Entry)) (x : PeerPart) → SameLevel x (fold (λ z f. discarded z f.1) x es)
at_discards [] x = (refl, refl)
at_discards (f ∷ rest) x = same_trans x (discarded x f.1) (fold (λ z g. discarded z g.1) (discarded x f.1) rest) (at_discard f.1 x) (at_discards rest (discarded x f.1))

at_reference : (b : Bool) (a : Arriving) (node : NodeRef) → SameLevel a.part (reference_by b a node).part
at_reference true a node = (refl, refl)
at_reference false a node = (refl, refl)

at_slot : (a : Arriving) (node : NodeRef) (s : Slot) → SameLevel a.part (slot_arrives a (node, s)).part
at_slot a node slot.Unattached = (refl, refl)
at_slot a node slot.Attached = at_reference (record_or_none node a.part.handles).dead a node
at_slot a node slot.Own = (refl, refl)
at_slot a node slot.Void = (refl, refl)

at_slots : (ss : List (NodeRef × Slot)) (a : Arriving) → SameLevel a.part (fold slot_arrives a ss).part
at_slots [] a = (refl, refl)
at_slots ((node, s) ∷ rest) a = same_trans a.part (slot_arrives a (node, s)).part (fold slot_arrives (slot_arrives a (node, s)) rest).part (at_slot a node s) (at_slots rest (slot_arrives a (node, s)))

at_taken : (e : Entry) (k : Key) (x : PeerPart) → SameLevel x (taken_entry x k e).1
at_taken (Message origin user index serial offset len nodes slots handles payload) k x = at_slots (zip nodes slots) _
at_taken (OwnNotice serial index) k x = (refl, same_sum node_level notice_taken no_node x.nodes serial (λ n. refl))
at_taken (ForeignNotice node index) k x = (refl, refl)
at_taken (ReleaseNotice serial) k x = (refl, refl)

-- 1 where an entry was taken
abbrev pub some_taken : Result Receipt Front → ℕ
some_taken (Ok receipt) = 1
some_taken (Err front) = 0

by_front : (b : Bool) (x : PeerPart) (f : Key × Entry) (rest : List (Key × Entry)) → x.queue ≡ f ∷ rest → peer_level (front_by b x f rest).1 + some_taken (front_by b x f rest).0 ≡ peer_level x
by_front true x f rest is = omega arith
by_front false x f rest is =
    let same = at_taken f.1 f.0 (record x { queue = rest }) in
    omega (arith, ap length same.0, same.1, ap length is)

at_front : (x : PeerPart) (queue : List (Key × Entry)) → x.queue ≡ queue → peer_level (front_taken x queue).1 + some_taken (front_taken x queue).0 ≡ peer_level x
at_front x [] is = omega arith
at_front x (f ∷ rest) is = by_front (is_staged f) x f rest is

at_cleared : (x : PeerPart) → peer_level (cleared x) + length (discards x) ≡ peer_level x
at_cleared x =
    let same = at_discards (discards x) (record x { queue = drop (length (discards x)) x.queue }) in
    let within = taken_within (λ f. not (is_staged f) && is_for_nobody x f.1) x.queue in
    omega (arith, ap length same.0, same.1, dropped_length (length (discards x)) x.queue within)

-- what a RECV takes and removes, the level falls by
pub recv_level : (x : PeerPart) → peer_level (received_part x) + some_taken (received x).front + (received x).removed ≡ peer_level x
recv_level x = omega (arith, at_cleared x, at_front (cleared x) (cleared x).queue refl)

-- ---- DROP

noticed_level : (b : Bool) (x : PeerPart) (serial : ℕ) → peer_level (with_release_notice b x serial) ≤ peer_level x + 1
noticed_level false x serial = omega arith
noticed_level true x serial = omega (arith, put_length (record { stamp = x.clock; origin = no_origin; index = serial }) (ReleaseNotice serial) x.queue)

uncounted_level : (n : NodePart) (holder k : ℕ) → 1 ≤ count_of n holder → 1 ≤ k → node_level (uncounted holder k n) + 1 ≤ node_level n
uncounted_level n holder k some any = omega (arith, some, any, sum_by-set (λ i. i) n.counts holder (count_of n holder - k) 0 (read_within n.counts holder some))

-- a drop of counted references doesn't raise the level, even where it queues a notice
pub drop_level : (x : PeerPart) (serial holder k clock : ℕ) → serial < length x.nodes → 1 ≤ count_of (node_at x serial) holder → 1 ≤ k → peer_level (dropped x serial holder k clock) ≤ peer_level x
drop_level x serial holder k clock within some any =
    omega (
      arith,
      noticed_level (is_released (dropped_refs x serial holder k clock) serial) (dropped_refs x serial holder k clock) serial,
      uncounted_level (node_at x serial) holder k some any,
      sum_by-set node_level x.nodes serial (uncounted holder k (node_at x serial)) no_node within,
    )
