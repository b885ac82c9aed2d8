-- The peers and drivers of an opening, one after another.
use Rattle.std.proofs.Common.{◌≡◌, refl, sym, ap, ◌∙◌, subst, ℕ, zero, suc, ◌+◌, ◌*◌, ◌<◌, ◌≤◌, List, [], ◌∷◌, ◌++◌, length, map, set, take, drop, get_or, Option, Some, None, Ok, Err, Result, slice_get}
use Rattle.std.specs.List.{All}
use Rattle.std.specs.Prelude.{IfSome, OnOk}
use Rattle.std.proofs.lemmas.List.{length-map}
use Rattle.b1_model.specs.declared.naming.NodeRef.{NodeRef}
use Rattle.b1_model.specs.declared.naming.Wire.{Wire}
use Rattle.b1_model.specs.MachineTables.{node_named}
use Rattle.b1_core.proofs.Wiring.{set_read}
use Rattle.std.proofs.lemmas.Option.{slice_get_within}
use Rattle.std.proofs.lemmas.List.Elements.{All-nil, All-cons, All-head, All-tail}
use native.Mathlib.Omega.{arith}
use Rattle.b1_model.specs.declared.naming.PeerSpec.{PeerSpec}
use Rattle.b1_model.specs.declared.naming.Opening.{Opening}
use Rattle.b1_model.specs.Opening.{IsOpening}
use Rattle.b1_model.specs.MachineParts.{PeerPart, DriverPart, State}
use Rattle.b1_model.specs.MachineStep.{Reached, no_peer, with_part, wire_made, wire_counted, wire_held, wired, peer_before, peers_before, idle_driver, idle_drivers, opening_state}
use Rattle.b1_inv.specs.Bounds.{call_bound}
use Rattle.b1_driver.specs.Parts.{Driver}
use Rattle.b1_peer.specs.Seen.{PeerSeen}
use Rattle.b1_event.specs.Events.{HasUsers}
use Rattle.b1_model.specs.declared.commands.Command.{Command}
use Rattle.b1_core.specs.Bus.{state_of, AreNew, AreStocked, IsCore}
use Rattle.b1_inv.specs.Sound.{IsSound}
use Rattle.b1_core.proofs.Turning.{at_map, map_set, same_set, read_at}
use Rattle.b1_core.specs.Wiring.{part_of}
use Rattle.b1_core.proofs.Giving.{idle_calls}

-- ---- lists

pub take_next : {X : Type 0} (xs : List X) (i : ℕ) (x : X) → slice_get xs i ≡ Some x → take (i + 1) xs ≡ take i xs ++ x ∷ []
take_next [] i x is = absurd (cc is)
take_next (z ∷ xs) zero x is = let same : z ≡ x = cc is in ap (λ w. w ∷ []) same
take_next (z ∷ xs) (suc i) x is = let moved : suc i + 1 ≡ suc (i + 1) = omega arith in ap (λ n. take n (z ∷ xs)) moved ∙ ap (λ l. z ∷ l) (take_next xs i x is)

pub all_at : {X : Type 0} (P : X → Type 0) (xs : List X) (i : ℕ) (x : X) → All P xs → slice_get xs i ≡ Some x → P x
all_at P [] i x all is = absurd (cc is)
all_at P (z ∷ xs) zero x all is = let same : z ≡ x = cc is in subst P same (All-head P z xs all)
all_at P (z ∷ xs) (suc i) x all is = all_at P xs i x (All-tail P z xs all) is

-- ---- peers

before_at : (o : Opening) (here : ℕ) (specs : List PeerSpec) (i : ℕ) (spec : PeerSpec) → slice_get specs i ≡ Some spec → slice_get (peers_before o here specs) i ≡ Some (peer_before o (here + i) spec)
before_at o here [] i spec is = absurd (cc is)
before_at o here (s ∷ rest) zero spec is =
    let same : s ≡ spec = cc is in
    let moved : here ≡ here + 0 = omega arith in
    ap (λ z. Some (peer_before o here z)) same ∙ ap (λ n. Some (peer_before o n spec)) moved
before_at o here (s ∷ rest) (suc i) spec is =
    let moved : (here + 1) + i ≡ here + suc i = omega arith in
    before_at o (here + 1) rest i spec is ∙ ap (λ n. Some (peer_before o n spec)) moved

there_is : (specs : List PeerSpec) (i : ℕ) → i < length specs → (spec : PeerSpec) × (slice_get specs i ≡ Some spec)
there_is [] i within = absurd (omega (arith, within))
there_is (s ∷ rest) zero within = (s, refl)
there_is (s ∷ rest) (suc i) within = there_is rest i (omega (arith, within))

some_spec : (P : PeerSpec → Type 0) (o : Option PeerSpec) (spec : PeerSpec) → o ≡ Some spec → IfSome o P → P spec
some_spec P None spec is holds = absurd (cc is)
some_spec P (Some s) spec is holds = let same : s ≡ spec = cc is in subst P same holds

-- one more peer
pub peer_more : (o : Opening) (me : ℕ) (parts : List PeerPart) (x : PeerPart) → me < length o.peers → parts ≡ take me (peers_before o 0 o.peers) → IfSome (slice_get o.peers me) (λ spec. x ≡ peer_before o me spec) → parts ++ x ∷ [] ≡ take (me + 1) (peers_before o 0 o.peers)
peer_more o me parts x within so_far made =
    let (spec, is) = there_is o.peers me within in
    let moved : 0 + me ≡ me = omega arith in
    let part : x ≡ peer_before o me spec = some_spec (λ s. x ≡ peer_before o me s) (slice_get o.peers me) spec is made in
    ap (λ l. l ++ x ∷ []) so_far ∙ ap (λ z. take me (peers_before o 0 o.peers) ++ z ∷ []) part ∙ sym (take_next (peers_before o 0 o.peers) me (peer_before o me spec) (before_at o 0 o.peers me spec is ∙ ap (λ n. Some (peer_before o n spec)) moved))

-- ---- drivers

idle_at : (here : ℕ) (specs : List PeerSpec) (i : ℕ) → i < length specs → slice_get (idle_drivers here specs) i ≡ Some (idle_driver (here + i))
idle_at here [] i within = absurd (omega (arith, within))
idle_at here (s ∷ rest) zero within = let moved : here ≡ here + 0 = omega arith in ap (λ n. Some (idle_driver n)) moved
idle_at here (s ∷ rest) (suc i) within = let moved : (here + 1) + i ≡ here + suc i = omega arith in idle_at (here + 1) rest i (omega (arith, within)) ∙ ap (λ n. Some (idle_driver n)) moved

zero_add : (n : ℕ) → 0 + n ≡ n
zero_add n = omega arith

-- one more driver
pub driver_more : (o : Opening) (me : ℕ) (parts : List DriverPart) (d : DriverPart) → me < length o.peers → parts ≡ take me (idle_drivers 0 o.peers) → d ≡ idle_driver me → parts ++ d ∷ [] ≡ take (me + 1) (idle_drivers 0 o.peers)
driver_more o me parts d within so_far made =
    ap (λ l. l ++ d ∷ []) so_far ∙ ap (λ z. take me (idle_drivers 0 o.peers) ++ z ∷ []) made ∙ sym (take_next (idle_drivers 0 o.peers) me (idle_driver me) (idle_at 0 o.peers me within ∙ ap (λ n. Some (idle_driver n)) (zero_add me)))

-- ---- the stock

-- a driver that was made with room for as many nodes as there are wires
abbrev pub HasRoomFor : Opening → Driver → Type 0
HasRoomFor o d = (d.spare ≡ 0) × (d.doomed ≡ length o.wires) × (d.doomed ≤ d.here)

module _ (law : (o : Opening) (s : State) → IsOpening o → Reached o s → IsSound o s) (o : Opening) (opening : IsOpening o) where
  sound : IsSound o (opening_state o)
  sound = law o (opening_state o) opening (record { steps = []; run = refl })

  few_nodes : (p : ℕ) (x : PeerPart) → slice_get (opening_state o).peers p ≡ Some x → length x.nodes ≤ length o.wires
  few_nodes p x is =
      let within = slice_get_within (opening_state o).peers p x is in
      let many = sound.numbered.as_many_peers in
      let k = sound.bounds.nodes p (idle_driver p) x (idle_at 0 o.peers p (omega (arith, within, many)) ∙ ap (λ n. Some (idle_driver n)) (zero_add p)) is in
      let none : call_bound o (idle_driver p) ≡ length o.wires + 64 * 0 = refl in
      omega (arith, k, none)

  pub are_new : (ds : List Driver) → All (HasRoomFor o) ds → AreNew (opening_state o).peers ds
  are_new ds all p x d there is =
      let room = all_at (HasRoomFor o) ds p d all is in
      let few = few_nodes p x there in
      record { spare = room.0; doomed = omega (arith, few, room.1); here = room.2 }

-- peers and drivers of an opening are in stock
pub new_stocked : (o : Opening) (xs : List PeerSeen) (ds : List Driver) → All (HasUsers o) (map (λ x. x.users) xs) → map (λ x. x.part) xs ≡ (opening_state o).peers → map (λ d. d.part) ds ≡ idle_drivers 0 o.peers → AreNew (opening_state o).peers ds → AreStocked o xs ds
new_stocked o xs ds users peers drivers new p x d there is =
    let one = new p x.part d (subst (λ l. slice_get l p ≡ Some x.part) peers (at_map (λ (y : PeerSeen). y.part) xs p x there)) is in
    let idle = idle_calls 0 o.peers p d.part (subst (λ l. slice_get l p ≡ Some d.part) drivers (at_map (λ (e : Driver). e.part) ds p d is)) in
    let spare = one.spare in
    let none = ap length idle in
    record { users = all_at (HasUsers o) (map (λ y. y.users) xs) p x.users users (at_map (λ (y : PeerSeen). y.users) xs p x there); few = omega (arith, spare, none); doomed = one.doomed; here = one.here }

-- ---- the core

pub state_is : (o : Opening) (xs : List PeerSeen) (ds : List Driver) → map (λ x. x.part) xs ≡ (opening_state o).peers → map (λ d. d.part) ds ≡ idle_drivers 0 o.peers → state_of xs ds ≡ opening_state o
state_is o xs ds peers drivers = λ i. record { peers = peers i; drivers = drivers i }

pub core_new : (o : Opening) (lists : List (List Command)) (xs : List PeerSeen) (ds : List Driver) → IsOpening o → length lists ≡ length o.peers → map (λ x. x.part) xs ≡ (opening_state o).peers → map (λ d. d.part) ds ≡ idle_drivers 0 o.peers
    → All (HasUsers o) (map (λ x. x.users) xs) → AreNew (opening_state o).peers ds → IsCore o lists xs ds
core_new o lists xs ds opening as_many peers drivers users new = record {
  opening = opening;
  as_many = as_many;
  reached = record { steps = []; run = sym (state_is o xs ds peers drivers) };
  stocked = new_stocked o xs ds users peers drivers new;
}

-- ---- a wire

part_read_at : (xs : List PeerSeen) (i : ℕ) (x : PeerSeen) → i < length xs → x ≡ get_or xs i x → part_of (map (λ y. y.part) xs) i ≡ x.part
part_read_at [] i x within is = absurd (omega (arith, within))
part_read_at (z ∷ xs) zero x within is = ap (λ y. y.part) (sym is)
part_read_at (z ∷ xs) (suc i) x within is = part_read_at xs i x (omega (arith, within)) is

pub part_read : (xs : List PeerSeen) (i : ℕ) (x : PeerSeen) → i < length xs → x ≡ get_or xs i x → x.part ≡ part_of (map (λ y. y.part) xs) i
part_read xs i x within is = sym (part_read_at xs i x within is)

-- one part changes
pub part_changed : (f : PeerPart → PeerPart) (xs : List PeerSeen) (i : ℕ) (x y : PeerSeen) → i < length xs → x ≡ get_or xs i x → y.part ≡ f x.part → map (λ z. z.part) (set xs i y) ≡ with_part i f (map (λ z. z.part) xs)
part_changed f xs i x y within is changed = map_set (λ (z : PeerSeen). z.part) xs i y ∙ ap (set (map (λ z. z.part) xs) i) (changed ∙ ap f (part_read xs i x within is))

-- the users stay
pub users_same : (xs : List PeerSeen) (i : ℕ) (x y : PeerSeen) → i < length xs → x ≡ get_or xs i x → y.users ≡ x.users → map (λ z. z.users) (set xs i y) ≡ map (λ z. z.users) xs
users_same xs i x y within is same =
    map_set (λ (z : PeerSeen). z.users) xs i y ∙ ap (set (map (λ z. z.users) xs) i) same ∙ same_set (map (λ z. z.users) xs) i x.users (at_map (λ (z : PeerSeen). z.users) xs i x (read_at xs i x within is))

-- what follows where there was memory
pub passed : {A E : Type 0} {P Q : Type 0} (r : Result A E) → (P → Q) → OnOk r P → OnOk r Q
passed (Ok a) gives p = gives p
passed (Err e) gives p = p

-- the node that a number names is passed on, or none is named
pub wired_node : (xs : List PeerPart) (w : Wire) (node : NodeRef) → node_named (part_of (with_part w.from (wire_made w.number) xs) w.from) w.number ≡ Some node → wired xs w ≡ with_part w.to (wire_held node) (with_part node.owner (wire_counted node w.to) (with_part w.from (wire_made w.number) xs))
wired_node xs w node is = ap (λ (n : Option NodeRef). elim n as (λ z. List PeerPart) [ None ↦ with_part w.from (wire_made w.number) xs | Some m ↦ with_part w.to (wire_held m) (with_part m.owner (wire_counted m w.to) (with_part w.from (wire_made w.number) xs)) ]) is

pub wired_none : (xs : List PeerPart) (w : Wire) → node_named (part_of (with_part w.from (wire_made w.number) xs) w.from) w.number ≡ None → wired xs w ≡ with_part w.from (wire_made w.number) xs
wired_none xs w is = ap (λ (n : Option NodeRef). elim n as (λ z. List PeerPart) [ None ↦ with_part w.from (wire_made w.number) xs | Some m ↦ with_part w.to (wire_held m) (with_part m.owner (wire_counted m w.to) (with_part w.from (wire_made w.number) xs)) ]) is

-- the giver's part after its node was looked up
pub giver_is : (xs : List PeerSeen) (w : Wire) (x y : PeerSeen) → w.from < length xs → x ≡ get_or xs w.from x → y.part ≡ wire_made w.number x.part → part_of (with_part w.from (wire_made w.number) (map (λ z. z.part) xs)) w.from ≡ y.part
giver_is xs w x y within is made =
    set_read (map (λ z. z.part) xs) w.from (wire_made w.number (part_of (map (λ z. z.part) xs) w.from)) no_peer (let k = length-map xs (λ z. z.part) in omega (arith, k, within))
    ∙ ap (wire_made w.number) (sym (part_read xs w.from x within is)) ∙ sym made

-- ---- ends of the loops

pub take_all : {X : Type 0} (xs : List X) (n : ℕ) → length xs ≤ n → take n xs ≡ xs
take_all [] zero all = refl
take_all [] (suc n) all = refl
take_all (x ∷ xs) zero all = absurd (omega (arith, all))
take_all (x ∷ xs) (suc n) all = ap (λ l. x ∷ l) (take_all xs n (omega (arith, all)))

pub split_at : {X : Type 0} (xs : List X) (i : ℕ) (d : X) → i < length xs → take i xs ++ get_or xs i d ∷ drop (i + 1) xs ≡ xs
split_at [] i d within = absurd (omega (arith, within))
split_at (x ∷ xs) zero d within = refl
split_at (x ∷ xs) (suc i) d within = let moved : suc i + 1 ≡ suc (i + 1) = omega arith in ap (λ n. x ∷ (take i xs ++ get_or xs i d ∷ drop n (x ∷ xs))) moved ∙ ap (λ l. x ∷ l) (split_at xs i d (omega (arith, within)))

pub count_before : (o : Opening) (here : ℕ) (specs : List PeerSpec) → length (peers_before o here specs) ≡ length specs
count_before o here [] = refl
count_before o here (spec ∷ rest) = ap suc (count_before o (here + 1) rest)

pub count_idle : (here : ℕ) (specs : List PeerSpec) → length (idle_drivers here specs) ≡ length specs
count_idle here [] = refl
count_idle here (spec ∷ rest) = ap suc (count_idle (here + 1) rest)

pub map_more : {X Y : Type 0} (f : X → Y) (xs : List X) (x : X) → map f (xs ++ x ∷ []) ≡ map f xs ++ f x ∷ []
map_more f [] x = refl
map_more f (z ∷ xs) x = ap (λ l. f z ∷ l) (map_more f xs x)

pub all_more : {X : Type 0} (P : X → Type 0) (xs : List X) (x : X) → All P xs → P x → All P (xs ++ x ∷ [])
all_more P [] x all px = All-cons P x [] px (All-nil P)
all_more P (z ∷ xs) x all px = All-cons P z (xs ++ x ∷ []) (All-head P z xs all) (all_more P xs x (All-tail P z xs all) px)
