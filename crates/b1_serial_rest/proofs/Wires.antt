-- Each wire of an opening changes the machine's parts and the serial bus alike.
use Rattle.std.proofs.Common.{◌≡◌, refl, sym, ap, ◌∙◌, ℕ, zero, suc, ◌+◌, ◌<◌, ◌==◌, Bool, true, false, cond, not, nat_lt, List, [], ◌∷◌, ◌++◌, map, fold, get_or, length, replicate, Option, Some, None, option_map, is_some, arith}
use Rattle.std.specs.Prelude.{slice_get}
use Rattle.std.specs.List.{position_or_len}
use Rattle.std.proofs.lemmas.Bool.{ne_eqb}
use Rattle.std.proofs.lemmas.List.{map-append, length-map}
use Rattle.b1_model.specs.declared.naming.NodeRef.{NodeRef}
use Rattle.b1_model.specs.declared.naming.Wire.{Wire}
use Rattle.b1_model.specs.declared.parts.NodeState.TheVariants.{Live}
use Rattle.b1_model.specs.Names.{is_own}
use Rattle.b1_model.specs.Opening.{CanWire}
use Rattle.b1_model.specs.MachineParts.{PeerPart, NodePart, HandleRecord, same_ref, record_of, record_or_none}
use Rattle.b1_model.specs.MachineTables as tables
use Rattle.b1_model.specs.MachineTables.{counted, with_node, changed_or_made, more_held, next_number}
use Rattle.b1_model.specs.MachineStep.{no_peer, with_part, wire_made, wire_counted, wire_held, idle_driver}
use Rattle.b1_model.specs.MachineStep as machine
use Rattle.b1_step.specs.Rights.{Has}
use Rattle.b1_step.specs.Ordered.{Rising}
use Rattle.b1_step.proofs.InOrder.{each_with_part}
use Rattle.b1_inv.specs.Numbers.{AreNumbered}
use Rattle.b1_inv_refs.proofs.Views.{or_none}
use Rattle.b1_inv_refs.proofs.Numbered.{EachRecord, each_made}
use Rattle.b1_inv_refs.proofs.GivenUp.{found_has}
use Rattle.b1_inv_refs.proofs.Places.{part_there}
use Rattle.b1_inv_refs.proofs.Wiring.{Peers, Wiring, wiring_made}
use Rattle.b1_serial_bus.specs.Parts.{OwnNode, Part, Bus, at_peer}
use Rattle.b1_serial_bus.specs.Named as named
use Rattle.b1_serial_bus.specs.Named.{making}
use Rattle.b1_serial_bus.specs.References.{raised, new_line, with_reference}
use Rattle.b1_serial_bus.specs.Opening.{wire_given}
use Rattle.b1_serial_bus.specs.Opening as bus
use Rattle.b1_serial_rest.specs.Standing.{own_of, lines_of, part_of}
use Rattle.b1_serial_rest.proofs.Records.{lines_name, lines_have, lines_raised, lines_new}

-- ---- parts without calls

-- a part whose driver has done nothing
abbrev pub idle_part : PeerPart → Part
idle_part x = part_of x (idle_driver 0)

-- one of them changes alike
pub idle_changed : (q : ℕ) (g : Part → Part) (f : PeerPart → PeerPart) (xs : Peers) → ((x : PeerPart) → slice_get xs q ≡ Some x → g (idle_part x) ≡ idle_part (f x)) → at_peer q g (map idle_part xs) ≡ map idle_part (with_part q f xs)
idle_changed q g f [] same = refl
idle_changed zero g f (x ∷ xs) same = ap (λ y. y ∷ map idle_part xs) (same x refl)
idle_changed (suc q) g f (x ∷ xs) same = ap (λ ys. idle_part x ∷ ys) (idle_changed q g f xs same)

-- a change that no peer of the bus shows
pub idle_same : (q : ℕ) (f : PeerPart → PeerPart) (xs : Peers) → ((x : PeerPart) → idle_part (f x) ≡ idle_part x) → map idle_part (with_part q f xs) ≡ map idle_part xs
idle_same q f [] same = refl
idle_same zero f (x ∷ xs) same = ap (λ y. y ∷ map idle_part xs) (same x)
idle_same (suc q) f (x ∷ xs) same = ap (λ ys. idle_part x ∷ ys) (idle_same q f xs same)

read_idle : (xs : Peers) (q : ℕ) → slice_get (map idle_part xs) q ≡ option_map idle_part (slice_get xs q)
read_idle [] q = refl
read_idle (x ∷ xs) zero = refl
read_idle (x ∷ xs) (suc q) = read_idle xs q

-- ---- nodes

first_same : (number : ℕ) (nodes : List NodePart) → position_or_len (λ (n : OwnNode). n.number == number) (map own_of nodes) ≡ position_or_len (λ (n : NodePart). n.number == number) nodes
first_same number [] = refl
first_same number (n ∷ rest) = ap (λ i. cond (not (n.number == number)) (1 + i) 0) (first_same number rest)

-- an own number has the same serial
pub serial_same : (number : ℕ) (nodes : List NodePart) → named.serial_of number (map own_of nodes) ≡ tables.serial_of number nodes
serial_same number nodes =
    ap (λ i. cond (nat_lt i (length (map own_of nodes))) (Some i) None) (first_same number nodes)
    ∙ ap (λ n. cond (nat_lt (position_or_len (λ (m : NodePart). m.number == number) nodes) n) (Some (position_or_len (λ (m : NodePart). m.number == number) nodes)) None) (length-map nodes own_of)

-- a node is made alike
pub node_made : (peers number : ℕ) (nodes : List NodePart) → named.with_made (map own_of nodes) number ≡ map own_of (tables.with_made peers number nodes)
node_made peers number nodes = ap new_bus (serial_same number nodes) ∙ by (tables.serial_of number nodes)
  where
    new_bus : Option ℕ → List OwnNode
    new_bus r = elim r [ None ↦ map own_of nodes ++ record { number = number; destroyed = None } ∷ [] | Some serial ↦ map own_of nodes ]

    by : (r : Option ℕ) → new_bus r ≡ map own_of (elim r [ None ↦ nodes ++ record { number = number; state = Live; counts = replicate peers 0; taken = false } ∷ [] | Some serial ↦ nodes ])
    by None = sym (map-append own_of nodes (record { number = number; state = Live; counts = replicate peers 0; taken = false } ∷ []))
    by (Some serial) = refl

making_same : (number : ℕ) (x : PeerPart) → making (number ∷ []) (idle_part x) ≡ idle_part (wire_made number x)
making_same number x = elim (is_own number) as (λ b. record (idle_part x) { nodes = fold named.with_made (map own_of x.nodes) (cond b (number ∷ []) []) } ≡ idle_part (cond b (record x { nodes = tables.with_made x.peers number x.nodes }) x)) [
  | true ↦ ap (λ ns. record (idle_part x) { nodes = ns }) (node_made x.peers number x.nodes)
  | false ↦ refl
]

-- counting a reference changes no number and no life
pub nodes_counted : (serial dest : ℕ) (nodes : List NodePart) → map own_of (with_node serial (counted dest) nodes) ≡ map own_of nodes
nodes_counted serial dest [] = refl
nodes_counted zero dest (n ∷ rest) = refl
nodes_counted (suc serial) dest (n ∷ rest) = ap (λ ns. own_of n ∷ ns) (nodes_counted serial dest rest)

counted_same : (node : NodeRef) (dest : ℕ) (x : PeerPart) → idle_part (wire_counted node dest x) ≡ idle_part x
counted_same node dest x = ap (λ ns. record (idle_part x) { nodes = ns }) (nodes_counted node.serial dest x.nodes)

-- ---- names

-- a number names the same node
pub named_same : (number : ℕ) (x : PeerPart) → named.node_named (idle_part x) number ≡ tables.node_named x number
named_same number x =
    ap (λ r. cond (is_own number) (elim r [ None ↦ None | Some serial ↦ Some (record { owner = x.me; serial = serial }) ]) (named.held_node (idle_part x) number)) (serial_same number x.nodes)
    ∙ ap (λ r. cond (is_own number) (elim (tables.serial_of number x.nodes) [ None ↦ None | Some serial ↦ Some (record { owner = x.me; serial = serial }) ]) r) (lines_name number x.handles)

-- ---- references

-- a part before the first command: its records are in order, numbered, and none is dead
pub record Fresh (x : PeerPart) : Type 0 where
  pub rising : Rising x.handles
  pub numbered : AreNumbered x.given x.handles
  pub alive : EachRecord (λ h. h.dead ≡ false) x.handles

-- a reference comes to a part alike
pub held_same : (node : NodeRef) (x : PeerPart) → Fresh x → with_reference node (idle_part x) ≡ idle_part (wire_held node x)
held_same node x fresh = ap reference (lines_have node x.handles fresh.rising) ∙ by (record_of node x.handles) refl (record_or_none node x.handles).number refl
  where
    reference : Bool → Part
    reference b = cond b (record (idle_part x) { lines = map (raised node) (lines_of x.handles) }) (record (idle_part x) { lines = lines_of x.handles ++ new_line x.given node ∷ []; given = x.given + 1 })

    dead_none : (r : Option HandleRecord) → record_of node x.handles ≡ r → (or_none node r).dead ≡ false
    dead_none None none = refl
    dead_none (Some h) found = fresh.alive h (found_has (λ g. same_ref g.node node) x.handles h found).0

    held_none : (r : Option HandleRecord) → record_of node x.handles ≡ r → (or_none node r).number ≡ None → (or_none node r).held ≡ 0
    held_none None none nothing = refl
    held_none (Some h) found nothing = fresh.numbered.unheld h (found_has (λ g. same_ref g.node node) x.handles h found).0 nothing

    held_some : (k : ℕ) (r : Option HandleRecord) → record_of node x.handles ≡ r → (or_none node r).number ≡ Some k → (or_none node r).held == 0 ≡ false
    held_some k None none nothing = absurd (cc nothing)
    held_some k (Some h) found is = let positive = (fresh.numbered.held h k (found_has (λ g. same_ref g.node node) x.handles h found).0 is).0 in ne_eqb h.held 0 (λ e. absurd (omega (arith, positive, e)))

    below : (h : HandleRecord) (k : ℕ) → Has x.handles h → h.number ≡ Some k → k < next_number x.given
    below h k there is = let g = (fresh.numbered.held h k there is).1 in let less = g.1 in let same : k ≡ next_number g.0 = g.2 in omega (arith, less, same)

    by : (r : Option HandleRecord) → record_of node x.handles ≡ r → (number : Option ℕ) → (record_or_none node x.handles).number ≡ number → reference (is_some (record_or_none node x.handles).number) ≡ idle_part (wire_held node x)
    by r found None none =
        let lines = lines_new node (next_number x.given) x.handles fresh.rising fresh.numbered.unheld below (dead_none (record_of node x.handles) refl) (ap is_some none) in
        let given_is : cond ((record_or_none node x.handles).held == 0) (x.given + 1) x.given ≡ x.given + 1 = ap (λ k. cond (k == 0) (x.given + 1) x.given) (held_none (record_of node x.handles) refl none) in
        ap (λ k. reference (is_some k)) none ∙ sym (ap (λ g. record (idle_part x) { lines = lines_of (changed_or_made node (more_held (next_number x.given)) x.handles); given = g }) given_is ∙ ap (λ ls. record (idle_part x) { lines = ls; given = x.given + 1 }) lines)
    by r found (Some k) some =
        let lines = lines_raised node (next_number x.given) x.handles fresh.rising (λ h m there is. (fresh.numbered.held h m there is).0) (ap is_some some) in
        let given_is : cond ((record_or_none node x.handles).held == 0) (x.given + 1) x.given ≡ x.given = ap (λ b. cond b (x.given + 1) x.given) (held_some k (record_of node x.handles) refl some) in
        ap (λ k. reference (is_some k)) some ∙ sym (ap (λ g. record (idle_part x) { lines = lines_of (changed_or_made node (more_held (next_number x.given)) x.handles); given = g }) given_is ∙ ap (λ ls. record (idle_part x) { lines = ls }) lines)

-- ---- a wire

abbrev pub Each : (PeerPart → Type 0) → Peers → Type 0
Each P xs = (q : ℕ) (x : PeerPart) → slice_get xs q ≡ Some x → P x

-- no record of a part is dead
abbrev pub IsAlive : PeerPart → Type 0
IsAlive x = EachRecord (λ h. h.dead ≡ false) x.handles

made_alive : (number : ℕ) (x : PeerPart) → IsAlive x → IsAlive (wire_made number x)
made_alive number x alive = elim (is_own number) as (λ b. IsAlive (cond b (record x { nodes = tables.with_made x.peers number x.nodes }) x)) [ true ↦ alive | false ↦ alive ]

held_alive : (node : NodeRef) (x : PeerPart) → IsAlive x → IsAlive (wire_held node x)
held_alive node x alive = each_made (λ h. h.dead ≡ false) node (more_held (next_number x.given)) (λ h still. still) refl x.handles alive

counted_fresh : (node : NodeRef) (dest : ℕ) (x : PeerPart) → Fresh x → Fresh (wire_counted node dest x)
counted_fresh node dest x fresh = record { rising = fresh.rising; numbered = fresh.numbered; alive = fresh.alive }

module _ (n : ℕ) (held : List Wire) (xs : Peers) (k : Wiring n held xs) (w : Wire) (can : CanWire n held w) (alive : Each IsAlive xs) where
  abbrev made : Peers
  made = with_part w.from (wire_made w.number) xs

  made_wiring : Wiring n held made
  made_wiring = wiring_made n held xs k w.from w.number

  alive_made : Each IsAlive made
  alive_made = each_with_part IsAlive (wire_made w.number) (made_alive w.number) xs w.from alive

  fresh_made : Each Fresh made
  fresh_made q x is = let laid = made_wiring.part q x is in record { rising = laid.rising; numbered = laid.numbered; alive = alive_made q x is }

  abbrev giver : PeerPart
  giver = get_or made w.from no_peer

  giver_is : slice_get made w.from ≡ Some giver
  giver_is = part_there made w.from (let c = made_wiring.count in let f = can.from in omega (arith, c, f))

  abbrev counted_parts : NodeRef → Peers
  counted_parts node = with_part node.owner (wire_counted node w.to) made

  abbrev given_parts : Option NodeRef → Peers
  given_parts node = elim node [ None ↦ made | Some one ↦ with_part w.to (wire_held one) (counted_parts one) ]

  abbrev given_bus : Option NodeRef → Bus
  given_bus node = elim node [ None ↦ map idle_part made | Some one ↦ at_peer w.to (with_reference one) (map idle_part made) ]

  given_same : (node : Option NodeRef) → given_bus node ≡ map idle_part (given_parts node)
  given_same None = refl
  given_same (Some one) =
      ap (at_peer w.to (with_reference one)) (sym (idle_same one.owner (wire_counted one w.to) made (counted_same one w.to)))
      ∙ idle_changed w.to (with_reference one) (wire_held one) (counted_parts one)
      (λ x is. held_same one x (each_with_part Fresh (wire_counted one w.to) (counted_fresh one w.to) made one.owner fresh_made w.to x is))

  abbrev by_giver : Option Part → Bus
  by_giver found = elim found [ None ↦ map idle_part made | Some y ↦ given_bus (named.node_named y w.number) ]

  -- the parts and the bus after the wire
  pub wire_same : bus.wired (map idle_part xs) w ≡ map idle_part (machine.wired xs w)
  wire_same =
      ap (wire_given w) (idle_changed w.from (making (w.number ∷ [])) (wire_made w.number) xs (λ x is. making_same w.number x))
      ∙ ap by_giver (read_idle made w.from ∙ ap (option_map idle_part) giver_is)
      ∙ ap given_bus (named_same w.number giver)
      ∙ given_same (tables.node_named giver w.number)

  alive_by : (node : Option NodeRef) → Each IsAlive (given_parts node)
  alive_by None = alive_made
  alive_by (Some one) = each_with_part IsAlive (wire_held one) (held_alive one) (counted_parts one) w.to (each_with_part IsAlive (wire_counted one w.to) (λ x still. still) made one.owner alive_made)

  pub wire_alive : Each IsAlive (machine.wired xs w)
  wire_alive = alive_by (tables.node_named giver w.number)
