-- A step at its driver's own peer that ends its command leads from rest to rest, where it changes the bus alike.
use Rattle.std.proofs.Common.{◌≡◌, ◌≢◌, ◌⊎◌, refl, sym, ap, ◌∙◌, subst, inl, inr, ℕ, zero, suc, ◌+◌, List, [], ◌∷◌, get_or, set, Option, Some, None}
use Rattle.std.specs.Prelude.{slice_get}
use Rattle.std.proofs.lemmas.Option.{same_Some}
use Rattle.b1_model.specs.declared.naming.Key.{Key}
use Rattle.b1_model.specs.declared.naming.NodeRef.{NodeRef}
use Rattle.b1_model.specs.declared.naming.Opening.{Opening}
use Rattle.b1_model.specs.declared.entries.Entry.{Entry}
use Rattle.b1_model.specs.declared.commands.Command.{Command}
use Rattle.b1_model.specs.MachineParts.{PeerPart, DriverPart, NodePart, State, no_node, node_at}
use Rattle.b1_model.specs.MachineTables.{count_of}
use Rattle.b1_model.specs.MachineStep.{Step}
use Rattle.b1_step.specs.Rights.{Has}
use Rattle.b1_step.proofs.Lists.{set_cases}
use Rattle.b1_step.proofs.Numbers.{step_numbered}
use Rattle.b1_inv.specs.Words.{IsPeer, IsDriver}
use Rattle.b1_inv.specs.References.{count_in}
use Rattle.b1_serial_bus.specs.Parts.{Part, Bus, at_peer}
use Rattle.b1_serial_rest.specs.Standing.{part_of, parts_of, bus_of}
use Rattle.b1_serial_rest.specs.Rest.{held_times, boxed_times, IsQuiet, AtRest}
use Rattle.b1_serial_rest.proofs.Shown.{shown, read_shown, boxes_same}

-- ---- the parts of a peer of the bus

abbrev pub Parts : List PeerPart → List DriverPart → ℕ → Part → Type 0
Parts xs ds p y = (x : PeerPart) × (d : DriverPart) × (slice_get xs p ≡ Some x) × (slice_get ds p ≡ Some d) × (y ≡ part_of x d)

pub parts_at : (xs : List PeerPart) (ds : List DriverPart) (p : ℕ) (y : Part) → slice_get (parts_of xs ds) p ≡ Some y → Parts xs ds p y
parts_at [] ds p y is = absurd (cc is)
parts_at (x ∷ xs) [] p y is = absurd (cc is)
parts_at (x ∷ xs) (d ∷ ds) zero y is = (x, d, refl, refl, sym (same_Some (part_of x d) y is))
parts_at (x ∷ xs) (d ∷ ds) (suc p) y is = parts_at xs ds p y is

-- both parts change at their place
parts_set : (g : Part → Part) (xs : List PeerPart) (ds : List DriverPart) (p : ℕ) (x z : PeerPart) (d e : DriverPart) → slice_get xs p ≡ Some x → slice_get ds p ≡ Some d → g (part_of x d) ≡ part_of z e → parts_of (set xs p z) (set ds p e) ≡ at_peer p g (parts_of xs ds)
parts_set g [] ds p x z d e is_x is_d same = absurd (cc is_x)
parts_set g (v ∷ xs) [] p x z d e is_x is_d same = absurd (cc is_d)
parts_set g (v ∷ xs) (w ∷ ds) zero x z d e is_x is_d same =
    ap (λ y. y ∷ parts_of xs ds) (sym same ∙ ap (λ u. g (part_of u d)) (sym (same_Some v x is_x)) ∙ ap (λ u. g (part_of v u)) (sym (same_Some w d is_d)))
parts_set g (v ∷ xs) (w ∷ ds) (suc p) x z d e is_x is_d same = ap (λ ys. part_of v w ∷ ys) (parts_set g xs ds p x z d e is_x is_d same)

-- the count of a peer's references to a node of a part, if it is there
abbrev count_by : ℕ → ℕ → Option PeerPart → ℕ
count_by serial q r = elim r [ None ↦ 0 | Some v ↦ count_of (node_at v serial) q ]

-- a part that keeps its nodes keeps their counts
counts_set : (serial q : ℕ) (xs : List PeerPart) (p i : ℕ) (x z : PeerPart) → slice_get xs p ≡ Some x → z.nodes ≡ x.nodes → count_by serial q (slice_get (set xs p z) i) ≡ count_by serial q (slice_get xs i)
counts_set serial q [] p i x z is same = refl
counts_set serial q (v ∷ xs) zero zero x z is same = ap (λ nodes. count_of (get_or nodes serial no_node) q) (same ∙ ap (λ u. u.nodes) (sym (same_Some v x is)))
counts_set serial q (v ∷ xs) zero (suc i) x z is same = refl
counts_set serial q (v ∷ xs) (suc p) zero x z is same = refl
counts_set serial q (v ∷ xs) (suc p) (suc i) x z is same = counts_set serial q xs p i x z is same

-- ---- what a quiet state says of a part

-- its dead list, its late holders, its queue and its nodes
pub record Left : Type 0 where
  pub dead : List (List (NodeRef × ℕ))
  pub late : List ℕ
  pub queue : List (Key × Entry)
  pub nodes : List NodePart

abbrev pub left : PeerPart → Left
left x = record { dead = x.dead; late = x.late; queue = x.queue; nodes = x.nodes }

-- ---- a step at its driver's own peer

-- a step of a driver at its own peer that ends its command, and leaves what a quiet state says of both
module _ (o : Opening) (s : State) (bus : Bus) (p : ℕ) (begins : Option Command) (t : State) (rest : AtRest o s bus) (step : Step o s p begins t) (at_is : step.at ≡ p)
    (change : Part → Part) (keeps : (z : Part) → shown (change z) ≡ shown z) (changed : change (part_of step.peer step.driver) ≡ part_of step.new_peer step.new_driver)
    (new_left : left step.new_peer ≡ left step.peer) (new_idle : step.new_driver.doing ≡ None) (new_paid : step.new_driver.owed ≡ []) where
  peer_there : slice_get s.peers p ≡ Some step.peer
  peer_there = ap (slice_get s.peers) (sym at_is) ∙ step.is_peer

  peers_are : t.peers ≡ set s.peers p step.new_peer
  peers_are = step.peers ∙ ap (λ q. set s.peers q step.new_peer) at_is

  bus_after : at_peer p change bus ≡ bus_of t
  bus_after =
      ap (at_peer p change) rest.is_bus
      ∙ sym (parts_set change s.peers s.drivers p step.peer step.new_peer step.driver step.new_driver peer_there step.is_driver changed)
      ∙ ap (λ xs. parts_of xs (set s.drivers p step.new_driver)) (sym peers_are)
      ∙ ap (parts_of t.peers) (sym step.drivers)

  -- each driver's part was there, or is the new one
  driver_after : (r : ℕ) (e : DriverPart) → IsDriver t r e → ((r ≡ p) × (e ≡ step.new_driver)) ⊎ ((r ≢ p) × (slice_get s.drivers r ≡ Some e))
  driver_after r e there = set_cases s.drivers p r step.new_driver e (ap (λ ds. slice_get ds r) (sym step.drivers) ∙ there)

  -- each peer's part was there, but for what the command changes
  peer_after : (q : ℕ) (z : PeerPart) → IsPeer t q z → (v : PeerPart) × IsPeer s q v × (left z ≡ left v)
  peer_after q z there = by (set_cases s.peers p q step.new_peer z (ap (λ xs. slice_get xs q) (sym peers_are) ∙ there))
    where
      by : ((q ≡ p) × (z ≡ step.new_peer)) ⊎ ((q ≢ p) × (slice_get s.peers q ≡ Some z)) → (v : PeerPart) × IsPeer s q v × (left z ≡ left v)
      by (inl one) = (step.peer, ap (slice_get s.peers) one.0 ∙ peer_there, ap left one.1 ∙ new_left)
      by (inr other) = (z, other.1, refl)

  idle_after : (r : ℕ) (e : DriverPart) → IsDriver t r e → e.doing ≡ None
  idle_after r e there = elim (driver_after r e there) [
    | inl one ↦ ap (λ z. z.doing) one.1 ∙ new_idle
    | inr other ↦ rest.quiet.idle r e other.1
  ]

  paid_after : (r : ℕ) (e : DriverPart) → IsDriver t r e → e.owed ≡ []
  paid_after r e there = elim (driver_after r e there) [
    | inl one ↦ ap (λ z. z.owed) one.1 ∙ new_paid
    | inr other ↦ rest.quiet.paid r e other.1
  ]

  quiet_after : IsQuiet t
  quiet_after = record {
    idle = idle_after;
    paid = paid_after;
    given_up = λ q z there. let v = peer_after q z there in ap (λ l. l.dead) v.2 ∙ rest.quiet.given_up q v.0 v.1;
    in_time = λ q z there. let v = peer_after q z there in ap (λ l. l.late) v.2 ∙ rest.quiet.in_time q v.0 v.1;
    committed = λ q z f there queued. let v = peer_after q z there in rest.quiet.committed q v.0 f v.1 (subst (λ l. Has l.queue f) v.2 queued);
    stamped = λ q z n there made. let v = peer_after q z there in rest.quiet.stamped q v.0 n v.1 (subst (λ l. Has l.nodes n) v.2 made);
  }

  counts_after : (node : NodeRef) (q : ℕ) (z : Part) → slice_get (at_peer p change bus) q ≡ Some z → count_in t node q ≡ held_times node z.lines + boxed_times node z.box
  counts_after node q z there =
      let w = read_shown change keeps bus p q z there in
      ap (λ xs. count_by node.serial q (slice_get xs node.owner)) peers_are
      ∙ counts_set node.serial q s.peers p node.owner step.peer step.new_peer peer_there (ap (λ l. l.nodes) new_left)
      ∙ rest.counts node q w.0 w.1
      ∙ ap (λ v. held_times node v.lines + boxed_times node v.box) (sym w.2)

  -- at rest again
  pub own_step_rests : AtRest o t (at_peer p change bus)
  own_step_rests = record {
    numbered = step_numbered rest.numbered step;
    quiet = quiet_after;
    is_bus = bus_after;
    counts = counts_after;
    boxes = boxes_same change keeps bus p rest.boxes;
  }
