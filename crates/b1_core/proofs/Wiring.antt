-- While the wires of an opening are given, each one can be given: the state so far is that of an opening with fewer wires.
use Rattle.std.proofs.Common.{◌≡◌, ◌≢◌, ◌⊎◌, refl, sym, ap, ◌∙◌, inl, inr, subst, ℕ, zero, suc, ◌+◌, ◌-◌, ◌<◌, ◌≤◌, Bool, true, false, ◌&&◌, ◌==◌, cond, List, [], ◌∷◌, ◌++◌, fold, find, length, set, get_or, replicate, Option, Some, None, slice_get}
use Rattle.std.proofs.lemmas.Bool.{cases_lt, eqb-true}
use Rattle.std.proofs.lemmas.List.{length-append}
use native.Mathlib.Omega.{arith}
use Rattle.b1_model.specs.declared.naming.NodeRef.{NodeRef}
use Rattle.b1_model.specs.declared.naming.PeerSpec.{PeerSpec}
use Rattle.b1_model.specs.declared.naming.Wire.{Wire}
use Rattle.b1_model.specs.declared.naming.Opening.{Opening}
use Rattle.b1_model.specs.declared.parts.NodeState.TheVariants.{Live}
use Rattle.b1_model.specs.Names.{is_own}
use Rattle.b1_model.specs.Opening.{IsOpening, AreWired, CanWire, after_wire}
use Rattle.b1_model.specs.MachineParts.{PeerPart, NodePart, HandleRecord, is_live, no_node, no_record, same_ref, ref_before}
use Rattle.b1_model.specs.MachineTables.{counted, more_held, next_number, node_named, serial_of, with_made, with_node, changed_or_made}
use Rattle.b1_model.specs.MachineStep.{no_peer, with_part, wire_made, wire_counted, wire_held, wired, peer_before, peers_before, opening_state}
use Rattle.b1_step.specs.Rights.{Has}
use Rattle.b1_step.proofs.Lists.{set_cases}
use Rattle.b1_core.specs.Wiring.{part_of}

-- ---- an opening with fewer wires

abbrev pub with_wires : Opening → List Wire → Opening
with_wires o ws = record { first_clock = o.first_clock; peers = o.peers; wires = ws }

same_before : (o : Opening) (ws : List Wire) (me : ℕ) (specs : List PeerSpec) → peers_before (with_wires o ws) me specs ≡ peers_before o me specs
same_before o ws me [] = refl
same_before o ws me (spec ∷ rest) = ap (λ l. peer_before o me spec ∷ l) (same_before o ws (me + 1) rest)

fewer_wired : (n : ℕ) (held ws rest : List Wire) → AreWired n held (ws ++ rest) → AreWired n held ws
fewer_wired n held [] rest are = tt
fewer_wired n held (w ∷ ws) rest are = (are.0, fewer_wired n (after_wire held w) ws rest are.1)

pub next_wired : (n : ℕ) (held ws : List Wire) (w : Wire) (rest : List Wire) → AreWired n held (ws ++ w ∷ rest) → (before : List Wire) × CanWire n before w
next_wired n held [] w rest are = (held, are.0)
next_wired n held (v ∷ ws) w rest are = next_wired n (after_wire held v) ws w rest are.1

pub fewer : (o : Opening) (ws rest : List Wire) → IsOpening o → ws ++ rest ≡ o.wires → IsOpening (with_wires o ws)
fewer o ws rest is split = record {
  least = is.least;
  most = is.most;
  even = is.even;
  clock = is.clock;
  pools = is.pools;
  together = is.together;
  few = let k = is.few in let l = length-append ws rest in omega (arith, k, l, ap length split);
  wires = fewer_wired (length o.peers) [] ws rest (subst (AreWired (length o.peers) []) (sym split) is.wires);
}

-- the peers' parts after some wires
abbrev pub after : Opening → List Wire → List PeerPart
after o ws = fold wired (peers_before o 0 o.peers) ws

pub after_is : (o : Opening) (ws : List Wire) → (opening_state (with_wires o ws)).peers ≡ after o ws
after_is o ws = ap (λ xs. fold wired xs ws) (same_before o ws 0 o.peers)

-- ---- what stays plain while wires are given

pub record Plain (x : PeerPart) : Type 0 where
  pub unused : x.queue ≡ []
  pub live : (n : NodePart) → Has x.nodes n → is_live n.state ≡ true
  pub alive : (h : HandleRecord) → Has x.handles h → h.dead ≡ false

abbrev pub ArePlain : List PeerPart → Type 0
ArePlain xs = (q : ℕ) (x : PeerPart) → slice_get xs q ≡ Some x → Plain x

has_more : {X : Type 0} (xs : List X) (y x : X) → Has (xs ++ y ∷ []) x → Has xs x ⊎ (x ≡ y)
has_more [] y x (inl same) = inr same
has_more [] y x (inr none) = absurd none
has_more (z ∷ xs) y x (inl same) = inl (inl same)
has_more (z ∷ xs) y x (inr there) = elim (has_more xs y x there) [ inl h ↦ inl (inr h) | inr same ↦ inr same ]

has_set : {X : Type 0} (xs : List X) (i : ℕ) (y x : X) → Has (set xs i y) x → Has xs x ⊎ (x ≡ y)
has_set [] i y x h = absurd h
has_set (z ∷ xs) zero y x (inl same) = inr same
has_set (z ∷ xs) zero y x (inr there) = inl (inr there)
has_set (z ∷ xs) (suc i) y x (inl same) = inl (inl same)
has_set (z ∷ xs) (suc i) y x (inr there) = elim (has_set xs i y x there) [ inl h ↦ inl (inr h) | inr same ↦ inr same ]

pub has_get : {X : Type 0} (xs : List X) (i : ℕ) (d : X) → i < length xs → Has xs (get_or xs i d)
has_get [] i d within = absurd (omega (arith, within))
has_get (x ∷ xs) zero d within = inl refl
has_get (x ∷ xs) (suc i) d within = inr (has_get xs i d (omega (arith, within)))

past_set : {X : Type 0} (xs : List X) (i : ℕ) (y : X) → length xs ≤ i → set xs i y ≡ xs
past_set [] i y past = refl
past_set (x ∷ xs) zero y past = absurd (omega (arith, past))
past_set (x ∷ xs) (suc i) y past = ap (λ l. x ∷ l) (past_set xs i y (omega (arith, past)))

made_live : (number peers : ℕ) (nodes : List NodePart) → ((n : NodePart) → Has nodes n → is_live n.state ≡ true) → (n : NodePart) → Has (with_made peers number nodes) n → is_live n.state ≡ true
made_live number peers nodes live n h = by (serial_of number nodes) h
  where
    by : (found : Option ℕ) → Has (elim found as (λ z. List NodePart) [ None ↦ nodes ++ record { number = number; state = Live; counts = replicate peers 0; taken = false } ∷ [] | Some serial ↦ nodes ]) n → is_live n.state ≡ true
    by None h = elim (has_more nodes (record { number = number; state = Live; counts = replicate peers 0; taken = false }) n h) [ inl old ↦ live n old | inr new ↦ ap (λ m. is_live m.state) new ]
    by (Some serial) h = live n h

counted_live : (serial dest : ℕ) (nodes : List NodePart) → ((n : NodePart) → Has nodes n → is_live n.state ≡ true) → (n : NodePart) → Has (with_node serial (counted dest) nodes) n → is_live n.state ≡ true
counted_live serial dest nodes live n h =
    elim (cases_lt serial (length nodes)) [
      | inl within ↦ elim (has_set nodes serial (counted dest (get_or nodes serial no_node)) n h) [
        | inl old ↦ live n old
        | inr new ↦ ap (λ m. is_live m.state) new ∙ live (get_or nodes serial no_node) (has_get nodes serial no_node within)
      ]
      | inr past ↦ live n (subst (λ l. Has l n) (past_set nodes serial (counted dest (get_or nodes serial no_node)) past) h)
    ]

held_alive : (node : NodeRef) (f : HandleRecord → HandleRecord) → ((h : HandleRecord) → (f h).dead ≡ h.dead) → (hs : List HandleRecord) → ((h : HandleRecord) → Has hs h → h.dead ≡ false) → (g : HandleRecord) → Has (changed_or_made node f hs) g → g.dead ≡ false
held_alive node f keeps [] alive g (inl same) = ap (λ h. h.dead) same ∙ keeps (no_record node)
held_alive node f keeps [] alive g (inr none) = absurd none
held_alive node f keeps (h ∷ rest) alive g has = by (λ there. held_alive node f keeps rest (λ k h. alive k (inr h)) g there) (same_ref h.node node) (ref_before node h.node) has
  where
    by : (Has (changed_or_made node f rest) g → g.dead ≡ false) → (a b : Bool) → Has (cond a (f h ∷ rest) (cond b (f (no_record node) ∷ h ∷ rest) (h ∷ changed_or_made node f rest))) g → g.dead ≡ false
    by further true b (inl same) = ap (λ k. k.dead) same ∙ keeps h ∙ alive h (inl refl)
    by further true b (inr there) = alive g (inr there)
    by further false true (inl same) = ap (λ k. k.dead) same ∙ keeps (no_record node)
    by further false true (inr there) = alive g there
    by further false false (inl same) = ap (λ k. k.dead) same ∙ alive h (inl refl)
    by further false false (inr there) = further there

pub made_plain : (number : ℕ) (x : PeerPart) → Plain x → Plain (wire_made number x)
made_plain number x plain = by (is_own number)
  where
    by : (b : Bool) → Plain (cond b (record x { nodes = with_made x.peers number x.nodes }) x)
    by true = record { unused = plain.unused; live = made_live number x.peers x.nodes plain.live; alive = plain.alive }
    by false = plain

counted_plain : (node : NodeRef) (dest : ℕ) (x : PeerPart) → Plain x → Plain (wire_counted node dest x)
counted_plain node dest x plain = record { unused = plain.unused; live = counted_live node.serial dest x.nodes plain.live; alive = plain.alive }

held_plain : (node : NodeRef) (x : PeerPart) → Plain x → Plain (wire_held node x)
held_plain node x plain = record { unused = plain.unused; live = plain.live; alive = held_alive node (more_held (next_number x.given)) (λ h. refl) x.handles plain.alive }

read_before : (xs : List PeerPart) (i : ℕ) (v y : PeerPart) → slice_get (set xs i v) i ≡ Some y → slice_get xs i ≡ Some (get_or xs i no_peer)
read_before [] i v y is = absurd (cc is)
read_before (x ∷ rest) zero v y is = refl
read_before (x ∷ rest) (suc i) v y is = read_before rest i v y is

module _ (f : PeerPart → PeerPart) (keeps : (x : PeerPart) → Plain x → Plain (f x)) (xs : List PeerPart) (i : ℕ) (are : ArePlain xs) where
  plain_at : (q : ℕ) (y : PeerPart) → slice_get (set xs i (f (get_or xs i no_peer))) q ≡ Some y → ((q ≡ i) × (y ≡ f (get_or xs i no_peer))) ⊎ ((q ≢ i) × (slice_get xs q ≡ Some y)) → Plain y
  plain_at q y is (inl here) =
      subst Plain (sym here.1) (keeps (get_or xs i no_peer) (are i (get_or xs i no_peer) (read_before xs i (f (get_or xs i no_peer)) y (ap (slice_get (set xs i (f (get_or xs i no_peer)))) (sym here.0) ∙ is))))
  plain_at q y is (inr other) = are q y other.1

  pub plain_part : ArePlain (with_part i f xs)
  plain_part q y is = plain_at q y is (set_cases xs i q (f (get_or xs i no_peer)) y is)

before_plain : (o : Opening) (me : ℕ) (specs : List PeerSpec) → ArePlain (peers_before o me specs)
before_plain o me [] q x is = absurd (cc is)
before_plain o me (spec ∷ rest) zero x is = let same : peer_before o me spec ≡ x = cc is in subst Plain same (record { unused = refl; live = λ n h. absurd h; alive = λ h has. absurd has })
before_plain o me (spec ∷ rest) (suc q) x is = before_plain o (me + 1) rest q x is

passed_plain : (peers : List PeerPart) (w : Wire) (node : Option NodeRef) → ArePlain peers → ArePlain (elim node [ None ↦ peers | Some n ↦ with_part w.to (wire_held n) (with_part n.owner (wire_counted n w.to) peers) ])
passed_plain peers w None are = are
passed_plain peers w (Some n) are = plain_part (wire_held n) (held_plain n) (with_part n.owner (wire_counted n w.to) peers) w.to (plain_part (wire_counted n w.to) (counted_plain n w.to) peers n.owner are)

wires_plain : (ws : List Wire) (peers : List PeerPart) → ArePlain peers → ArePlain (fold wired peers ws)
wires_plain [] peers are = are
wires_plain (w ∷ rest) peers are =
    wires_plain rest (wired peers w)
    (passed_plain (with_part w.from (wire_made w.number) peers) w (node_named (get_or (with_part w.from (wire_made w.number) peers) w.from no_peer) w.number)
    (plain_part (wire_made w.number) (made_plain w.number) peers w.from are))

pub after_plain : (o : Opening) (ws : List Wire) → ArePlain (after o ws)
after_plain o ws = wires_plain ws (peers_before o 0 o.peers) (before_plain o 0 o.peers)

-- ---- what the state after a wire shows of its node

-- the record that a held node has afterwards
pub held_there : (node : NodeRef) (f : HandleRecord → HandleRecord) → ((h : HandleRecord) → (f h).node ≡ h.node) → (hs : List HandleRecord) → (g : HandleRecord) × Has (changed_or_made node f hs) g × (g.node.owner ≡ node.owner) × (g.node.serial ≡ node.serial)
held_there node f keeps [] = (f (no_record node), inl refl, ap (λ n. n.owner) (keeps (no_record node)), ap (λ n. n.serial) (keeps (no_record node)))
held_there node f keeps (h ∷ rest) = by (held_there node f keeps rest) (same_ref h.node node) (ref_before node h.node) refl
  where
    both : (a b : Bool) → (a && b) ≡ true → (a ≡ true) × (b ≡ true)
    both true b is = (refl, is)
    both false b is = absurd (cc is)

    by : ((g : HandleRecord) × Has (changed_or_made node f rest) g × (g.node.owner ≡ node.owner) × (g.node.serial ≡ node.serial)) → (a b : Bool) → same_ref h.node node ≡ a
        → (g : HandleRecord) × Has (cond a (f h ∷ rest) (cond b (f (no_record node) ∷ h ∷ rest) (h ∷ changed_or_made node f rest))) g × (g.node.owner ≡ node.owner) × (g.node.serial ≡ node.serial)
    by further true b is =
        let k = both (h.node.owner == node.owner) (h.node.serial == node.serial) is in
        (f h, inl refl, ap (λ n. n.owner) (keeps h) ∙ eqb-true h.node.owner node.owner k.0, ap (λ n. n.serial) (keeps h) ∙ eqb-true h.node.serial node.serial k.1)
    by further false true is = (f (no_record node), inl refl, ap (λ n. n.owner) (keeps (no_record node)), ap (λ n. n.serial) (keeps (no_record node)))
    by further false false is = let (g, there, owner, serial) = further in (g, inr there, owner, serial)

-- a record that is found is one of the list
pub found_or : (P : HandleRecord → Type 0) (test : HandleRecord → Bool) (hs : List HandleRecord) (none : HandleRecord) → P none → ((h : HandleRecord) → Has hs h → P h) → P (elim (find test hs) as (λ z. HandleRecord) [ None ↦ none | Some h ↦ h ])
found_or P test [] none p all = p
found_or P test (h ∷ rest) none p all = by (found_or P test rest none p (λ g k. all g (inr k))) (test h)
  where
    by : P (elim (find test rest) as (λ z. HandleRecord) [ None ↦ none | Some g ↦ g ]) → (b : Bool) → P (elim (cond b (Some h) (find test rest)) as (λ z. HandleRecord) [ None ↦ none | Some g ↦ g ])
    by further true = all h (inl refl)
    by further false = further

-- a count isn't above what it is after one more
pub count_rises : (counts : List ℕ) (dest : ℕ) → get_or counts dest 0 ≤ get_or (set counts dest (get_or counts dest 0 + 1)) dest 0
count_rises [] dest = omega arith
count_rises (k ∷ rest) zero = omega arith
count_rises (k ∷ rest) (suc dest) = count_rises rest dest

pub set_read : {X : Type 0} (xs : List X) (i : ℕ) (y d : X) → i < length xs → get_or (set xs i y) i d ≡ y
set_read [] i y d within = absurd (omega (arith, within))
set_read (x ∷ xs) zero y d within = refl
set_read (x ∷ xs) (suc i) y d within = set_read xs i y d (omega (arith, within))

pub set_apart : {X : Type 0} (xs : List X) (i j : ℕ) (y d : X) → i ≢ j → get_or (set xs i y) j d ≡ get_or xs j d
set_apart [] i j y d apart = refl
set_apart (x ∷ xs) zero zero y d apart = absurd (apart refl)
set_apart (x ∷ xs) zero (suc j) y d apart = refl
set_apart (x ∷ xs) (suc i) zero y d apart = refl
set_apart (x ∷ xs) (suc i) (suc j) y d apart = set_apart xs i j y d (λ e. apart (ap suc e))

pub there : (xs : List PeerPart) (i : ℕ) → i < length xs → slice_get xs i ≡ Some (part_of xs i)
there [] i within = absurd (omega (arith, within))
there (x ∷ xs) zero within = refl
there (x ∷ xs) (suc i) within = there xs i (omega (arith, within))

pub made_me : (number : ℕ) (x : PeerPart) → ((wire_made number x).me ≡ x.me) × ((wire_made number x).peers ≡ x.peers)
made_me number x = elim (is_own number) as (λ b. ((cond b (record x { nodes = with_made x.peers number x.nodes }) x).me ≡ x.me) × ((cond b (record x { nodes = with_made x.peers number x.nodes }) x).peers ≡ x.peers)) [ true ↦ (refl, refl) | false ↦ (refl, refl) ]
