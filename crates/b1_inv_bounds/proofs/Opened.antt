-- Every bus begins within the bounds: each wire makes one node at most, gives one number at most and counts one reference.
use Rattle.std.proofs.Common.{◌≡◌, refl, sym, ap, inl, inr, subst, ℕ, zero, suc, ◌+◌, ◌≤◌, ◌==◌, Bool, true, false, cond, List, [], ◌∷◌, fold, get_or, length, Option, Some, None}
use Rattle.std.specs.Prelude.{slice_get}
use Rattle.std.proofs.lemmas.List.{length-set}
use native.Mathlib.Omega.{arith}
use Rattle.b1_model.specs.declared.naming.NodeRef.{NodeRef}
use Rattle.b1_model.specs.declared.naming.PeerSpec.{PeerSpec}
use Rattle.b1_model.specs.declared.naming.Wire.{Wire}
use Rattle.b1_model.specs.declared.naming.Opening.{Opening}
use Rattle.b1_model.specs.Names.{is_own}
use Rattle.b1_model.specs.MachineParts.{PeerPart, HandleRecord, no_node, node_at, record_or_none}
use Rattle.b1_model.specs.MachineTables.{count_of, with_made, counted, more_held, next_number, node_named}
use Rattle.b1_model.specs.MachineStep.{no_peer, with_part, wire_made, wire_counted, wire_held, wired, peer_before, peers_before, opening_state}
use Rattle.b1_step.specs.Rights.{Has}
use Rattle.b1_inv.specs.Bounds.{BoundsRight}
use Rattle.b1_inv_refs.proofs.Numbered.{WasOrMade, made_has}
use Rattle.b1_inv_refs.proofs.Counts.{made_counts}
use Rattle.b1_inv_refs.proofs.Wiring.{read_part, back}
use Rattle.b1_inv_bounds.proofs.Grown.{HeldAtMost, one_made}
use Rattle.b1_inv_bounds.proofs.Counted.{counted_most}

-- a part's nodes, counts, given numbers and held handles, of so many each; nothing is queued
pub record Few (most_nodes most_counts most_given : ℕ) (x : PeerPart) : Type 0 where
  pub nodes : length x.nodes ≤ most_nodes
  pub counts : (serial holder : ℕ) → count_of (node_at x serial) holder ≤ most_counts
  pub given : x.given ≤ most_given
  pub held : HeldAtMost most_given x.handles
  pub queue : x.queue ≡ []

-- a fact of every part
abbrev pub Each : (PeerPart → Type 0) → List PeerPart → Type 0
Each P xs = (q : ℕ) (x : PeerPart) → slice_get xs q ≡ Some x → P x

-- one part changes, and the others keep to less
each_then : (P Q : PeerPart → Type 0) (f : PeerPart → PeerPart) (xs : List PeerPart) (i : ℕ) → ((x : PeerPart) → P x → Q x) → ((x : PeerPart) → P x → Q (f x)) → Each P xs → Each Q (with_part i f xs)
each_then P Q f xs i stays changes each q y is =
    let b = back xs (with_part i f xs) (λ q x. cond (q == i) (f x) x) (λ q. read_part xs i q f) q y is in
    subst Q (sym b.2) (at (q == i) b.0 (each q b.0 b.1))
  where
    at : (b : Bool) (x : PeerPart) → P x → Q (cond b (f x) x)
    at true x p = changes x p
    at false x p = stays x p

module _ (a b c : ℕ) where
  made_few : (number : ℕ) (x : PeerPart) → Few a b c x → Few (a + 1) b c (wire_made number x)
  made_few number x few = at (is_own number)
    where
      at : (d : Bool) → Few (a + 1) b c (cond d (record x { nodes = with_made x.peers number x.nodes }) x)
      at true = record {
        nodes = (let k = one_made x.peers number x.nodes in let l = few.nodes in omega (arith, k, l));
        counts = λ serial holder. (let k = made_counts x.peers number x.nodes serial holder in let l = few.counts serial holder in omega (arith, k, l));
        given = few.given;
        held = few.held;
        queue = few.queue;
      }
      at false = record { nodes = (let l = few.nodes in omega (arith, l)); counts = few.counts; given = few.given; held = few.held; queue = few.queue }

  counted_few : (node : NodeRef) (dest : ℕ) (x : PeerPart) → Few a b c x → Few a (b + 1) c (wire_counted node dest x)
  counted_few node dest x few = record {
    nodes = (let k = length-set x.nodes node.serial (counted dest (get_or x.nodes node.serial no_node)) in let l = few.nodes in omega (arith, k, l));
    counts = λ serial holder. (let k = counted_most x.nodes node.serial serial dest holder in let l = few.counts serial holder in omega (arith, k, l));
    given = few.given;
    held = few.held;
    queue = few.queue;
  }

  held_few : (node : NodeRef) (x : PeerPart) → Few a b c x → Few a b (c + 1) (wire_held node x)
  held_few node x few = record {
    nodes = few.nodes;
    counts = few.counts;
    given = more ((record_or_none node x.handles).held == 0);
    held = λ h there. at h (made_has node (more_held (next_number x.given)) x.handles h there);
    queue = few.queue;
  }
    where
      more : (d : Bool) → cond d (x.given + 1) x.given ≤ c + 1
      more true = (let l = few.given in omega (arith, l))
      more false = (let l = few.given in omega (arith, l))

      at : (h : HandleRecord) → WasOrMade node (more_held (next_number x.given)) x.handles h → h.held ≤ c + 1
      at h (inl (inl old)) = let l = few.held h old in omega (arith, l)
      at h (inl (inr (g, found, has, same))) = let l = few.held g has in let k = ap (λ z. z.held) same in omega (arith, l, k)
      at h (inr new) = let k = ap (λ z. z.held) new in omega (arith, k)

  more_nodes : (x : PeerPart) → Few a b c x → Few (a + 1) b c x
  more_nodes x few = record { nodes = (let l = few.nodes in omega (arith, l)); counts = few.counts; given = few.given; held = few.held; queue = few.queue }

  more_counts : (x : PeerPart) → Few a b c x → Few a (b + 1) c x
  more_counts x few = record { nodes = few.nodes; counts = λ s h. (let l = few.counts s h in omega (arith, l)); given = few.given; held = few.held; queue = few.queue }

  more_given : (x : PeerPart) → Few a b c x → Few a b (c + 1) x
  more_given x few = record { nodes = few.nodes; counts = few.counts; given = (let l = few.given in omega (arith, l)); held = λ h there. (let l = few.held h there in omega (arith, l)); queue = few.queue }

-- each wire adds one of each at most
wired_few : (m : ℕ) (peers : List PeerPart) (w : Wire) (node : Option NodeRef) → Each (Few (m + 1) m m) peers → Each (Few (m + 1) (m + 1) (m + 1)) (elim node [ None ↦ peers | Some n ↦ with_part w.to (wire_held n) (with_part n.owner (wire_counted n w.to) peers) ])
wired_few m peers w None each = λ q x is. more_given (m + 1) (m + 1) m x (more_counts (m + 1) m m x (each q x is))
wired_few m peers w (Some n) each =
    each_then (Few (m + 1) (m + 1) m) (Few (m + 1) (m + 1) (m + 1)) (wire_held n) (with_part n.owner (wire_counted n w.to) peers) w.to (more_given (m + 1) (m + 1) m) (held_few (m + 1) (m + 1) m n)
    (each_then (Few (m + 1) m m) (Few (m + 1) (m + 1) m) (wire_counted n w.to) peers n.owner (more_counts (m + 1) m m) (counted_few (m + 1) m m n w.to) each)

wires_few : (ws : List Wire) (m : ℕ) (peers : List PeerPart) → Each (Few m m m) peers → Each (Few (m + length ws) (m + length ws) (m + length ws)) (fold wired peers ws)
wires_few [] m peers each = let same : m ≡ m + 0 = omega arith in subst (λ n. Each (Few n n n) peers) same each
wires_few (w ∷ rest) m peers each =
    let moved : m + 1 + length rest ≡ m + suc (length rest) = omega arith in
    subst (λ n. Each (Few n n n) (fold wired (wired peers w) rest)) moved
    (wires_few rest (m + 1) (wired peers w)
    (wired_few m (with_part w.from (wire_made w.number) peers) w (node_named (get_or (with_part w.from (wire_made w.number) peers) w.from no_peer) w.number)
    (each_then (Few m m m) (Few (m + 1) m m) (wire_made w.number) peers w.from (more_nodes m m m) (made_few m m m w.number) each)))

before_few : (o : Opening) (here : ℕ) (specs : List PeerSpec) → Each (Few 0 0 0) (peers_before o here specs)
before_few o here [] q x is = absurd (cc is)
before_few o here (spec ∷ rest) zero x is =
    let same : peer_before o here spec ≡ x = cc is in
    subst (Few 0 0 0) same (record { nodes = omega arith; counts = λ s h. omega arith; given = omega arith; held = λ h there. absurd there; queue = refl })
before_few o here (spec ∷ rest) (suc q) x is = before_few o (here + 1) rest q x is

pub bounds_opening : (o : Opening) → BoundsRight o (opening_state o)
bounds_opening o = record {
  nodes = λ p d x is_d is_x. (let k = (few p x is_x).nodes in omega (arith, k));
  given = λ p d x is_d is_x. (let k = (few p x is_x).given in omega (arith, k));
  held = λ p d x h is_d is_x there. (let k = (few p x is_x).held h there in omega (arith, k));
  counts = λ q x serial holder is. (let k = (few q x is).counts serial holder in omega (arith, k));
  attached = λ q x serial holder is. (let k = (few q x is).counts serial holder in omega (arith, k));
  carried = λ q x f is there. absurd (subst (λ l. Has l f) (few q x is).queue there);
}
  where
    few : Each (Few (0 + length o.wires) (0 + length o.wires) (0 + length o.wires)) (opening_state o).peers
    few = wires_few o.wires 0 (peers_before o 0 o.peers) (before_few o 0 o.peers)
