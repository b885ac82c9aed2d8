-- What holds of the parts while the wires of an opening are laid: each wire gives one reference, and is counted once.
use Rattle.std.proofs.Common.{◌≡◌, ◌≢◌, ◌⊎◌, refl, sym, ap, ◌∙◌, inl, inr, subst, ℕ, zero, suc, ◌<◌, ◌==◌, Bool, true, false, cond, List, [], ◌∷◌, get_or, set, length, Option, Some, None, option_map}
use Rattle.std.specs.Prelude.{slice_get}
use Rattle.std.proofs.lemmas.Bool.{cases_eq, eq-eqb, ne_eqb}
use Rattle.std.proofs.lemmas.List.{length-set}
use Rattle.std.proofs.lemmas.Option.{same_Some}
use native.Mathlib.Omega.{arith}
use Rattle.b1_model.specs.declared.naming.NodeRef.{NodeRef}
use Rattle.b1_model.specs.declared.naming.Wire.{Wire}
use Rattle.b1_model.specs.Names.{is_own}
use Rattle.b1_model.specs.Opening.{held_by}
use Rattle.b1_model.specs.MachineParts.{PeerPart, HandleRecord, NodePart, no_node, node_at}
use Rattle.b1_model.specs.MachineTables.{count_of, serial_of, with_made, counted, next_number}
use Rattle.b1_model.specs.MachineStep.{no_peer, with_part, wire_made}
use Rattle.b1_step.specs.Rights.{Has}
use Rattle.b1_step.specs.Ordered.{Rising}
use Rattle.b1_step.proofs.Lists.{read_other}
use Rattle.b1_inv.specs.Numbers.{AreNumbered}
use Rattle.b1_inv_tools.proofs.Grows.{made_grows}
use Rattle.b1_inv_refs.proofs.Views.{Handles}
use Rattle.b1_inv_refs.proofs.Arrivals.{held_in}
use Rattle.b1_inv_refs.proofs.Numbered.{EachRecord}
use Rattle.b1_inv_refs.proofs.Counts.{made_counts}
use Rattle.b1_inv_refs.proofs.Widths.{IsWide, EachNode, wide_made}
use Rattle.b1_inv_refs.proofs.Places.{serial_made}

abbrev pub Peers : Type 0
Peers = List PeerPart

-- ---- what holds

-- one part, of n peers
pub record Laid (n q : ℕ) (x : PeerPart) : Type 0 where
  pub me : x.me ≡ q
  pub peers : x.peers ≡ n
  pub queue : x.queue ≡ []
  pub dead : x.dead ≡ []
  pub rising : Rising x.handles
  pub numbered : AreNumbered x.given x.handles
  pub still : EachRecord (λ h. h.flight ≡ 0) x.handles
  pub wide : EachNode (IsWide n) x.nodes

-- a node was made
abbrev pub MadeIn : Peers → NodeRef → Type 0
MadeIn xs node = (x : PeerPart) × (slice_get xs node.owner ≡ Some x) × (node.serial < length x.nodes)

-- the node that a wire from its owner names
abbrev pub NamesAt : Peers → Wire → ℕ → Type 0
NamesAt xs w serial = (y : PeerPart) × (slice_get xs w.from ≡ Some y) × (serial_of w.number y.nodes ≡ Some serial)

-- a record that what was held names
abbrev pub Names : Peers → Handles → ℕ → Wire → Type 0
Names xs hs g w = (h : HandleRecord) × Has hs h × (h.number ≡ Some (next_number g)) × (h.node.owner ≡ w.from) × NamesAt xs w h.node.serial

abbrev pub count_read : NodeRef → ℕ → Option PeerPart → ℕ
count_read node q r = elim r [ None ↦ 0 | Some x ↦ count_of (node_at x node.serial) q ]

abbrev pub held_read : NodeRef → Option PeerPart → ℕ
held_read node r = elim r [ None ↦ 0 | Some x ↦ held_in node x.handles ]

pub record Wiring (n : ℕ) (held : List Wire) (xs : Peers) : Type 0 where
  pub count : length xs ≡ n
  pub part : (q : ℕ) (x : PeerPart) → slice_get xs q ≡ Some x → Laid n q x
  pub nodes : (q : ℕ) (x : PeerPart) (h : HandleRecord) → slice_get xs q ≡ Some x → Has x.handles h → MadeIn xs h.node × (h.node.owner ≢ q)
  pub counts : (node : NodeRef) (q : ℕ) → count_read node q (slice_get xs node.owner) ≡ held_read node (slice_get xs q)
  pub many : (q : ℕ) (x : PeerPart) → slice_get xs q ≡ Some x → x.given ≡ length (held_by held q)
  pub names : (q : ℕ) (x : PeerPart) (g : ℕ) (w : Wire) → slice_get xs q ≡ Some x → slice_get (held_by held q) g ≡ Some w → Names xs x.handles g w

-- ---- reading changed parts

-- one part changes
pub read_part : (xs : Peers) (i q : ℕ) (f : PeerPart → PeerPart) → slice_get (with_part i f xs) q ≡ option_map (λ x. cond (q == i) (f x) x) (slice_get xs q)
read_part xs i q f = at (cases_eq q i)
  where
    same_id : (r : Option PeerPart) → r ≡ option_map (λ x. x) r
    same_id None = refl
    same_id (Some x) = refl

    here : (xs : Peers) (i : ℕ) (v : PeerPart) (r : Option PeerPart) → slice_get xs i ≡ r → v ≡ f (get_or xs i no_peer) → slice_get (set xs i v) i ≡ option_map f r
    here [] i v None is same = refl
    here [] i v (Some x) is same = absurd (cc is)
    here (y ∷ xs) zero v None is same = absurd (cc is)
    here (y ∷ xs) zero v (Some x) is same = ap Some (same ∙ ap f (same_Some y x is))
    here (y ∷ xs) (suc i) v r is same = here xs i v r is same

    at : (q ≡ i) ⊎ (q ≡ i → ⊥) → slice_get (with_part i f xs) q ≡ option_map (λ x. cond (q == i) (f x) x) (slice_get xs q)
    at (inl same) = rw (eq-eqb q i same) (subst (λ z. slice_get (with_part i f xs) z ≡ option_map f (slice_get xs z)) (sym same) (here xs i (f (get_or xs i no_peer)) (slice_get xs i) refl refl))
    at (inr apart) = rw (ne_eqb q i apart) (read_other xs i q (f (get_or xs i no_peer)) (λ e. apart (sym e)) ∙ same_id (slice_get xs q))

pub map_map : (f g : PeerPart → PeerPart) (r : Option PeerPart) → option_map g (option_map f r) ≡ option_map (λ x. g (f x)) r
map_map f g None = refl
map_map f g (Some x) = refl

pub map_same : (f g : PeerPart → PeerPart) → ((x : PeerPart) → f x ≡ g x) → (r : Option PeerPart) → option_map f r ≡ option_map g r
map_same f g same None = refl
map_same f g same (Some x) = ap Some (same x)

-- parts that all change by their numbers
module _ (xs ys : Peers) (change : ℕ → PeerPart → PeerPart) (reads : (q : ℕ) → slice_get ys q ≡ option_map (change q) (slice_get xs q)) where
  pub back : (q : ℕ) (y : PeerPart) → slice_get ys q ≡ Some y → (x : PeerPart) × (slice_get xs q ≡ Some x) × (y ≡ change q x)
  back q y is = at (slice_get xs q) refl (sym (reads q) ∙ is)
    where
      at : (r : Option PeerPart) → slice_get xs q ≡ r → option_map (change q) r ≡ Some y → (x : PeerPart) × (slice_get xs q ≡ Some x) × (y ≡ change q x)
      at None found here = absurd (cc here)
      at (Some x) found here = (x, found, sym (same_Some (change q x) y here))

  pub forth : (q : ℕ) (x : PeerPart) → slice_get xs q ≡ Some x → slice_get ys q ≡ Some (change q x)
  forth q x is = reads q ∙ ap (option_map (change q)) is

-- ---- a node is made

module _ (n : ℕ) (held : List Wire) (xs : Peers) (k : Wiring n held xs) (i number : ℕ) where
  -- the parts then
  abbrev pub made_then : Peers
  made_then = with_part i (wire_made number) xs

  abbrev make : ℕ → PeerPart → PeerPart
  make q x = record x { nodes = cond (q == i) (cond (is_own number) (with_made x.peers number x.nodes) x.nodes) x.nodes }

  make_is : (q : ℕ) (x : PeerPart) → cond (q == i) (wire_made number x) x ≡ make q x
  make_is q x = at (q == i) (is_own number)
    where
      at : (b c : Bool) → ◌≡◌ {A = PeerPart} (cond b (cond c (record x { nodes = with_made x.peers number x.nodes }) x) x) (record x { nodes = cond b (cond c (with_made x.peers number x.nodes) x.nodes) x.nodes })
      at true true = refl
      at true false = refl
      at false c = refl

  reads : (q : ℕ) → slice_get made_then q ≡ option_map (make q) (slice_get xs q)
  reads q = read_part xs i q (wire_made number) ∙ map_same _ (make q) (make_is q) (slice_get xs q)

  -- a fact of nodes that making one keeps
  by_made : (P : List NodePart → Type 0) (q : ℕ) (x : PeerPart) → P x.nodes → P (with_made x.peers number x.nodes) → P (make q x).nodes
  by_made P q x old new = at (q == i) (is_own number)
    where
      at : (b c : Bool) → P (cond b (cond c (with_made x.peers number x.nodes) x.nodes) x.nodes)
      at true true = new
      at true false = old
      at false c = old

  serial_stays : (q : ℕ) (x : PeerPart) (m serial : ℕ) → serial_of m x.nodes ≡ Some serial → serial_of m (make q x).nodes ≡ Some serial
  serial_stays q x m serial is = by_made (λ ns. serial_of m ns ≡ Some serial) q x is (serial_made x.peers number m serial x.nodes is)

  names_stay : (w : Wire) (serial : ℕ) → NamesAt xs w serial → NamesAt made_then w serial
  names_stay w serial (y, is, found) = (make w.from y, forth xs made_then make reads w.from y is, serial_stays w.from y w.number serial found)

  made_stays : (node : NodeRef) → MadeIn xs node → MadeIn made_then node
  made_stays node (x, is, less) = (make node.owner x, forth xs made_then make reads node.owner x is, by_made (λ ns. node.serial < length ns) node.owner x less (let more = made_grows x.peers number x.nodes in omega (arith, less, more)))

  laid_then : (q : ℕ) (x : PeerPart) → Laid n q x → Laid n q (make q x)
  laid_then q x l = record {
    me = l.me;
    peers = l.peers;
    queue = l.queue;
    dead = l.dead;
    rising = l.rising;
    numbered = l.numbered;
    still = l.still;
    wide = by_made (EachNode (IsWide n)) q x l.wide (subst (λ m. EachNode (IsWide n) (with_made m number x.nodes)) (sym l.peers) (wide_made n number x.nodes l.wide));
  }

  count_stays : (node : NodeRef) (q : ℕ) (r : Option PeerPart) → count_read node q (option_map (make node.owner) r) ≡ count_read node q r
  count_stays node q None = refl
  count_stays node q (Some x) = by_made (λ ns. count_of (get_or ns node.serial no_node) q ≡ count_of (node_at x node.serial) q) node.owner x refl (made_counts x.peers number x.nodes node.serial q)

  held_stays : (node : NodeRef) (q : ℕ) (r : Option PeerPart) → held_read node (option_map (make q) r) ≡ held_read node r
  held_stays node q None = refl
  held_stays node q (Some x) = refl

  pub wiring_made : Wiring n held made_then
  wiring_made = record {
    count = length-set xs i _ ∙ k.count;
    part = λ q y is. let b = back xs made_then make reads q y is in subst (Laid n q) (sym b.2) (laid_then q b.0 (k.part q b.0 b.1));
    nodes = λ q y h is there. let b = back xs made_then make reads q y is in let m = k.nodes q b.0 h b.1 (subst (λ z. Has z.handles h) b.2 there) in (made_stays h.node m.0, m.1);
    counts = λ node q. ap (count_read node q) (reads node.owner) ∙ count_stays node q (slice_get xs node.owner) ∙ k.counts node q ∙ sym (ap (held_read node) (reads q) ∙ held_stays node q (slice_get xs q));
    many = λ q y is. let b = back xs made_then make reads q y is in ap (λ z. z.given) b.2 ∙ k.many q b.0 b.1;
    names = λ q y g w is at. let b = back xs made_then make reads q y is in let m = k.names q b.0 g w b.1 at in subst (λ z. Names made_then z.handles g w) (sym b.2) (m.0, m.1, m.2, m.3, names_stay w m.0.node.serial m.4);
  }
