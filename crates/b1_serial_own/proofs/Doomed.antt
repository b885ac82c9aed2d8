-- The owner of destroyed nodes: its part of the machine behind the commits, and its peer of the serial bus.
use Rattle.std.proofs.Common.{◌≡◌, ◌⊎◌, refl, sym, ap, ◌∙◌, subst, inl, inr, ℕ, zero, suc, ◌+◌, max, Bool, true, false, not, List, [], ◌∷◌, ◌++◌, map, filter, fold, get_or, None, append_assoc, append-nil, arith}
use Rattle.b1_model.specs.declared.naming.Key.{Key}
use Rattle.b1_model.specs.declared.parts.NodeState.TheVariants.{Dying, Destroyed}
use Rattle.b1_model.specs.declared.entries.Entry.{Entry}
use Rattle.b1_model.specs.declared.entries.Entry.TheVariants.{OwnNotice}
use Rattle.b1_model.specs.MachineParts.{PeerPart, DriverPart, NodePart, is_staged, is_odd, is_release_notice, key_before, no_node}
use Rattle.b1_model.specs.MachineTables.{put, put_all, without, is_staged_notice, with_node, with_nodes, in_state}
use Rattle.b1_model.specs.MachineSend.{with_stamp, notices_committed}
use Rattle.b1_model.specs.MachineDestroy.{with_own_notices, doomed_part, doom_stamped}
use Rattle.b1_step.specs.Rights.{Has}
use Rattle.b1_step.proofs.Lists.{map_set, has_append, has_left, has_right}
use Rattle.b1_step.proofs.Queues.{without_has}
use Rattle.b1_inv_refs.proofs.Receipts.{read_view}
use Rattle.b1_serial_bus.specs.Parts.{OwnNode, Part}
use Rattle.b1_serial_bus.specs.Doom.{with_destroyed, with_all_doomed}
use Rattle.b1_serial_rest.specs.Standing.{stamp_of, own_of, part_of}
use Rattle.b1_serial_own.proofs.Notes.{Queue, key_at, AllBefore, put_last, before_more, filter_two, filter_all, notes, index_behind}
use Rattle.b1_serial_own.proofs.Notes as lists

abbrev pub own_note : ℕ → ℕ → Entry
own_note serial index = OwnNotice serial index

abbrev pub all_so : ℕ → Bool
all_so n = true

-- ---- queues

-- a queue without the release notices of nodes
abbrev pub unreleased : List ℕ → Queue → Queue
unreleased [] queue = queue
unreleased (n ∷ rest) queue = unreleased rest (without (is_release_notice n) queue)

pub unreleased_has : (doomed : List ℕ) (queue : Queue) (f : Key × Entry) → Has (unreleased doomed queue) f → Has queue f
unreleased_has [] queue f there = there
unreleased_has (n ∷ rest) queue f there = without_has (is_release_notice n) queue f (unreleased_has rest (without (is_release_notice n) queue) f there)

-- no entry is a release notice
abbrev pub Unreleasing : Queue → Type 0
Unreleasing queue = (f : Key × Entry) (n : ℕ) → Has queue f → is_release_notice n f ≡ false

module _ (stamp origin : ℕ) where
  -- what comes in for one node: its release notice goes, its notice comes last
  one_put : (n i : ℕ) (queue acc : Queue) → Unreleasing acc → AllBefore (queue ++ acc) (key_at stamp origin i)
      → put (key_at stamp origin i) (own_note n i) (without (is_release_notice n) (queue ++ acc)) ≡ without (is_release_notice n) queue ++ (acc ++ (key_at stamp origin i, own_note n i) ∷ [])
  one_put n i queue acc plain before =
      put_last (key_at stamp origin i) (own_note n i) (without (is_release_notice n) (queue ++ acc)) (λ f there. before f (without_has (is_release_notice n) (queue ++ acc) f there))
      ∙ ap (λ l. l ++ (key_at stamp origin i, own_note n i) ∷ [])
      (filter_two (λ f. not (is_release_notice n f)) queue acc ∙ ap (λ l. without (is_release_notice n) queue ++ l) (filter_all (λ f. not (is_release_notice n f)) acc (λ f there. ap not (plain f n there))))
      ∙ append_assoc (without (is_release_notice n) queue) acc ((key_at stamp origin i, own_note n i) ∷ [])

  -- what holds then, for the next index
  plain_next : (n i : ℕ) (acc : Queue) → Unreleasing acc → Unreleasing (acc ++ (key_at stamp origin i, own_note n i) ∷ [])
  plain_next n i acc plain f m there = by (has_append acc ((key_at stamp origin i, own_note n i) ∷ []) f there)
    where
      by : Has acc f ⊎ Has ((key_at stamp origin i, own_note n i) ∷ []) f → is_release_notice m f ≡ false
      by (inl old) = plain f m old
      by (inr (inl new)) = ap (is_release_notice m) new
      by (inr (inr none)) = absurd none

  before_next : (n i : ℕ) (queue acc : Queue) → AllBefore (queue ++ acc) (key_at stamp origin i) → AllBefore (without (is_release_notice n) queue ++ (acc ++ (key_at stamp origin i, own_note n i) ∷ [])) (key_at stamp origin (i + 1))
  before_next n i queue acc before f there = by (has_append (without (is_release_notice n) queue) (acc ++ (key_at stamp origin i, own_note n i) ∷ []) f there)
    where
      more : AllBefore ((queue ++ acc) ++ (key_at stamp origin i, own_note n i) ∷ []) (key_at stamp origin (i + 1))
      more = before_more (queue ++ acc) (key_at stamp origin i) (key_at stamp origin (i + 1)) (own_note n i) before (index_behind own_note origin all_so stamp i (i + 1) (omega arith))

      by : Has (without (is_release_notice n) queue) f ⊎ Has (acc ++ (key_at stamp origin i, own_note n i) ∷ []) f → key_before f.0 (key_at stamp origin (i + 1)) ≡ true
      by (inl old) = more f (has_left (queue ++ acc) ((key_at stamp origin i, own_note n i) ∷ []) f (has_left queue acc f (without_has (is_release_notice n) queue f old)))
      by (inr new) = more f (subst (λ l. Has l f) (sym (append_assoc queue acc ((key_at stamp origin i, own_note n i) ∷ []))) (has_right queue (acc ++ (key_at stamp origin i, own_note n i) ∷ []) f new))

  notes_next : (n i : ℕ) (acc rest : Queue) → (acc ++ (key_at stamp origin i, own_note n i) ∷ []) ++ rest ≡ acc ++ (key_at stamp origin i, own_note n i) ∷ rest
  notes_next n i acc rest = append_assoc acc ((key_at stamp origin i, own_note n i) ∷ []) rest

-- the machine's, staged
pub own_staged : (x : PeerPart) (doomed : List ℕ) (i : ℕ) (queue acc : Queue) → Unreleasing acc → AllBefore (queue ++ acc) (key_at (x.clock + 1) x.me i)
    → with_own_notices x i doomed (queue ++ acc) ≡ unreleased doomed queue ++ (acc ++ notes own_note all_so (x.clock + 1) x.me i doomed)
own_staged x [] i queue acc plain before = ap (λ l. queue ++ l) (sym (append-nil acc))
own_staged x (n ∷ rest) i queue acc plain before =
    ap (with_own_notices x (i + 1) rest) (one_put (x.clock + 1) x.me n i queue acc plain before)
    ∙ own_staged x rest (i + 1) (without (is_release_notice n) queue) (acc ++ (key_at (x.clock + 1) x.me i, own_note n i) ∷ []) (plain_next (x.clock + 1) x.me n i acc plain) (before_next (x.clock + 1) x.me n i queue acc before)
    ∙ ap (λ l. unreleased rest (without (is_release_notice n) queue) ++ l) (notes_next (x.clock + 1) x.me n i acc (notes own_note all_so (x.clock + 1) x.me (i + 1) rest))

-- nodes are destroyed, one after another
abbrev pub all_destroyed : ℕ → List ℕ → List OwnNode → List OwnNode
all_destroyed stamp doomed nodes = fold (λ ns n. with_destroyed stamp n ns) nodes doomed

-- the serial bus's, with the stamp
pub all_doomed_shown : (stamp : ℕ) (doomed : List ℕ) (i : ℕ) (y : Part) (queue acc : Queue) → y.box ≡ queue ++ acc → Unreleasing acc → AllBefore (queue ++ acc) (key_at stamp y.me i)
    → with_all_doomed stamp i doomed y ≡ record y { clock = stamp; nodes = all_destroyed stamp doomed y.nodes; box = unreleased doomed queue ++ (acc ++ notes own_note all_so stamp y.me i doomed) }
all_doomed_shown stamp [] i y queue acc is plain before = ap (λ l. record y { clock = stamp; box = l }) (is ∙ ap (λ l. queue ++ l) (sym (append-nil acc)))
all_doomed_shown stamp (n ∷ rest) i y queue acc is plain before =
    all_doomed_shown stamp rest (i + 1) (record y { nodes = with_destroyed stamp n y.nodes; box = put (key_at stamp y.me i) (own_note n i) (without (is_release_notice n) y.box) })
    (without (is_release_notice n) queue) (acc ++ (key_at stamp y.me i, own_note n i) ∷ [])
    (ap (λ l. put (key_at stamp y.me i) (own_note n i) (without (is_release_notice n) l)) is ∙ one_put stamp y.me n i queue acc plain before)
    (plain_next stamp y.me n i acc plain) (before_next stamp y.me n i queue acc before)
    ∙ ap (λ l. record y { clock = stamp; nodes = all_destroyed stamp rest (with_destroyed stamp n y.nodes); box = unreleased rest (without (is_release_notice n) queue) ++ l }) (notes_next stamp y.me n i acc (notes own_note all_so stamp y.me (i + 1) rest))

-- ---- nodes

node_destroyed : (stamp n : ℕ) (nodes : List NodePart) → map own_of (with_node n (in_state (Destroyed stamp)) nodes) ≡ with_destroyed stamp n (map own_of nodes)
node_destroyed stamp n [] = refl
node_destroyed stamp zero (k ∷ rest) = refl
node_destroyed stamp (suc n) (k ∷ rest) = ap (λ l. own_of k ∷ l) (node_destroyed stamp n rest)

nodes_destroyed : (stamp : ℕ) (doomed : List ℕ) (nodes : List NodePart) → map own_of (with_nodes doomed (in_state (Destroyed stamp)) nodes) ≡ all_destroyed stamp doomed (map own_of nodes)
nodes_destroyed stamp [] nodes = refl
nodes_destroyed stamp (n ∷ rest) nodes = nodes_destroyed stamp rest (with_node n (in_state (Destroyed stamp)) nodes) ∙ ap (all_destroyed stamp rest) (node_destroyed stamp n nodes)

-- nodes that are dying don't show it
nodes_dying : (doomed : List ℕ) (nodes : List NodePart) → ((n : ℕ) → Has doomed n → stamp_of (get_or nodes n no_node).state ≡ None) → map own_of (with_nodes doomed (in_state Dying) nodes) ≡ map own_of nodes
nodes_dying [] nodes alive = refl
nodes_dying (n ∷ rest) nodes alive =
    nodes_dying rest (with_node n (in_state Dying) nodes) (λ m there. read_view (λ k. stamp_of k.state) nodes n m (in_state Dying (get_or nodes n no_node)) no_node (sym (alive n (inl refl))) ∙ alive m (inr there))
    ∙ map_set own_of nodes n (in_state Dying (get_or nodes n no_node)) no_node (ap (λ st. record { number = (get_or nodes n no_node).number; destroyed = st }) (sym (alive n (inl refl))))

-- a queue behind a commit of an origin's notices
abbrev committed_queue : ℕ → ℕ → Queue → Queue
committed_queue stamp origin queue = put_all (map (with_stamp stamp) (filter (is_staged_notice origin) queue)) (without (is_staged_notice origin) queue)

-- ---- the owner

-- what it is on the bus behind a destruction with a stamp
abbrev pub owner_after : ℕ → PeerPart → DriverPart → List ℕ → Part
owner_after stamp x d doomed = record (part_of x d) {
  clock = stamp;
  nodes = all_destroyed stamp doomed (map own_of x.nodes);
  box = unreleased doomed x.queue ++ notes own_note all_so stamp x.me 0 doomed;
}

module _ (p : ℕ) (x : PeerPart) (d : DriverPart) (doomed : List ℕ) (collected : ℕ) (me : x.me ≡ p) (odd : is_odd (x.clock + 1) ≡ true)
    (even : (f : Key × Entry) → Has x.queue f → is_staged f ≡ false) (alive : (n : ℕ) → Has doomed n → stamp_of (get_or x.nodes n no_node).state ≡ None)
    (before : (j : ℕ) → AllBefore x.queue (key_at (x.clock + 1) x.me j)) (below : (j : ℕ) → AllBefore x.queue (key_at (max x.clock collected + 2) x.me j)) where
  abbrev pub stamp : ℕ
  stamp = max x.clock collected + 2

  staged_queue : with_own_notices x 0 doomed x.queue ≡ unreleased doomed x.queue ++ notes own_note all_so (x.clock + 1) x.me 0 doomed
  staged_queue = ap (with_own_notices x 0 doomed) (sym (append-nil x.queue)) ∙ own_staged x doomed 0 x.queue [] (λ f n there. absurd there) (subst (λ l. AllBefore l (key_at (x.clock + 1) x.me 0)) (sym (append-nil x.queue)) (before 0))

  -- on the machine
  pub owner_shown : part_of (notices_committed (doom_stamped (doomed_part x doomed) collected doomed) p stamp) d ≡ owner_after stamp x d doomed
  owner_shown =
      ap (λ nodes. record (part_of x d) { clock = stamp; nodes = nodes; box = committed_queue stamp p (with_own_notices x 0 doomed x.queue) }) (nodes_destroyed stamp doomed (with_nodes doomed (in_state Dying) x.nodes) ∙ ap (all_destroyed stamp doomed) (nodes_dying doomed x.nodes alive))
      ∙ ap (λ l. record (part_of x d) { clock = stamp; nodes = all_destroyed stamp doomed (map own_of x.nodes); box = l })
      (ap (committed_queue stamp p) staged_queue
      ∙ ap (λ q. committed_queue stamp q (unreleased doomed x.queue ++ notes own_note all_so (x.clock + 1) x.me 0 doomed)) (sym me)
      ∙ lists.notes_committed own_note x.me all_so (x.clock + 1) stamp doomed (unreleased doomed x.queue) odd (λ n at. refl) (λ f there. even f (unreleased_has doomed x.queue f there)) (λ j f there. below j f (unreleased_has doomed x.queue f there)))

  -- on the serial bus
  pub owner_doomed : with_all_doomed stamp 0 doomed (part_of x d) ≡ owner_after stamp x d doomed
  owner_doomed = all_doomed_shown stamp doomed 0 (part_of x d) x.queue [] (sym (append-nil x.queue)) (λ f n there. absurd there) (subst (λ l. AllBefore l (key_at stamp x.me 0)) (sym (append-nil x.queue)) (below 0))
