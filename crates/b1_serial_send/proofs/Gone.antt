-- The release notices that the attaches of a SEND take out of a queue.
use Rattle.std.proofs.Common.{◌≡◌, refl, sym, ap, ap₂, ◌∙◌, ℕ, ◌+◌, ◌==◌, Bool, true, false, cond, not, List, [], ◌∷◌, ◌++◌, fold, Some, None}
use Rattle.std.proofs.lemmas.Bool.{eqb-true}
use Rattle.b1_model.specs.declared.naming.Key.{Key}
use Rattle.b1_model.specs.declared.naming.NodeRef.{NodeRef}
use Rattle.b1_model.specs.declared.parts.NodeState.{NodeState}
use Rattle.b1_model.specs.declared.parts.NodeState.TheVariants.{Live, Dying, Destroyed}
use Rattle.b1_model.specs.declared.entries.Entry.{Entry}
use Rattle.b1_model.specs.MachineParts.{PeerPart, node_at, is_dying, is_destroyed, is_release_notice}
use Rattle.b1_model.specs.MachineTables.{without}
use Rattle.b1_model.specs.MachineSend.{attach_by, attached_by, attached}
use Rattle.b1_serial_send.proofs.Midway.{Answered, over, attach_at, attach_all}
use Rattle.b1_serial_send.proofs.Attaching.{attach_state, attach_me, eqb_turned}
use Rattle.b1_serial_send.proofs.Keys.{NonePass, without_none, without_append}

-- ---- what leaves a queue

-- the release notice of a peer's node that isn't the destination's
abbrev pub gone_one : ℕ → ℕ → NodeRef → List (Key × Entry) → List (Key × Entry)
gone_one q dest node queue = cond (node.owner == q) (cond (node.owner == dest) queue (without (is_release_notice node.serial) queue)) queue

-- those of several nodes
abbrev pub gone : ℕ → ℕ → List NodeRef → List (Key × Entry) → List (Key × Entry)
gone q dest nodes queue = fold (λ z node. gone_one q dest node z) queue nodes

-- for all accepted destinations
abbrev pub gone_all : ℕ → List NodeRef → Answered → List (Key × Entry) → List (Key × Entry)
gone_all q nodes [] queue = queue
gone_all q nodes ((to, Some r) ∷ rest) queue = gone_all q nodes rest queue
gone_all q nodes ((to, None) ∷ rest) queue = gone_all q nodes rest (gone q to.owner nodes queue)

without_turned : (a b : Key × Entry → Bool) (queue : List (Key × Entry)) → without a (without b queue) ≡ without b (without a queue)
without_turned a b [] = refl
without_turned a b (f ∷ rest) = by (without_turned a b rest) (not (a f)) refl (not (b f)) refl
  where
    by : without a (without b rest) ≡ without b (without a rest) → (v : Bool) → not (a f) ≡ v → (w : Bool) → not (b f) ≡ w → without a (cond w (f ∷ without b rest) (without b rest)) ≡ without b (cond v (f ∷ without a rest) (without a rest))
    by further true is_a true is_b = ap (λ c. cond c (f ∷ without a (without b rest)) (without a (without b rest))) is_a ∙ ap (λ zs. f ∷ zs) further ∙ sym (ap (λ c. cond c (f ∷ without b (without a rest)) (without b (without a rest))) is_b)
    by further true is_a false is_b = further ∙ sym (ap (λ c. cond c (f ∷ without b (without a rest)) (without b (without a rest))) is_b)
    by further false is_a true is_b = ap (λ c. cond c (f ∷ without a (without b rest)) (without a (without b rest))) is_a ∙ further
    by further false is_a false is_b = further

gone_one_without : (test : Key × Entry → Bool) (q dest : ℕ) (node : NodeRef) (queue : List (Key × Entry)) → without test (gone_one q dest node queue) ≡ gone_one q dest node (without test queue)
gone_one_without test q dest node queue = by (node.owner == q) (node.owner == dest)
  where
    by : (a b : Bool) → without test (cond a (cond b queue (without (is_release_notice node.serial) queue)) queue) ≡ cond a (cond b (without test queue) (without (is_release_notice node.serial) (without test queue))) (without test queue)
    by true true = refl
    by true false = without_turned test (is_release_notice node.serial) queue
    by false b = refl

-- messages stay
abbrev pub NoReleases : List (Key × Entry) → Type 0
NoReleases queue = (serial : ℕ) → NonePass (is_release_notice serial) queue

gone_one_append : (q dest : ℕ) (node : NodeRef) (xs ys : List (Key × Entry)) → NoReleases ys → gone_one q dest node (xs ++ ys) ≡ gone_one q dest node xs ++ ys
gone_one_append q dest node xs ys none = by (node.owner == q) (node.owner == dest)
  where
    by : (a b : Bool) → cond a (cond b (xs ++ ys) (without (is_release_notice node.serial) (xs ++ ys))) (xs ++ ys) ≡ cond a (cond b xs (without (is_release_notice node.serial) xs)) xs ++ ys
    by true true = refl
    by true false = without_append (is_release_notice node.serial) xs ys ∙ ap (λ zs. without (is_release_notice node.serial) xs ++ zs) (without_none (is_release_notice node.serial) ys (none node.serial))
    by false b = refl

pub gone_append : (q dest : ℕ) (nodes : List NodeRef) (xs ys : List (Key × Entry)) → NoReleases ys → gone q dest nodes (xs ++ ys) ≡ gone q dest nodes xs ++ ys
gone_append q dest [] xs ys none = refl
gone_append q dest (n ∷ rest) xs ys none = ap (gone q dest rest) (gone_one_append q dest n xs ys none) ∙ gone_append q dest rest (gone_one q dest n xs) ys none

pub gone_all_append : (q : ℕ) (nodes : List NodeRef) (ds : Answered) (xs ys : List (Key × Entry)) → NoReleases ys → gone_all q nodes ds (xs ++ ys) ≡ gone_all q nodes ds xs ++ ys
gone_all_append q nodes [] xs ys none = refl
gone_all_append q nodes ((to, Some r) ∷ rest) xs ys none = gone_all_append q nodes rest xs ys none
gone_all_append q nodes ((to, None) ∷ rest) xs ys none = ap (gone_all q nodes rest) (gone_append q to.owner nodes xs ys none) ∙ gone_all_append q nodes rest (gone q to.owner nodes xs) ys none

-- ---- at the machine

-- no node is dying, and none that is destroyed has a release notice
abbrev pub ReleasesRight : PeerPart → Type 0
ReleasesRight y = (j : ℕ) → (is_dying (node_at y j).state ≡ false) × (is_destroyed (node_at y j).state ≡ true → without (is_release_notice j) y.queue ≡ y.queue)

attach_queue : (dest : ℕ) (node : NodeRef) (y : PeerPart) → ReleasesRight y → (attach_at dest node y).queue ≡ gone_one y.me dest node y.queue
attach_queue dest node y right = by (node.owner == y.me) refl (node_at y node.serial).state refl
  where
    own_so : node.owner == y.me ≡ true → dest == y.me ≡ node.owner == dest
    own_so own = ap (λ q. dest == q) (sym (eqb-true node.owner y.me own)) ∙ eqb_turned dest node.owner

    live : (a b : Bool) → a ≡ b → (attached_by (attach_by Live a) y node.serial dest).queue ≡ cond b y.queue (without (is_release_notice node.serial) y.queue)
    live true true same = refl
    live false false same = refl
    live true false same = absurd (cc same)
    live false true same = absurd (cc same)

    dead : (b : Bool) → without (is_release_notice node.serial) y.queue ≡ y.queue → y.queue ≡ cond b y.queue (without (is_release_notice node.serial) y.queue)
    dead true none = refl
    dead false none = sym none

    state_by : node.owner == y.me ≡ true → (st : NodeState) → (node_at y node.serial).state ≡ st → (attached_by (attach_by st (dest == y.me)) y node.serial dest).queue ≡ cond (node.owner == dest) y.queue (without (is_release_notice node.serial) y.queue)
    state_by own Live is = live (dest == y.me) (node.owner == dest) (own_so own)
    state_by own Dying is = absurd (cc (sym (ap is_dying is) ∙ (right node.serial).0))
    state_by own (Destroyed stamp) is = dead (node.owner == dest) ((right node.serial).1 (ap is_destroyed is))

    by : (b : Bool) → node.owner == y.me ≡ b → (st : NodeState) → (node_at y node.serial).state ≡ st → (cond b (attached y node.serial dest) y).queue ≡ cond b (cond (node.owner == dest) y.queue (without (is_release_notice node.serial) y.queue)) y.queue
    by true own st is = ap (λ z. (attached_by (attach_by z (dest == y.me)) y node.serial dest).queue) is ∙ state_by own st is
    by false other st is = refl

attach_right : (dest : ℕ) (node : NodeRef) (y : PeerPart) → ReleasesRight y → ReleasesRight (attach_at dest node y)
attach_right dest node y right j =
    let same = attach_state dest node y j in
    let queue = attach_queue dest node y right in (
      ap is_dying same ∙ (right j).0,
      λ dead. ap (without (is_release_notice j)) queue
          ∙ gone_one_without (is_release_notice j) y.me dest node y.queue
          ∙ ap (gone_one y.me dest node) ((right j).1 (sym (ap is_destroyed same) ∙ dead))
          ∙ sym queue,
    )

pub attach_all_queue : (dest : ℕ) (nodes : List NodeRef) (y : PeerPart) → ReleasesRight y → ((fold (λ z node. attach_at dest node z) y nodes).queue ≡ gone y.me dest nodes y.queue) × ReleasesRight (fold (λ z node. attach_at dest node z) y nodes)
attach_all_queue dest [] y right = (refl, right)
attach_all_queue dest (n ∷ rest) y right =
    let k = attach_all_queue dest rest (attach_at dest n y) (attach_right dest n y right) in
    (k.0 ∙ ap₂ (λ q zs. gone q dest rest zs) (attach_me dest n y) (attach_queue dest n y right), k.1)

pub attaches_queue : (nodes : List NodeRef) (place : ℕ) (ds : Answered) (y : PeerPart) → ReleasesRight y → (over (attach_all nodes) place ds y).queue ≡ gone_all y.me nodes ds y.queue
attaches_queue nodes place [] y right = refl
attaches_queue nodes place ((to, Some r) ∷ rest) y right = attaches_queue nodes (place + 1) rest y right
attaches_queue nodes place ((to, None) ∷ rest) y right =
    let k = attach_all_queue to.owner nodes y right in
    attaches_queue nodes (place + 1) rest (fold (λ z node. attach_at to.owner node z) y nodes) k.1
    ∙ ap₂ (λ q zs. gone_all q nodes rest zs) (me_same to.owner nodes y) k.0
  where
    me_same : (dest : ℕ) (ns : List NodeRef) (z : PeerPart) → (fold (λ w node. attach_at dest node w) z ns).me ≡ z.me
    me_same dest [] z = refl
    me_same dest (n ∷ more) z = me_same dest more (attach_at dest n z) ∙ attach_me dest n z
