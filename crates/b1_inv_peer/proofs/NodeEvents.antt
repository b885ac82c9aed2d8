-- What is always so of a part stays where nodes are made, counted, dropped, doomed and destroyed.
use Rattle.std.proofs.Common.{◌≡◌, ◌≢◌, refl, sym, ap, ◌∙◌, inl, inr, subst, ℕ, zero, suc, ◌+◌, ◌≤◌, ◌<◌, Bool, true, false, not, ◌&&◌, List, [], ◌∷◌, ◌++◌, fold, set, replicate, length, get_or, Option, Some, None, ◌==◌}
use Rattle.std.specs.List.{list_all}
use Rattle.std.proofs.lemmas.Bool.{eqb-true, eq-eqb}
use Rattle.std.proofs.lemmas.List.{get_or-set_same, get_or-set_other, get_or_append_left, length-set}
use native.Mathlib.Omega.{arith}
use Rattle.b1_model.specs.declared.naming.Key.{Key}
use Rattle.b1_model.specs.declared.parts.NodeState.TheVariants.{Live, Dying, Destroyed}
use Rattle.b1_model.specs.declared.entries.Entry.{Entry}
use Rattle.b1_model.specs.declared.entries.Entry.TheVariants.{Message, OwnNotice, ForeignNotice, ReleaseNotice}
use Rattle.b1_model.specs.MachineParts.{PeerPart, NodePart, HandleRecord, Slice, is_data, is_live, no_node, is_release_notice}
use Rattle.b1_model.specs.MachineTables.{put, without, is_unheld, count_of, uncounted, in_state, with_node, with_nodes, with_made, serial_of}
use Rattle.b1_model.specs.MachineDestroy.{with_own_notices}
use Rattle.b1_step.specs.Rights.{Has}
use Rattle.b1_step.proofs.Lists.{filter_has}
use Rattle.b1_inv_peer.specs.PeerOk.{is_notice_of, NoticeOk, AreOk}
use Rattle.b1_inv_peer.proofs.Entries.{message_more, notice_same}
use Rattle.b1_inv_peer.proofs.CommitEvents.{notices_leave, notice_put}

abbrev Queue : Type 0
Queue = List (Key × Entry)

abbrev pub node_in : List NodePart → ℕ → NodePart
node_in nodes s = get_or nodes s no_node

-- the same life and as much held, as far as notices ask
abbrev pub SameNode : NodePart → NodePart → Type 0
SameNode new old = (is_live new.state ≡ is_live old.state) × (is_unheld new ≡ is_unheld old)

-- ---- nodes change that no queued notice is of, or stay as they are

module _ (me : ℕ) (nodes : List NodePart) (slices : List Slice) (queue : Queue) (handles : List HandleRecord) (ok : AreOk me nodes slices queue handles) where
  pub nodes_changed : (new : List NodePart) → length nodes ≤ length new → ((f : Key × Entry) → Has queue f → (s : ℕ) → is_notice_of s f ≡ true → s < length nodes → SameNode (node_in new s) (node_in nodes s)) → AreOk me new slices queue handles
  nodes_changed new le same = record {
    rising = ok.rising;
    needed = ok.needed;
    messages = λ f h. message_more me (length nodes) (length new) f le (ok.messages f h);
    notices = λ f h. notice_same nodes new f le (same f h) (ok.notices f h);
    sliced = ok.sliced;
    apart = ok.apart;
    stages = ok.stages;
    flight = ok.flight;
    noticed = ok.noticed;
  }

-- ---- one node changes

same_node : (n : NodePart) → SameNode n n
same_node n = (refl, refl)

same_length : (s : ℕ) (f : NodePart → NodePart) (nodes : List NodePart) → length (with_node s f nodes) ≡ length nodes
same_length s f nodes = length-set nodes s (f (get_or nodes s no_node))

pub with_node_length : (s : ℕ) (f : NodePart → NodePart) (nodes : List NodePart) → length nodes ≤ length (with_node s f nodes)
with_node_length s f nodes = let same = same_length s f nodes in omega (arith, same)

pub node_changed : (s t : ℕ) (f : NodePart → NodePart) (nodes : List NodePart) → s < length nodes → (P : NodePart → NodePart → Type 0) → ((n : NodePart) → P n n) → P (f (node_in nodes t)) (node_in nodes t) → P (node_in (with_node t f nodes) s) (node_in nodes s)
node_changed s t f nodes made P itself changes = at (s == t) refl
  where
    at : (b : Bool) → (s == t) ≡ b → P (node_in (with_node t f nodes) s) (node_in nodes s)
    at true is =
        let same : s ≡ t = eqb-true s t is in
        subst (λ r. P (node_in (with_node t f nodes) r) (node_in nodes r)) (sym same)
        (subst (λ n. P n (node_in nodes t)) (sym (get_or-set_same nodes t (f (node_in nodes t)) no_node (subst (λ r. r < length nodes) same made))) changes)
    at false is =
        subst (λ n. P n (node_in nodes s)) (sym (get_or-set_other nodes t s (f (node_in nodes t)) no_node (λ e. absurd (cc (sym is ∙ eq-eqb s t e))))) (itself (node_in nodes s))

-- another node stays
pub other_node : (s t : ℕ) (f : NodePart → NodePart) (nodes : List NodePart) → s ≢ t → node_in (with_node t f nodes) s ≡ node_in nodes s
other_node s t f nodes apart = get_or-set_other nodes t s (f (node_in nodes t)) no_node apart

pub own_node : (t : ℕ) (f : NodePart → NodePart) (nodes : List NodePart) → t < length nodes → node_in (with_node t f nodes) t ≡ f (node_in nodes t)
own_node t f nodes made = get_or-set_same nodes t (f (node_in nodes t)) no_node made

module _ (me : ℕ) (nodes : List NodePart) (slices : List Slice) (queue : Queue) (handles : List HandleRecord) (ok : AreOk me nodes slices queue handles) where
  -- a change that leaves life and counts
  pub node_changed_ok : (t : ℕ) (f : NodePart → NodePart) → SameNode (f (node_in nodes t)) (node_in nodes t) → AreOk me (with_node t f nodes) slices queue handles
  node_changed_ok t f same = nodes_changed me nodes slices queue handles ok (with_node t f nodes) (with_node_length t f nodes) (λ g h s is made. node_changed s t f nodes made SameNode same_node same)

  -- a change of a node that no notice is queued of
  pub node_without_notice : (t : ℕ) (f : NodePart → NodePart) → ((g : Key × Entry) → Has queue g → is_notice_of t g ≡ false) → AreOk me (with_node t f nodes) slices queue handles
  node_without_notice t f none = nodes_changed me nodes slices queue handles ok (with_node t f nodes) (with_node_length t f nodes) other
    where
      other : (g : Key × Entry) → Has queue g → (s : ℕ) → is_notice_of s g ≡ true → s < length nodes → SameNode (node_in (with_node t f nodes) s) (node_in nodes s)
      other g h s is made = subst (λ n. SameNode n (node_in nodes s)) (sym (other_node s t f nodes (λ e. absurd (cc (sym (none g h) ∙ ap (λ r. is_notice_of r g) (sym e) ∙ is))))) (same_node (node_in nodes s))

  -- a node that isn't live, and isn't afterwards either, with the same counts
  pub node_not_live : (t : ℕ) (f : NodePart → NodePart) → is_live (node_in nodes t).state ≡ false → is_live (f (node_in nodes t)).state ≡ false → is_unheld (f (node_in nodes t)) ≡ is_unheld (node_in nodes t) → AreOk me (with_node t f nodes) slices queue handles
  node_not_live t f before after same = node_changed_ok t f (after ∙ sym before, same)

-- ---- nodes are made

pub made_length : (peers number : ℕ) (nodes : List NodePart) → (length nodes ≤ length (with_made peers number nodes)) × ((s : ℕ) → s < length nodes → node_in (with_made peers number nodes) s ≡ node_in nodes s)
made_length peers number nodes = at (serial_of number nodes)
  where
    new : NodePart
    new = record { number = number; state = Live; counts = replicate peers 0; taken = false }

    longer : (xs : List NodePart) (y : NodePart) → length xs ≤ length (xs ++ y ∷ [])
    longer [] y = omega arith
    longer (x ∷ xs) y = let further = longer xs y in omega (arith, further)

    made_by : Option ℕ → List NodePart
    made_by o = elim o [ None ↦ nodes ++ new ∷ [] | Some serial ↦ nodes ]

    at : (o : Option ℕ) → (length nodes ≤ length (made_by o)) × ((s : ℕ) → s < length nodes → node_in (made_by o) s ≡ node_in nodes s)
    at None = (longer nodes new, λ s made. get_or_append_left nodes (new ∷ []) no_node s made)
    at (Some serial) = (omega arith, λ s made. refl)

pub made_ok : (me peers number : ℕ) (nodes : List NodePart) (slices : List Slice) (queue : Queue) (handles : List HandleRecord) → AreOk me nodes slices queue handles → AreOk me (with_made peers number nodes) slices queue handles
made_ok me peers number nodes slices queue handles ok =
    let facts = made_length peers number nodes in
    nodes_changed me nodes slices queue handles ok (with_made peers number nodes) facts.0 (λ f h s is made. subst (λ n. SameNode n (node_in nodes s)) (sym (facts.1 s made)) (same_node (node_in nodes s)))

pub all_made_ok : (me peers : ℕ) (numbers : List ℕ) (nodes : List NodePart) (slices : List Slice) (queue : Queue) (handles : List HandleRecord) → AreOk me nodes slices queue handles → AreOk me (fold (λ ns number. with_made peers number ns) nodes numbers) slices queue handles
all_made_ok me peers [] nodes slices queue handles ok = ok
all_made_ok me peers (number ∷ rest) nodes slices queue handles ok = all_made_ok me peers rest (with_made peers number nodes) slices queue handles (made_ok me peers number nodes slices queue handles ok)

-- ---- release notices

pub release_is_no_message : (s : ℕ) (f : Key × Entry) → is_release_notice s f ≡ true → is_data f.1 ≡ false
release_is_no_message s (k, Message origin user index serial offset len carries slots hs payload) is = absurd (cc is)
release_is_no_message s (k, OwnNotice serial index) is = refl
release_is_no_message s (k, ForeignNotice node index) is = refl
release_is_no_message s (k, ReleaseNotice serial) is = refl

not_passed : (b : Bool) → not b ≡ true → b ≡ false
not_passed true is = absurd (cc is)
not_passed false is = refl

pub stays_unpassed : (by : Key × Entry → Bool) (queue : Queue) (f : Key × Entry) → Has (without by queue) f → by f ≡ false
stays_unpassed by queue f h = not_passed (by f) (filter_has (λ g. not (by g)) queue f h).1

-- ---- a node is counted for a peer: its release notice leaves before

-- what is a notice of the node and isn't its release notice is its destroy notice, and then the node isn't live
destroy_notice : (s : ℕ) (nodes : List NodePart) (f : Key × Entry) → is_notice_of s f ≡ true → is_release_notice s f ≡ false → NoticeOk nodes f → is_live (node_in nodes s).state ≡ false
destroy_notice s nodes (k, Message origin user index serial offset len carries slots hs payload) is other right = absurd (cc is)
destroy_notice s nodes (k, OwnNotice serial index) is other right = subst (λ r. is_live (node_in nodes r).state ≡ false) (eqb-true serial s is) right.1
destroy_notice s nodes (k, ForeignNotice node index) is other right = absurd (cc is)
destroy_notice s nodes (k, ReleaseNotice serial) is other right = absurd (cc (sym other ∙ is))

module _ (me : ℕ) (nodes : List NodePart) (slices : List Slice) (queue : Queue) (handles : List HandleRecord) (ok : AreOk me nodes slices queue handles) (t : ℕ) where
  abbrev unreleased : Queue
  unreleased = without (is_release_notice t) queue

  left_ok : AreOk me nodes slices unreleased handles
  left_ok = notices_leave me nodes slices queue handles ok (is_release_notice t) (release_is_no_message t)

  -- a node changes but for its life, and has no release notice
  pub released_changed : (f : NodePart → NodePart) → is_live (f (node_in nodes t)).state ≡ is_live (node_in nodes t).state → AreOk me (with_node t f nodes) slices unreleased handles
  released_changed f same = record {
    rising = ok.rising;
    needed = ok.needed;
    messages = λ g h. message_more me (length nodes) (length (with_node t f nodes)) g (with_node_length t f nodes) (left_ok.messages g h);
    notices = λ g h. right g (left_ok.notices g h) (stays_unpassed (is_release_notice t) queue g h);
    sliced = left_ok.sliced;
    apart = left_ok.apart;
    stages = left_ok.stages;
    flight = left_ok.flight;
    noticed = left_ok.noticed;
  }
    where
      lives : (s : ℕ) → s < length nodes → is_live (node_in (with_node t f nodes) s).state ≡ is_live (node_in nodes s).state
      lives s made = node_changed s t f nodes made (λ n m. is_live n.state ≡ is_live m.state) (λ n. refl) same

      right : (g : Key × Entry) → NoticeOk nodes g → is_release_notice t g ≡ false → NoticeOk (with_node t f nodes) g
      right (k, Message origin user index serial offset len carries slots hs payload) is other = is
      right (k, OwnNotice serial index) is other = ((let low = is.0 in let le = with_node_length t f nodes in omega (arith, low, le)), lives serial is.0 ∙ is.1)
      right (k, ForeignNotice node index) is other = is
      right (k, ReleaseNotice serial) is other =
          let apart : serial ≢ t = λ e. absurd (cc (sym other ∙ eq-eqb serial t e)) in
          let stays = other_node serial t f nodes apart in
          ((let low = is.0 in let le = with_node_length t f nodes in omega (arith, low, le)), ap (λ n. is_live n.state) stays ∙ is.1, ap is_unheld stays ∙ is.2)

  -- a node that isn't live afterwards, and has no release notice
  pub released_doomed : (f : NodePart → NodePart) → is_live (f (node_in nodes t)).state ≡ false → AreOk me (with_node t f nodes) slices unreleased handles
  released_doomed f dies = record {
    rising = ok.rising;
    needed = ok.needed;
    messages = λ g h. message_more me (length nodes) (length (with_node t f nodes)) g (with_node_length t f nodes) (left_ok.messages g h);
    notices = λ g h. right g (left_ok.notices g h) (stays_unpassed (is_release_notice t) queue g h);
    sliced = left_ok.sliced;
    apart = left_ok.apart;
    stages = left_ok.stages;
    flight = left_ok.flight;
    noticed = left_ok.noticed;
  }
    where
      dead : (s : ℕ) → s < length nodes → is_live (node_in nodes s).state ≡ false → is_live (node_in (with_node t f nodes) s).state ≡ false
      dead s made is = at (s == t) refl
        where
          at : (b : Bool) → (s == t) ≡ b → is_live (node_in (with_node t f nodes) s).state ≡ false
          at true e =
              let same : s ≡ t = eqb-true s t e in
              subst (λ r. is_live (node_in (with_node t f nodes) r).state ≡ false) (sym same) (ap (λ n. is_live n.state) (own_node t f nodes (subst (λ r. r < length nodes) same made)) ∙ dies)
          at false e = ap (λ n. is_live n.state) (other_node s t f nodes (λ same. absurd (cc (sym e ∙ eq-eqb s t same)))) ∙ is

      right : (g : Key × Entry) → NoticeOk nodes g → is_release_notice t g ≡ false → NoticeOk (with_node t f nodes) g
      right (k, Message origin user index serial offset len carries slots hs payload) is other = is
      right (k, OwnNotice serial index) is other = ((let low = is.0 in let le = with_node_length t f nodes in omega (arith, low, le)), dead serial is.0 is.1)
      right (k, ForeignNotice node index) is other = is
      right (k, ReleaseNotice serial) is other =
          let apart : serial ≢ t = λ e. absurd (cc (sym other ∙ eq-eqb serial t e)) in
          let stays = other_node serial t f nodes apart in
          ((let low = is.0 in let le = with_node_length t f nodes in omega (arith, low, le)), ap (λ n. is_live n.state) stays ∙ is.1, ap is_unheld stays ∙ is.2)

-- ---- a destruction begins

pub doomed_ok : (x : PeerPart) (index : ℕ) (doomed : List ℕ) (me : ℕ) (nodes : List NodePart) (slices : List Slice) (queue : Queue) (handles : List HandleRecord) → ((s : ℕ) → Has doomed s → s < length nodes) → AreOk me nodes slices queue handles → AreOk me (with_nodes doomed (in_state Dying) nodes) slices (with_own_notices x index doomed queue) handles
doomed_ok x index [] me nodes slices queue handles made ok = ok
doomed_ok x index (s ∷ rest) me nodes slices queue handles made ok =
    doomed_ok x (index + 1) rest me (with_node s (in_state Dying) nodes) slices (put key (OwnNotice s index) (without (is_release_notice s) queue)) handles
    (λ r h. (let low = made r (inr h) in let le = with_node_length s (in_state Dying) nodes in omega (arith, low, le)))
    (notice_put me (with_node s (in_state Dying) nodes) slices (without (is_release_notice s) queue) handles
    (released_doomed me nodes slices queue handles ok s (in_state Dying) refl)
    key (OwnNotice s index) refl (λ node. refl)
    ((let low = made s (inl refl) in let le = with_node_length s (in_state Dying) nodes in omega (arith, low, le)), ap (λ n. is_live n.state) (own_node s (in_state Dying) nodes (made s (inl refl)))))
  where
    key : Key
    key = record { stamp = x.clock + 1; origin = x.me; index = index }

-- ---- nodes are destroyed

pub destroyed_ok : (stamp : ℕ) (doomed : List ℕ) (me : ℕ) (nodes : List NodePart) (slices : List Slice) (queue : Queue) (handles : List HandleRecord) → ((s : ℕ) → Has doomed s → is_live (node_in nodes s).state ≡ false) → AreOk me nodes slices queue handles → AreOk me (with_nodes doomed (in_state (Destroyed stamp)) nodes) slices queue handles
destroyed_ok stamp [] me nodes slices queue handles dying ok = ok
destroyed_ok stamp (s ∷ rest) me nodes slices queue handles dying ok =
    destroyed_ok stamp rest me (with_node s (in_state (Destroyed stamp)) nodes) slices queue handles
    (λ r h. still r (dying r (inr h)))
    (node_not_live me nodes slices queue handles ok s (in_state (Destroyed stamp)) (dying s (inl refl)) refl refl)
  where
    still : (r : ℕ) → is_live (node_in nodes r).state ≡ false → is_live (node_in (with_node s (in_state (Destroyed stamp)) nodes) r).state ≡ false
    still r is = at (r == s) refl
      where
        outside : (ns : List NodePart) (i j : ℕ) (n : NodePart) → is_live (get_or ns j no_node).state ≡ false → is_live n.state ≡ false → is_live (get_or (set ns i n) j no_node).state ≡ false
        outside [] i j n was dies = was
        outside (m ∷ ns) zero zero n was dies = dies
        outside (m ∷ ns) zero (suc j) n was dies = was
        outside (m ∷ ns) (suc i) zero n was dies = was
        outside (m ∷ ns) (suc i) (suc j) n was dies = outside ns i j n was dies

        at : (b : Bool) → (r == s) ≡ b → is_live (node_in (with_node s (in_state (Destroyed stamp)) nodes) r).state ≡ false
        at b e = outside nodes s r (in_state (Destroyed stamp) (node_in nodes s)) is refl

-- ---- a drop

-- a node of which a peer has a reference isn't unheld
pub held_by_some : (n : NodePart) (holder : ℕ) → 1 ≤ count_of n holder → is_unheld n ≡ false
held_by_some n holder some = at n.counts holder some
  where
    at : (counts : List ℕ) (i : ℕ) → 1 ≤ get_or counts i 0 → list_all (λ k. k == 0) counts ≡ false
    at [] i has = absurd (omega (arith, has))
    at (c ∷ rest) zero has = let no_zero : (c == 0) ≡ false = grind (arith, has) in ap (λ b. b && list_all (λ k. k == 0) rest) no_zero
    at (c ∷ rest) (suc i) has = ap (λ b. (c == 0) && b) (at rest i has) ∙ never (c == 0)
      where
        never : (b : Bool) → (b && false) ≡ false
        never true = refl
        never false = refl

module _ (me : ℕ) (nodes : List NodePart) (slices : List Slice) (queue : Queue) (handles : List HandleRecord) (ok : AreOk me nodes slices queue handles) (t holder k : ℕ) (some : 1 ≤ count_of (node_in nodes t) holder) where
  no_release : (g : Key × Entry) → Has queue g → is_release_notice t g ≡ false
  no_release g h = none g (ok.notices g h)
    where
      none : (f : Key × Entry) → NoticeOk nodes f → is_release_notice t f ≡ false
      none (key, Message origin user index serial offset len carries slots hs payload) is = refl
      none (key, OwnNotice serial index) is = refl
      none (key, ForeignNotice node index) is = refl
      none (key, ReleaseNotice serial) is = at (serial == t) refl
        where
          at : (b : Bool) → (serial == t) ≡ b → (serial == t) ≡ false
          at false e = e
          at true e =
              let same : serial ≡ t = eqb-true serial t e in
              let unheld : is_unheld (node_in nodes t) ≡ true = subst (λ r. is_unheld (node_in nodes r) ≡ true) same is.2 in
              absurd (cc (sym unheld ∙ held_by_some (node_in nodes t) holder some))

  pub node_dropped : AreOk me (with_node t (uncounted holder k) nodes) slices queue handles
  node_dropped = record {
    rising = ok.rising;
    needed = ok.needed;
    messages = λ g h. message_more me (length nodes) (length (with_node t (uncounted holder k) nodes)) g (with_node_length t (uncounted holder k) nodes) (ok.messages g h);
    notices = λ g h. right g (ok.notices g h) (no_release g h);
    sliced = ok.sliced;
    apart = ok.apart;
    stages = ok.stages;
    flight = ok.flight;
    noticed = ok.noticed;
  }
    where
      new : List NodePart
      new = with_node t (uncounted holder k) nodes

      right : (g : Key × Entry) → NoticeOk nodes g → is_release_notice t g ≡ false → NoticeOk (with_node t (uncounted holder k) nodes) g
      right (key, Message origin user index serial offset len carries slots hs payload) is other = is
      right (key, OwnNotice serial index) is other = ((let low = is.0 in let le = with_node_length t (uncounted holder k) nodes in omega (arith, low, le)), node_changed serial t (uncounted holder k) nodes is.0 (λ n m. is_live n.state ≡ is_live m.state) (λ n. refl) refl ∙ is.1)
      right (key, ForeignNotice node index) is other = is
      right (key, ReleaseNotice serial) is other =
          let apart : serial ≢ t = λ e. absurd (cc (sym other ∙ eq-eqb serial t e)) in
          let stays = other_node serial t (uncounted holder k) nodes apart in
          ((let low = is.0 in let le = with_node_length t (uncounted holder k) nodes in omega (arith, low, le)), ap (λ n. is_live n.state) stays ∙ is.1, ap is_unheld stays ∙ is.2)

  -- no notice of a live node is queued then
  pub none_queued : is_live (node_in nodes t).state ≡ true → (g : Key × Entry) → Has queue g → is_notice_of t g ≡ false
  none_queued live g h = at (is_notice_of t g) refl
    where
      at : (b : Bool) → is_notice_of t g ≡ b → is_notice_of t g ≡ false
      at false e = e
      at true e = absurd (cc (sym live ∙ destroy_notice t nodes g e (no_release g h) (ok.notices g h)))
