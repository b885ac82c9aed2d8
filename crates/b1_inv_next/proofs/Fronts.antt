-- The front of a queue, once what is for nobody is removed, is the next entry of the record.
use Rattle.std.proofs.Common.{◌≡◌, ◌⊎◌, refl, sym, ap, subst, ◌∙◌, inl, inr, ℕ, ◌<◌, ◌==◌, true, false, not, ◌∷◌, get_or, Option, Some, None}
use native.Mathlib.Omega.{arith}
use Rattle.b1_model.specs.declared.naming.Key.{Key}
use Rattle.b1_model.specs.declared.naming.NodeRef.{NodeRef}
use Rattle.b1_model.specs.declared.naming.Opening.{Opening}
use Rattle.b1_model.specs.declared.entries.Entry.{Entry}
use Rattle.b1_model.specs.declared.entries.Entry.TheVariants.{Message, OwnNotice, ForeignNotice, ReleaseNotice}
use Rattle.b1_model.specs.declared.records.Record.{Record}
use Rattle.b1_model.specs.Ledger.{is_below}
use Rattle.b1_model.specs.Legal.{is_above, last_key, is_candidate, IsLeast}
use Rattle.b1_model.specs.MachineParts.{PeerPart, DriverPart, State, is_staged, no_node, record_or_none}
use Rattle.b1_model.specs.MachineReceive.{is_for_nobody, discarded, cleared}
use Rattle.b1_model.specs.MachineStep.{record_of_state}
use Rattle.b1_step.specs.Ordered.{Ascending, Rising}
use Rattle.b1_step.specs.Rights.{Has}
use Rattle.b1_step.proofs.Orders.{behind_has}
use Rattle.b1_inv.specs.Words.{IsPeer, IsDriver}
use Rattle.b1_inv.specs.Sound.{IsSound}
use Rattle.b1_ledger.specs.Growth.{calls_len}
use Rattle.b1_ledger.proofs.KeyOrder.{below_is, Below, is_of_below, not_of_below}
use Rattle.b1_ledger.proofs.NextAfter.{below_is_less}
use Rattle.b1_ledger.proofs.Sequences.{and_of}
use Rattle.b1_inv_record.specs.Right.{IsRight}
use Rattle.b1_inv_peer.proofs.Clearing.{without_front}
use Rattle.b1_model.specs.MachineTables.{foreign, made_dead}
use Rattle.b1_inv_refs.proofs.Views.{held_same, held_unexpected}
use Rattle.b1_inv_taken.proofs.Clears.{Queue, is_removed, Settled, cleared_by}
use Rattle.b1_inv_next.specs.Queued.{Queued}
use Rattle.b1_inv_next.proofs.Facts.{last_received}
use Rattle.b1_inv_next.proofs.Idle.{not_itself}
use Rattle.b1_inv_next.proofs.Notices.{candidate_queued}
use Rattle.b1_inv_next.proofs.Nobody.{nobody_apart, all_has}

-- no key is both below and above another
not_both : (a b : Key) → is_below a b ≡ true → is_below b a ≡ false
not_both a b is = not_of_below b a (λ other. by (below_is a b is) other)
  where
    by : Below a b → Below b a → ⊥
    by one two = grind (arith, one, two)

-- nor below one with a greater stamp
not_above : (a b c : Key) → is_below a b ≡ true → b.stamp < c.stamp → is_below c a ≡ false
not_above a b c is low = not_of_below c a (λ other. by (below_is a b is) other)
  where
    by : Below a b → Below c a → ⊥
    by one two = grind (arith, one, two, low)

-- a removal leaves how often a node is held
held_discarded : (node : NodeRef) (x : PeerPart) (e : Entry) → Rising x.handles → (record_or_none node (discarded x e).handles).held ≡ (record_or_none node x.handles).held
held_discarded node x (Message origin user index serial offset len nodes slots handles payload) up = held_unexpected node (foreign x.me nodes) x.handles up
held_discarded node x (OwnNotice serial index) up = refl
held_discarded node x (ForeignNotice other index) up = held_same made_dead (λ h. refl) (λ h. refl) other node x.handles up
held_discarded node x (ReleaseNotice serial) up = refl

module _ {o : Opening} {s : State} (sound : IsSound o s) (right : IsRight o s) (p : ℕ) (d : DriverPart) (x : PeerPart) (is_driver : IsDriver s p d) (is_peer : IsPeer s p x) (idle : d.doing ≡ None) where
  abbrev r : Record
  r = record_of_state s

  -- what stays of a part while entries for nobody are removed
  pub record Kept (y : PeerPart) : Type 0 where
    pub candidates : (key : Key) → is_candidate o.wires r p (calls_len r p) key ≡ true → Queued y key
    pub was : (f : Key × Entry) → Has y.queue f → Has x.queue f
    pub nodes : y.nodes ≡ x.nodes
    pub held : (node : NodeRef) → (record_or_none node y.handles).held ≡ (record_or_none node x.handles).held
    pub own : (k : Key) (serial index : ℕ) → Has x.queue (k, OwnNotice serial index) → Has y.queue (k, OwnNotice serial index)
    pub ascending : Ascending y.queue

  nobody_same : (y : PeerPart) (e : Entry) → Kept y → is_for_nobody y e ≡ is_for_nobody x e
  nobody_same y (Message origin user index serial offset len nodes slots handles payload) kept = ap (λ ns. (get_or ns serial no_node).taken) kept.nodes
  nobody_same y (OwnNotice serial index) kept = refl
  nobody_same y (ForeignNotice node index) kept = ap (λ n. n == 0) (kept.held node)
  nobody_same y (ReleaseNotice serial) kept = refl

  discard_keeps : (y : PeerPart) (e : Entry) → ((discarded y e).queue ≡ y.queue) × ((discarded y e).nodes ≡ y.nodes)
  discard_keeps y (Message origin user index serial offset len nodes slots handles payload) = (refl, refl)
  discard_keeps y (OwnNotice serial index) = (refl, refl)
  discard_keeps y (ForeignNotice node index) = (refl, refl)
  discard_keeps y (ReleaseNotice serial) = (refl, refl)

  removed : (y : PeerPart) (f : Key × Entry) (rest : Queue) → Rising y.handles → Kept y → y.queue ≡ f ∷ rest → is_staged f ≡ false → is_for_nobody y f.1 ≡ true → Kept (without_front y f rest)
  removed y f rest up kept is even nobody = record {
    candidates = λ key candidate. still key candidate (kept.candidates key candidate);
    was = λ g has. kept.was g (subst (λ q. Has q g) (sym is) (inr (subst (λ q. Has q g) same.0 has)));
    nodes = same.1 ∙ kept.nodes;
    held = λ node. held_discarded node (record y { queue = rest }) f.1 up ∙ kept.held node;
    own = λ k serial index has. mine k serial index (subst (λ q. Has q (k, OwnNotice serial index)) is (kept.own k serial index has));
    ascending = subst Ascending (sym same.0) (subst Ascending is kept.ascending).1;
  }
    where
      same : ((without_front y f rest).queue ≡ rest) × ((without_front y f rest).nodes ≡ y.nodes)
      same = discard_keeps (record y { queue = rest }) f.1

      there : Has x.queue f
      there = kept.was f (subst (λ q. Has q f) (sym is) (inl refl))

      none : is_candidate o.wires r p (calls_len r p) f.0 ≡ true → ⊥
      none = nobody_apart sound right p d x is_driver is_peer idle f there even (sym (nobody_same y f.1 kept) ∙ nobody)

      still : (key : Key) → is_candidate o.wires r p (calls_len r p) key ≡ true → Queued y key → Queued (without_front y f rest) key
      still key candidate (g, has, how) = by (subst (λ q. Has q g) is has) how
        where
          by : Has (f ∷ rest) g → (g.0 ≡ key) ⊎ ((is_staged g ≡ true) × (g.0.stamp < key.stamp)) → Queued (without_front y f rest) key
          by (inr further) how = (g, subst (λ q. Has q g) (sym same.0) further, how)
          by (inl first) (inl is_key) = absurd (none (ap (is_candidate o.wires r p (calls_len r p)) (ap (λ h. h.0) (sym first) ∙ is_key) ∙ candidate))
          by (inl first) (inr (odd, low)) = let both : true ≡ false = sym odd ∙ ap is_staged first ∙ even in absurd (cc both)

      mine : (k : Key) (serial index : ℕ) → Has (f ∷ rest) (k, OwnNotice serial index) → Has (without_front y f rest).queue (k, OwnNotice serial index)
      mine k serial index (inr further) = subst (λ q. Has q (k, OwnNotice serial index)) (sym same.0) further
      mine k serial index (inl first) = let both : false ≡ true = ap (λ h. is_for_nobody y h.1) first ∙ nobody in absurd (cc both)

  pub all_removed : Kept (cleared x) × Settled (cleared x) × Rising (cleared x).handles
  all_removed = cleared_by Kept removed x (sound.rising p x is_peer) (record {
    candidates = candidate_queued sound right p d x is_driver is_peer idle;
    was = λ f has. has;
    nodes = refl;
    held = λ node. refl;
    own = λ k serial index has. has;
    ascending = right.parts.keys.ascending p x is_peer;
  })

  module _ (f : Key × Entry) (rest : Queue) (front : (cleared x).queue ≡ f ∷ rest) (even : is_staged f ≡ false) where
    kept : Kept (cleared x)
    kept = all_removed.0

    pub there : Has x.queue f
    there = kept.was f (subst (λ q. Has q f) (sym front) (inl refl))

    pub served : is_for_nobody x f.1 ≡ true → ⊥
    served nobody =
        let goes : is_removed (cleared x) f ≡ false = all_removed.1 f rest front in
        let both : true ≡ false = sym (and_of (not (is_staged f)) (is_for_nobody (cleared x) f.1) (ap not even) (nobody_same (cleared x) f.1 kept ∙ nobody)) ∙ goes in cc both

    pub ascending : Ascending (f ∷ rest)
    ascending = subst Ascending front kept.ascending

    -- no candidate is below the front
    pub least : IsLeast o.wires r p (calls_len r p) f.0
    least other candidate = by (kept.candidates other candidate)
      where
        by : Queued (cleared x) other → is_below other f.0 ≡ false
        by (g, has, how) = at (subst (λ q. Has q g) front has) how
          where
            at : Has (f ∷ rest) g → (g.0 ≡ other) ⊎ ((is_staged g ≡ true) × (g.0.stamp < other.stamp)) → is_below other f.0 ≡ false
            at (inl first) (inl same) = not_of_below other f.0 (λ below. not_itself f.0 (ap (λ k. is_below k f.0) (ap (λ h. h.0) (sym first) ∙ same) ∙ is_of_below other f.0 below))
            at (inl first) (inr (odd, low)) = let both : true ≡ false = sym odd ∙ ap is_staged first ∙ even in absurd (cc both)
            at (inr further) (inl same) = not_both f.0 other (ap (is_below f.0) (sym same) ∙ below_is_less f.0 g.0 ∙ behind_has f.0 rest g ascending.0 further)
            at (inr further) (inr (odd, low)) = not_above f.0 g.0 other (below_is_less f.0 g.0 ∙ behind_has f.0 rest g ascending.0 further) low

    -- the front is above the last key
    pub above : is_above f.0 (last_key r p (calls_len r p)) ≡ true
    above = by (last_key r p (calls_len r p)) refl
      where
        by : (last : Option Key) → last_key r p (calls_len r p) ≡ last → is_above f.0 last ≡ true
        by None is = refl
        by (Some key) is =
            let c = last_received r p key is in
            below_is_less key f.0 ∙ all_has sound right p d x is_driver is_peer idle key x.queue f (right.entries.gone.received p x c.0 key is_peer c.1 c.2).1 there
