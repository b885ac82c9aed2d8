-- A peer that takes an entry while it holds a dying node: the node's staged notice stands behind that entry, so the destruction has collected its stamp; or the peer is still to be visited.
use Rattle.std.proofs.Common.{◌≡◌, ◌⊎◌, refl, sym, ap, subst, ◌∙◌, inl, inr, ℕ, zero, suc, ◌+◌, ◌≤◌, Bool, true, false, List, [], ◌∷◌, get_or, Option, Some, None}
use Rattle.std.specs.Prelude.{slice_get}
use Rattle.std.proofs.lemmas.Bool.{cases_eq}
use native.Mathlib.Omega.{arith}
use Rattle.b1_model.specs.declared.naming.Key.{Key}
use Rattle.b1_model.specs.declared.naming.NodeRef.{NodeRef}
use Rattle.b1_model.specs.declared.naming.Opening.{Opening}
use Rattle.b1_model.specs.declared.entries.Entry.{Entry}
use Rattle.b1_model.specs.declared.entries.Entry.TheVariants.{ForeignNotice}
use Rattle.b1_model.specs.declared.events.Doing.{Doing}
use Rattle.b1_model.specs.declared.events.Phase.{Phase}
use Rattle.b1_model.specs.declared.events.Phase.TheVariants.{Unstaging}
use Rattle.b1_model.specs.declared.parts.NodeState.{NodeState}
use Rattle.b1_model.specs.declared.parts.NodeState.TheVariants.{Live, Dying, Destroyed}
use Rattle.b1_model.specs.MachineParts.{PeerPart, DriverPart, HandleRecord, NodePart, State, is_live, is_dying, is_staged, is_odd, same_ref, no_node, node_at, record_of, record_or_none, slots_of}
use Rattle.b1_model.specs.MachineEvents.{collected_of, doomed_of}
use Rattle.b1_step.specs.Rights.{Has}
use Rattle.b1_step.proofs.Orders.{same_ref_is}
use Rattle.b1_inv.specs.Words.{IsPeer, IsDriver}
use Rattle.b1_inv.specs.Sound.{IsSound}
use Rattle.b1_inv_record.specs.Destructions.{doomed_key}
use Rattle.b1_inv_record.specs.Epochs.{is_unstaging}
use Rattle.b1_inv_record.specs.Holders.{IsCovered, IsDue, collected_now}
use Rattle.b1_inv_record.specs.Right.{IsRight}
use Rattle.b1_inv_refs.proofs.Views.{Handles, or_none}
use Rattle.b1_inv_refs.proofs.Arrivals.{held_in}
use Rattle.b1_inv_refs.proofs.GivenUp.{record_found, found_has}
use Rattle.b1_inv_holders.proofs.Held.{slots_committed}
use Rattle.b1_inv_holders.proofs.Records.{TakenIn}
use Rattle.b1_inv_entries.proofs.Behind.{before_low}
use Rattle.b1_inv_entries.proofs.Keeping.{IsTakenFront, recv_staged}
use Rattle.b1_inv_entries.proofs.Removed.{taken_before}
use Rattle.b1_inv_seen.proofs.HoldEvents.{held_record}

-- a dying node was made
dying_there : (nodes : List NodePart) (serial : ℕ) → is_dying (get_or nodes serial no_node).state ≡ true → slice_get nodes serial ≡ Some (get_or nodes serial no_node)
dying_there [] serial is = absurd (cc is)
dying_there (n ∷ rest) zero is = refl
dying_there (n ∷ rest) (suc serial) is = dying_there rest serial is

-- a dying node is not live
not_live : (state : NodeState) → is_dying state ≡ true → is_live state ≡ false
not_live Live is = absurd (cc is)
not_live Dying is = refl
not_live (Destroyed stamp) is = absurd (cc is)

-- a record that is flagged is there
flagged_there : (node : NodeRef) (hs : Handles) → ((record_or_none node hs).notice ≡ true) ⊎ ((record_or_none node hs).dead ≡ true) → Has hs (record_or_none node hs) × ((record_or_none node hs).node ≡ node)
flagged_there node hs is = by (record_of node hs) refl is
  where
    by : (z : Option HandleRecord) → record_of node hs ≡ z → ((or_none node z).notice ≡ true) ⊎ ((or_none node z).dead ≡ true) → Has hs (or_none node z) × ((or_none node z).node ≡ node)
    by None none (inl noted) = absurd (cc noted)
    by None none (inr dead) = absurd (cc dead)
    by (Some h) at flagged = let k = found_has (λ g. same_ref g.node node) hs h at in (k.0, same_ref_is h.node node k.1)

-- a phase that dooms nodes takes nothing back
dooms_not_unstaging : (phase : Phase) (i serial : ℕ) → slice_get (doomed_of phase) i ≡ Some serial → is_unstaging phase ≡ false
dooms_not_unstaging (Unstaging begun places refused place) i serial is = absurd (cc is)
dooms_not_unstaging phase i serial is = refl

-- a command that dooms nodes is open, and takes nothing back
doing_there : (doing : Option Doing) (i serial : ℕ) → slice_get (elim doing [ None ↦ [] | Some one ↦ doomed_of one.phase ]) i ≡ Some serial → (one : Doing) × (doing ≡ Some one) × (is_unstaging one.phase ≡ false)
doing_there None i serial is = absurd (cc is)
doing_there (Some one) i serial is = (one, refl, dooms_not_unstaging one.phase i serial is)

module _ {o : Opening} {s : State} (sound : IsSound o s) (right : IsRight o s) (q : ℕ) (x : PeerPart) (node : NodeRef) (y : PeerPart) (e : DriverPart) (is_peer : IsPeer s q x) (is_owner : IsPeer s node.owner y) (is_driver : IsDriver s node.owner e)
    (dying : is_dying (node_at y node.serial).state ≡ true) where
  -- it isn't recorded as destroyed
  unrecorded : (key : Key) → doomed_key o s node ≡ Some key → ⊥
  unrecorded key is =
      let state : (node_at y node.serial).state ≡ Destroyed key.stamp = right.destructions.dying.recorded node.owner node.serial y (node_at y node.serial) key is_owner (dying_there y.nodes node.serial dying) is in
      let both : true ≡ false = sym dying ∙ ap is_dying state in
      absurd (cc both)

  -- who holds it, or takes a counted reference to it, is covered
  pub covered_record : (1 ≤ held_in node x.handles) ⊎ TakenIn x node → IsCovered q (record_or_none node x.handles) y e
  covered_record (inl some) =
      let h = held_record node x.handles some in
      let is_record : record_or_none node x.handles ≡ h.0 = ap (or_none node) (ap (λ n. record_of n x.handles) (sym h.2) ∙ record_found x.handles h.0 (sound.rising q x is_peer) h.1) in
      subst (λ k. IsCovered q k y e) (sym is_record)
      (right.holders.covered.held q x h.0 y e is_peer h.1 (let as_often = h.3 in omega (arith, as_often, some)) (subst (λ n. IsPeer s n.owner y) (sym h.2) is_owner) (subst (λ n. IsDriver s n.owner e) (sym h.2) is_driver)
      (subst (λ n. is_live (node_at y n.serial).state ≡ false) (sym h.2) (not_live (node_at y node.serial).state dying)))
  covered_record (inr (f, j, there, even, node_is, slot_is)) =
      right.holders.covered.carried q j x f node y e is_peer there node_is (ap (λ l. slice_get l j) (slots_committed (is_staged f) _ (slots_of f.1) even) ∙ slot_is) is_owner is_driver (not_live (node_at y node.serial).state dying)

  -- its notice is staged, at most one above what is collected
  pub notice_staged : (record_or_none node x.handles).notice ≡ true → (k : Key) × (i : ℕ) × Has x.queue (k, ForeignNotice node i) × (is_staged (k, ForeignNotice node i) ≡ true) × (k.stamp ≤ collected_now e + 1)
  notice_staged noted =
      let h = flagged_there node x.handles (inl noted) in
      let m = right.parts.marks.queued q x (record_or_none node x.handles) is_peer h.0 noted in
      at m.0 m.1 (subst (λ n. Has x.queue (m.0, ForeignNotice n m.1)) h.1 m.2)
    where
      at : (k : Key) (i : ℕ) → Has x.queue (k, ForeignNotice node i) → (l : Key) × (j : ℕ) × Has x.queue (l, ForeignNotice node j) × (is_staged (l, ForeignNotice node j) ≡ true) × (l.stamp ≤ collected_now e + 1)
      at k i there = by (is_staged (k, ForeignNotice node i)) refl
        where
          by : (b : Bool) → is_staged (k, ForeignNotice node i) ≡ b → (l : Key) × (j : ℕ) × Has x.queue (l, ForeignNotice node j) × (is_staged (l, ForeignNotice node j) ≡ true) × (l.stamp ≤ collected_now e + 1)
          by false even = absurd (unrecorded k (right.destructions.foreign.queued q i x k node is_peer there even))
          by true odd =
              let shape = sound.notices.queued q x (k, ForeignNotice node i) is_peer there in
              let d = doing_there e.doing i node.serial (shape.3 e is_driver odd).1 in
              let low = right.clocks.staged.collected q x (k, ForeignNotice node i) e d.0 is_peer there odd refl (subst (λ r. IsDriver s r e) (sym shape.0) is_driver) d.1 d.2 in
              let now : collected_now e ≡ collected_of d.0.phase = ap (λ doing. elim doing [ None ↦ 0 | Some one ↦ collected_of one.phase ]) d.1 in
              (k, i, there, odd, omega (arith, low, now))

  -- its record is not dead
  no_dead : (record_or_none node x.handles).dead ≡ true → ⊥
  no_dead dead =
      let h = flagged_there node x.handles (inr dead) in
      let key = right.destructions.foreign.dead q x (record_or_none node x.handles) is_peer h.0 dead in
      unrecorded key.0 (ap (λ n. doomed_key o s n) (sym h.1) ∙ key.1)

  -- an entry that it takes is below its notice
  pub taken_collected : (f : Key × Entry) → IsTakenFront x f → (1 ≤ held_in node x.handles) ⊎ TakenIn x node → (f.0.stamp ≤ collected_now e) ⊎ IsDue q y e
  taken_collected f front holds = by (covered_record holds)
    where
      by : IsCovered q (record_or_none node x.handles) y e → (f.0.stamp ≤ collected_now e) ⊎ IsDue q y e
      by (inr (dies, due)) = inr due
      by (inl (inr dead)) = absurd (no_dead dead)
      by (inl (inl noted)) =
          let n = notice_staged noted in
          let before = taken_before x f (n.0, ForeignNotice node n.1) (right.parts.keys.ascending q x is_peer) front (recv_staged x (n.0, ForeignNotice node n.1) n.3 n.2) in
          let low = before_low f.0 n.0 before in
          let high = n.4 in
          elim (cases_eq f.0.stamp n.0.stamp) [
            | inl same ↦ let both : true ≡ false = sym n.3 ∙ ap is_odd (sym same) ∙ front.2 in absurd (cc both)
            | inr apart ↦ inl (omega (arith, low, high, apart))
          ]
