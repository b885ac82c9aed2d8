-- Holders of destroyed nodes have the notice queued, or have taken it.
use Rattle.std.proofs.Common.{◌≡◌, refl, sym, ap, subst, ◌∙◌, inl, inr, ◌⊎◌, ℕ, ◌≤◌, Bool, true, false, length, Some}
use Rattle.std.specs.Prelude.{slice_get}
use Rattle.std.proofs.lemmas.Option.{same_Some, slice_get_within}
use native.Mathlib.Omega.{arith}
use Rattle.b1_model.specs.declared.naming.Key.{Key}
use Rattle.b1_model.specs.declared.naming.Opening.{Opening}
use Rattle.b1_model.specs.declared.entries.Entry.TheVariants.{ForeignNotice}
use Rattle.b1_model.specs.MachineParts.{PeerPart, DriverPart, HandleRecord, State, is_staged, is_live, is_dying, node_at}
use Rattle.b1_step.specs.Rights.{Has}
use Rattle.b1_step.proofs.Lists.{has_at}
use Rattle.b1_inv.specs.Words.{IsPeer, IsDriver, is_among, is_uncommitted}
use Rattle.b1_inv.specs.Notices.{doomed_now, staged_now}
use Rattle.b1_inv.specs.Sound.{IsSound}
use Rattle.b1_inv_record.specs.Destructions.{doomed_key}
use Rattle.b1_inv_record.specs.Epochs.{WasReceivedIn}
use Rattle.b1_inv_record.specs.Right.{IsRight}
use Rattle.b1_inv_notices.proofs.Sets.{not_has}
use Rattle.b1_inv_notices.proofs.Turns.{get_there}
use Rattle.b1_inv_doomed.proofs.Dying.{life_at, doomed_made}
use Rattle.b1_inv_ends.specs.Holders.{HoldersServed}

module _ {o : Opening} {s : State} (sound : IsSound o s) (right : IsRight o s) where
  -- a node that the record destroys isn't live or dying at its owner
  destroyed_there : (h : HandleRecord) (key : Key) (y : PeerPart) → IsPeer s h.node.owner y → doomed_key o s h.node ≡ Some key → (is_live (node_at y h.node.serial).state ≡ false) × (is_dying (node_at y h.node.serial).state ≡ false)
  destroyed_there h key y is doomed =
      let n = get_there y.nodes h.node.serial (doomed_made sound right h.node.owner h.node.serial y key is doomed) in
      let state = life_at y h.node.serial n.0 n.1 ∙ right.destructions.dying.recorded h.node.owner h.node.serial y n.0 key is n.1 doomed in
      (ap is_live state, ap is_dying state)

  module _ (q : ℕ) (x : PeerPart) (h : HandleRecord) (key : Key) (is : IsPeer s q x) (has : Has x.handles h) (doomed : doomed_key o s h.node ≡ Some key) where
    abbrev IsServed : Type 0
    IsServed = Has x.queue (key, ForeignNotice h.node key.index) ⊎ WasReceivedIn s q x.epoch key

    -- the notice of a record that is marked is committed
    marked : (e : DriverPart) → IsDriver s h.node.owner e → is_among h.node.serial (doomed_now e) ≡ false → h.notice ≡ true → IsServed
    marked e is_owner none notice =
        let k = right.parts.marks.queued q x h is has notice in
        let shape = sound.notices.queued q x (k.0, ForeignNotice h.node k.1) is k.2 in
        by k.0 k.1 k.2 shape.1 (is_staged (k.0, ForeignNotice h.node k.1)) refl (λ odd. shape.3 e is_owner odd)
      where
        by : (z : Key) (i : ℕ) → Has x.queue (z, ForeignNotice h.node i) → z.index ≡ i → (b : Bool) → is_staged (z, ForeignNotice h.node i) ≡ b
            → (is_staged (z, ForeignNotice h.node i) ≡ true → (is_uncommitted e q ≡ true) × (slice_get (doomed_now e) i ≡ Some h.node.serial) × Has (staged_now e) q) → IsServed
        by z i there place true odd waits =
            let k = waits odd in
            absurd (not_has h.node.serial (doomed_now e) none (has_at (doomed_now e) i h.node.serial k.1))
        by z i there place false even waits =
            let same : z ≡ key = same_Some z key (sym (right.destructions.foreign.queued q i x z h.node is there even) ∙ doomed) in
            inl (subst (λ k. Has x.queue (k, ForeignNotice h.node k.index)) same (subst (λ n. Has x.queue (z, ForeignNotice h.node n)) (sym place) there))

    serves : (e : DriverPart) → 1 ≤ h.held → IsDriver s h.node.owner e → is_among h.node.serial (doomed_now e) ≡ false → IsServed
    serves e held is_owner none =
        let many : length s.peers ≡ length s.drivers = sound.numbered.as_many_peers ∙ sym sound.numbered.as_many_drivers in
        let within = slice_get_within s.drivers h.node.owner e is_owner in
        let y = get_there s.peers h.node.owner (omega (arith, within, many)) in
        let ended = destroyed_there h key y.0 y.1 doomed in
        elim (right.holders.covered.held q x h y.0 e is has held y.1 is_owner ended.0) [
          | inl (inl notice) ↦ marked e is_owner none notice
          | inl (inr dead) ↦ inr (right.destructions.taken.held q x h key is has dead held doomed)
          | inr (dying, due) ↦ let both : true ≡ false = sym dying ∙ ended.1 in absurd (cc both)
        ]

  pub holders_served : HoldersServed o s
  holders_served = record { served = λ q x h key e is has held is_owner none doomed. serves q x h key is has doomed e held is_owner none }
