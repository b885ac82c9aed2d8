-- The recipients and the holders that a stamped command has synced have clocks at least its stamp.
use Rattle.std.proofs.Common.{◌≡◌, ◌⊎◌, refl, sym, ap, subst, ◌∙◌, inl, inr, ℕ, zero, suc, ◌+◌, ◌<◌, ◌≤◌, Bool, true, false, ◌&&◌, nat_lt, List, [], ◌∷◌, take, length, get_or, Option, Some, None, Ok}
use Rattle.std.specs.Prelude.{slice_get}
use Rattle.std.proofs.lemmas.Bool.{ltb-true, cases_lt, lt-ltb, and_parts}
use Rattle.std.proofs.lemmas.Option.{get_or_from_slice_get}
use native.Mathlib.Omega.{arith}
use Rattle.b1_model.specs.declared.commands.Command.{Command}
use Rattle.b1_model.specs.declared.naming.NodeRef.{NodeRef}
use Rattle.b1_model.specs.declared.naming.Opening.{Opening}
use Rattle.b1_model.specs.declared.events.Doing.{Doing}
use Rattle.b1_model.specs.declared.events.OwedDrop.{OwedDrop}
use Rattle.b1_model.specs.declared.events.Sending.{Sending}
use Rattle.b1_model.specs.declared.events.Outcome.{Outcome}
use Rattle.b1_model.specs.declared.events.Outcome.TheVariants as out
use Rattle.b1_model.specs.declared.events.Phase.{Phase}
use Rattle.b1_model.specs.declared.events.Phase.TheVariants.{Stamping, Syncing, Committing, Dooming, SyncingNotices, CommittingOwn, CommittingNotices}
use Rattle.b1_model.specs.MachineParts.{PeerPart, DriverPart, State}
use Rattle.b1_model.specs.MachineDriver.{accepted_from, is_place, node_of_place, no_ref, next_action, peer_of}
use Rattle.b1_model.specs.MachineEvents.{begun_of}
use Rattle.b1_model.specs.MachineStep.{Step, opening_state}
use Rattle.b1_step.specs.Rights.{Has}
use Rattle.b1_inv.specs.Words.{IsPeer, is_accepted_place, stamp_of_phase}
use Rattle.b1_inv_record.specs.Clocks.{Synced, is_synced_place, synced_peers}
use Rattle.b1_inv_tools.proofs.Leaves.{driver_cases, new_peer}
use Rattle.b1_inv_tools.proofs.Openings.{opening_idle}
use Rattle.b1_inv_sends.proofs.Places.{next_before, none_left}
use Rattle.b1_inv_notices.proofs.Turns.{opened, answered, parts, going_doing, going_answer}
use Rattle.b1_inv_cover.proofs.Stamped.{Steps, stamped_step, was_open, peer_before, same_peer_at}

-- ---- what a sync adds

-- an answer says that the recipient at a place was synced
abbrev pub IsSyncAt : Phase → Outcome → ℕ → Type 0
IsSyncAt (Syncing sending stamp place) out.Sync at = place ≡ at
IsSyncAt phase outcome at = ⊥

-- an answer says that a holder was synced
abbrev pub IsSyncOf : ℕ → Phase → Outcome → ℕ → Type 0
IsSyncOf me (SyncingNotices d stamp at) out.Sync q = get_or d.staged at me ≡ q
IsSyncOf me phase outcome q = ⊥

-- what was synced has the same stamp, and was synced before or is now
abbrev pub PlaceFrom : Phase → Outcome → ℕ → ℕ → Phase → Type 0
PlaceFrom phase outcome at stamp after = is_synced_place after at ≡ true → (stamp_of_phase phase ≡ Some stamp) × (begun_of after ≡ begun_of phase) × ((is_synced_place phase at ≡ true) ⊎ IsSyncAt phase outcome at)

abbrev pub PeerFrom : ℕ → Phase → Outcome → ℕ → ℕ → Phase → Type 0
PeerFrom me phase outcome q stamp after = Has (synced_peers after) q → (stamp_of_phase phase ≡ Some stamp) × (Has (synced_peers phase) q ⊎ IsSyncOf me phase outcome q)

both_true : (m n : ℕ) (b : Bool) → m < n → b ≡ true → (nat_lt m n && b) ≡ true
both_true m n b low is = rw (lt-ltb m n low, is) refl

-- a place before the next accepted one, behind a synced one
passed : (sending : Sending) (stamp place at : ℕ) → (at < place + 1) → is_accepted_place sending.places at ≡ true → (is_synced_place (Syncing sending stamp place) at ≡ true) ⊎ (place ≡ at)
passed sending stamp place at low is =
    elim (cases_lt at place) [
      | inl before ↦ inl (both_true at place (is_accepted_place sending.places at) before is)
      | inr here ↦ inr (omega (arith, low, here))
    ]

within : (sending : Sending) (from at : ℕ) → is_place (accepted_from from sending.places) sending.places ≡ true → (nat_lt at (accepted_from from sending.places) && is_accepted_place sending.places at) ≡ true → (at < from) × (is_accepted_place sending.places at ≡ true)
within sending from at is synced =
    let k = and_parts (nat_lt at (accepted_from from sending.places)) (is_accepted_place sending.places at) synced in
    let low = ltb-true at (accepted_from from sending.places) k.0 in
    (elim (cases_lt at from) [ inl before ↦ before | inr behind ↦ let least = next_before from sending.places at k.1 behind in absurd (omega (arith, least, low)) ], k.1)

ended : (sending : Sending) (from at : ℕ) → is_place (accepted_from from sending.places) sending.places ≡ false → is_accepted_place sending.places at ≡ true → at < from
ended sending from at is accepted = elim (cases_lt at from) [ inl before ↦ before | inr behind ↦ absurd (none_left from sending.places is at accepted behind) ]

place_steps : (command : Command) (phase : Phase) (outcome : Outcome) (at : ℕ) → Steps (PlaceFrom phase outcome at) command phase outcome
place_steps command (Stamping sending) (out.Stamp stamp) at = (
  λ is synced. let low = (within sending 0 at is synced).0 in absurd (omega (arith, low)),
  λ is synced. let low = ended sending 0 at is synced in absurd (omega (arith, low)),
)
place_steps command (Syncing sending stamp place) out.Sync at = (
  λ is synced. let k = within sending (place + 1) at is synced in (refl, refl, passed sending stamp place at k.0 k.1),
  λ is synced. (refl, refl, passed sending stamp place at (ended sending (place + 1) at is synced) synced),
)
place_steps command (Committing sending stamp place) (out.Commit found) at = λ synced. (refl, refl, inl synced)
place_steps command (Dooming d) (out.StampDestroy (Ok stamp)) at = (λ is synced. absurd (cc synced), λ is synced. absurd (cc synced))
place_steps command (SyncingNotices d stamp place) out.Sync at = (λ is synced. absurd (cc synced), λ is synced. absurd (cc synced))
place_steps command (CommittingOwn d stamp) out.CommitNotices at = λ synced. absurd (cc synced)
place_steps command (CommittingNotices d stamp place) out.CommitNotices at = λ synced. absurd (cc synced)
place_steps command phase outcome at = tt

-- one more is taken
taken_more : (xs : List ℕ) (n q none : ℕ) → Has (take (suc n) xs) q → Has (take n xs) q ⊎ (get_or xs n none ≡ q)
taken_more [] n q none h = absurd h
taken_more (x ∷ xs) zero q none (inl same) = inr (sym same)
taken_more (x ∷ xs) zero q none (inr further) = absurd further
taken_more (x ∷ xs) (suc n) q none (inl same) = inl (inl same)
taken_more (x ∷ xs) (suc n) q none (inr further) = elim (taken_more xs n q none further) [ inl old ↦ inl (inr old) | inr new ↦ inr new ]

-- all are taken
taken_all : (xs : List ℕ) (n q : ℕ) → length xs ≤ n → Has xs q → Has (take n xs) q
taken_all [] n q all h = absurd h
taken_all (x ∷ xs) zero q all h = absurd (omega (arith, all))
taken_all (x ∷ xs) (suc n) q all (inl same) = inl same
taken_all (x ∷ xs) (suc n) q all (inr further) = inr (taken_all xs n q (omega (arith, all)) further)

next_taken : (xs : List ℕ) (n q none : ℕ) → Has (take (n + 1) xs) q → Has (take n xs) q ⊎ (get_or xs n none ≡ q)
next_taken xs n q none h = let same : n + 1 ≡ suc n = omega arith in taken_more xs n q none (subst (λ k. Has (take k xs) q) same h)

none_taken : (xs : List ℕ) (q : ℕ) → Has (take 0 xs) q → ⊥
none_taken [] q h = h
none_taken (x ∷ xs) q h = h

peer_steps : (command : Command) (me : ℕ) (phase : Phase) (outcome : Outcome) (q : ℕ) → Steps (PeerFrom me phase outcome q) command phase outcome
peer_steps command me (Stamping sending) (out.Stamp stamp) q = (λ is h. absurd h, λ is h. absurd h)
peer_steps command me (Syncing sending stamp place) out.Sync q = (λ is h. absurd h, λ is h. absurd h)
peer_steps command me (Committing sending stamp place) (out.Commit found) q = λ h. absurd h
peer_steps command me (Dooming d) (out.StampDestroy (Ok stamp)) q = (λ is h. absurd (none_taken d.staged q h), λ is h. absurd (none_taken d.staged q (taken_all d.staged 0 q is h)))
peer_steps command me (SyncingNotices d stamp at) out.Sync q = (λ is h. (refl, next_taken d.staged at q me h), λ is h. (refl, next_taken d.staged at q me (taken_all d.staged (at + 1) q is h)))
peer_steps command me (CommittingOwn d stamp) out.CommitNotices q = λ h. (refl, inl h)
peer_steps command me (CommittingNotices d stamp at) out.CommitNotices q = λ h. (refl, inl h)
peer_steps command me phase outcome q = tt

-- ---- what a sync does

module _ (o : Opening) (memory : Bool) (d : DriverPart) (command : Command) (x : PeerPart) where
  -- the peer's clock is at least the stamp
  pub sync_place : (phase : Phase) (owed : List OwedDrop) (at stamp : ℕ) → IsSyncAt phase (answered o memory d command phase owed x).0 at → stamp_of_phase phase ≡ Some stamp
      → (stamp ≤ (answered o memory d command phase owed x).1.clock) × (peer_of d.me (next_action (opened d command phase owed)) ≡ (node_of_place (begun_of phase).to at).owner)
  sync_place (Syncing sending fixed place) [] at stamp is same = let k : fixed ≡ stamp = cc same in (omega (arith, k), ap (λ n. (node_of_place sending.begun.to n).owner) is)
  sync_place (Syncing sending fixed place) (one ∷ rest) at stamp is same = absurd is
  sync_place phase owed at stamp is same = absurd is

  pub sync_peer : (phase : Phase) (owed : List OwedDrop) (q stamp : ℕ) → IsSyncOf d.me phase (answered o memory d command phase owed x).0 q → stamp_of_phase phase ≡ Some stamp
      → (stamp ≤ (answered o memory d command phase owed x).1.clock) × (peer_of d.me (next_action (opened d command phase owed)) ≡ q)
  sync_peer (SyncingNotices destruction fixed at) [] q stamp is same = let k : fixed ≡ stamp = cc same in (omega (arith, k), is)
  sync_peer (SyncingNotices destruction fixed at) (one ∷ rest) q stamp is same = absurd is
  sync_peer phase owed q stamp is same = absurd is

-- ---- a step

module _ {o : Opening} {s : State} {p : ℕ} {c : Option Command} {t : State} (synced : Synced s) (step : Step o s p c t) where
  -- the peer that was just synced
  now_synced : (q stamp : ℕ) (y : PeerPart) → stamp ≤ step.new_peer.clock → step.at ≡ q → IsPeer t q y → stamp ≤ y.clock
  now_synced q stamp y high same is =
      let here : step.new_peer ≡ y = same_peer_at t q step.new_peer y (subst (λ r. IsPeer t r step.new_peer) same (new_peer step)) is in
      let clock = ap (λ z. z.clock) here in omega (arith, high, clock)

  place_own : (at stamp : ℕ) (doing : Doing) (node : NodeRef) (y : PeerPart) → step.new_driver.doing ≡ Some doing → stamp_of_phase doing.phase ≡ Some stamp → slice_get (begun_of doing.phase).to at ≡ Some node
      → is_synced_place doing.phase at ≡ true → IsPeer t node.owner y → stamp ≤ y.clock
  place_own at stamp doing node y is fixed to there is_peer =
      let k = stamped_step step (PlaceFrom (parts step).phase (going_answer step) at) (λ other same h. (same, refl, inl h)) (place_steps (parts step).command (parts step).phase (going_answer step) at) doing is stamp fixed there in
      let to_before : slice_get (begun_of (parts step).phase).to at ≡ Some node = ap (λ b. slice_get b.to at) (sym k.1) ∙ to in
      elim k.2 [
        | inl before ↦ let x = peer_before step node.owner y is_peer in let old = synced.recipients p at stamp step.driver (going_doing step) node x.0 step.is_driver (was_open step stamp k.0) k.0 to_before before x.1 in let rise = x.2 in omega (arith, old, rise)
        | inr now ↦
            let j = sync_place o step.local.memory step.driver (parts step).command step.peer (parts step).phase step.driver.owed at stamp now k.0 in
            let clock = ap (λ z. z.clock) (parts step).is_peer in
            now_synced node.owner stamp y (let high = j.0 in omega (arith, high, clock)) (sym (parts step).is_at ∙ j.1 ∙ ap (λ z. z.owner) (get_or_from_slice_get (begun_of (parts step).phase).to at node no_ref to_before)) is_peer
      ]

  peer_own : (q stamp : ℕ) (doing : Doing) (y : PeerPart) → step.new_driver.doing ≡ Some doing → stamp_of_phase doing.phase ≡ Some stamp → Has (synced_peers doing.phase) q → IsPeer t q y → stamp ≤ y.clock
  peer_own q stamp doing y is fixed there is_peer =
      let k = stamped_step step (PeerFrom step.driver.me (parts step).phase (going_answer step) q) (λ other same h. (same, inl h)) (peer_steps (parts step).command step.driver.me (parts step).phase (going_answer step) q) doing is stamp fixed there in
      elim k.1 [
        | inl before ↦ let x = peer_before step q y is_peer in let old = synced.holders p q stamp step.driver (going_doing step) x.0 step.is_driver (was_open step stamp k.0) k.0 before x.1 in let rise = x.2 in omega (arith, old, rise)
        | inr now ↦
            let j = sync_peer o step.local.memory step.driver (parts step).command step.peer (parts step).phase step.driver.owed q stamp now k.0 in
            let clock = ap (λ z. z.clock) (parts step).is_peer in
            now_synced q stamp y (let high = j.0 in omega (arith, high, clock)) (sym (parts step).is_at ∙ j.1) is_peer
      ]

  pub synced_kept : Synced t
  synced_kept = record {
    recipients = λ r at stamp e doing node y is_driver is fixed to there is_peer. elim (driver_cases step r e is_driver) [
      | inl own ↦ place_own at stamp doing node y (ap (λ d. d.doing) (sym own.1) ∙ is) fixed to there is_peer
      | inr other ↦ let x = peer_before step node.owner y is_peer in let old = synced.recipients r at stamp e doing node x.0 other.1 is fixed to there x.1 in let rise = x.2 in omega (arith, old, rise)
    ];
    holders = λ r q stamp e doing y is_driver is fixed there is_peer. elim (driver_cases step r e is_driver) [
      | inl own ↦ peer_own q stamp doing y (ap (λ d. d.doing) (sym own.1) ∙ is) fixed there is_peer
      | inr other ↦ let x = peer_before step q y is_peer in let old = synced.holders r q stamp e doing x.0 other.1 is fixed there x.1 in let rise = x.2 in omega (arith, old, rise)
    ];
  }

pub synced_begins : (o : Opening) → Synced (opening_state o)
synced_begins o = record {
  recipients = λ p at stamp d doing node x is_driver is fixed to there is_peer. let none : Some doing ≡ None = sym is ∙ ap (λ e. e.doing) (opening_idle o p d is_driver) in absurd (cc none);
  holders = λ p q stamp d doing x is_driver is fixed there is_peer. let none : Some doing ≡ None = sym is ∙ ap (λ e. e.doing) (opening_idle o p d is_driver) in absurd (cc none);
}
