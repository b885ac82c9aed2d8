-- What comes into a queue is one above its peer's clock, or is at most that clock; and committed entries are at most it.
use Rattle.std.proofs.Common.{◌≡◌, ◌⊎◌, refl, sym, ap, subst, ◌∙◌, inl, inr, ℕ, ◌+◌, ◌≤◌, max, Bool, true, false, cond, ◌&&◌, ◌==◌, nat_le, List, [], ◌∷◌, get_or, Option, Some}
use Rattle.std.specs.Prelude.{slice_get}
use Rattle.std.proofs.lemmas.Bool.{and_parts}
use Rattle.std.proofs.lemmas.Option.{same_Some, slice_get_within, get_or_from_slice_get}
use native.Mathlib.Omega.{arith}
use Rattle.b1_model.specs.declared.commands.Command.{Command}
use Rattle.b1_model.specs.declared.commands.Command.TheVariants as cmd
use Rattle.b1_model.specs.declared.naming.Key.{Key}
use Rattle.b1_model.specs.declared.naming.Opening.{Opening}
use Rattle.b1_model.specs.declared.entries.Entry.{Entry}
use Rattle.b1_model.specs.declared.events.Action.TheVariants as act
use Rattle.b1_model.specs.declared.events.Destruction.{Destruction}
use Rattle.b1_model.specs.declared.events.OwedDrop.{OwedDrop}
use Rattle.b1_model.specs.declared.events.Phase.{Phase}
use Rattle.b1_model.specs.declared.events.Phase.TheVariants.{Starting, Staging, Committing, Visiting, CommittingOwn, CommittingNotices}
use Rattle.b1_model.specs.declared.events.Sending.{Sending}
use Rattle.b1_model.specs.MachineParts.{PeerPart, DriverPart, State, is_staged, is_data, is_odd}
use Rattle.b1_model.specs.MachineTables.{is_stage}
use Rattle.b1_model.specs.MachineSend.{find_stage}
use Rattle.b1_model.specs.MachineReceive.{with_release_notice, is_released, dropped_refs}
use Rattle.b1_model.specs.MachineDriver.{first_action, next_action, peer_of, node_of_place, no_ref}
use Rattle.b1_model.specs.MachineStep.{Step, opening_state}
use Rattle.b1_step.specs.Rights.{Has}
use Rattle.b1_step.proofs.Clocks.{rises}
use Rattle.b1_step.proofs.Orders.{find_has}
use Rattle.b1_inv.specs.Words.{IsPeer, IsDriver, is_accepted_place, stamp_of_phase, waits_at}
use Rattle.b1_inv.specs.Sound.{IsSound}
use Rattle.b1_inv_record.specs.Clocks.{CommittedBelowClock, Synced}
use Rattle.b1_inv_tools.proofs.Comes.{Comes, queue_comes}
use Rattle.b1_inv_tools.proofs.Facts.{accepted_within}
use Rattle.b1_inv_tools.proofs.Leaves.{peer_cases}
use Rattle.b1_inv_sends.proofs.StagesKept.{opening_queue}
use Rattle.b1_inv_notices.proofs.Brings.{odd_is, stage_is}
use Rattle.b1_inv_notices.proofs.Sets.{has_at_place}
use Rattle.b1_inv_notices.proofs.Turns.{doing_in, opened, answered, parts, going, going_doing, going_action, get_there}
use Rattle.b1_inv_notices.proofs.StampTurns.{fixed_in}
use Rattle.b1_inv_cover.proofs.Stamped.{was_open}

third : (a b c e : Bool) → (a && b && c && e) ≡ true → b ≡ true
third true true c e is = refl
third true false c e is = absurd (cc is)
third false b c e is = absurd (cc is)

-- a found stage is staged
pub stage_staged : (origin index : ℕ) (f : Key × Entry) → is_stage origin index f ≡ true → is_staged f ≡ true
stage_staged origin index f is = third (is_data f.1) (is_staged f) (f.0.origin == origin) (f.0.index == index) is

-- a drop's clock
pub drop_clock : (b : Bool) (x : PeerPart) (serial holder k clock : ℕ) → (with_release_notice b (dropped_refs x serial holder k clock) serial).clock ≡ max x.clock clock
drop_clock true x serial holder k clock = refl
drop_clock false x serial holder k clock = refl

-- ---- an event

module _ (o : Opening) (s : State) (sound : IsSound o s) (synced : Synced s) (memory : Bool) (p q : ℕ) (d : DriverPart) (x : PeerPart) (is_driver : IsDriver s p d) (is_peer : IsPeer s q x) (f : Key × Entry) where
  me_is : d.me ≡ p
  me_is = sound.numbered.drivers p d is_driver

  -- the driver's own peer
  own : (z : PeerPart) × IsPeer s p z
  own = get_there s.peers p (let few = slice_get_within s.drivers p d is_driver in omega (arith, few, sound.numbered.as_many_drivers, sound.numbered.as_many_peers))

  module _ (command : Command) where
    -- the entry that comes is one above the clock, or at most the clock after the event
    abbrev Came : Phase → List OwedDrop → Type 0
    Came phase owed = (f.0.stamp ≡ x.clock + 1) ⊎ (f.0.stamp ≤ (answered o memory d command phase owed x).1.clock)

    by_old_clock : (phase : Phase) (owed : List OwedDrop) → f.0.stamp ≤ x.clock → Came phase owed
    by_old_clock phase owed low = let rise = rises o memory (opened d command phase owed) (doing_in command phase) (next_action (opened d command phase owed)) x in inr (omega (arith, low, rise))

    first_comes : (shut : Bool) (begins : Command) → Comes o (opened d command Starting []) (doing_in command Starting) x (cond shut act.Local (first_action begins)) f → f.0.stamp ≡ x.clock + 1
    first_comes true begins new = absurd new
    first_comes false (cmd.Destroy numbers) (index, serial, is, same, accepted) = ap (λ g. g.0.stamp) same
    first_comes false (cmd.Reset limits) (index, serial, is, same, accepted) = ap (λ g. g.0.stamp) same
    first_comes false cmd.Disconnect (index, serial, is, same, accepted) = ap (λ g. g.0.stamp) same
    first_comes false begins new = absurd new

    -- a commit's peer has synced
    at_commit : (sending : Sending) (stamp place : ℕ) (g : Key × Entry) → d.doing ≡ Some (doing_in command (Committing sending stamp place)) → (node_of_place sending.begun.to place).owner ≡ q → find_stage x d.me place ≡ Some g → stamp ≤ x.clock
    at_commit sending stamp place g is_open at found =
        let there = find_has (is_stage d.me place) x.queue g found in
        let is = stage_is d.me place g there.1 in
        let k = sound.stages.sender q x g is_peer there.0 is.0 (stage_staged d.me place g there.1) in
        let same_driver : k.driver ≡ d = same_Some k.driver d (sym k.is_driver ∙ ap (slice_get s.drivers) (is.1 ∙ me_is) ∙ is_driver) in
        let both : Some k.doing ≡ Some (doing_in command (Committing sending stamp place)) = sym k.is_open ∙ ap (λ e. e.doing) same_driver ∙ is_open in
        let same_doing : k.doing ≡ doing_in command (Committing sending stamp place) = same_Some k.doing (doing_in command (Committing sending stamp place)) both in
        let waits : waits_at (Committing sending stamp place) place ≡ true = sym (ap (λ z. waits_at z.phase place) same_doing) ∙ ap (waits_at k.doing.phase) (sym is.2) ∙ k.waits in
        let accepted = (and_parts (nat_le place place) (is_accepted_place sending.places place) waits).1 in
        let within = accepted_within sending.places place accepted in
        let shape = (sound.sends.shape p d (doing_in command (Committing sending stamp place)) is_driver is_open).0 in
        let node = get_there sending.begun.to place (omega (arith, within, shape.places)) in
        let owner : node.0.owner ≡ q = sym (ap (λ z. z.owner) (get_or_from_slice_get sending.begun.to place node.0 no_ref node.1)) ∙ at in
        synced.recipients p place stamp d (doing_in command (Committing sending stamp place)) node.0 x is_driver is_open refl node.1 accepted (subst (λ r. IsPeer s r x) (sym owner) is_peer)

    at_own : (destruction : Destruction) (stamp : ℕ) → d.doing ≡ Some (doing_in command (CommittingOwn destruction stamp)) → d.me ≡ q → stamp ≤ x.clock
    at_own destruction stamp is_open at = sound.stamps.fixed p d x stamp is_driver (subst (λ r. IsPeer s r x) (sym at ∙ me_is) is_peer) (ap fixed_in is_open)

    at_others : (destruction : Destruction) (stamp place : ℕ) → d.doing ≡ Some (doing_in command (CommittingNotices destruction stamp place)) → get_or destruction.staged place d.me ≡ q → stamp ≤ x.clock
    at_others destruction stamp place is_open at =
        let shape = sound.notices.shape p d own.0 (doing_in command (CommittingNotices destruction stamp place)) is_driver own.1 is_open in
        synced.holders p q stamp d (doing_in command (CommittingNotices destruction stamp place)) x is_driver is_open refl (subst (Has destruction.staged) at (has_at_place destruction.staged place d.me shape.2)) is_peer

    pub came : (phase : Phase) (owed : List OwedDrop) → ((stamp : ℕ) → stamp_of_phase phase ≡ Some stamp → d.doing ≡ Some (doing_in command phase)) → peer_of d.me (next_action (opened d command phase owed)) ≡ q
        → Comes o (opened d command phase owed) (doing_in command phase) x (next_action (opened d command phase owed)) f → Came phase owed
    came phase (one ∷ rest) is_open at new =
        let stamp = ap (λ g. g.0.stamp) new.0 in
        let clock = drop_clock (is_released (dropped_refs x one.node.serial one.holder one.amount one.clock) one.node.serial) x one.node.serial one.holder one.amount one.clock in
        inr (omega (arith, stamp, clock))
    came Starting [] is_open at new = inl (first_comes d.shut command new)
    came (Staging begun places collected) [] is_open at new = inl (ap (λ g. g.0.stamp) new)
    came (Visiting destruction left) [] is_open at (index, serial, is, same) = inl (ap (λ g. g.0.stamp) same)
    came (Committing sending stamp place) [] is_open at (g, found, same) = let low = at_commit sending stamp place g (is_open stamp refl) at found in let is = ap (λ h. h.0.stamp) same in by_old_clock (Committing sending stamp place) [] (omega (arith, low, is))
    came (CommittingOwn destruction stamp) [] is_open at (g, there, notice, same) = let low = at_own destruction stamp (is_open stamp refl) at in let is = ap (λ h. h.0.stamp) same in by_old_clock (CommittingOwn destruction stamp) [] (omega (arith, low, is))
    came (CommittingNotices destruction stamp place) [] is_open at (g, there, notice, same) = let low = at_others destruction stamp place (is_open stamp refl) at in let is = ap (λ h. h.0.stamp) same in by_old_clock (CommittingNotices destruction stamp place) [] (omega (arith, low, is))
    came phase [] is_open at new = absurd new

-- ---- a step

module _ {o : Opening} {s : State} {p : ℕ} {c : Option Command} {t : State} (sound : IsSound o s) (synced : Synced s) (step : Step o s p c t) where
  -- an entry after the event stood there, is one above the old clock, or at most the new one
  pub new_entry : (f : Key × Entry) → Has step.new_peer.queue f → Has step.peer.queue f ⊎ ((f.0.stamp ≡ step.peer.clock + 1) ⊎ (f.0.stamp ≤ step.new_peer.clock))
  new_entry f h =
      elim (queue_comes o (going step) (going_doing step) f step.local.memory (going_action step) step.peer (subst (λ y. Has y.queue f) (sym (parts step).is_peer) h)) [
        | inl old ↦ inl old.0
        | inr new ↦ inr (subst (λ y. (f.0.stamp ≡ step.peer.clock + 1) ⊎ (f.0.stamp ≤ y.clock)) (parts step).is_peer
            (came o s sound synced step.local.memory p step.at step.driver step.peer step.is_driver step.is_peer f (parts step).command (parts step).phase step.driver.owed (was_open step) (parts step).is_at new))
      ]

  module _ (committed : CommittedBelowClock s) where
    new_low : (f : Key × Entry) → Has step.new_peer.queue f → is_staged f ≡ false → f.0.stamp ≤ step.new_peer.clock
    new_low f h even =
        elim (new_entry f h) [
          | inl old ↦ let k = committed.below step.at step.peer f step.is_peer old even in let rise = now_above in omega (arith, k, rise)
          | inr (inl odd) ↦ let both : true ≡ false = sym (odd_is step.peer.clock (sound.clocks.clock step.at step.peer step.is_peer).0) ∙ ap is_odd (sym odd) ∙ even in absurd (cc both)
          | inr (inr low) ↦ low
        ]
      where
        now_above : step.peer.clock ≤ step.new_peer.clock
        now_above = subst (λ y. step.peer.clock ≤ y.clock) (parts step).is_peer (rises o step.local.memory (going step) (going_doing step) (going_action step) step.peer)

    pub committed_kept : CommittedBelowClock t
    committed_kept = record {
      below = λ q y f is_peer h even. elim (peer_cases step q y is_peer) [
        | inl here ↦ let k = new_low f (subst (λ z. Has z.queue f) here.1 h) even in let same = ap (λ z. z.clock) here.1 in omega (arith, k, same)
        | inr other ↦ committed.below q y f other.1 h even
      ];
    }

pub committed_begins : (o : Opening) → CommittedBelowClock (opening_state o)
committed_begins o = record {
  below = λ q x f is_peer h even. absurd (subst (λ queue. Has queue f) (opening_queue o q x is_peer) h);
}
