-- Where no command is open nothing is staged: so a finished schedule is drained, and a stalled one is stuck.
use Rattle.std.proofs.Common.{zero, suc, ◌≡◌, refl, sym, ap, ◌∙◌, arith, inl, inr, subst, ℕ, ◌<◌, true, false, List, [], ◌∷◌, length, slice_get, Some, None}
use Rattle.b1_model.specs.declared.naming.Key.{Key}
use Rattle.b1_model.specs.declared.naming.Opening.{Opening}
use Rattle.b1_model.specs.declared.commands.Command.{Command}
use Rattle.b1_model.specs.declared.commands.Command.TheVariants as cmd
use Rattle.b1_model.specs.declared.entries.Entry.{Entry}
use Rattle.b1_model.specs.declared.entries.Entry.TheVariants.{Message, OwnNotice, ForeignNotice, ReleaseNotice}
use Rattle.b1_model.specs.Opening.{IsOpening}
use Rattle.b1_model.specs.MachineParts.{PeerPart, DriverPart, State, is_staged}
use Rattle.b1_model.specs.MachineOrder.{next_command, Stuck, DrainedOf}
use Rattle.b1_step.specs.Rights.{Has}
use Rattle.b1_inv.specs.Words.{IsPeer, IsDriver, is_uncommitted, phase_uncommitted}
use Rattle.b1_inv.specs.Sound.{IsSound}
use Rattle.b1_schedule.specs.Shortage.{Shortage}
use Rattle.b1_schedule.specs.Schedule.{Finished, Stalled, Comes}
use Rattle.b1_play_end.specs.Course.{OwnersThere, starts_staged, IsBlocked, IsIdle, IsWaiting, IsEmptied}
use Rattle.b1_play_end.proofs.Moves.{Kept}
use Rattle.b1_play_end.proofs.Plays.{all_rest, comes_kept}

driver_at : (ds : List DriverPart) (i : ℕ) → i < length ds → (d : DriverPart) × (slice_get ds i ≡ Some d)
driver_at [] i below = absurd (omega (arith, below))
driver_at (d ∷ rest) zero below = (d, refl)
driver_at (d ∷ rest) (suc i) below = driver_at rest i (omega (arith, below))

peer_below : (xs : List PeerPart) (i : ℕ) (x : PeerPart) → slice_get xs i ≡ Some x → i < length xs
peer_below [] i x is = absurd (cc is)
peer_below (y ∷ rest) zero x is = omega arith
peer_below (y ∷ rest) (suc i) x is = omega (arith, peer_below rest i x is)

module _ {o : Opening} {s : State} (sound : IsSound o s) (owners : OwnersThere s) (idle : (r : ℕ) → IsIdle s r) where
  -- an idle driver has no destruction open
  no_destruction : (r : ℕ) (d : DriverPart) (q : ℕ) → IsDriver s r d → is_uncommitted d q ≡ true → ⊥
  no_destruction r d q is_d waits = cc (sym (ap (λ doing. elim doing [ None ↦ false | Some one ↦ phase_uncommitted d.me one.phase q ]) (idle r d is_d)) ∙ waits)

  there : (r : ℕ) → r < length s.drivers → (d : DriverPart) × IsDriver s r d
  there r below = driver_at s.drivers r below

  none_staged : (q : ℕ) (x : PeerPart) (k : Key) (e : Entry) → IsPeer s q x → Has x.queue (k, e) → is_staged (k, e) ≡ true → ⊥
  none_staged q x k (Message origin user index serial offset len nodes slots handles payload) is_x has staged =
      let sender = sound.stages.sender q x (k, Message origin user index serial offset len nodes slots handles payload) is_x has refl staged in
      cc (sender.is_open, idle k.origin sender.driver sender.is_driver)
  none_staged q x k (OwnNotice serial index) is_x has staged =
      let own = there q (omega (arith, peer_below s.peers q x is_x, sound.numbered.as_many_peers, sound.numbered.as_many_drivers)) in
      no_destruction q own.0 q own.1 ((sound.notices.queued q x (k, OwnNotice serial index) is_x has).2 own.0 own.1 staged).0
  none_staged q x k (ForeignNotice node index) is_x has staged =
      let own = there node.owner (owners q x (k, ForeignNotice node index) is_x has) in
      no_destruction node.owner own.0 q own.1 ((sound.notices.queued q x (k, ForeignNotice node index) is_x has).3 own.0 own.1 staged).0
  none_staged q x k (ReleaseNotice serial) is_x has staged = cc (staged, (sound.notices.queued q x (k, ReleaseNotice serial) is_x has).2)

  -- what can't take anything is empty
  blocked_empty : (q : ℕ) (x : PeerPart) → IsPeer s q x → IsBlocked x → x.queue ≡ []
  blocked_empty q x is_x (inl none) = none
  blocked_empty q x is_x (inr staged) = by_queue x.queue refl staged
    where
      by_queue : (queue : List (Key × Entry)) → queue ≡ x.queue → starts_staged x.queue ≡ true → x.queue ≡ []
      by_queue [] same staged = sym same
      by_queue ((k, e) ∷ rest) same staged = absurd (none_staged q x k e is_x (subst (λ queue. Has queue (k, e)) same (inl refl)) (ap starts_staged same ∙ staged))

module _ (lists : List (List Command)) (o : Opening) (valid : IsOpening o) (m : Shortage) (turns : List ℕ) (s : State) where
  pub finished_drained : Comes o lists turns m (record { state = s; stage = Finished }) → DrainedOf lists s
  finished_drained comes = record {
    drained = record {
      none_open = all_rest s.drivers (λ r d is. kept.holds.1 r d is);
      empty = λ p d x is_d is_x unshut. emptied p d x is_d is_x unshut (kept.holds.2 p d x is_d is_x);
    };
    ended = λ p d is_d. kept.holds.0 p d is_d;
  }
    where
      kept : Kept lists o (record { state = s; stage = Finished })
      kept = comes_kept lists o m valid turns (record { state = s; stage = Finished }) comes

      emptied : (p : ℕ) (d : DriverPart) (x : PeerPart) → IsDriver s p d → IsPeer s p x → d.shut ≡ false → IsEmptied d x → x.queue ≡ []
      emptied p d x is_d is_x unshut (inl shut) = absurd (cc (unshut, shut))
      emptied p d x is_d is_x unshut (inr blocked) = blocked_empty kept.sound kept.owners kept.holds.1 p x is_x blocked

  pub stalled_stuck : Comes o lists turns m (record { state = s; stage = Stalled }) → Stuck lists s
  stalled_stuck comes = record {
    none_open = all_rest s.drivers (λ r d is. kept.holds.0 r d is);
    some_left = kept.holds.2;
    waiting = λ p d x c is_d is_x next. waits p d x c is_d is_x next (kept.holds.1 p d x is_d is_x);
  }
    where
      kept : Kept lists o (record { state = s; stage = Stalled })
      kept = comes_kept lists o m valid turns (record { state = s; stage = Stalled }) comes

      waits : (p : ℕ) (d : DriverPart) (x : PeerPart) (c : Command) → IsDriver s p d → IsPeer s p x → next_command lists p d ≡ Some c → IsWaiting lists p d x → (d.shut ≡ false) × (c ≡ cmd.Await) × (x.queue ≡ [])
      waits p d x c is_d is_x next (inl none) = absurd (cc (next, none))
      waits p d x c is_d is_x next (inr (await, unshut, blocked)) = (unshut, some_is (sym next ∙ await), blocked_empty kept.sound kept.owners kept.holds.0 p x is_x blocked)
        where
          some_is : {a b : Command} → Some a ≡ Some b → a ≡ b
          some_is is = cc is
