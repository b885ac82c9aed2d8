-- In a reached state the next event of every driver is at a peer of the bus, and all that it needs holds there.
use Rattle.std.proofs.Common.{◌≡◌, refl, sym, ap, ◌∙◌, inl, inr, subst, ℕ, zero, suc, ◌+◌, ◌-◌, ◌^◌, ◌<◌, Bool, true, false, ◌&&◌, nat_le, List, [], ◌∷◌, length, get_or, Option, Some, None, slice_get}
use Rattle.std.proofs.lemmas.Option.{slice_get_within}
use native.Mathlib.Omega.{arith}
use Rattle.b1_model.specs.declared.naming.Opening.{Opening}
use Rattle.b1_model.specs.declared.commands.Command.{Command}
use Rattle.b1_model.specs.declared.commands.Command.TheVariants as cmd
use Rattle.b1_model.specs.declared.events.Action.{Action}
use Rattle.b1_model.specs.declared.events.Action.TheVariants as act
use Rattle.b1_model.specs.declared.events.Doing.{Doing}
use Rattle.b1_model.specs.declared.events.OwedDrop.{OwedDrop}
use Rattle.b1_model.specs.declared.events.Phase.{Phase}
use Rattle.b1_model.specs.declared.events.Phase.TheVariants as phase
use Rattle.b1_model.specs.MachineParts.{PeerPart, DriverPart, State}
use Rattle.b1_model.specs.MachineDriver.{phase_action, next_action, peer_of}
use Rattle.b1_model.specs.MachineTook.{is_done}
use Rattle.b1_model.specs.MachineStep.{begun, no_peer}
use Rattle.b1_step.specs.Rights.{Has}
use Rattle.b1_inv.specs.Words.{IsPeer, IsDriver, stamp_of_phase, fixed_stamp, waits_at, is_pending, phase_uncommitted, is_uncommitted, is_accepted_place}
use Rattle.b1_inv.specs.Sends.{SendShape}
use Rattle.b1_inv.specs.Notices.{DestructionShape}
use Rattle.b1_inv.specs.Bounds.{call_bound}
use Rattle.b1_event.specs.Borne.{AreShort}
use Rattle.b1_event.specs.Events.{ClocksAllowed, BeginDestroyAllowed, RecvAllowed, AllowedOf, Allowed}
use Rattle.b1_inv_peer.specs.PeerOk.{PeerOk}
use Rattle.b1_inv.specs.Sound.{IsSound}
use Rattle.b1_event.proofs.Opened.{begins, opened}
use Rattle.b1_event.proofs.Does.{open_is}
use Rattle.b1_event.proofs.Bounds.{calls_few}
use Rattle.b1_event.proofs.Facts.{stage_free}
use Rattle.b1_event.proofs.Aims.{drop_of, next_of, first_own, phase_within, node_within}
use Rattle.b1_event.proofs.Drops.{drop_allowed}
use Rattle.b1_event.proofs.Allowed.{accepted_past, accepted_within, few, me_is, driver_me, clock, send, collected, stamp_clock, stage_allowed, attach_allowed, commit_allowed}
use Rattle.b1_event.proofs.Notices.{among_itself, at_drop, at_place, own_allowed, others_allowed, doom_allowed, visit_allowed}
use Rattle.b1_event.proofs.Weights.{weight, flushed_open, Holds}

there_is : (xs : List PeerPart) (i : ℕ) → i < length xs → slice_get xs i ≡ Some (get_or xs i no_peer)
there_is [] i within = absurd (omega (arith, within))
there_is (x ∷ xs) zero within = refl
there_is (x ∷ xs) (suc i) within = there_is xs i (omega (arith, within))

second : (a b : Bool) → (a && b) ≡ true → b ≡ true
second true b is = is
second false b is = absurd (cc is)

module _ (o : Opening) (s : State) (sound : IsSound o s) (short : AreShort s) (holds : Holds s) (p : ℕ) (d : DriverPart) (is_driver : IsDriver s p d) where
  here : d.me < length s.peers
  here =
      let drivers = sound.numbered.as_many_drivers in
      let peers = sound.numbered.as_many_peers in
      let within = slice_get_within s.drivers d.me d (driver_me o s sound short p d is_driver) in
      omega (arith, drivers, peers, within)

  abbrev own : PeerPart
  own = get_or s.peers d.me no_peer

  own_is : IsPeer s d.me own
  own_is = there_is s.peers d.me here

  own_at : IsPeer s p own
  own_at = subst (λ n. IsPeer s n own) (me_is o s sound short p d is_driver) own_is

  own_peers : own.peers ≡ length s.peers
  own_peers = (sound.numbered.peers d.me own own_is).peers ∙ sym sound.numbered.as_many_peers

  module _ (command : Command) (p_of : Phase) (opened_is : d.doing ≡ Some (record { command = command; phase = p_of })) where
    abbrev doing : Doing
    doing = record { command = command; phase = p_of }

    shape : DestructionShape own.peers own command p_of
    shape = sound.notices.shape p d own doing is_driver own_at opened_is

    sending : SendShape s command p_of
    sending = send o s sound short p d is_driver command p_of opened_is

    fixed_is : fixed_stamp d ≡ stamp_of_phase p_of
    fixed_is = ap (λ (z : Option Doing). elim z as (λ y. Option ℕ) [ None ↦ None | Some one ↦ stamp_of_phase one.phase ]) opened_is

    uncommitted_is : (q : ℕ) → is_uncommitted d q ≡ phase_uncommitted d.me p_of q
    uncommitted_is q = ap (λ (z : Option Doing). elim z as (λ y. Bool) [ None ↦ false | Some one ↦ phase_uncommitted d.me one.phase q ]) opened_is

    pending_is : (at : ℕ) → is_pending d at ≡ waits_at p_of at
    pending_is at = ap (λ (z : Option Doing). elim z as (λ y. Bool) [ None ↦ false | Some one ↦ waits_at one.phase at ]) opened_is

    phase_aims : peer_of d.me (phase_action d.me d.shut command p_of) < length s.peers
    phase_aims = phase_within o s sound d.me here own.peers own_peers d.shut command own p_of sending shape

    same_own : (q : ℕ) (x : PeerPart) → IsPeer s q x → q ≡ d.me → x ≡ own
    same_own q x is at = let same : Some x ≡ Some own = sym is ∙ ap (slice_get s.peers) at ∙ own_is in cc same

  -- ---- by the phase

  stamps : (q stamp : ℕ) (x : PeerPart) (command : Command) (p_of : Phase) → d.doing ≡ Some (record { command = command; phase = p_of }) → stamp_of_phase p_of ≡ Some stamp → IsPeer s q x → ClocksAllowed x stamp
  stamps q stamp x command p_of is fixed there = record { own = clock o s sound short p d is_driver q x there; given = stamp_clock o s sound short p d is_driver command p_of is stamp (fixed_is command p_of is ∙ fixed) }

  phase_allowed : (command : Command) (p_of : Phase) (is : d.doing ≡ Some (record { command = command; phase = p_of })) (q : ℕ) (x : PeerPart) → PeerOk x → IsPeer s q x → q ≡ peer_of d.me (phase_action d.me d.shut command p_of) → d.owed ≡ []
      → AllowedOf d (record { command = command; phase = p_of }) x (phase_action d.me d.shut command p_of)
  phase_allowed command phase.Starting is q x ok there at none = absurd (sending command phase.Starting is)
  phase_allowed command (phase.Staging begun places collected) is q x ok there at none =
      let shape = sending command (phase.Staging begun places collected) is in
      stage_allowed o s sound short p d is_driver command (phase.Staging begun places collected) is begun (length places) q x shape.0 shape.1 refl there at (accepted_past places (length places) (omega arith)) (uncommitted_is command (phase.Staging begun places collected) is q)
  phase_allowed command (phase.Unstaging begun places refused place) is q x ok there at none = tt
  phase_allowed command (phase.Attaching one place handle) is q x ok there at none =
      let shape = sending command (phase.Attaching one place handle) is in
      let within : place < length one.begun.to = let w = accepted_within one.places place shape.1 in omega (arith, w, shape.0.places) in
      attach_allowed o s sound short p d is_driver command (phase.Attaching one place handle) is one.begun place handle x shape.0.begun within shape.2 (subst (λ n. IsPeer s n x) at there)
  phase_allowed command (phase.Stamping one) is q x ok there at none = record { own = clock o s sound short p d is_driver q x there; given = collected o s sound short p d is_driver command (phase.Stamping one) is }
  phase_allowed command (phase.Syncing one stamp place) is q x ok there at none = stamps q stamp x command (phase.Syncing one stamp place) is refl there
  phase_allowed command (phase.Committing one stamp place) is q x ok there at none =
      let shape = sending command (phase.Committing one stamp place) is in
      commit_allowed o s sound short p d is_driver command (phase.Committing one stamp place) is one place stamp q x shape.0 refl refl there at (fixed_is command (phase.Committing one stamp place) is)
      (second (nat_le place place) (is_accepted_place one.places place)) (λ g index waits was. elim was [
        | inl message ↦ absurd (cc (sym message.2 ∙ ap (is_pending d) index ∙ pending_is command (phase.Committing one stamp place) is place ∙ waits))
        | inr notice ↦ absurd (cc notice.1)
      ])
  phase_allowed command phase.Dropping is q x ok there at none = elim (holds.left p d is_driver (record { command = command; phase = phase.Dropping }) is) [
    | inl no_answer ↦ absurd (cc no_answer)
    | inr left ↦ absurd (cc (sym left ∙ ap (λ l. is_done l d.told phase.Dropping) none))
  ]
  phase_allowed command (phase.Reaping got) is q x ok there at none = tt
  phase_allowed command (phase.Visiting destruction left) is q x ok there at none =
      let shape = shape command (phase.Visiting destruction left) is in
      let other = shape.3.others (get_or left 0 d.me) (at_place left 0 d.me (omega (arith, shape.2))) in
      visit_allowed o s sound short p d is_driver command (phase.Visiting destruction left) is q x ok there (λ same. other.1 (sym at ∙ same ∙ sym (sound.numbered.peers d.me own own_is).me)) shape.1.apart (λ index. refl)
  phase_allowed command (phase.Dooming destruction) is q x ok there at none =
      let shape = shape command (phase.Dooming destruction) is in
      subst (λ y. AllowedOf d (record { command = command; phase = phase.Dooming destruction }) y act.StampDestroy) (sym (same_own command (phase.Dooming destruction) is q x there at))
      (doom_allowed o s sound short p d is_driver command (phase.Dooming destruction) is own.peers destruction own own_is shape.1 refl)
  phase_allowed command (phase.SyncingNotices destruction stamp place) is q x ok there at none = stamps q stamp x command (phase.SyncingNotices destruction stamp place) is refl there
  phase_allowed command (phase.CommittingOwn destruction stamp) is q x ok there at none =
      own_allowed o s sound short p d is_driver command (phase.CommittingOwn destruction stamp) is stamp x (subst (λ n. IsPeer s n x) at there) (fixed_is command (phase.CommittingOwn destruction stamp) is) (λ g was. elim was [
        | inl message ↦ absurd (cc message.1)
        | inr notice ↦ absurd (cc notice.1)
      ])
  phase_allowed command (phase.CommittingNotices destruction stamp place) is q x ok there at none =
      let shape = shape command (phase.CommittingNotices destruction stamp place) is in
      let other = shape.1.staged.others (get_or destruction.staged place d.me) (at_place destruction.staged place d.me shape.2) in
      others_allowed o s sound short p d is_driver command (phase.CommittingNotices destruction stamp place) is q stamp x ok there (λ same. other.1 (sym at ∙ same ∙ sym (sound.numbered.peers d.me own own_is).me)) (fixed_is command (phase.CommittingNotices destruction stamp place) is) (λ g was. elim was [
        | inl message ↦ absurd (cc message.1)
        | inr notice ↦ absurd (cc (sym (among_itself _ q (subst (Has _) (sym at) (at_drop destruction.staged place d.me shape.2))) ∙ sym (uncommitted_is command (phase.CommittingNotices destruction stamp place) is q) ∙ notice.2))
      ])
  phase_allowed command (phase.Flushing stamp) is q x ok there at none =
      let low = holds.low p d x is_driver (subst (λ n. IsPeer s n x) (at ∙ me_is o s sound short p d is_driver) there) in
      let calls = short p d is_driver in
      let weight_is : weight d ≡ length d.calls + 0 = ap (λ z. length d.calls + flushed_open z) is in
      omega (arith, low, calls, weight_is)

  -- ---- a command that begins

  begins_allowed : (c : Command) (shut : Bool) (q : ℕ) (x : PeerPart) → d.doing ≡ None → IsPeer s q x → q ≡ d.me → AllowedOf (begins d c) (record { command = c; phase = phase.Starting }) x (phase_action d.me shut c phase.Starting)
  begins_allowed c shut q x none there at = by c shut
    where
      at_p : IsPeer s p x
      at_p = subst (λ n. IsPeer s n x) (at ∙ me_is o s sound short p d is_driver) there

      bound : call_bound o d < 2 ^ 32 - 64
      bound = calls_few o d sound.opening.few (short p d is_driver)

      destroys : (c : Command) → BeginDestroyAllowed (record { command = c; phase = phase.Starting }) x
      destroys c =
          let even = clock o s sound short p d is_driver q x there in
          let number = (sound.numbered.peers q x there).me in
          record {
            clock = even;
            new_keys = λ index within. stage_free o s sound x.me q index x d there (subst (λ n. IsDriver s n d) (sym (number ∙ at)) (driver_me o s sound short p d is_driver)) even.even
                (record {
                  waits = λ one is. absurd (cc (sym none ∙ is));
                  uncommitted = ap (λ (z : Option Doing). elim z as (λ y. Bool) [ None ↦ false | Some one ↦ phase_uncommitted d.me one.phase q ]) none;
                });
          }

      receives : RecvAllowed x
      receives =
          let given = sound.bounds.given p d x is_driver at_p in
          record {
            few = omega (arith, given, bound);
            held = λ h has. let held = sound.bounds.held p d x h is_driver at_p has in omega (arith, held, bound);
          }

      makes : length x.nodes < 2 ^ 32 - 64
      makes = let made = sound.bounds.nodes p d x is_driver at_p in omega (arith, made, bound)

      by : (c : Command) (shut : Bool) → AllowedOf (begins d c) (record { command = c; phase = phase.Starting }) x (phase_action d.me shut c phase.Starting)
      by c true = tt
      by cmd.Disconnect false = destroys cmd.Disconnect
      by cmd.Query false = tt
      by (cmd.Reset limits) false = destroys (cmd.Reset limits)
      by (cmd.Limit limits) false = tt
      by (cmd.Release number) false = tt
      by (cmd.Destroy numbers) false = destroys (cmd.Destroy numbers)
      by (cmd.SliceRelease offset) false = tt
      by (cmd.Send c) false = makes
      by cmd.Recv false = receives
      by cmd.Await false = receives

  -- ---- the next event

  -- it is at a peer, and allowed there
  pub record IsNext (e : DriverPart) : Type 0 where
    pub aims : peer_of e.me (next_action e) < length s.peers
    pub allowed : (x : PeerPart) → PeerOk x → IsPeer s (peer_of e.me (next_action e)) x → Allowed e (next_action e) x

  is_next : (e : DriverPart) (one : Doing) (action : Action) → e.doing ≡ Some one → next_action e ≡ action → peer_of e.me action < length s.peers → ((x : PeerPart) → PeerOk x → IsPeer s (peer_of e.me action) x → AllowedOf e one x action) → IsNext e
  is_next e one action is next aims allowed = record {
    aims = subst (λ a. peer_of e.me a < length s.peers) (sym next) aims;
    allowed = λ x ok there. subst (λ a. Allowed e a x) (sym next) (subst (λ z. AllowedOf e z x action) (sym (open_is e one is)) (allowed x ok (subst (λ a. IsPeer s (peer_of e.me a) x) next there)));
  }

  drop_next : (e : DriverPart) (one : Doing) (drop : OwedDrop) → e.doing ≡ Some one → Has d.owed drop → next_action e ≡ drop_of drop → IsNext e
  drop_next e one drop is owed next =
      is_next e one (drop_of drop) is next (node_within o s sound drop.node (sound.references.owed p d drop is_driver owed).made) (λ x ok there. drop_allowed o s sound p d is_driver drop owed x there ok)

  old_next : (one : Doing) → d.doing ≡ Some one → IsNext d
  old_next one is = elim (next_of d one is).next [
    | inl drop ↦ drop_next d one drop.0 is drop.1 drop.2
    | inr own ↦ is_next d one (phase_action d.me d.shut one.command one.phase) is own.1 (phase_aims one.command one.phase is) (λ x ok there. phase_allowed one.command one.phase is (peer_of d.me (phase_action d.me d.shut one.command one.phase)) x ok there refl own.0)
  ]

  new_next : (c : Command) → d.doing ≡ None → IsNext (begins d c)
  new_next c none = elim (next_of (begins d c) (record { command = c; phase = phase.Starting }) refl).next [
    | inl drop ↦ drop_next (begins d c) (record { command = c; phase = phase.Starting }) drop.0 refl drop.1 drop.2
    | inr own ↦
        is_next (begins d c) (record { command = c; phase = phase.Starting }) (phase_action d.me d.shut c phase.Starting) refl own.1 (subst (λ n. n < length s.peers) (sym (first_own d.me d.shut c)) here)
        (λ x ok there. begins_allowed c d.shut (peer_of d.me (phase_action d.me d.shut c phase.Starting)) x none there (first_own d.me d.shut c))
  ]

  pub next : (command : Option Command) (e : DriverPart) → begun d command ≡ Some e → IsNext e
  next command e is =
      let one = opened d e command is in
      elim one.old_or_new [
        | inl same ↦ subst IsNext (sym same) (old_next one.doing (ap (λ f. f.doing) (sym same) ∙ one.is_doing))
        | inr began ↦ subst IsNext (sym began.2) (new_next began.0 began.1)
      ]
