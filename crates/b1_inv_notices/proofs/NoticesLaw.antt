-- Notices stay right over every list of steps.
use Rattle.std.proofs.Common.{◌≡◌, ◌≢◌, ◌⊎◌, refl, sym, ap, subst, ◌∙◌, inl, inr, ℕ, ◌%◌, Bool, true, false, List, get_or, Option, Some, None}
use Rattle.std.proofs.lemmas.Option.{slice_get_within}
use native.Mathlib.Omega.{arith}
use Rattle.b1_model.specs.declared.naming.Key.{Key}
use Rattle.b1_model.specs.declared.naming.Opening.{Opening}
use Rattle.b1_model.specs.declared.commands.Command.{Command}
use Rattle.b1_model.specs.declared.entries.Entry.{Entry}
use Rattle.b1_model.specs.declared.entries.Entry.TheVariants.{Message, OwnNotice, ForeignNotice, ReleaseNotice}
use Rattle.b1_model.specs.declared.events.Action.{Action}
use Rattle.b1_model.specs.declared.events.Action.TheVariants as act
use Rattle.b1_model.specs.declared.events.Phase.TheVariants.{Visiting}
use Rattle.b1_model.specs.declared.events.Destruction.{Destruction}
use Rattle.b1_model.specs.MachineParts.{PeerPart, DriverPart, State, no_origin}
use Rattle.b1_model.specs.MachineTables.{is_staged_notice}
use Rattle.b1_model.specs.MachineDriver.{peer_of}
use Rattle.b1_model.specs.MachineStep.{Step}
use Rattle.b1_step.specs.Rights.{Has}
use Rattle.b1_step.specs.Fixed.{IsNumbered}
use Rattle.b1_step.proofs.Locality.{step_grows}
use Rattle.b1_step.proofs.Numbers.{step_numbered}
use Rattle.b1_inv.specs.Words.{IsPeer, IsDriver, stamp_of_phase}
use Rattle.b1_inv.specs.Notices.{NoticesRight, NoticeShape, DestructionShape}
use Rattle.b1_inv.specs.Sound.{IsSound}
use Rattle.b1_inv_tools.proofs.Comes.{leaves}
use Rattle.b1_inv_tools.proofs.Leaves.{driver_cases, peer_cases}
use Rattle.b1_inv_notices.proofs.Turns.{parts, going, going_doing, going_action, going_answer, get_there}
use Rattle.b1_inv_notices.proofs.Sets.{has_at_place}
use Rattle.b1_inv_notices.proofs.Own.{Own}
use Rattle.b1_inv_notices.proofs.OwnLaw.{own_after, begun_from}
use Rattle.b1_inv_notices.proofs.Awaits.{NoticeOf, KeyRight, carry_notice, other_notice, commits_notices, elsewhere, waits_turn, waits_took}
use Rattle.b1_inv_notices.proofs.Brings.{NewRight, after_right}

-- ---- the fields, by what is open

pub own_of : (s : State) → NoticesRight s → (p : ℕ) (d : DriverPart) (x : PeerPart) → IsDriver s p d → IsPeer s p x → Own d.doing x
own_of s n p d x is_driver is_peer = record {
  shape = λ one is. n.shape p d x one is_driver is_peer is;
  dying = λ serial is. n.dying p d x serial is_driver is_peer is;
  others = (n.late p d x is_driver is_peer).0;
  late = (n.late p d x is_driver is_peer).1;
}

-- a queued entry has a right key, and waits rightly for its driver
abbrev pub QueuedRight : State → ℕ → Key × Entry → Type 0
QueuedRight s q f = KeyRight q f × ((d : DriverPart) → IsDriver s f.0.origin d → NoticeOf d.me d.doing q f)

pub queued_of : (o : Opening) (s : State) (q : ℕ) (x : PeerPart) (f : Key × Entry) → IsNumbered o s → NoticeShape s q x f → QueuedRight s q f
queued_of o s q x (k, Message origin user index serial offset len nodes slots handles payload) numbered h = (h, λ d is. tt)
queued_of o s q x (k, OwnNotice serial index) numbered h =
    ((h.0, h.1), λ d is staged. let w = h.2 d (subst (λ r. IsDriver s r d) h.0 is) staged in record { waits = w.0; dooms = w.1; there = inl (sym h.0 ∙ sym (numbered.drivers k.origin d is)) })
queued_of o s q x (k, ForeignNotice node index) numbered h =
    ((h.0, h.1, h.2), λ d is staged. let w = h.3 d (subst (λ r. IsDriver s r d) h.0 is) staged in record { waits = w.0; dooms = w.1; there = inr w.2 })
queued_of o s q x (k, ReleaseNotice serial) numbered h = (h, λ d is. tt)

pub shape_of : (o : Opening) (s : State) (q : ℕ) (x : PeerPart) (f : Key × Entry) → IsNumbered o s → QueuedRight s q f → NoticeShape s q x f
shape_of o s q x (k, Message origin user index serial offset len nodes slots handles payload) numbered h = h.0
shape_of o s q x (k, OwnNotice serial index) numbered h = (h.0.0, h.0.1, λ d is staged. let w = h.1 d (subst (λ r. IsDriver s r d) (sym h.0.0) is) staged in (w.waits, w.dooms))
shape_of o s q x (k, ForeignNotice node index) numbered h = (
  h.0.0,
  h.0.1,
  h.0.2,
  λ d is staged.
      let w = h.1 d (subst (λ r. IsDriver s r d) (sym h.0.0) is) staged in
      (w.waits, w.dooms, elim w.there [ inl own ↦ absurd (h.0.2 (sym (numbered.drivers node.owner d is) ∙ sym own)) | inr there ↦ there ]),
)
shape_of o s q x (k, ReleaseNotice serial) numbered h = h.0

-- ---- a step

module _ {o : Opening} {s : State} {p : ℕ} {c : Option Command} {t : State} (sound : IsSound o s) (step : Step o s p c t) where
  was_queued : (q : ℕ) (x : PeerPart) (f : Key × Entry) → IsPeer s q x → Has x.queue f → QueuedRight s q f
  was_queued q x f is_peer h = queued_of o s q x f sound.numbered (sound.notices.queued q x f is_peer h)

  own_number : step.driver.me ≡ p
  own_number = sound.numbered.drivers p step.driver step.is_driver

  -- a notice that waits for the driver waits for the command that is open or begins
  waits_going : (q : ℕ) (f : Key × Entry) → NoticeOf step.driver.me step.driver.doing q f → NoticeOf step.driver.me (Some (going_doing step)) q f
  waits_going q f n =
      elim (parts step).was [
        | inl is ↦ subst (λ doing. NoticeOf step.driver.me doing q f) is n
        | inr new ↦ carry_notice step.driver.me None (Some (going_doing step)) q f (λ index serial w. absurd (cc w.waits)) (subst (λ doing. NoticeOf step.driver.me doing q f) new.0 n)
      ]

  -- and after the event, but where that commits it
  still_waits : (q : ℕ) (f : Key × Entry) → (q ≢ step.at) ⊎ (commits_notices (going_action step) ≡ false) → NoticeOf step.driver.me (Some (going_doing step)) q f → NoticeOf step.driver.me step.new_driver.doing q f
  still_waits q f far n =
      subst (λ e. NoticeOf step.driver.me e.doing q f) (parts step).is_driver
      (carry_notice step.driver.me (Some (going_doing step)) _ q f (λ index serial w.
      waits_took (parts step).command step.driver.me q index serial step.driver (parts step).phase step.driver.owed (going_answer step) refl
      (waits_turn (parts step).command step.driver.me q index serial (parts step).phase (going_answer step) (elsewhere o step.local.memory step.driver (parts step).command step.peer q (parts step).phase step.driver.owed (by far)) w)) n)
    where
      by : (q ≢ step.at) ⊎ (commits_notices (going_action step) ≡ false) → (q ≢ peer_of step.driver.me (going_action step)) ⊎ (commits_notices (going_action step) ≡ false)
      by (inl apart) = inl (λ same. apart (same ∙ (parts step).is_at))
      by (inr none) = inr none

  -- by any driver's part after the step
  by_driver : (q : ℕ) (f : Key × Entry) → (f.0.origin ≢ p → (d : DriverPart) → IsDriver s f.0.origin d → NoticeOf d.me d.doing q f) → (f.0.origin ≡ p → NoticeOf step.driver.me step.new_driver.doing q f) → (g : DriverPart) → IsDriver t f.0.origin g → NoticeOf g.me g.doing q f
  by_driver q f others own g is =
      elim (driver_cases step f.0.origin g is) [
        | inl here ↦ subst (λ e. NoticeOf e.me e.doing q f) (sym here.1) (subst (λ me. NoticeOf me step.new_driver.doing q f) (sym (step_grows step).me) (own here.0))
        | inr there ↦ others there.0 g there.1
      ]

  -- an entry that stood there and doesn't leave
  old_right : (q : ℕ) (x : PeerPart) (f : Key × Entry) → IsPeer s q x → Has x.queue f → (q ≢ step.at) ⊎ (leaves (going step) (going_action step) f ≡ false) → QueuedRight t q f
  old_right q x f is_peer h stays =
      let was = was_queued q x f is_peer h in
      (was.0, by_driver q f (λ apart. was.1) (λ origin. own_right origin (waits_going q f (was.1 step.driver (subst (λ r. IsDriver s r step.driver) (sym origin) step.is_driver))) stays))
    where
      unless : (action : Action) → leaves (going step) action f ≡ false → commits_notices action ≡ true → is_staged_notice step.driver.me f ≡ false
      unless (act.CommitNotices peer stamp) is commits = is
      unless action is commits = absurd (cc commits)

      commits_or : (b : Bool) → commits_notices (going_action step) ≡ b → f.0.origin ≡ p → leaves (going step) (going_action step) f ≡ false → NoticeOf step.driver.me (Some (going_doing step)) q f → NoticeOf step.driver.me step.new_driver.doing q f
      commits_or true commits origin is n = other_notice step.driver.me step.new_driver.doing q f (origin ∙ sym own_number) (unless (going_action step) is commits)
      commits_or false commits origin is n = still_waits q f (inr commits) n

      own_right : f.0.origin ≡ p → NoticeOf step.driver.me (Some (going_doing step)) q f → (q ≢ step.at) ⊎ (leaves (going step) (going_action step) f ≡ false) → NoticeOf step.driver.me step.new_driver.doing q f
      own_right origin n (inl far) = still_waits q f (inl far) n
      own_right origin n (inr is) = commits_or (commits_notices (going_action step)) refl origin is n

  -- an entry that the event brought
  new_right : (f : Key × Entry) → NewRight step.at step.driver.me step.new_driver.doing f → QueuedRight t step.at f
  new_right f (key, inl quiet) = (key, λ g is. quiet g.me g.doing)
  new_right f (key, inr own) = (key, by_driver step.at f (λ apart. absurd (apart (own.0 ∙ own_number))) (λ origin. own.1))

  -- ---- what the entries that come rest on

  named : step.driver.me ≢ no_origin
  named same =
      let few = slice_get_within s.drivers p step.driver step.is_driver in
      absurd (omega (arith, few, same, own_number, sound.numbered.as_many_drivers, sound.opening.most))

  even_stamp : (stamp : ℕ) → stamp_of_phase (parts step).phase ≡ Some stamp → stamp % 2 ≡ 0
  even_stamp stamp is =
      elim (parts step).was [
        | inl open_is ↦ (sound.clocks.stamp p step.driver stamp step.is_driver (ap (λ doing. elim doing [ None ↦ None | Some one ↦ stamp_of_phase one.phase ]) open_is ∙ is)).0
        | inr new ↦ let none : Some stamp ≡ None = sym is ∙ ap stamp_of_phase new.1 in absurd (cc none)
      ]

  visits_others : (destruction : Destruction) (left : List ℕ) → (parts step).phase ≡ Visiting destruction left → get_or left 0 step.driver.me ≢ step.driver.me
  visits_others destruction left is own =
      let there = get_there s.peers p (let few = slice_get_within s.drivers p step.driver step.is_driver in omega (arith, few, sound.numbered.as_many_drivers, sound.numbered.as_many_peers)) in
      let shape = (begun_from sound step (own_of s sound.notices) there.0 (own_of s sound.notices p step.driver there.0 step.is_driver there.1)).shape (going_doing step) refl in
      at_visit there.0 (sound.numbered.peers p there.0 there.1).me shape
    where
      at_visit : (x : PeerPart) → x.me ≡ p → DestructionShape x.peers x (parts step).command (parts step).phase → ⊥
      at_visit x me shape =
          let k = subst (DestructionShape x.peers x (parts step).command) is shape in
          (k.3.others (get_or left 0 step.driver.me) (has_at_place left 0 step.driver.me (omega (arith, k.2)))).1 (own ∙ own_number ∙ sym me)

  at_number : step.peer.me ≡ peer_of step.driver.me (going_action step)
  at_number = (sound.numbered.peers step.at step.peer step.is_peer).me ∙ sym (parts step).is_at

  after_entry : (f : Key × Entry) → Has step.new_peer.queue f → QueuedRight t step.at f
  after_entry f h =
      elim (after_right o step.local.memory step.driver step.peer step.at f named (sound.clocks.clock step.at step.peer step.is_peer).0 (λ g k. (was_queued step.at step.peer g step.is_peer k).0)
      (parts step).command (parts step).phase step.driver.owed even_stamp (λ one k. (sound.clocks.owed p step.driver one step.is_driver k).0) at_number (sym (parts step).is_at) visits_others
      (subst (λ y. Has y.queue f) (sym (parts step).is_peer) h)) [
        | inl old ↦ old_right step.at step.peer f step.is_peer old.0 (inr old.1)
        | inr new ↦ new_right f (subst (λ e. NewRight step.at step.driver.me e.doing f) (parts step).is_driver new)
      ]

  queued_after : (q : ℕ) (y : PeerPart) (f : Key × Entry) → IsPeer t q y → Has y.queue f → QueuedRight t q f
  queued_after q y f is_peer h =
      elim (peer_cases step q y is_peer) [
        | inl here ↦ subst (λ n. QueuedRight t n f) (sym here.0) (after_entry f (subst (λ z. Has z.queue f) here.1 h))
        | inr there ↦ old_right q y f there.1 h (inl there.0)
      ]

  own_then : (r : ℕ) (e : DriverPart) (y : PeerPart) → IsDriver t r e → IsPeer t r y → Own e.doing y
  own_then = own_after sound step (own_of s sound.notices)

  pub notices_kept : NoticesRight t
  notices_kept = record {
    shape = λ r e y one is_driver is_peer is. (own_then r e y is_driver is_peer).shape one is;
    dying = λ r e y serial is_driver is_peer is. (own_then r e y is_driver is_peer).dying serial is;
    late = λ r e y is_driver is_peer. ((own_then r e y is_driver is_peer).others, (own_then r e y is_driver is_peer).late);
    queued = λ q y f is_peer h. shape_of o t q y f (step_numbered sound.numbered step) (queued_after q y f is_peer h);
  }
