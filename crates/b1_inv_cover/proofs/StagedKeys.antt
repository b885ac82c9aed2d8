-- A staged key is at most one above the clock of its peer, and at most one above what its command has collected.
use Rattle.std.proofs.Common.{◌≡◌, ◌≢◌, ◌⊎◌, refl, sym, ap, subst, ◌∙◌, inl, inr, ℕ, ◌+◌, ◌%◌, ◌≤◌, max, Bool, true, false, cond, List, [], ◌∷◌, length, Option, Some, None}
use Rattle.std.proofs.lemmas.Option.{same_Some}
use native.Mathlib.Omega.{arith}
use Rattle.b1_model.specs.declared.commands.Command.{Command}
use Rattle.b1_model.specs.declared.commands.Command.TheVariants as cmd
use Rattle.b1_model.specs.declared.naming.Key.{Key}
use Rattle.b1_model.specs.declared.naming.NodeRef.{NodeRef}
use Rattle.b1_model.specs.declared.naming.Opening.{Opening}
use Rattle.b1_model.specs.declared.answers.Reason.{Reason}
use Rattle.b1_model.specs.declared.entries.Entry.{Entry}
use Rattle.b1_model.specs.declared.entries.Entry.TheVariants.{Message, OwnNotice, ForeignNotice, ReleaseNotice}
use Rattle.b1_model.specs.declared.parts.Begun.{Begun}
use Rattle.b1_model.specs.declared.events.Action.TheVariants as act
use Rattle.b1_model.specs.declared.events.Doing.{Doing}
use Rattle.b1_model.specs.declared.events.OwedDrop.{OwedDrop}
use Rattle.b1_model.specs.declared.events.Phase.{Phase}
use Rattle.b1_model.specs.declared.events.Phase.TheVariants.{Starting, Staging, Unstaging, Attaching, Stamping, Syncing, Committing, Visiting, Dooming, SyncingNotices, CommittingOwn, CommittingNotices}
use Rattle.b1_model.specs.MachineParts.{PeerPart, DriverPart, State, is_staged, is_odd}
use Rattle.b1_model.specs.MachineDriver.{first_action, next_action, node_of_place, send_of}
use Rattle.b1_model.specs.MachineEvents.{stage_by, collected_of, user_of}
use Rattle.b1_model.specs.MachineStep.{Step, opening_state}
use Rattle.b1_step.specs.Rights.{Has}
use Rattle.b1_step.proofs.Clocks.{rises}
use Rattle.b1_step.proofs.Queues.{put_has}
use Rattle.b1_inv.specs.Words.{IsPeer, IsDriver, stamp_of_phase, waits_at, phase_uncommitted, is_uncommitted}
use Rattle.b1_inv.specs.Notices.{NoticesRight}
use Rattle.b1_inv.specs.Stages.{StagesRight}
use Rattle.b1_inv.specs.Sound.{IsSound}
use Rattle.b1_inv_record.specs.Clocks.{StagedKeysRight, Synced, is_own_notice}
use Rattle.b1_inv_record.specs.Epochs.{is_unstaging}
use Rattle.b1_inv_tools.proofs.Comes.{Comes, queue_comes}
use Rattle.b1_inv_tools.proofs.Facts.{even_is}
use Rattle.b1_inv_tools.proofs.Leaves.{driver_cases, peer_cases, new_peer}
use Rattle.b1_inv_sends.proofs.StagesKept.{opening_queue, stages_kept}
use Rattle.b1_inv_notices.proofs.NoticesLaw.{notices_kept}
use Rattle.b1_inv_notices.proofs.Turns.{doing_in, opened, answered, took_leaves, parts, going, going_doing, going_action, going_answer}
use Rattle.b1_inv_notices.proofs.StampsLaw.{fixed_before}
use Rattle.b1_inv_cover.proofs.Came.{new_entry}
use Rattle.b1_inv_cover.proofs.Collects.{holds, Collected, MoreIn, more_none, more_turn}

-- ---- a staged entry's driver has a command that holds it

waits_holds : (phase : Phase) (at : ℕ) → waits_at phase at ≡ true → holds phase ≡ true
waits_holds (Staging begun places collected) at is = refl
waits_holds (Unstaging begun places refused place) at is = refl
waits_holds (Attaching sending place slot) at is = refl
waits_holds (Stamping sending) at is = refl
waits_holds (Syncing sending stamp place) at is = refl
waits_holds (Committing sending stamp place) at is = refl
waits_holds phase at is = absurd (cc is)

uncommitted_holds : (me q : ℕ) (phase : Phase) → phase_uncommitted me phase q ≡ true → holds phase ≡ true
uncommitted_holds me q (Visiting destruction left) is = refl
uncommitted_holds me q (Dooming destruction) is = refl
uncommitted_holds me q (SyncingNotices destruction stamp at) is = refl
uncommitted_holds me q (CommittingOwn destruction stamp) is = refl
uncommitted_holds me q (CommittingNotices destruction stamp at) is = refl
uncommitted_holds me q phase is = absurd (cc is)

module _ (o : Opening) (s : State) (stages : StagesRight o s) (notices : NoticesRight s) (q : ℕ) (x : PeerPart) (is_peer : IsPeer s q x) where
  held_by : (e : DriverPart) (doing : Option Doing) → e.doing ≡ doing → is_uncommitted e q ≡ true → (one : Doing) × (e.doing ≡ Some one) × (holds one.phase ≡ true)
  held_by e None is un = let both : false ≡ true = sym (ap (λ z. elim z [ None ↦ false | Some one ↦ phase_uncommitted e.me one.phase q ]) is) ∙ un in absurd (cc both)
  held_by e (Some one) is un = (one, is, uncommitted_holds e.me q one.phase (sym (ap (λ z. elim z [ None ↦ false | Some one ↦ phase_uncommitted e.me one.phase q ]) is) ∙ un))

  -- the open command of an entry's driver
  pub holder : (k : Key) (entry : Entry) (e : DriverPart) → Has x.queue (k, entry) → is_staged (k, entry) ≡ true → is_own_notice entry ≡ false → IsDriver s k.origin e → (one : Doing) × (e.doing ≡ Some one) × (holds one.phase ≡ true)
  holder k (Message origin user index serial offset len nodes slots handles payload) e h odd foreign is =
      let sender = stages.sender q x (k, Message origin user index serial offset len nodes slots handles payload) is_peer h refl odd in
      let same : sender.driver ≡ e = same_Some sender.driver e (sym sender.is_driver ∙ is) in
      (sender.doing, sym (ap (λ d. d.doing) same) ∙ sender.is_open, waits_holds sender.doing.phase k.index sender.waits)
  holder k (OwnNotice serial index) e h odd foreign is = absurd (cc foreign)
  holder k (ForeignNotice node index) e h odd foreign is =
      let shape = notices.queued q x (k, ForeignNotice node index) is_peer h in
      held_by e e.doing refl (shape.3 e (subst (λ r. IsDriver s r e) shape.0 is) odd).0
  holder k (ReleaseNotice serial) e h odd foreign is =
      let shape = notices.queued q x (k, ReleaseNotice serial) is_peer h in
      let both : true ≡ false = sym odd ∙ shape.2 in absurd (cc both)

-- ---- a staged entry that comes

-- a stage is next
abbrev stages : Phase → List OwedDrop → Bool
stages (Staging begun places collected) [] = true
stages (Staging begun places collected) (one ∷ rest) = false
stages phase owed = false

module _ (o : Opening) (memory : Bool) (d : DriverPart) (command : Command) (x : PeerPart) (even : x.clock % 2 ≡ 0) (f : Key × Entry) (odd : is_staged f ≡ true) (foreign : is_own_notice f.1 ≡ false) where
  -- it is the driver's, one above the clock, and the clock is collected
  abbrev Fresh : Phase → List OwedDrop → Type 0
  Fresh phase owed = (f.0.origin ≡ d.me) × (f.0.stamp ≡ x.clock + 1) × ((after : Phase) → Collected phase (answered o memory d command phase owed x).0 after → x.clock ≤ collected_of after)

  abbrev OldOrFresh : Phase → List OwedDrop → Type 0
  OldOrFresh phase owed = Has (answered o memory d command phase owed x).1.queue f → Has x.queue f ⊎ Fresh phase owed

  at_stage : (r : Option Reason) (wants : Bool) (begun : Begun) (places : List (Option Reason)) (collected user place serial : ℕ) (payload : List ℕ) (nodes : List NodeRef) → Has (stage_by r wants d.me user place serial payload nodes x).1.queue f
      → Has x.queue f ⊎ ((f.0.origin ≡ d.me) × (f.0.stamp ≡ x.clock + 1) × ((after : Phase) → Collected (Staging begun places collected) (stage_by r wants d.me user place serial payload nodes x).0 after → x.clock ≤ collected_of after))
  at_stage (Some r) wants begun places collected user place serial payload nodes h = inl h
  at_stage None true begun places collected user place serial payload nodes h = inl h
  at_stage None false begun places collected user place serial payload nodes h = elim (put_has _ _ x.queue f h) [ inl new ↦ inr (ap (λ g. g.0.origin) new, ap (λ g. g.0.stamp) new, λ after got. got) | inr old ↦ inl old ]

  no_even : (stamp : ℕ) → f.0.stamp ≡ stamp → stamp % 2 ≡ 0 → ⊥
  no_even stamp same is = let both : true ≡ false = sym odd ∙ ap is_odd same ∙ even_is stamp is in absurd (cc both)

  first_comes : (shut : Bool) (begins : Command) → Comes o (opened d command Starting []) (doing_in command Starting) x (cond shut act.Local (first_action begins)) f → ⊥
  first_comes true begins new = new
  first_comes false (cmd.Destroy numbers) (index, serial, is, same, accepted) = let both : true ≡ false = sym (ap (λ g. is_own_notice g.1) same) ∙ foreign in absurd (cc both)
  first_comes false (cmd.Reset limits) (index, serial, is, same, accepted) = let both : true ≡ false = sym (ap (λ g. is_own_notice g.1) same) ∙ foreign in absurd (cc both)
  first_comes false cmd.Disconnect (index, serial, is, same, accepted) = let both : true ≡ false = sym (ap (λ g. is_own_notice g.1) same) ∙ foreign in absurd (cc both)
  first_comes false begins new = new

  fresh : (phase : Phase) (owed : List OwedDrop) → ((stamp : ℕ) → stamp_of_phase phase ≡ Some stamp → stamp % 2 ≡ 0) → ((one : OwedDrop) → Has owed one → one.clock % 2 ≡ 0) → (stages phase owed ≡ true → ⊥)
      → Comes o (opened d command phase owed) (doing_in command phase) x (next_action (opened d command phase owed)) f → Fresh phase owed
  fresh phase (one ∷ rest) stamps drops apart new = absurd (no_even (max x.clock one.clock) (ap (λ g. g.0.stamp) new.0) (let k = drops one (inl refl) in omega (arith, k, even)))
  fresh Starting [] stamps drops apart new = absurd (first_comes d.shut command new)
  fresh (Visiting destruction left) [] stamps drops apart (index, serial, is, same) = (ap (λ g. g.0.origin) same, ap (λ g. g.0.stamp) same, λ after got. got)
  fresh (Committing sending stamp place) [] stamps drops apart (g, found, same) = absurd (no_even stamp (ap (λ h. h.0.stamp) same) (stamps stamp refl))
  fresh (CommittingOwn destruction stamp) [] stamps drops apart (g, there, notice, same) = absurd (no_even stamp (ap (λ h. h.0.stamp) same) (stamps stamp refl))
  fresh (CommittingNotices destruction stamp place) [] stamps drops apart (g, there, notice, same) = absurd (no_even stamp (ap (λ h. h.0.stamp) same) (stamps stamp refl))
  fresh (Staging begun places collected) [] stamps drops apart new = absurd (apart refl)
  fresh phase [] stamps drops apart new = absurd new

  by_comes : (phase : Phase) (owed : List OwedDrop) → ((stamp : ℕ) → stamp_of_phase phase ≡ Some stamp → stamp % 2 ≡ 0) → ((one : OwedDrop) → Has owed one → one.clock % 2 ≡ 0) → (stages phase owed ≡ true → ⊥) → OldOrFresh phase owed
  by_comes phase owed stamps drops apart h = elim (queue_comes o (opened d command phase owed) (doing_in command phase) f memory (next_action (opened d command phase owed)) x h) [ inl old ↦ inl old.0 | inr new ↦ inr (fresh phase owed stamps drops apart new) ]

  -- an entry after the event stood there, or is fresh
  pub old_or_fresh : (phase : Phase) (owed : List OwedDrop) → ((stamp : ℕ) → stamp_of_phase phase ≡ Some stamp → stamp % 2 ≡ 0) → ((one : OwedDrop) → Has owed one → one.clock % 2 ≡ 0) → OldOrFresh phase owed
  old_or_fresh (Staging begun places collected) [] stamps drops h = at_stage _ memory begun places collected (user_of o d.me) (length places) (node_of_place begun.to (length places)).serial (send_of command).payload begun.with h
  old_or_fresh (Staging begun places collected) (one ∷ rest) stamps drops h = by_comes (Staging begun places collected) (one ∷ rest) stamps drops (λ is. absurd (cc is)) h
  old_or_fresh phase owed stamps drops h = by_comes phase owed stamps drops (λ is. absurd (cc is)) h

-- ---- a step

module _ {o : Opening} {s : State} {p : ℕ} {c : Option Command} {t : State} (sound : IsSound o s) (synced : Synced s) (step : Step o s p c t) (staged : StagedKeysRight s) where
  is_me : step.driver.me ≡ p
  is_me = sound.numbered.drivers p step.driver step.is_driver

  now_above : step.peer.clock ≤ step.new_peer.clock
  now_above = subst (λ y. step.peer.clock ≤ y.clock) (parts step).is_peer (rises o step.local.memory (going step) (going_doing step) (going_action step) step.peer)

  new_clock : (f : Key × Entry) → Has step.new_peer.queue f → is_staged f ≡ true → f.0.stamp ≤ step.new_peer.clock + 1
  new_clock f h odd =
      elim (new_entry sound synced step f h) [
        | inl old ↦ let k = staged.clock step.at step.peer f step.is_peer old odd in let rise = now_above in omega (arith, k, rise)
        | inr (inl one) ↦ let rise = now_above in omega (arith, one, rise)
        | inr (inr low) ↦ omega (arith, low)
      ]

  -- what is open at the stepping driver has collected no less
  more : MoreIn (parts step).command (parts step).phase (going_answer step) step.new_driver.doing
  more =
      subst (λ e. MoreIn (parts step).command (parts step).phase (going_answer step) e.doing) (parts step).is_driver
      (took_leaves (MoreIn (parts step).command (parts step).phase (going_answer step)) (parts step).command (λ phase may h. more_none (parts step).command (parts step).phase (going_answer step)) step.driver (parts step).phase step.driver.owed (going_answer step)
      (more_turn (parts step).command step.driver.me (parts step).phase (going_answer step)))

  -- an entry that stood there
  old_entry : (q : ℕ) (x y : PeerPart) (f : Key × Entry) (e : DriverPart) (doing : Doing) → IsPeer s q x → Has x.queue f → IsPeer t q y → Has y.queue f → is_staged f ≡ true → is_own_notice f.1 ≡ false
      → IsDriver t f.0.origin e → e.doing ≡ Some doing → is_unstaging doing.phase ≡ false → f.0.stamp ≤ collected_of doing.phase + 1
  old_entry q x y f e doing was there is_peer h odd foreign is_driver is un = by (driver_cases step f.0.origin e is_driver)
    where
      by : ((f.0.origin ≡ p) × (e ≡ step.new_driver)) ⊎ ((f.0.origin ≢ p) × IsDriver s f.0.origin e) → f.0.stamp ≤ collected_of doing.phase + 1
      by (inr other) = staged.collected q x f e doing was there odd foreign other.1 is un
      by (inl own) =
          let mine : IsDriver s f.0.origin step.driver = subst (λ r. IsDriver s r step.driver) (sym own.0) step.is_driver in
          let before = holder o s sound.stages sound.notices q x was f.0 f.1 step.driver there odd foreign mine in
          let after = holder o t (stages_kept sound step) (notices_kept sound step) q y is_peer f.0 f.1 e h odd foreign is_driver in
          let same : after.0 ≡ doing = same_Some after.0 doing (sym after.1 ∙ is) in
          let held : holds doing.phase ≡ true = ap (λ z. holds z.phase) (sym same) ∙ after.2 in
          let k = more doing (ap (λ d. d.doing) (sym own.1) ∙ is) held un in
          elim (parts step).was [
            | inl open_is ↦ let low = staged.collected q x f step.driver (going_doing step) was there odd foreign mine open_is k.0 in let rise = k.1 in omega (arith, low, rise)
            | inr new ↦ let none : Some before.0 ≡ None = sym before.1 ∙ new.0 in absurd (cc none)
          ]

  -- an entry at the peer of the event
  here_entry : (f : Key × Entry) (e : DriverPart) (doing : Doing) → IsPeer t step.at step.new_peer → Has step.new_peer.queue f → is_staged f ≡ true → is_own_notice f.1 ≡ false
      → IsDriver t f.0.origin e → e.doing ≡ Some doing → is_unstaging doing.phase ≡ false → f.0.stamp ≤ collected_of doing.phase + 1
  here_entry f e doing is_peer h odd foreign is_driver is un =
      elim (old_or_fresh o step.local.memory step.driver (parts step).command step.peer (sound.clocks.clock step.at step.peer step.is_peer).0 f odd foreign (parts step).phase step.driver.owed
      (λ stamp fixed. (sound.clocks.stamp p step.driver stamp step.is_driver (fixed_before sound step stamp fixed)).0)
      (λ one there. (sound.clocks.owed p step.driver one step.is_driver there).0)
      (subst (λ y. Has y.queue f) (sym (parts step).is_peer) h)) [
        | inl old ↦ old_entry step.at step.peer step.new_peer f e doing step.is_peer old is_peer h odd foreign is_driver is un
        | inr new ↦
            let own = elim (driver_cases step f.0.origin e is_driver) as (λ z. e ≡ step.new_driver) [ inl mine ↦ mine.1 | inr other ↦ absurd (other.0 (new.0 ∙ is_me)) ] in
            let after = holder o t (stages_kept sound step) (notices_kept sound step) step.at step.new_peer is_peer f.0 f.1 e h odd foreign is_driver in
            let same : after.0 ≡ doing = same_Some after.0 doing (sym after.1 ∙ is) in
            let held : holds doing.phase ≡ true = ap (λ z. holds z.phase) (sym same) ∙ after.2 in
            let k = more doing (ap (λ d. d.doing) (sym own) ∙ is) held un in
            let high = new.2 doing.phase k.2 in
            let stamp = new.1 in omega (arith, stamp, high)
      ]

  pub staged_kept : StagedKeysRight t
  staged_kept = record {
    clock = λ q y f is_peer h odd. elim (peer_cases step q y is_peer) [
      | inl here ↦ let k = new_clock f (subst (λ z. Has z.queue f) here.1 h) odd in let same = ap (λ z. z.clock) here.1 in omega (arith, k, same)
      | inr other ↦ staged.clock q y f other.1 h odd
    ];
    collected = λ q y f e doing is_peer h odd foreign is_driver is un. elim (peer_cases step q y is_peer) [
      | inl here ↦ here_entry f e doing (new_peer step) (subst (λ z. Has z.queue f) here.1 h) odd foreign is_driver is un
      | inr other ↦ old_entry q y y f e doing other.1 h is_peer h odd foreign is_driver is un
    ];
  }

pub staged_begins : (o : Opening) → StagedKeysRight (opening_state o)
staged_begins o = record {
  clock = λ q x f is_peer h odd. absurd (subst (λ queue. Has queue f) (opening_queue o q x is_peer) h);
  collected = λ q x f d doing is_peer h odd foreign is_driver is un. absurd (subst (λ queue. Has queue f) (opening_queue o q x is_peer) h);
}
