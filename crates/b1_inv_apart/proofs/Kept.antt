-- Staged own notices stand apart in every reached state; so an owner's staged notices have places of their own.
use Rattle.std.proofs.Common.{◌≡◌, ◌≢◌, refl, sym, ap, ◌∙◌, arith, inl, inr, subst, ℕ, suc, ◌==◌, Bool, true, false, cond, if◌then◌else◌, ◌&&◌, not, List, [], ◌∷◌, filter, slice_get, Option, Some, None}
use Rattle.std.specs.List.{AllPairs}
use Rattle.std.proofs.lemmas.List.Kept.{AllPairs-cons}
use Rattle.b1_step.proofs.Lists.{has_filter, filter_has, has_all, all_has}
use Rattle.std.proofs.lemmas.Bool.{eqb-true}
use Rattle.std.proofs.Math.Bool.{and-false}
use Rattle.b1_model.specs.declared.naming.Key.{Key}
use Rattle.b1_model.specs.declared.naming.Opening.{Opening}
use Rattle.b1_model.specs.declared.commands.Command.{Command}
use Rattle.b1_model.specs.declared.commands.Command.TheVariants as cmd
use Rattle.b1_model.specs.declared.entries.Entry.{Entry}
use Rattle.b1_model.specs.declared.entries.Entry.TheVariants.{Message, OwnNotice, ForeignNotice, ReleaseNotice}
use Rattle.b1_model.specs.declared.events.Action.{Action}
use Rattle.b1_model.specs.declared.events.Action.TheVariants as act
use Rattle.b1_model.specs.declared.events.OwedDrop.{OwedDrop}
use Rattle.b1_model.specs.declared.events.Phase.{Phase}
use Rattle.b1_model.specs.declared.events.Phase.TheVariants.{Starting, Staging, Unstaging, Attaching, Stamping, Syncing, Committing, Dropping, Reaping, Visiting, Dooming, SyncingNotices, CommittingOwn, CommittingNotices, Flushing}
use Rattle.b1_model.specs.MachineParts.{PeerPart, State, is_staged, is_odd}
use Rattle.b1_model.specs.MachineTables.{is_staged_notice}
use Rattle.b1_model.specs.MachineDriver.{phase_action, peer_of, first_action}
use Rattle.b1_model.specs.MachineStep.{Step, opening_state}
use Rattle.b1_step.specs.Rights.{Has}
use Rattle.b1_inv.specs.Words.{IsPeer, stamp_of_phase, is_uncommitted, phase_uncommitted}
use Rattle.b1_inv.specs.Sends.{SendShape}
use Rattle.b1_inv.specs.Apart.{OwnNoticesApart}
use Rattle.b1_inv.specs.Notices.{NoticesRight}
use Rattle.b1_inv.specs.Sound.{IsSound}
use Rattle.b1_inv_tools.proofs.Leaves.{Did, step_did, peer_cases}
use Rattle.b1_inv_sends.proofs.StagesKept.{opening_queue}
use Rattle.b1_inv_apart.proofs.Entries.{is_own_staged, AllApart}
use Rattle.b1_inv_apart.proofs.Events.{Fresh, event_once}
use Rattle.b1_inv_tools.proofs.Facts.{next_of, next_owed, even_is}

-- ---- the owner's staged notices

both_true : (a b : Bool) → (a && true) ≡ true → b ≡ true → (a && b) ≡ true
both_true true true is same = refl
both_true true false is same = absurd (cc same)
both_true false b is same = absurd (cc is)

eqb-from : (m n : ℕ) → m ≡ n → (m == n) ≡ true
eqb-from m n is = grind (arith, is)

module _ (q : ℕ) (s : State) (x : PeerPart) (is_x : IsPeer s q x) (notices : NoticesRight s) where
  three : (a b c : Bool) → (not a && b && c) ≡ true → (a ≡ false) × (b ≡ true) × (c ≡ true)
  three false true true is = (refl, refl, refl)
  three true b c is = absurd (cc is)
  three false false c is = absurd (cc is)
  three false true false is = absurd (cc is)

  -- a staged notice of the owner in its own queue is an own notice
  is_own : (key : Key) (e : Entry) → Has x.queue (key, e) → is_staged_notice q (key, e) ≡ true → is_own_staged (key, e) ≡ true
  is_own key (Message origin user index serial offset len nodes slots handles payload) has is = absurd (cc is)
  is_own key (OwnNotice serial index) has is = ap (λ b. b && true) (three false (is_staged (key, OwnNotice serial index)) (key.origin == q) is).1
  is_own key (ForeignNotice node index) has is =
      let shape = notices.queued q x (key, ForeignNotice node index) is_x has in
      absurd (shape.2 (sym shape.0 ∙ eqb-true key.origin q (three false (is_staged (key, ForeignNotice node index)) (key.origin == q) is).2))
  is_own key (ReleaseNotice serial) has is =
      let shape = notices.queued q x (key, ReleaseNotice serial) is_x has in
      absurd (cc (sym shape.2 ∙ (three false (is_staged (key, ReleaseNotice serial)) (key.origin == q) is).1))

  places_apart : (queue : List (Key × Entry)) → ((g : Key × Entry) → Has queue g → Has x.queue g) → AllApart queue → AllPairs (λ a b. a.0.index ≢ b.0.index) (filter (is_staged_notice q) queue)
  places_apart [] inside apart = λ i j d before within. absurd (omega (arith, within))
  places_apart (f ∷ rest) inside apart = by_test (is_staged_notice q f) refl (places_apart rest (λ g h. inside g (inr h)) apart.1)
    where
      later : is_staged_notice q f ≡ true → (g : Key × Entry) → Has (filter (is_staged_notice q) rest) g → f.0.index ≢ g.0.index
      later passes g h =
          let found = filter_has (is_staged_notice q) rest g h in
          apart.0 g found.0 (is_own f.0 f.1 (inside f (inl refl)) passes) (is_own g.0 g.1 (inside g (inr found.0)) found.1)

      by_test : (b : Bool) → b ≡ is_staged_notice q f → AllPairs (λ a c. a.0.index ≢ c.0.index) (filter (is_staged_notice q) rest) → AllPairs (λ a c. a.0.index ≢ c.0.index) (cond b (f ∷ filter (is_staged_notice q) rest) (filter (is_staged_notice q) rest))
      by_test true same more = AllPairs-cons (λ a c. a.0.index ≢ c.0.index) f (filter (is_staged_notice q) rest) (all_has (λ g. f.0.index ≢ g.0.index) (filter (is_staged_notice q) rest) (later (sym same))) more
      by_test false same more = more

  own_staged : (key : Key) (e : Entry) → Has x.queue (key, e) → is_own_staged (key, e) ≡ true → is_staged_notice q (key, e) ≡ true
  own_staged key (Message origin user index serial offset len nodes slots handles payload) has is = absurd (cc (sym is ∙ and-false (is_odd key.stamp)))
  own_staged key (ForeignNotice node index) has is = absurd (cc (sym is ∙ and-false (is_odd key.stamp)))
  own_staged key (ReleaseNotice serial) has is = absurd (cc (sym is ∙ and-false (is_odd key.stamp)))
  own_staged key (OwnNotice serial index) has is =
      let origin : (key.origin == q) ≡ true = eqb-from key.origin q (notices.queued q x (key, OwnNotice serial index) is_x has).0 in
      both_true (is_odd key.stamp) (key.origin == q) is origin

  entries_apart : (queue : List (Key × Entry)) → ((g : Key × Entry) → Has queue g → Has x.queue g) → AllPairs (λ a b. a.0.index ≢ b.0.index) (filter (is_staged_notice q) queue) → AllApart queue
  entries_apart [] inside apart = tt
  entries_apart (f ∷ rest) inside apart = by_test (is_staged_notice q f) refl (λ more. entries_apart rest (λ g h. inside g (inr h)) more) apart
    where
      by_test : (b : Bool) → b ≡ is_staged_notice q f → (AllPairs (λ a c. a.0.index ≢ c.0.index) (filter (is_staged_notice q) rest) → AllApart rest)
          → AllPairs (λ a c. a.0.index ≢ c.0.index) (cond b (f ∷ filter (is_staged_notice q) rest) (filter (is_staged_notice q) rest)) → AllApart (f ∷ rest)
      by_test true same further apart = (
        λ g h own other. has_all (λ c. f.0.index ≢ c.0.index) (filter (is_staged_notice q) rest) g (λ j d within. apart 0 (suc j) d (omega arith) (omega (arith, within)))
            (has_filter (is_staged_notice q) rest g h (own_staged g.0 g.1 (inside g (inr h)) other)),
        further (λ i j d before within. apart (suc i) (suc j) d (omega (arith, before)) (omega (arith, within))),
      )
      by_test false same further apart = (λ g h own other. absurd (cc (same, own_staged f.0 f.1 (inside f (inl refl)) own)), further apart)

  -- both forms, of the whole queue
  pub own_places_apart : AllApart x.queue → AllPairs (λ a b. a.0.index ≢ b.0.index) (filter (is_staged_notice q) x.queue)
  own_places_apart apart = places_apart x.queue (λ g h. h) apart

  pub own_entries_apart : AllPairs (λ a b. a.0.index ≢ b.0.index) (filter (is_staged_notice q) x.queue) → AllApart x.queue
  own_entries_apart apart = entries_apart x.queue (λ g h. h) apart

-- ---- when an event's stamp is even, and nothing is staged where a destruction begins

module _ {o : Opening} {s : State} {p : ℕ} {command : Option Command} {t : State} (sound : IsSound o s) (step : Step o s p command t) where
  k : Did o step.local.memory step.driver command step.peer step.action step.at step.new_driver step.new_peer
  k = step_did step

  even_stamp : (stamp : ℕ) → stamp_of_phase k.doing.phase ≡ Some stamp → is_odd stamp ≡ false
  even_stamp stamp fixed = elim k.opened.from [
    | inl is ↦ even_is stamp (sound.clocks.stamp p step.driver stamp step.is_driver (ap (λ doing. elim doing [ None ↦ None | Some one ↦ stamp_of_phase one.phase ]) is ∙ fixed)).0
    | inr begins ↦ absurd (cc (sym (ap stamp_of_phase begins.2) ∙ fixed))
  ]

  -- a driver that begins has no destruction open
  none_staged : k.doing.phase ≡ Starting → step.at ≡ p → (g : Key × Entry) → Has step.peer.queue g → is_own_staged g ≡ false
  none_staged starts here g has = by_entry g.0 g.1 has
    where
      rests : step.driver.doing ≡ None
      rests = elim k.opened.from [ inl is ↦ absurd (starting_never starts is) | inr begins ↦ begins.0 ]
        where
          starting_never : k.doing.phase ≡ Starting → step.driver.doing ≡ Some k.doing → ⊥
          starting_never starts is = subst (SendShape s k.doing.command) starts (sound.sends.shape p step.driver k.doing step.is_driver is)

      uncommitted_never : is_uncommitted step.driver step.at ≡ true → ⊥
      uncommitted_never waits = cc (sym (ap (λ doing. elim doing [ None ↦ false | Some one ↦ phase_uncommitted step.driver.me one.phase step.at ]) rests) ∙ waits)

      by_entry : (key : Key) (e : Entry) → Has step.peer.queue (key, e) → is_own_staged (key, e) ≡ false
      by_entry key (Message origin user index serial offset len nodes slots handles payload) has = and-false (is_odd key.stamp)
      by_entry key (ForeignNotice node index) has = and-false (is_odd key.stamp)
      by_entry key (ReleaseNotice serial) has = and-false (is_odd key.stamp)
      by_entry key (OwnNotice serial index) has = by_stage (is_odd key.stamp) refl
        where
          by_stage : (b : Bool) → b ≡ is_odd key.stamp → (b && true) ≡ false
          by_stage false same = refl
          by_stage true same = absurd (uncommitted_never ((sound.notices.queued step.at step.peer (key, OwnNotice serial index) step.is_peer has).2 step.driver (ap (slice_get s.drivers) here ∙ step.is_driver) (sym same)).0)

  at_own : (action : Action) → step.action ≡ action → peer_of k.e.me action ≡ k.e.me → step.at ≡ p
  at_own action is own = k.is_at ∙ ap (peer_of k.e.me) is ∙ own ∙ k.opened.me ∙ sound.numbered.drivers p step.driver step.is_driver

  start_fresh : (shut : Bool) (c : Command) → k.doing.phase ≡ Starting → step.action ≡ (if shut then act.Local else first_action c) → Fresh step.peer (if shut then act.Local else first_action c)
  start_fresh true c starts at = tt
  start_fresh false cmd.Disconnect starts at = none_staged starts (at_own act.BeginDestroy at refl)
  start_fresh false (cmd.Reset limits) starts at = none_staged starts (at_own act.BeginDestroy at refl)
  start_fresh false (cmd.Destroy numbers) starts at = none_staged starts (at_own act.BeginDestroy at refl)
  start_fresh false cmd.Query starts at = tt
  start_fresh false (cmd.Limit limits) starts at = tt
  start_fresh false (cmd.Release number) starts at = tt
  start_fresh false (cmd.SliceRelease offset) starts at = tt
  start_fresh false (cmd.Send c) starts at = tt
  start_fresh false cmd.Recv starts at = tt
  start_fresh false cmd.Await starts at = tt

  -- by the phase, where nothing is owed
  phase_fresh : (phase : Phase) → k.doing.phase ≡ phase → step.action ≡ phase_action k.e.me k.e.shut k.doing.command phase → Fresh step.peer (phase_action k.e.me k.e.shut k.doing.command phase)
  phase_fresh Starting is at = start_fresh k.e.shut k.doing.command is at
  phase_fresh (Committing sending stamp place) is at = even_stamp stamp (ap stamp_of_phase is)
  phase_fresh (CommittingOwn d stamp) is at = even_stamp stamp (ap stamp_of_phase is)
  phase_fresh (CommittingNotices d stamp place) is at = even_stamp stamp (ap stamp_of_phase is)
  phase_fresh (Staging nodes places collected) is at = tt
  phase_fresh (Unstaging nodes places refused place) is at = tt
  phase_fresh (Attaching sending place handle) is at = tt
  phase_fresh (Stamping sending) is at = tt
  phase_fresh (Syncing sending stamp place) is at = tt
  phase_fresh Dropping is at = tt
  phase_fresh (Reaping got) is at = tt
  phase_fresh (Visiting d left) is at = tt
  phase_fresh (Dooming d) is at = tt
  phase_fresh (SyncingNotices d stamp place) is at = tt
  phase_fresh (Flushing stamp) is at = tt

  next_fresh : (owed : List OwedDrop) → k.e.owed ≡ owed → Fresh step.peer step.action
  next_fresh [] none =
      let at = k.is_action ∙ next_of k.e k.doing k.opened.is_open none in
      subst (Fresh step.peer) (sym at) (phase_fresh k.doing.phase refl at)
  next_fresh (one ∷ rest) owes = subst (Fresh step.peer) (sym (k.is_action ∙ next_owed k.e k.doing one rest k.opened.is_open owes)) tt

  entries_kept : (q : ℕ) (y : PeerPart) → IsPeer t q y → AllApart y.queue
  entries_kept q y is = elim (peer_cases step q y is) [
    | inl here ↦ subst (λ z. AllApart z.queue) (sym (here.1 ∙ k.peer))
        (event_once o step.local.memory k.e k.doing step.action step.peer (next_fresh k.e.owed refl)
        (own_entries_apart step.at s step.peer step.is_peer sound.notices (sound.apart step.at step.peer step.is_peer)))
    | inr elsewhere ↦ own_entries_apart q s y elsewhere.1 sound.notices (sound.apart q y elsewhere.1)
  ]

  -- where the notices are right afterwards
  pub apart_kept : NoticesRight t → OwnNoticesApart t
  apart_kept notices q y is = own_places_apart q t y is notices (entries_kept q y is)

pub apart_begins : (o : Opening) → NoticesRight (opening_state o) → OwnNoticesApart (opening_state o)
apart_begins o notices q x is = own_places_apart q (opening_state o) x is notices (subst AllApart (sym (opening_queue o q x is)) tt)
