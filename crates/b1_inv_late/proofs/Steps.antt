-- What a step makes of its driver's command before and after the stamp, and of what it takes.
use Rattle.std.proofs.Common.{◌≡◌, ◌≢◌, ◌⊎◌, refl, sym, ap, subst, ◌∙◌, inl, inr, ℕ, ◌+◌, ◌≤◌, Bool, true, false, List, Option, Some, None}
use Rattle.std.proofs.lemmas.Option.{same_Some}
use native.Mathlib.Omega.{arith}
use Rattle.b1_model.specs.declared.commands.Command.{Command}
use Rattle.b1_model.specs.declared.naming.Key.{Key}
use Rattle.b1_model.specs.declared.naming.Opening.{Opening}
use Rattle.b1_model.specs.declared.entries.Entry.{Entry}
use Rattle.b1_model.specs.declared.events.Doing.{Doing}
use Rattle.b1_model.specs.declared.events.Outcome.{Outcome}
use Rattle.b1_model.specs.declared.events.OwedDrop.{OwedDrop}
use Rattle.b1_model.specs.declared.events.Phase.{Phase}
use Rattle.b1_model.specs.declared.events.Phase.TheVariants.{Starting, Staging, Syncing, Committing, SyncingNotices, CommittingOwn, CommittingNotices}
use Rattle.b1_model.specs.MachineParts.{PeerPart, DriverPart, State, no_origin}
use Rattle.b1_model.specs.MachineDriver.{Turn, Goes, Ends, turn, next_action, peer_of}
use Rattle.b1_model.specs.MachineTook.{took}
use Rattle.b1_model.specs.MachineEvents.{collected_of}
use Rattle.b1_model.specs.MachineStep.{Step}
use Rattle.b1_model.specs.MachineOrder.{event_of, is_begin, is_staging, stamp_given, key_taken}
use Rattle.b1_inv.specs.Sends.{SendShape}
use Rattle.b1_inv.specs.Stamps.{is_committing, is_committing_notices, WasCommitted, IsStampOf}
use Rattle.b1_inv.specs.Sound.{IsSound}
use Rattle.b1_inv.specs.Words.{IsPeer, IsDriver, stamp_of_phase}
use Rattle.b1_inv_record.specs.Clocks.{Synced}
use Rattle.b1_inv_notices.proofs.Turns.{doing_in, opened, OnTurn, took_leaves}
use Rattle.b1_inv_late.specs.Parties.{is_early, Reaches, is_syncing}
use Rattle.b1_inv_late.proofs.Turns.{StagedAt, Early, turn_early}
use Rattle.b1_inv_late.proofs.Seen.{seen, told}
use Rattle.b1_inv_late.proofs.Tells.{HasPlace, staged_at, stamps}
use Rattle.b1_inv_late.proofs.Takes.{takes}
use Rattle.b1_inv_late.proofs.Goes.{OpenAt, gives, still_open}

-- ---- before the stamp

module _ (me peer clock : ℕ) (command : Command) (before : Phase) (outcome : Outcome) where
  -- what is open afterwards comes from what was open before, where it has no stamp yet
  abbrev pub EarlyIn : Option Doing → Type 0
  EarlyIn doing = (one : Doing) → doing ≡ Some one → Early me peer clock command before outcome (Goes one.phase)

  early_turn : (t : Turn) → Early me peer clock command before outcome t → OnTurn command EarlyIn t
  early_turn (Goes phase) h = λ one is. let same : doing_in command phase ≡ one = cc is in subst {A = Doing} (λ z. Early me peer clock command before outcome (Goes z.phase)) same h
  early_turn (Ends got) h = λ one is. absurd (cc is)

early_took : (d : DriverPart) (command : Command) (phase : Phase) (owed : List OwedDrop) (outcome : Outcome) (peer clock : ℕ) → is_begin outcome ≡ false → StagedAt d.me peer clock phase outcome → EarlyIn d.me peer clock command phase outcome (took (opened d command phase owed) outcome).doing
early_took d command phase owed outcome peer clock none staged =
    took_leaves (EarlyIn d.me peer clock command phase outcome) command (λ after may h one is. absurd (cc is)) d phase owed outcome
    (early_turn d.me peer clock command phase outcome (turn d.me command phase outcome) (turn_early d.me peer clock command phase outcome none staged))

-- ---- a phase that commits

committing_is : (phase : Phase) → is_committing phase ≡ true → is_syncing phase ≡ false
committing_is (Committing sending stamp place) is = refl
committing_is phase is = absurd (cc is)

notices_committing_is : (phase : Phase) → is_committing_notices phase ≡ true → is_syncing phase ≡ false
notices_committing_is (CommittingNotices destruction stamp at) is = refl
notices_committing_is phase is = absurd (cc is)

-- it has brought up the clock of each peer that it has reached
pub settled : {s : State} → Synced s → (r stamp y : ℕ) (d : DriverPart) (command : Command) (phase : Phase) → IsDriver s r d → d.doing ≡ Some (doing_in command phase) → stamp_of_phase phase ≡ Some stamp → Reaches phase y → is_syncing phase ≡ false
    → (z : PeerPart) → IsPeer s y z → stamp ≤ z.clock
settled {s} synced r stamp y d command (Committing sending fixed place) is_driver is same reached past z is_peer =
    synced.recipients r reached.0 stamp d (doing_in command (Committing sending fixed place)) reached.1 z is_driver is same reached.2 reached.3 (subst (λ q. IsPeer s q z) (sym reached.4) is_peer)
settled synced r stamp y d command (CommittingOwn destruction fixed) is_driver is same reached past z is_peer = synced.holders r y stamp d (doing_in command (CommittingOwn destruction fixed)) z is_driver is same reached is_peer
settled synced r stamp y d command (CommittingNotices destruction fixed at) is_driver is same reached past z is_peer = synced.holders r y stamp d (doing_in command (CommittingNotices destruction fixed at)) z is_driver is same reached is_peer
settled synced r stamp y d command (Syncing sending fixed place) is_driver is same reached past z is_peer = absurd (cc past)
settled synced r stamp y d command (SyncingNotices destruction fixed at) is_driver is same reached past z is_peer = absurd (cc past)
settled synced r stamp y d command phase is_driver is same reached past z is_peer = absurd (cc same)

-- ---- a step

module _ {o : Opening} {s : State} {p : ℕ} {c : Option Command} {t : State} (sound : IsSound o s) (step : Step o s p c t) where
  me_is : step.driver.me ≡ p
  me_is = sound.numbered.drivers p step.driver step.is_driver

  was_open : is_early (seen step).phase ≡ true → step.driver.doing ≡ Some (doing_in (seen step).command (seen step).phase)
  was_open early = elim (seen step).was [
    | inl is ↦ is
    | inr begins ↦ let none : true ≡ false = sym early ∙ ap is_early begins.1 in absurd (cc none)
  ]

  has_place : HasPlace (seen step).phase
  has_place begun places collected same = elim (seen step).was [
    | inl is ↦ (subst (SendShape s (seen step).command) same (sound.sends.shape p step.driver (doing_in (seen step).command (seen step).phase) step.is_driver is)).1
    | inr begins ↦ let both : Starting ≡ Staging begun places collected = sym begins.1 ∙ same in absurd (cc both)
  ]

  -- what was open before a command that has no stamp afterwards
  pub record Earlier (doing : Doing) : Type 0 where
    pub was : step.driver.doing ≡ Some (doing_in (seen step).command (seen step).phase)
    pub early : is_early (seen step).phase ≡ true
    pub collects : collected_of (seen step).phase ≤ collected_of doing.phase
    pub reached : (y : ℕ) → Reaches (seen step).phase y → Reaches doing.phase y
    pub staged : is_staging (event_of step).outcome ≡ true → (step.peer.clock ≤ collected_of doing.phase) × Reaches doing.phase step.at

  pub earlier : is_begin (event_of step).outcome ≡ false → (doing : Doing) → step.new_driver.doing ≡ Some doing → is_early doing.phase ≡ true → Earlier doing
  earlier none doing is early =
      let k = seen step in
      let peer = peer_of step.driver.me (next_action (opened step.driver k.command k.phase step.driver.owed)) in
      let h = early_took step.driver k.command k.phase step.driver.owed (told step) peer step.peer.clock (ap is_begin (sym k.tells) ∙ none)
      (staged_at o step.local.memory step.driver k.command step.peer k.phase step.driver.owed has_place) doing (ap (λ e. e.doing) k.is_driver ∙ is) early in
      record {
        was = was_open h.0;
        early = h.0;
        collects = h.1;
        reached = h.2;
        staged = λ staging. let j = h.3 (ap is_staging (sym k.tells) ∙ staging) in (j.0, subst (Reaches doing.phase) k.is_at j.1);
      }

  -- a step that gives a stamp
  pub record Stamped (stamp : ℕ) : Type 0 where
    pub was : step.driver.doing ≡ Some (doing_in (seen step).command (seen step).phase)
    pub early : is_early (seen step).phase ≡ true
    pub at : step.at ≡ p
    pub clock : step.peer.clock + 2 ≤ stamp
    pub above : collected_of (seen step).phase + 2 ≤ stamp
    pub high : stamp ≤ step.new_peer.clock
    pub goes : (y : ℕ) → Reaches (seen step).phase y → OpenAt stamp y step.new_driver.doing

  pub stamped : (stamp : ℕ) → stamp_given (event_of step).outcome ≡ Some stamp → Stamped stamp
  stamped stamp is =
      let k = seen step in
      let h = gives o step.local.memory step.driver k.command step.peer k.phase step.driver.owed stamp (stamps o step.local.memory step.driver k.command step.peer k.phase step.driver.owed stamp (ap stamp_given (sym k.tells) ∙ is)) in
      record {
        was = was_open h.early;
        early = h.early;
        at = sym k.is_at ∙ h.own ∙ me_is;
        clock = h.clock;
        above = h.above;
        high = let high = h.high in let clock = ap (λ z. z.clock) k.is_peer in omega (arith, high, clock);
        goes = λ y reached. subst (λ e. OpenAt stamp y e.doing) k.is_driver (h.goes y reached);
      }

  -- a command with its stamp has brought the clock of a peer up that it has reached, or is open afterwards
  pub goes_on : Synced s → (stamp y : ℕ) → OpenAt stamp y step.driver.doing → ((z : PeerPart) → IsPeer s y z → stamp ≤ z.clock) ⊎ OpenAt stamp y step.new_driver.doing
  goes_on synced stamp y (one, is, fixed, reached) = by (is_syncing one.phase) refl
    where
      by : (b : Bool) → is_syncing one.phase ≡ b → ((z : PeerPart) → IsPeer s y z → stamp ≤ z.clock) ⊎ OpenAt stamp y step.new_driver.doing
      by false past = inl (settled synced p stamp y step.driver one.command one.phase step.is_driver is fixed reached past)
      by true syncs = elim (seen step).was [
        | inl was ↦
            let k = seen step in
            let same : one ≡ doing_in k.command k.phase = same_Some one (doing_in k.command k.phase) (sym is ∙ was) in
            inr (subst (λ e. OpenAt stamp y e.doing) k.is_driver (still_open o step.local.memory step.driver k.command step.peer k.phase step.driver.owed stamp y (ap (λ z. is_syncing z.phase) (sym same) ∙ syncs) (ap (λ z. stamp_of_phase z.phase) (sym same) ∙ fixed)
            (subst {A = Doing} (λ z. Reaches z.phase y) same reached)))
        | inr begins ↦ let none : Some one ≡ None = sym is ∙ begins.0 in absurd (cc none)
      ]

  -- what a step took has a stamp of its origin's, which is in a phase that commits, if it has that stamp still
  pub record Taken (key : Key) : Type 0 where
    pub own : PeerPart
    pub is_own : IsPeer s key.origin own
    pub below : key.stamp ≤ own.clock
    pub commits : (d : DriverPart) (one : Doing) → IsDriver s key.origin d → d.doing ≡ Some one → stamp_of_phase one.phase ≡ Some key.stamp → is_syncing one.phase ≡ false

  committed : (d : DriverPart) (one : Doing) (q : ℕ) (f : Key × Entry) → WasCommitted d one q f → is_syncing one.phase ≡ false
  committed d one q f (inl sends) = committing_is one.phase sends.1
  committed d one q f (inr notices) = notices_committing_is one.phase notices.1

  taken_of : (f : Key × Entry) → IsStampOf s step.at f → Taken f.0
  taken_of f h = record {
    own = h.own;
    is_own = h.is_own;
    below = h.below;
    commits = λ d one is_driver is fixed.
        let same : d ≡ h.driver = same_Some d h.driver (sym is_driver ∙ h.is_driver) in
        let is_open : h.driver.doing ≡ Some one = ap (λ e. e.doing) (sym same) ∙ is in
        committed h.driver one step.at f (h.fixed one is_open (ap (λ doing. elim doing [ None ↦ None | Some two ↦ stamp_of_phase two.phase ]) is_open ∙ fixed));
  }

  pub taken : (key : Key) → key.origin ≢ no_origin → key_taken (event_of step).outcome ≡ Some key → Taken key
  taken key named is =
      let k = seen step in
      let f = takes o step.local.memory step.driver k.command step.peer key (sound.rising step.at step.peer step.is_peer) k.phase step.driver.owed (ap key_taken (sym k.tells) ∙ is) in
      subst Taken f.3 (taken_of f.0 (sound.stamps.committed step.at step.peer f.0 step.is_peer f.1 f.2 (λ none. named (ap (λ z. z.origin) (sym f.3) ∙ none))))
