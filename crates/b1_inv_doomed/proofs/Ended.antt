-- A destroyed node's own notice was taken, or is queued under the destruction's key, from the commit at its own peer on.
use Rattle.std.proofs.Common.{◌≡◌, ◌≢◌, ◌⊎◌, refl, sym, ap, subst, ◌∙◌, inl, inr, ℕ, ◌<◌, ◌≤◌, ◌==◌, Bool, true, false, ◌&&◌, [], length, Option, Some, None}
use Rattle.std.specs.Prelude.{slice_get}
use Rattle.std.proofs.lemmas.Bool.{and_parts, eq-eqb}
use Rattle.std.proofs.lemmas.Option.{same_Some, slice_get_within, get_or_from_slice_get}
use native.Mathlib.Omega.{arith}
use Rattle.b1_model.specs.declared.commands.Command.{Command}
use Rattle.b1_model.specs.declared.naming.Key.{Key}
use Rattle.b1_model.specs.declared.naming.Opening.{Opening}
use Rattle.b1_model.specs.declared.entries.Entry.TheVariants.{OwnNotice}
use Rattle.b1_model.specs.declared.events.Action.{Action}
use Rattle.b1_model.specs.declared.events.Action.TheVariants as act
use Rattle.b1_model.specs.MachineParts.{PeerPart, DriverPart, NodePart, State, is_staged, no_node, node_at}
use Rattle.b1_model.specs.MachineTables.{is_staged_notice}
use Rattle.b1_model.specs.MachineDriver.{peer_of}
use Rattle.b1_model.specs.MachineEvents.{happens, doomed_of}
use Rattle.b1_model.specs.MachineStep.{Step}
use Rattle.b1_step.specs.Rights.{Has}
use Rattle.b1_step.proofs.Lists.{has_at}
use Rattle.b1_step.proofs.Locality.{step_grows}
use Rattle.b1_inv.specs.Words.{IsPeer, IsDriver, phase_uncommitted, is_uncommitted, is_among}
use Rattle.b1_inv.specs.Notices.{doomed_now}
use Rattle.b1_inv.specs.Sound.{IsSound}
use Rattle.b1_inv_record.specs.Destructions.{own_ref, doomed_key, awaits_commit}
use Rattle.b1_inv_record.specs.Epochs.{first_now, doom_from}
use Rattle.b1_inv_record.specs.Right.{IsRight}
use Rattle.b1_inv_tools.proofs.Leaves.{driver_cases, peer_cases}
use Rattle.b1_inv_notices.proofs.Awaits.{Awaited, Elsewhere, commits_notices, elsewhere, doomed_in, uncommitted_in, waits_turn, waits_took}
use Rattle.b1_inv_notices.proofs.Sets.{among_has, has_among, has_index}
use Rattle.b1_inv_notices.proofs.StampsLaw.{fixed_before}
use Rattle.b1_inv_notices.proofs.Turns.{doing_in, parts, going, going_doing, going_action, going_answer, ActionStamp, action_stamp, get_there}
use Rattle.b1_inv_destroys.proofs.FirstNode.{is_flush_action}
use Rattle.b1_inv_destroys.proofs.Stays.{doomed_stays}
use Rattle.b1_inv_doomed.proofs.Records.{other_dooms, calm_keys}
use Rattle.b1_inv_doomed.proofs.Stamped.{is_open}
use Rattle.b1_inv_doomed.proofs.Dying.{stamps_now, stamping_is, calm_answer, made_before}
use Rattle.b1_inv_doomed.proofs.DyingStamped.{stamped_key_before}
use Rattle.b1_inv_doomed.proofs.NoticeStays.{taken_stays, goes_on, commits}
use Rattle.b1_inv_doomed.proofs.FirstNow.{first_grows, flush_behind}

-- the node's notice was taken, or stands in the queue under the key
abbrev pub HasEnded : PeerPart → NodePart → ℕ → Key → Type 0
HasEnded x n serial key = (n.taken ≡ true) ⊎ Has x.queue (key, OwnNotice serial key.index)

-- ---- an open destruction awaits the commit at its own peer

awaits_is : (d : DriverPart) (q serial : ℕ) → d.me ≡ q → is_uncommitted d q ≡ true → Has (doomed_now d) serial → awaits_commit d serial ≡ true
awaits_is d q serial me waits h = ap (λ b. b && is_among serial (doomed_now d)) (ap (is_uncommitted d) me ∙ waits) ∙ has_among serial (doomed_now d) h

awaits_parts : (d : DriverPart) (q serial : ℕ) → d.me ≡ q → awaits_commit d serial ≡ true → (is_uncommitted d q ≡ true) × Has (doomed_now d) serial
awaits_parts d q serial me is =
    let k = and_parts (is_uncommitted d d.me) (is_among serial (doomed_now d)) is in
    (ap (is_uncommitted d) (sym me) ∙ k.0, among_has serial (doomed_now d) k.1)

-- a notice's key under the stamp is that of its place
under_stamp : (stamp p i : ℕ) (k key : Key) → k.origin ≡ p → k.index ≡ i → record { stamp = stamp; origin = p; index = i } ≡ key → record { stamp = stamp; origin = k.origin; index = k.index } ≡ key
under_stamp stamp p i k key origin index same = ap {A = ℕ} {B = Key} (λ q. record { stamp = stamp; origin = q; index = k.index }) origin ∙ ap {A = ℕ} {B = Key} (λ j. record { stamp = stamp; origin = p; index = j }) index ∙ same

node_taken : (x : PeerPart) (serial : ℕ) (n : NodePart) → slice_get x.nodes serial ≡ Some n → (node_at x serial).taken ≡ n.taken
node_taken x serial n at = ap (λ m. m.taken) (get_or_from_slice_get x.nodes serial n no_node at)

module _ {o : Opening} {s : State} {p : ℕ} {c : Option Command} {t : State} (sound : IsSound o s) (right : IsRight o s) (step : Step o s p c t) where
  me_is : step.driver.me ≡ p
  me_is = sound.numbered.drivers p step.driver step.is_driver

  -- a queued own notice is committed, where its node doesn't await the commit
  is_committed : (q i serial : ℕ) (d : DriverPart) (x : PeerPart) (k : Key) → IsDriver s q d → IsPeer s q x → awaits_commit d serial ≡ false → Has x.queue (k, OwnNotice serial i) → is_staged (k, OwnNotice serial i) ≡ false
  is_committed q i serial d x k is_driver is_peer none has = by (is_staged (k, OwnNotice serial i)) refl
    where
      by : (b : Bool) → is_staged (k, OwnNotice serial i) ≡ b → b ≡ false
      by false is = refl
      by true is =
          let waits = (sound.notices.queued q x (k, OwnNotice serial i) is_peer has).2 d is_driver is in
          let both : true ≡ false = sym (awaits_is d q serial (sound.numbered.drivers q d is_driver) waits.0 (has_at (doomed_now d) i serial waits.1)) ∙ none in
          absurd (cc both)

  -- ---- what has ended goes on so, but for a flush

  carry : (q serial : ℕ) (d : DriverPart) (m n : NodePart) (key : Key) → IsDriver s q d → q ≡ step.at → is_flush_action (going_action step) ≡ false → awaits_commit d serial ≡ false
      → slice_get step.peer.nodes serial ≡ Some m → slice_get step.new_peer.nodes serial ≡ Some n → HasEnded step.peer m serial key → HasEnded step.new_peer n serial key
  carry q serial d m n key is_driver here no_flush none at now (inl taken) =
      inl (sym (node_taken step.new_peer serial n now) ∙ ap (λ z. (node_at z serial).taken) (sym (parts step).is_peer)
      ∙ taken_stays serial o step.local.memory (going step) (going_doing step) (going_action step) step.peer (node_taken step.peer serial m at ∙ taken))
  carry q serial d m n key is_driver here no_flush none at now (inr has) =
      let even = is_committed q key.index serial d step.peer key is_driver (subst (λ r. IsPeer s r step.peer) (sym here) step.is_peer) none has in
      elim (goes_on o step.local.memory (going step) (going_doing step) step.peer key serial key.index even has (going_action step) no_flush (slice_get_within step.peer.nodes serial m at)) [
        | inl taken ↦ inl (sym (node_taken step.new_peer serial n now) ∙ ap (λ z. (node_at z serial).taken) (sym (parts step).is_peer) ∙ taken)
        | inr queued ↦ inr (subst (λ z. Has z.queue (key, OwnNotice serial key.index)) (parts step).is_peer queued)
      ]

  flush_here : (action : Action) → is_flush_action action ≡ true → peer_of step.driver.me action ≡ step.at → step.at ≡ p
  flush_here act.Flush is at = sym at ∙ me_is
  flush_here action is at = absurd (cc is)

  -- ---- another driver's step

  other_ended : (r serial : ℕ) (d : DriverPart) (y : PeerPart) (n : NodePart) (key : Key) → r ≢ p → IsDriver s r d → IsPeer t r y → slice_get y.nodes serial ≡ Some n → first_now o t r ≤ serial
      → doomed_key o t (own_ref r serial) ≡ Some key → awaits_commit d serial ≡ false → HasEnded y n serial key
  other_ended r serial d y n key apart is_driver is_peer at low has none =
      let was = sym (ap (doom_from (own_ref r serial)) (other_dooms sound right.destructions.numbers step r apart)) ∙ has in
      let low_before : first_now o s r ≤ serial = let up = first_grows sound step r in omega (arith, up, low) in
      elim (peer_cases step r y is_peer) [
        | inr other ↦ right.destructions.own.ended r serial d y n key is_driver other.1 at low_before was none
        | inl here ↦
            let there = subst (λ q. IsPeer s q step.peer) (sym here.0) step.is_peer in
            let m = get_there step.peer.nodes serial (made_before sound right step r serial step.peer key there was) in
            let calm = by here.0 (is_flush_action (going_action step)) refl in
            subst (λ z. HasEnded z n serial key) (sym here.1)
            (carry r serial d m.0 n key is_driver here.0 calm none m.1 (subst (λ z. slice_get z.nodes serial ≡ Some n) here.1 at) (right.destructions.own.ended r serial d step.peer m.0 key is_driver there m.1 low_before was none))
      ]
    where
      by : r ≡ step.at → (b : Bool) → is_flush_action (going_action step) ≡ b → is_flush_action (going_action step) ≡ false
      by here true is = absurd (apart (here ∙ flush_here (going_action step) is (parts step).is_at))
      by here false is = is

  -- ---- the own step

  own_part : (x : PeerPart) × IsPeer s p x
  own_part =
      let within = slice_get_within s.drivers p step.driver step.is_driver in
      get_there s.peers p (omega (arith, within, sound.numbered.as_many_drivers, sound.numbered.as_many_peers))

  -- the key is from before, where the node doesn't await the commit
  key_before : (serial : ℕ) (key : Key) → awaits_commit step.driver serial ≡ false → doomed_key o t (own_ref p serial) ≡ Some key → doomed_key o s (own_ref p serial) ≡ Some key
  key_before serial key none has = by (stamps_now (parts step).phase step.driver.owed step.peer.late) refl
    where
      by : (b : Bool) → stamps_now (parts step).phase step.driver.owed step.peer.late ≡ b → doomed_key o s (own_ref p serial) ≡ Some key
      by false calm = sym (calm_keys sound right.destructions.numbers step (calm_answer o step.local.memory step.driver (parts step).command step.peer (parts step).phase step.driver.owed calm) (own_ref p serial)) ∙ has
      by true now =
          let k = stamping_is (parts step).phase step.driver.owed step.peer.late now in
          let opened_now = is_open sound right step k.0 k.1 k.2 k.3 in
          stamped_key_before sound right step k.0 k.1 k.2 k.3 serial key
          (λ h.
          let both : true ≡ false =
          sym (awaits_is step.driver p serial me_is (ap (λ doing. elim doing [ None ↦ false | Some one ↦ phase_uncommitted step.driver.me one.phase p ]) opened_now)
          (subst (λ list. Has list serial) (sym (ap (λ doing. elim doing [ None ↦ [] | Some one ↦ doomed_of one.phase ]) opened_now)) h)) ∙ none in
          absurd (cc both))
          has

  -- a node that awaits the commit does so afterwards, but for that commit
  waits_before : (i serial : ℕ) → slice_get (doomed_now step.driver) i ≡ Some serial → is_uncommitted step.driver p ≡ true → Awaited step.driver.me (Some (doing_in (parts step).command (parts step).phase)) step.driver.me i serial
  waits_before i serial at waits = elim (parts step).was [
    | inl open_is ↦ record {
      waits = ap (λ q. phase_uncommitted step.driver.me (parts step).phase q) me_is ∙ sym (ap (λ doing. uncommitted_in step.driver.me doing p) open_is) ∙ waits;
      dooms = sym (ap (λ doing. slice_get (doomed_in doing) i) open_is) ∙ at;
      there = inl refl;
    }
    | inr new ↦ let both : false ≡ true = sym (ap (λ doing. uncommitted_in step.driver.me doing p) new.0) ∙ waits in absurd (cc both)
  ]

  still_awaits : (i serial : ℕ) → slice_get (doomed_now step.driver) i ≡ Some serial → is_uncommitted step.driver p ≡ true → Elsewhere step.driver.me (parts step).phase (going_answer step) step.driver.me → awaits_commit step.new_driver serial ≡ true
  still_awaits i serial at waits away =
      let after =
      subst (λ e. Awaited step.driver.me e.doing step.driver.me i serial) (parts step).is_driver
      (waits_took (parts step).command step.driver.me step.driver.me i serial step.driver (parts step).phase step.driver.owed (going_answer step) refl
      (waits_turn (parts step).command step.driver.me step.driver.me i serial (parts step).phase (going_answer step) away (waits_before i serial at waits))) in
      let same = (step_grows step).me in
      awaits_is step.new_driver p serial (same ∙ me_is)
      (ap (λ q. is_uncommitted step.new_driver q) (sym me_is) ∙ ap (λ m. uncommitted_in m step.new_driver.doing step.driver.me) same ∙ after.waits)
      (has_at (doomed_now step.new_driver) i serial after.dooms)

  -- ---- the commit at the own peer

  committed_now : (action : Action) (i serial : ℕ) (key : Key) → step.at ≡ p → commits_notices action ≡ true → ActionStamp (parts step).phase step.driver.owed action → slice_get (doomed_now step.driver) i ≡ Some serial → is_uncommitted step.driver p ≡ true
      → doomed_key o t (own_ref p serial) ≡ Some key → Has (happens o step.local.memory (going step) (going_doing step) action step.peer).1.queue (key, OwnNotice serial key.index)
  committed_now (act.CommitNotices peer stamp) i serial key here is stamped at waits has =
      let there = subst (λ q. IsPeer s q step.peer) here step.is_peer in
      let notice = right.destructions.own.staged p i serial step.driver step.peer step.is_driver there at waits in
      let shape = sound.notices.queued p step.peer (notice.0, OwnNotice serial i) there notice.1 in
      let placed = right.destructions.dying.placed p i serial stamp step.driver step.is_driver (fixed_before sound step stamp stamped) at in
      let same : record { stamp = stamp; origin = p; index = i } ≡ key = same_Some _ key (sym (doomed_stays sound right.destructions.numbers step (own_ref p serial) (record { stamp = stamp; origin = p; index = i }) placed) ∙ has) in
      let staged_too : is_staged_notice step.driver.me (notice.0, OwnNotice serial i) ≡ true = ap (λ b. b && (notice.0.origin == step.driver.me)) notice.2 ∙ eq-eqb notice.0.origin step.driver.me (shape.0 ∙ sym me_is) in
      let queued = commits step.peer step.driver.me stamp (notice.0, OwnNotice serial i) notice.1 staged_too in
      let under = under_stamp stamp p i notice.0 key shape.0 shape.1 same in
      subst (λ k. Has (happens o step.local.memory (going step) (going_doing step) (act.CommitNotices peer stamp) step.peer).1.queue (k, OwnNotice serial k.index)) under
      (subst (λ j. Has (happens o step.local.memory (going step) (going_doing step) (act.CommitNotices peer stamp) step.peer).1.queue (record { stamp = stamp; origin = notice.0.origin; index = notice.0.index }, OwnNotice serial j)) (sym shape.1) queued)
  committed_now action i serial key here is stamped at waits has = absurd (cc is)

  own_ended : (serial : ℕ) (y : PeerPart) (n : NodePart) (key : Key) → IsPeer t p y → slice_get y.nodes serial ≡ Some n → first_now o t p ≤ serial
      → doomed_key o t (own_ref p serial) ≡ Some key → awaits_commit step.new_driver serial ≡ false → HasEnded y n serial key
  own_ended serial y n key is_peer at low has none = by (awaits_commit step.driver serial) refl
    where
      low_before : first_now o s p ≤ serial
      low_before = let up = first_grows sound step p in omega (arith, up, low)

      no_flush : step.at ≡ p → serial < length step.peer.nodes → (b : Bool) → is_flush_action (going_action step) ≡ b → is_flush_action (going_action step) ≡ false
      no_flush here within true is = let behind = flush_behind sound step right is step.peer (subst (λ q. IsPeer s q step.peer) here step.is_peer) in absurd (omega (arith, behind, low_before, within))
      no_flush here within false is = is

      contrary : {P : Type 0} → awaits_commit step.new_driver serial ≡ true → P
      contrary is = let both : true ≡ false = sym is ∙ none in absurd (cc both)

      by : (b : Bool) → awaits_commit step.driver serial ≡ b → HasEnded y n serial key
      by false calm =
          let was = key_before serial key calm has in
          elim (peer_cases step p y is_peer) [
            | inr other ↦ right.destructions.own.ended p serial step.driver y n key step.is_driver other.1 at low_before was calm
            | inl here ↦
                let there = subst (λ q. IsPeer s q step.peer) (sym here.0) step.is_peer in
                let within = made_before sound right step p serial step.peer key there was in
                let m = get_there step.peer.nodes serial within in
                subst (λ z. HasEnded z n serial key) (sym here.1)
                (carry p serial step.driver m.0 n key step.is_driver here.0 (no_flush (sym here.0) within (is_flush_action (going_action step)) refl) calm m.1 (subst (λ z. slice_get z.nodes serial ≡ Some n) here.1 at)
                (right.destructions.own.ended p serial step.driver step.peer m.0 key step.is_driver there m.1 low_before was calm))
          ]
      by true awaits =
          let k = awaits_parts step.driver p serial me_is awaits in
          let i = has_index (doomed_now step.driver) serial k.1 in
          elim (peer_cases step p y is_peer) [
            | inr other ↦ contrary (still_awaits i.0 serial i.1 k.0 (elsewhere o step.local.memory step.driver (parts step).command step.peer step.driver.me (parts step).phase step.driver.owed (inl (λ same. other.0 (sym me_is ∙ same ∙ (parts step).is_at)))))
            | inl here ↦ at_commit (sym here.0) here.1 i.0 i.1 k.0 (commits_notices (going_action step)) refl
          ]
        where
          at_commit : step.at ≡ p → y ≡ step.new_peer → (i : ℕ) → slice_get (doomed_now step.driver) i ≡ Some serial → is_uncommitted step.driver p ≡ true → (b : Bool) → commits_notices (going_action step) ≡ b → HasEnded y n serial key
          at_commit here same i place waits false is = contrary (still_awaits i serial place waits (elsewhere o step.local.memory step.driver (parts step).command step.peer step.driver.me (parts step).phase step.driver.owed (inr is)))
          at_commit here same i place waits true is =
              inr (subst (λ z. Has z.queue (key, OwnNotice serial key.index)) ((parts step).is_peer ∙ sym same)
              (committed_now (going_action step) i serial key here is (action_stamp step.driver (parts step).command (parts step).phase step.driver.owed) place waits has))

  pub ended_kept : (r serial : ℕ) (d : DriverPart) (y : PeerPart) (n : NodePart) (key : Key) → IsDriver t r d → IsPeer t r y → slice_get y.nodes serial ≡ Some n → first_now o t r ≤ serial
      → doomed_key o t (own_ref r serial) ≡ Some key → awaits_commit d serial ≡ false → HasEnded y n serial key
  ended_kept r serial d y n key is_driver is_peer at low has none = elim (driver_cases step r d is_driver) [
    | inr other ↦ other_ended r serial d y n key other.0 other.1 is_peer at low has none
    | inl own ↦
        own_ended serial y n key (subst (λ q. IsPeer t q y) own.0 is_peer) at (subst (λ q. first_now o t q ≤ serial) own.0 low) (subst (λ q. doomed_key o t (own_ref q serial) ≡ Some key) own.0 has)
        (ap (λ e. awaits_commit e serial) (sym own.1) ∙ none)
  ]
