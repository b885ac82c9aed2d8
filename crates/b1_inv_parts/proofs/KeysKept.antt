-- The keys of every queue go on ascending in every step: each key that comes is new.
use Rattle.std.proofs.Common.{◌≡◌, ◌≢◌, ◌⊎◌, refl, sym, ap, ◌∙◌, inl, inr, subst, arith, ℕ, suc, ◌+◌, ◌<◌, ◌≤◌, ◌%◌, ◌==◌, max, Bool, true, false, ◌&&◌, if◌then◌else◌, not, List, [], ◌∷◌, get_or, length, Option, Some, None}
use Rattle.std.specs.Prelude.{slice_get, filter}
use Rattle.std.specs.List.{AllPairs}
use Rattle.std.proofs.lemmas.Bool.{eq-eqb, eqb-true, and_parts, not-true}
use Rattle.std.proofs.lemmas.Option.{same_Some, slice_get_within}
use Rattle.b1_model.specs.declared.naming.Key.{Key}
use Rattle.b1_model.specs.declared.naming.NodeRef.{NodeRef}
use Rattle.b1_model.specs.declared.naming.Opening.{Opening}
use Rattle.b1_model.specs.declared.commands.Command.{Command}
use Rattle.b1_model.specs.declared.commands.Command.TheVariants as cmd
use Rattle.b1_model.specs.declared.entries.Entry.{Entry}
use Rattle.b1_model.specs.declared.entries.Entry.TheVariants.{Message, OwnNotice, ForeignNotice, ReleaseNotice}
use Rattle.b1_model.specs.declared.events.Action.{Action}
use Rattle.b1_model.specs.declared.events.Action.TheVariants as act
use Rattle.b1_model.specs.declared.events.Destruction.{Destruction}
use Rattle.b1_model.specs.declared.events.Doing.{Doing}
use Rattle.b1_model.specs.declared.events.OwedDrop.{OwedDrop}
use Rattle.b1_model.specs.declared.events.Phase.{Phase}
use Rattle.b1_model.specs.declared.events.Phase.TheVariants.{Starting, Staging, Unstaging, Attaching, Stamping, Syncing, Committing, Dropping, Reaping, Visiting, Dooming, SyncingNotices, CommittingOwn, CommittingNotices, Flushing}
use Rattle.b1_model.specs.MachineParts.{DriverPart, HandleRecord, State, is_data, is_odd, is_staged, no_origin, node_at, record_of}
use Rattle.b1_model.specs.MachineTables.{count_of, is_stage, is_staged_notice, is_unheld}
use Rattle.b1_model.specs.MachineSend.{find_stage, with_stamp}
use Rattle.b1_model.specs.MachineDestroy.{needs_notice}
use Rattle.b1_model.specs.MachineDriver.{phase_action, peer_of, first_action}
use Rattle.b1_model.specs.MachineEvents.{doomed_of}
use Rattle.b1_model.specs.MachineStep.{Step, opening_state}
use Rattle.b1_step.specs.Rights.{Has}
use Rattle.b1_step.specs.Ordered.{Ascending, NewKey}
use Rattle.b1_step.proofs.Lists.{has_all, has_filter}
use Rattle.b1_step.proofs.Orders.{find_has}
use Rattle.b1_inv.specs.Words.{IsDriver, IsMade, waits_at, phase_uncommitted, is_uncommitted, is_pending, stamp_of_phase, fixed_stamp}
use Rattle.b1_inv.specs.Notices.{DestructionShape, doomed_now}
use Rattle.b1_inv.specs.Stamps.{WasCommitted, IsStampOf, is_committing, is_committing_notices}
use Rattle.b1_inv.specs.Sound.{IsSound}
use Rattle.b1_inv_record.specs.Parts.{KeysAscend}
use Rattle.b1_inv_record.specs.Right.{PartsRight}
use Rattle.b1_inv_tools.proofs.Facts.{next_of, next_owed, even_is}
use Rattle.b1_inv_tools.proofs.Leaves.{Did, step_did}
use Rattle.b1_inv_notices.proofs.Turns.{get_there}
use Rattle.b1_inv_notices.proofs.Sets.{has_at_place}
use Rattle.b1_inv_peer.proofs.NodeEvents.{held_by_some}
use Rattle.b1_inv_peer.proofs.RecordFields.{or_none}
use Rattle.b1_inv_sends.proofs.Once.{stage_parts}
use Rattle.b1_inv_sends.proofs.Places.{accepted_past}
use Rattle.b1_inv_sends.proofs.StagesKept.{opening_queue}
use Rattle.b1_inv_parts.proofs.Steps.{kept_by_step}
use Rattle.b1_inv_parts.proofs.Keys.{BringsNew, PlacesApart, event_ascends, final_key, new_from, staged_key}
use Rattle.b1_inv_parts.proofs.MarksKept.{record_in}
use Rattle.b1_inv_parts.proofs.ReleasesKept.{drop_fits}

-- ---- small facts

odd_behind : (clock : ℕ) → clock % 2 ≡ 0 → is_odd (clock + 1) ≡ true
odd_behind clock even = eq-eqb ((clock + 1) % 2) 1 (omega (arith, even))

-- a SEND that commits is no destruction that hasn't
committing_apart : (me q : ℕ) (phase : Phase) → phase_uncommitted me phase q ≡ true → is_committing phase ≡ true → ⊥
committing_apart me q (Committing sending stamp place) is commits = cc is
committing_apart me q phase is commits = cc commits

-- a marked record needs no notice
abbrev unmarked : Option HandleRecord → Bool
unmarked found = elim found [ None ↦ false | Some h ↦ not h.notice ]

marked_has : (o : Option HandleRecord) (node : NodeRef) → (or_none node o).notice ≡ true → unmarked o ≡ false
marked_has None node notice = absurd (cc notice)
marked_has (Some h) node notice = ap not notice

-- a staged notice of a driver
staged_parts : (origin : ℕ) (f : Key × Entry) → is_staged_notice origin f ≡ true → (is_data f.1 ≡ false) × (is_staged f ≡ true) × (f.0.origin ≡ origin)
staged_parts origin f is =
    let outer = and_parts (not (is_data f.1) && is_staged f) (f.0.origin == origin) is in
    let inner = and_parts (not (is_data f.1)) (is_staged f) outer.0 in
    (not-true (is_data f.1) inner.0, inner.1, eqb-true f.0.origin origin outer.1)

-- of entries at places of their own, two at one place are one
one_place : (queue : List (Key × Entry)) (f g : Key × Entry) → AllPairs (λ a b. a.0.index ≢ b.0.index) queue → Has queue f → Has queue g → f.0.index ≡ g.0.index → f ≡ g
one_place [] f g apart h i same = absurd h
one_place (e ∷ rest) f g apart (inl a) (inl b) same = a ∙ sym b
one_place (e ∷ rest) f g apart (inl a) (inr b) same = absurd (has_all (λ c. e.0.index ≢ c.0.index) rest g (λ j d within. apart 0 (suc j) d (omega arith) (omega (arith, within))) b (ap (λ c. c.0.index) (sym a) ∙ same))
one_place (e ∷ rest) f g apart (inr a) (inl b) same = absurd (has_all (λ c. e.0.index ≢ c.0.index) rest f (λ j d within. apart 0 (suc j) d (omega arith) (omega (arith, within))) a (ap (λ c. c.0.index) (sym b) ∙ sym same))
one_place (e ∷ rest) f g apart (inr a) (inr b) same = one_place rest f g (λ i j d before within. apart (suc i) (suc j) d (omega (arith, before)) (omega (arith, within))) a b same

module _ {o : Opening} {s : State} {p : ℕ} {command : Option Command} {t : State} (sound : IsSound o s) (parts : PartsRight s) (step : Step o s p command t) where
  abbrev k : Did o step.local.memory step.driver command step.peer step.action step.at step.new_driver step.new_peer
  k = step_did step

  me_p : k.e.me ≡ p
  me_p = k.opened.me ∙ sound.numbered.drivers p step.driver step.is_driver

  same_doing : (d : DriverPart) (doing : Doing) → IsDriver s p d → d.doing ≡ Some doing → doing ≡ k.doing
  same_doing d doing is_driver is_open =
      let same : d ≡ step.driver = same_Some d step.driver (sym is_driver ∙ step.is_driver) in
      let now : step.driver.doing ≡ Some doing = sym (ap (λ e. e.doing) same) ∙ is_open in
      elim k.opened.from [ inl before ↦ same_Some doing k.doing (sym now ∙ before) | inr begins ↦ absurd (cc (sym now ∙ begins.0)) ]

  peer_me : step.peer.me ≡ step.at
  peer_me = (sound.numbered.peers step.at step.peer step.is_peer).me

  -- peers have smaller numbers than what stands in place of an origin
  named : (q : ℕ) → q < length s.peers → q ≢ no_origin
  named q few same = absurd (omega (arith, few, same, sound.numbered.as_many_peers, sound.opening.most))

  p_named : p ≢ no_origin
  p_named same =
      let few = slice_get_within s.drivers p step.driver step.is_driver in
      absurd (omega (arith, few, same, sound.numbered.as_many_drivers, sound.opening.most))

  open_is : (k.doing.phase ≡ Starting → ⊥) → step.driver.doing ≡ Some k.doing
  open_is started = elim k.opened.from [ inl same ↦ same | inr begins ↦ absurd (started begins.2) ]

  uncommitted_phase : (q : ℕ) → is_uncommitted step.driver q ≡ true → (phase_uncommitted k.e.me k.doing.phase q ≡ true) × (step.driver.doing ≡ Some k.doing)
  uncommitted_phase q is = elim k.opened.from [
    | inl same ↦ (ap (λ me. phase_uncommitted me k.doing.phase q) k.opened.me ∙ sym (ap (λ doing. elim doing [ None ↦ false | Some one ↦ phase_uncommitted step.driver.me one.phase q ]) same) ∙ is, same)
    | inr begins ↦ absurd (cc (sym (ap (λ doing. elim doing [ None ↦ false | Some one ↦ phase_uncommitted step.driver.me one.phase q ]) begins.0) ∙ is))
  ]

  -- ---- what is staged for the driver at the event's peer

  message_waits : (f : Key × Entry) → Has step.peer.queue f → is_data f.1 ≡ true → is_staged f ≡ true → f.0.origin ≡ p → waits_at k.doing.phase f.0.index ≡ true
  message_waits f has message staged origin =
      let h = sound.stages.sender step.at step.peer f step.is_peer has message staged in
      let same = same_doing h.driver h.doing (subst (λ n. IsDriver s n h.driver) origin h.is_driver) h.is_open in
      ap (λ d. waits_at d.phase f.0.index) (sym same) ∙ h.waits

  -- a notice of an own node, or of a node at another peer
  abbrev NoticeIs : Key × Entry → Type 0
  NoticeIs f = (serial : ℕ) × (slice_get (doomed_of k.doing.phase) f.0.index ≡ Some serial) × (phase_uncommitted k.e.me k.doing.phase step.at ≡ true)
      × (((f ≡ (f.0, OwnNotice serial f.0.index)) × (step.at ≡ p)) ⊎ ((f ≡ (f.0, ForeignNotice (record { owner = p; serial = serial }) f.0.index)) × (step.at ≢ p)))

  doomed_is : step.driver.doing ≡ Some k.doing → (index serial : ℕ) → slice_get (doomed_now step.driver) index ≡ Some serial → slice_get (doomed_of k.doing.phase) index ≡ Some serial
  doomed_is same index serial is = sym (ap (λ doing. slice_get (elim doing [ None ↦ [] | Some one ↦ doomed_of one.phase ]) index) same) ∙ is

  notice_is : (key : Key) (e : Entry) → Has step.peer.queue (key, e) → is_data e ≡ false → is_staged (key, e) ≡ true → key.origin ≡ p → NoticeIs (key, e)
  notice_is key (Message origin user index serial offset len nodes slots handles payload) has notice staged from = absurd (cc notice)
  notice_is key (OwnNotice serial index) has notice staged from =
      let shape = sound.notices.queued step.at step.peer (key, OwnNotice serial index) step.is_peer has in
      let here : step.at ≡ p = sym shape.0 ∙ from in
      let w = shape.2 step.driver (subst (λ n. IsDriver s n step.driver) (sym here) step.is_driver) staged in
      let phase = uncommitted_phase step.at w.0 in
      (serial, doomed_is phase.1 key.index serial (ap (slice_get (doomed_now step.driver)) shape.1 ∙ w.1), phase.0, inl (ap (λ i. (key, OwnNotice serial i)) (sym shape.1), here))
  notice_is key (ForeignNotice node index) has notice staged from =
      let shape = sound.notices.queued step.at step.peer (key, ForeignNotice node index) step.is_peer has in
      let owner : node.owner ≡ p = sym shape.0 ∙ from in
      let w = shape.3 step.driver (subst (λ n. IsDriver s n step.driver) (sym owner) step.is_driver) staged in
      let phase = uncommitted_phase step.at w.0 in
      let node_is : node ≡ record { owner = p; serial = node.serial } = ap (λ n. record { owner = n; serial = node.serial }) owner in (
        node.serial,
        doomed_is phase.1 key.index node.serial (ap (slice_get (doomed_now step.driver)) shape.1 ∙ w.1),
        phase.0,
        inr (ap (λ n. (key, ForeignNotice n index)) node_is ∙ ap (λ i. (key, ForeignNotice (record { owner = p; serial = node.serial }) i)) (sym shape.1), λ same. shape.2 (owner ∙ sym same)),
      )
  notice_is key (ReleaseNotice serial) has notice staged from =
      let shape = sound.notices.queued step.at step.peer (key, ReleaseNotice serial) step.is_peer has in
      absurd (cc (sym shape.2 ∙ staged))

  -- ---- odd keys

  odd_key : (f : Key × Entry) (origin index : ℕ) → f.0 ≡ staged_key step.peer origin index → is_staged f ≡ true
  odd_key f origin index same = ap (λ key. is_odd key.stamp) same ∙ odd_behind step.peer.clock (sound.clocks.clock step.at step.peer step.is_peer).0

  -- where nothing waits at a place and no destruction is open, none is staged under its key
  none_staged : (place : ℕ) → waits_at k.doing.phase place ≡ false → phase_uncommitted k.e.me k.doing.phase step.at ≡ false → NewKey (staged_key step.peer k.e.me place) step.peer.queue
  none_staged place idle calm = new_from (staged_key step.peer k.e.me place) step.peer.queue (λ f has same. none f has same (is_data f.1) refl)
    where
      none : (f : Key × Entry) → Has step.peer.queue f → f.0 ≡ staged_key step.peer k.e.me place → (b : Bool) → is_data f.1 ≡ b → ⊥
      none f has same true message =
          let waits = message_waits f has message (odd_key f k.e.me place same) (ap (λ key. key.origin) same ∙ me_p) in
          cc (sym idle ∙ ap (waits_at k.doing.phase) (sym (ap (λ key. key.index) same)) ∙ waits)
      none f has same false notice =
          let n = notice_is f.0 f.1 has notice (odd_key f k.e.me place same) (ap (λ key. key.origin) same ∙ me_p) in
          cc (sym calm ∙ n.2)

  stage_new : (phase : Phase) (place : ℕ) → k.doing.phase ≡ phase → waits_at phase place ≡ false → ((q : ℕ) → phase_uncommitted k.e.me phase q ≡ false) → NewKey (staged_key step.peer k.e.me place) step.peer.queue
  stage_new phase place is idle calm = none_staged place (ap (λ ph. waits_at ph place) is ∙ idle) (ap (λ ph. phase_uncommitted k.e.me ph step.at) is ∙ calm step.at)

  -- a begin of a destruction
  begin_new : k.doing.phase ≡ Starting → step.at ≡ k.e.me → (index : ℕ) → NewKey (staged_key step.peer step.peer.me index) step.peer.queue
  begin_new is here index = subst (λ n. NewKey (staged_key step.peer n index) step.peer.queue) (sym (peer_me ∙ here)) (stage_new Starting index is refl (λ q. refl))

  -- a visit, which is at another peer
  far : (destruction : Destruction) (left : List ℕ) → k.doing.phase ≡ Visiting destruction left → step.at ≡ get_or left 0 k.e.me → step.at ≢ p
  far destruction left is at here =
      let there = get_there s.peers p (let few = slice_get_within s.drivers p step.driver step.is_driver in omega (arith, few, sound.numbered.as_many_drivers, sound.numbered.as_many_peers)) in
      let shape = sound.notices.shape p step.driver there.0 k.doing step.is_driver there.1 (open_is (λ e. absurd (let both : Starting ≡ Visiting destruction left = sym e ∙ is in cc both))) in
      let visiting = subst (DestructionShape there.0.peers there.0 k.doing.command) is shape in
      (visiting.3.others (get_or left 0 k.e.me) (has_at_place left 0 k.e.me (omega (arith, visiting.2)))).1 (sym at ∙ here ∙ sym (sound.numbered.peers p there.0 there.1).me)

  visit_new : (destruction : Destruction) (left : List ℕ) → k.doing.phase ≡ Visiting destruction left → step.at ≡ get_or left 0 k.e.me
      → (index serial : ℕ) → slice_get (doomed_of k.doing.phase) index ≡ Some serial → needs_notice step.peer (record { owner = k.e.me; serial = serial }) ≡ true → NewKey (staged_key step.peer k.e.me index) step.peer.queue
  visit_new destruction left is at index serial doomed needs = new_from (staged_key step.peer k.e.me index) step.peer.queue (λ f has same. none f has same (is_data f.1) refl)
    where
      other : (f : Key × Entry) → Has step.peer.queue f → f.0 ≡ staged_key step.peer k.e.me index → NoticeIs f → ⊥
      other f has same (mine, at_place, calm, inl own) = far destruction left is at own.1
      other f has same (mine, at_place, calm, inr foreign) =
          let place : f.0.index ≡ index = ap (λ key. key.index) same in
          let serials : mine ≡ serial = same_Some mine serial (sym at_place ∙ ap (slice_get (doomed_of k.doing.phase)) place ∙ doomed) in
          let marked = parts.marks.marked step.at f.0.index step.peer f.0 (record { owner = p; serial = mine }) step.is_peer (subst (Has step.peer.queue) foreign.0 has) in
          let none = marked_has (record_of (record { owner = p; serial = mine }) step.peer.handles) (record { owner = p; serial = mine }) marked in
          let node : ◌≡◌ {A = NodeRef} (record { owner = p; serial = mine }) (record { owner = k.e.me; serial = serial }) = λ i. record { owner = sym me_p i; serial = serials i } in
          let needed : needs_notice step.peer (record { owner = p; serial = mine }) ≡ true = ap (needs_notice step.peer) node ∙ needs in
          cc (sym none ∙ needed)

      none : (f : Key × Entry) → Has step.peer.queue f → f.0 ≡ staged_key step.peer k.e.me index → (b : Bool) → is_data f.1 ≡ b → ⊥
      none f has same true message =
          let waits = message_waits f has message (odd_key f k.e.me index same) (ap (λ key. key.origin) same ∙ me_p) in
          cc (ap (λ ph. waits_at ph f.0.index) (sym is) ∙ waits)
      none f has same false notice = other f has same (notice_is f.0 f.1 has notice (odd_key f k.e.me index same) (ap (λ key. key.origin) same ∙ me_p))

  -- ---- even keys

  -- an entry with the fixed stamp was committed with it
  was_committed : (stamp : ℕ) → stamp_of_phase k.doing.phase ≡ Some stamp → (k.doing.phase ≡ Starting → ⊥) → (f : Key × Entry) → Has step.peer.queue f → f.0.stamp ≡ stamp → f.0.origin ≡ p → WasCommitted step.driver k.doing step.at f
  was_committed stamp fixed started f has stamp_is origin =
      let is_driver = open_is started in
      let known : fixed_stamp step.driver ≡ Some stamp = ap (λ doing. elim doing [ None ↦ None | Some one ↦ stamp_of_phase one.phase ]) is_driver ∙ fixed in
      let even : is_staged f ≡ false = ap is_odd stamp_is ∙ even_is stamp (sound.clocks.stamp p step.driver stamp step.is_driver known).0 in
      let h : IsStampOf s step.at f = sound.stamps.committed step.at step.peer f step.is_peer has even (λ none. p_named (sym origin ∙ none)) in
      let same : h.driver ≡ step.driver = same_Some h.driver step.driver (sym (subst (λ n. IsDriver s n h.driver) origin h.is_driver) ∙ step.is_driver) in
      subst (λ d. WasCommitted d k.doing step.at f) same (h.fixed k.doing (ap (λ d. d.doing) same ∙ is_driver) (ap fixed_stamp same ∙ known ∙ ap Some (sym stamp_is)))

  commit_new : (stamp place : ℕ) → stamp_of_phase k.doing.phase ≡ Some stamp → (k.doing.phase ≡ Starting → ⊥) → is_committing_notices k.doing.phase ≡ false → (g : Key × Entry) → find_stage step.peer k.e.me place ≡ Some g → NewKey (final_key stamp k.e.me place) step.peer.queue
  commit_new stamp place fixed started sends g found = new_from (final_key stamp k.e.me place) step.peer.queue (λ f has same. none f same (was_committed stamp fixed started f has (ap (λ key. key.stamp) same) (ap (λ key. key.origin) same ∙ me_p)))
    where
      waits : waits_at k.doing.phase place ≡ true
      waits =
          let there = find_has (is_stage k.e.me place) step.peer.queue g found in
          let parts = stage_parts k.e.me place g there.1 in
          ap (waits_at k.doing.phase) (sym parts.index_is) ∙ message_waits g there.0 parts.message parts.staged (parts.origin_is ∙ me_p)

      none : (f : Key × Entry) → f.0 ≡ final_key stamp k.e.me place → WasCommitted step.driver k.doing step.at f → ⊥
      none f same (inl (message, commits, done)) =
          let pending : is_pending step.driver f.0.index ≡ true = ap (λ doing. elim doing [ None ↦ false | Some one ↦ waits_at one.phase f.0.index ]) (open_is started) ∙ ap (λ key. waits_at k.doing.phase key.index) same ∙ waits in
          cc (sym done ∙ pending)
      none f same (inr (notice, commits, done)) = cc (sym sends ∙ commits)

  notices_new : (stamp : ℕ) → stamp_of_phase k.doing.phase ≡ Some stamp → (k.doing.phase ≡ Starting → ⊥) → (f : Key × Entry) → Has step.peer.queue f → is_staged_notice k.e.me f ≡ true → NewKey (with_stamp stamp f).0 step.peer.queue
  notices_new stamp fixed started f has passes = new_from (with_stamp stamp f).0 step.peer.queue (λ g there same. none g (was_committed stamp fixed started g there (ap (λ key. key.stamp) same) (ap (λ key. key.origin) same ∙ origin)))
    where
      origin : f.0.origin ≡ p
      origin = (staged_parts k.e.me f passes).2 ∙ me_p

      uncommitted : phase_uncommitted k.e.me k.doing.phase step.at ≡ true
      uncommitted = let parts = staged_parts k.e.me f passes in (notice_is f.0 f.1 has parts.0 parts.1 origin).2

      none : (g : Key × Entry) → WasCommitted step.driver k.doing step.at g → ⊥
      none g (inl (message, commits, done)) = committing_apart k.e.me step.at k.doing.phase uncommitted commits
      none g (inr (notice, commits, done)) =
          let waits : is_uncommitted step.driver step.at ≡ true = ap (λ doing. elim doing [ None ↦ false | Some one ↦ phase_uncommitted step.driver.me one.phase step.at ]) (open_is started) ∙ ap (λ me. phase_uncommitted me k.doing.phase step.at) (sym k.opened.me) ∙ uncommitted in
          cc (sym done ∙ waits)

  -- in the own queue each has a place of its own
  own_apart : step.at ≡ p → (f g : Key × Entry) → Has step.peer.queue f → Has step.peer.queue g → is_staged_notice k.e.me f ≡ true → is_staged_notice k.e.me g ≡ true → f.0.index ≡ g.0.index → f.0 ≡ g.0
  own_apart here f g has also passes too place =
      let at : step.at ≡ k.e.me = here ∙ sym me_p in
      let inside : (e : Key × Entry) → Has step.peer.queue e → is_staged_notice k.e.me e ≡ true → Has (filter (is_staged_notice step.at) step.peer.queue) e = λ e there is. has_filter (is_staged_notice step.at) step.peer.queue e there (ap (λ q. is_staged_notice q e) at ∙ is) in
      ap (λ e. e.0) (one_place (filter (is_staged_notice step.at) step.peer.queue) f g (sound.apart step.at step.peer step.is_peer) (inside f has passes) (inside g also too) place)

  notices_apart : (stamp : ℕ) → PlacesApart (is_staged_notice k.e.me) stamp step.peer.queue
  notices_apart stamp f g has also passes too place =
      let a = staged_parts k.e.me f passes in
      let b = staged_parts k.e.me g too in
      two (notice_is f.0 f.1 has a.0 a.1 (a.2 ∙ me_p)) (notice_is g.0 g.1 also b.0 b.1 (b.2 ∙ me_p))
    where
      serials : (m n : ℕ) → slice_get (doomed_of k.doing.phase) f.0.index ≡ Some m → slice_get (doomed_of k.doing.phase) g.0.index ≡ Some n → n ≡ m
      serials m n is other = same_Some n m (sym other ∙ ap (slice_get (doomed_of k.doing.phase)) (sym place) ∙ is)

      two : NoticeIs f → NoticeIs g → f.0 ≡ g.0
      two (m, is, calm, inl own) (n, other, still, inl mine) = own_apart own.1 f g has also passes too place
      two (m, is, calm, inl own) (n, other, still, inr foreign) = absurd (foreign.1 own.1)
      two (m, is, calm, inr foreign) (n, other, still, inl own) = absurd (foreign.1 own.1)
      two (m, is, calm, inr foreign) (n, other, still, inr another) =
          parts.marks.once step.at f.0.index g.0.index step.peer f.0 g.0 (record { owner = p; serial = m }) step.is_peer (subst (Has step.peer.queue) foreign.0 has)
          (subst (λ r. Has step.peer.queue (g.0, ForeignNotice (record { owner = p; serial = r }) g.0.index)) (serials m n is other) (subst (Has step.peer.queue) another.0 also))

  -- ---- a drop

  -- the owner of a node whose notice is queued is a peer
  owner_named : (key : Key) (node : NodeRef) (index : ℕ) → Has step.peer.queue (key, ForeignNotice node index) → node.owner ≢ no_origin
  owner_named key node index has = at (record_of node step.peer.handles) refl (parts.marks.marked step.at index step.peer key node step.is_peer has)
    where
      at : (r : Option HandleRecord) → record_of node step.peer.handles ≡ r → (or_none node r).notice ≡ true → node.owner ≢ no_origin
      at None found notice = absurd (cc notice)
      at (Some h) found notice =
          let there = record_in node step.peer.handles h found in
          let made : IsMade s node = subst (IsMade s) there.1 (sound.flights.made step.at step.peer h step.is_peer there.0) in
          named node.owner (slice_get_within s.peers node.owner made.0 made.1)

  drop_new : (serial holder stamp : ℕ) → 1 ≤ count_of (node_at step.peer serial) holder → NewKey (final_key stamp no_origin serial) step.peer.queue
  drop_new serial holder stamp some = new_from (final_key stamp no_origin serial) step.peer.queue (λ f has same. none f.0 f.1 has same)
    where
      none : (key : Key) (e : Entry) → Has step.peer.queue (key, e) → key ≡ final_key stamp no_origin serial → ⊥
      none key (Message origin user index dest offset len nodes slots handles payload) has same =
          let shape = sound.notices.queued step.at step.peer (key, Message origin user index dest offset len nodes slots handles payload) step.is_peer has in
          shape.2 (sym shape.0 ∙ ap (λ n. n.origin) same)
      none key (OwnNotice doomed index) has same =
          let shape = sound.notices.queued step.at step.peer (key, OwnNotice doomed index) step.is_peer has in
          named step.at (slice_get_within s.peers step.at step.peer step.is_peer) (sym shape.0 ∙ ap (λ n. n.origin) same)
      none key (ForeignNotice node index) has same =
          let shape = sound.notices.queued step.at step.peer (key, ForeignNotice node index) step.is_peer has in
          owner_named key node index has (sym shape.0 ∙ ap (λ n. n.origin) same)
      none key (ReleaseNotice mine) has same =
          let shape = sound.notices.queued step.at step.peer (key, ReleaseNotice mine) step.is_peer has in
          let serial_is : mine ≡ serial = sym shape.1 ∙ ap (λ n. n.index) same in
          let unheld : is_unheld (node_at step.peer serial) ≡ true = subst (λ r. is_unheld (node_at step.peer r) ≡ true) serial_is (parts.releases.unheld step.at mine step.peer key step.is_peer has) in
          cc (sym unheld ∙ held_by_some (node_at step.peer serial) holder some)

  -- ---- the event that was next

  abbrev New : Action → Type 0
  New = BringsNew k.e k.doing step.peer

  first_new : (c : Command) → k.doing.phase ≡ Starting → step.at ≡ peer_of k.e.me (first_action c) → New (first_action c)
  first_new cmd.Disconnect starts here = begin_new starts here
  first_new (cmd.Reset limits) starts here = begin_new starts here
  first_new (cmd.Destroy numbers) starts here = begin_new starts here
  first_new cmd.Query starts here = tt
  first_new (cmd.Limit limits) starts here = tt
  first_new (cmd.Release number) starts here = tt
  first_new (cmd.SliceRelease offset) starts here = tt
  first_new (cmd.Send c) starts here = tt
  first_new cmd.Recv starts here = tt
  first_new cmd.Await starts here = tt

  start_new : (shut : Bool) (c : Command) → k.doing.phase ≡ Starting → step.at ≡ peer_of k.e.me (if shut then act.Local else first_action c) → New (if shut then act.Local else first_action c)
  start_new true c starts here = tt
  start_new false c starts here = first_new c starts here

  phase_new : (phase : Phase) → k.doing.phase ≡ phase → step.at ≡ peer_of k.e.me (phase_action k.e.me k.e.shut k.doing.command phase) → New (phase_action k.e.me k.e.shut k.doing.command phase)
  phase_new Starting is here = start_new k.e.shut k.doing.command is here
  phase_new (Staging begun places collected) is here = stage_new (Staging begun places collected) (length places) is (accepted_past places (length places) (omega arith)) (λ q. refl)
  phase_new (Committing sending stamp place) is here = λ g found. commit_new stamp place (ap stamp_of_phase is) (λ e. absurd (let both : Starting ≡ Committing sending stamp place = sym e ∙ is in cc both)) (ap is_committing_notices is) g found
  phase_new (CommittingOwn d stamp) is here = (notices_apart stamp, notices_new stamp (ap stamp_of_phase is) (λ e. absurd (let both : Starting ≡ CommittingOwn d stamp = sym e ∙ is in cc both)))
  phase_new (CommittingNotices d stamp place) is here = (notices_apart stamp, notices_new stamp (ap stamp_of_phase is) (λ e. absurd (let both : Starting ≡ CommittingNotices d stamp place = sym e ∙ is in cc both)))
  phase_new (Visiting d left) is here = visit_new d left is here
  phase_new (Unstaging begun places refused place) is here = tt
  phase_new (Attaching sending place handle) is here = tt
  phase_new (Stamping sending) is here = tt
  phase_new (Syncing sending stamp place) is here = tt
  phase_new Dropping is here = tt
  phase_new (Reaping got) is here = tt
  phase_new (Dooming d) is here = tt
  phase_new (SyncingNotices d stamp place) is here = tt
  phase_new (Flushing stamp) is here = tt

  next_new : (owed : List OwedDrop) → k.e.owed ≡ owed → New step.action
  next_new [] none =
      let at = k.is_action ∙ next_of k.e k.doing k.opened.is_open none in
      subst New (sym at) (phase_new k.doing.phase refl (k.is_at ∙ ap (peer_of k.e.me) at))
  next_new (one ∷ rest) owes =
      let at = k.is_action ∙ next_owed k.e k.doing one rest k.opened.is_open owes in
      subst New (sym at) (drop_new one.node.serial one.holder (max step.peer.clock one.clock) (drop_fits sound step one rest owes (k.is_at ∙ ap (peer_of k.e.me) at)))

  pub keys_kept : KeysAscend t
  keys_kept = record {
    ascending = kept_by_step step (λ x. Ascending x.queue) parts.keys.ascending (λ up. event_ascends o step.local.memory k.e k.doing step.peer up step.action (next_new k.e.owed refl));
  }

pub keys_begin : (o : Opening) → KeysAscend (opening_state o)
keys_begin o = record { ascending = λ q x is. subst Ascending (sym (opening_queue o q x is)) tt }
