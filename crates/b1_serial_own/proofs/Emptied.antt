-- The flush of a peer and all that it gives up lead to the serial bus behind its flush.
use Rattle.std.proofs.Common.{◌≡◌, ◌≢◌, ◌⊎◌, refl, sym, ap, ◌∙◌, subst, inl, inr, ℕ, Bool, false, ◌||◌, [], ◌++◌, Option, Some, None}
use Rattle.std.specs.Prelude.{slice_get}
use Rattle.std.proofs.lemmas.Option.{same_Some}
use Rattle.std.proofs.lemmas.Bool.{cases_eq, false_from_ne_true}
use Rattle.b1_model.specs.declared.naming.Key.{Key}
use Rattle.b1_model.specs.declared.naming.NodeRef.{NodeRef}
use Rattle.b1_model.specs.declared.naming.Opening.{Opening}
use Rattle.b1_model.specs.Opening.{IsOpening}
use Rattle.b1_model.specs.declared.entries.Entry.{Entry}
use Rattle.b1_model.specs.declared.entries.Entry.TheVariants.{Message, OwnNotice, ForeignNotice, ReleaseNotice}
use Rattle.b1_model.specs.declared.commands.Command.{Command}
use Rattle.b1_model.specs.declared.answers.Answer.TheVariants as ans
use Rattle.b1_model.specs.declared.events.Action.TheVariants as act
use Rattle.b1_model.specs.declared.events.Doing.{Doing}
use Rattle.b1_model.specs.declared.events.Outcome.TheVariants as out
use Rattle.b1_model.specs.declared.events.Phase.TheVariants.{Reaping, Flushing}
use Rattle.b1_model.specs.MachineParts.{PeerPart, DriverPart, HandleRecord, State, same_ref, is_staged, record_of}
use Rattle.b1_model.specs.MachineReceive.{has_dead}
use Rattle.b1_model.specs.MachineDestroy.{queued_items, held_items, flushed}
use Rattle.b1_model.specs.MachineDriver.{Goes, next_action}
use Rattle.b1_model.specs.MachineTook.{is_disconnect, with_facts, turned}
use Rattle.b1_model.specs.MachineEvents.{limits_after}
use Rattle.b1_model.specs.MachineStep.{Step}
use Rattle.b1_step.specs.Rights.{Has}
use Rattle.b1_step.proofs.Orders.{same_ref_is}
use Rattle.b1_step.proofs.Steps.{reached_more}
use Rattle.b1_step.proofs.Locality.{own_driver, other_driver, at_peer as peer_at, other_peer}
use Rattle.b1_inv.specs.Words.{IsPeer, IsDriver, waits_at, phase_uncommitted}
use Rattle.b1_inv.specs.Sound.{IsSound}
use Rattle.b1_inv_record.specs.Right.{IsRight}
use Rattle.b1_inv_refs.proofs.Views.{or_none}
use Rattle.b1_inv_refs.proofs.GivenUp.{found_has}
use Rattle.b1_inv_tools.proofs.Facts.{next_of}
use Rattle.b1_law.proofs.Reached.{reached_sound}
use Rattle.b1_legal.proofs.Reached.{reached_right}
use Rattle.b1_play_end.specs.Course.{OpenTold}
use Rattle.b1_serial_bus.specs.Parts.{Bus}
use Rattle.b1_serial_bus.specs.Flush.{all_references}
use Rattle.b1_serial_rest.specs.Standing.{part_of}
use Rattle.b1_serial_rest.specs.Rest.{AtRest}
use Rattle.b1_serial_whole.proofs.Told.{reached_told}
use Rattle.b1_serial_whole.proofs.Quiet.{driver_beside}
use Rattle.b1_serial_own.proofs.Moved.{Moved, moved_at, moved_driver, moved_peer}
use Rattle.b1_serial_own.proofs.Amid.{Become, Amid, moved_on}
use Rattle.b1_serial_own.proofs.Drops.{none_dropped}
use Rattle.b1_serial_own.proofs.Flushes.{Giving, all_refs, some_items, goes_then, ends_then, same_then}
use Rattle.b1_serial_own.proofs.Items.{nodes_of, items_refs}

-- ---- the step of the flush

module _ (o : Opening) (s : State) (p : ℕ) (d : DriverPart) (command : Command) (opens : IsOpening o) (stamp : Option ℕ) {u w : State} {g : Become}
    (at : Amid o s p d command u (Flushing stamp) g) (step : Step o u p None w) (x : PeerPart) (is_x : IsPeer u p x) where
  abbrev pub flat : PeerPart
  flat = flushed x (limits_after command x.limits)

  abbrev pub shut_then : Bool
  shut_then = d.shut || is_disconnect command

  abbrev doing : Doing
  doing = record { command = command; phase = Flushing stamp }

  m : Moved o step.driver step.peer command (Flushing stamp) step.at step.new_driver step.new_peer
  m = moved_on o s p d command at step

  driver_is : step.driver ≡ at.driver
  driver_is = same_Some step.driver at.driver (sym step.is_driver ∙ at.is_driver)

  m_me : m.e.me ≡ p
  m_me = m.me ∙ ap (λ z. z.me) driver_is ∙ at.me

  owed_none : m.e.owed ≡ []
  owed_none = m.owed ∙ ap (λ z. z.owed) driver_is ∙ at.paid

  next : next_action m.e ≡ act.Flush
  next = next_of m.e doing m.is_open owed_none

  at_is : step.at ≡ p
  at_is = moved_at m act.Flush next ∙ m_me

  peer_is : step.peer ≡ x
  peer_is = same_Some step.peer x (sym step.is_peer ∙ ap (slice_get u.peers) at_is ∙ is_x)

  new_peer : step.new_peer ≡ flat
  new_peer = moved_peer m act.Flush next ∙ ap (λ z. flushed z (limits_after command z.limits)) peer_is

  new_driver : step.new_driver ≡ turned (with_facts m.e doing (out.Flush (some_items flat.dead))) command (Goes (Reaping (ans.Reset stamp)))
  new_driver = moved_driver m act.Flush next ∙ ap (λ z. turned (with_facts m.e doing (out.Flush (has_dead (flushed z (limits_after command z.limits))))) command (Goes (Reaping (ans.Reset stamp)))) peer_is

  pub flush_begun : Giving o s p d command opens stamp w flat shut_then w [] flat.dead []
  flush_begun =
      let f = with_facts m.e doing (out.Flush (some_items flat.dead)) in
      let calls : f.calls ≡ d.calls = m.calls ∙ ap (λ z. z.calls) driver_is ∙ at.calls in
      let same = same_then o s p d command opens stamp w flat shut_then f [] flat.dead owed_none refl calls step.new_driver new_driver in
      record {
        reached = reached_more o u w p None at.reached step;
        driver = step.new_driver;
        is_driver = own_driver step;
        me = same.0 ∙ m_me;
        shut_is = same.1 ∙ ap (λ b. b || is_disconnect command) (m.shut ∙ ap (λ z. z.shut) driver_is ∙ at.shut);
        others = λ r apart. other_driver step r apart ∙ at.others r apart;
        own = ap (slice_get w.peers) (sym at_is) ∙ peer_at step ∙ ap Some new_peer;
        going = goes_then o s p d command opens stamp w flat shut_then f [] flat.dead owed_none refl calls step.new_driver new_driver;
        over = ends_then o s p d command opens stamp w flat shut_then f [] flat.dead owed_none refl calls step.new_driver new_driver;
        peers = λ q z apart is_z. (z, is_z, none_dropped flat.clock q z);
      }

  pub flush_beside : (q : ℕ) → q ≢ p → slice_get w.peers q ≡ slice_get u.peers q
  flush_beside q apart = other_peer step q (λ e. apart (e ∙ at_is))

-- ---- before the flush

module _ (o : Opening) (s : State) (bus : Bus) (p : ℕ) (d : DriverPart) (command : Command) (opens : IsOpening o) (stamp : Option ℕ) (rest : AtRest o s bus) {u : State} {g : Become}
    (at : Amid o s p d command u (Flushing stamp) g) (x : PeerPart) (is_x : IsPeer u p x) where
  sound : IsSound o u
  sound = reached_sound o u opens at.reached

  right : IsRight o u
  right = reached_right o u opens at.reached

  -- nothing is given up yet
  pub none_dead : x.dead ≡ []
  none_dead = subst (OpenTold at.driver x) at.is_open (reached_told o u opens at.reached p at.driver x at.is_driver is_x)

  -- every driver either rests or flushes
  abbrev Rests : DriverPart → Type 0
  Rests e = (e.doing ≡ None) ⊎ (e.doing ≡ Some (record { command = command; phase = Flushing stamp }))

  each_rests : (r : ℕ) (e : DriverPart) → IsDriver u r e → Rests e
  each_rests r e is_e = elim (cases_eq r p) [
    | inl same ↦ inr (ap (λ z. z.doing) (same_Some e at.driver (sym is_e ∙ ap (slice_get u.drivers) same ∙ at.is_driver)) ∙ at.is_open)
    | inr apart ↦ inl (rest.quiet.idle r e (sym (at.others r apart) ∙ is_e))
  ]

  waits_none : (e : DriverPart) (one : Doing) (index : ℕ) → Rests e → e.doing ≡ Some one → waits_at one.phase index ≡ false
  waits_none e one index (inl none) is_open = absurd (cc (sym none ∙ is_open))
  waits_none e one index (inr flushes) is_open = ap (λ z. waits_at z.phase index) (same_Some one (record { command = command; phase = Flushing stamp }) (sym is_open ∙ flushes))

  uncommitted_none : (e : DriverPart) (q : ℕ) → Rests e → elim e.doing [ None ↦ false | Some one ↦ phase_uncommitted e.me one.phase q ] ≡ false
  uncommitted_none e q (inl none) = ap (λ r. elim r [ None ↦ false | Some one ↦ phase_uncommitted e.me one.phase q ]) none
  uncommitted_none e q (inr flushes) = ap (λ r. elim r [ None ↦ false | Some one ↦ phase_uncommitted e.me one.phase q ]) flushes

  -- a foreign notice's node has an owner
  owner_driver : (k : Key) (node : NodeRef) (index : ℕ) → Has x.queue (k, ForeignNotice node index) → (e : DriverPart) × IsDriver u node.owner e
  owner_driver k node index there = by (record_of node x.handles) refl
    where
      by : (r : Option HandleRecord) → record_of node x.handles ≡ r → (e : DriverPart) × IsDriver u node.owner e
      by None none = absurd (cc (sym (right.parts.marks.marked p index x k node is_x there) ∙ ap (λ r. (or_none node r).notice) none))
      by (Some h) some =
          let found = found_has (λ n. same_ref n.node node) x.handles h some in
          let made = sound.flights.made p x h is_x found.0 in
          let e = driver_beside sound.numbered h.node.owner made.0 made.1 in
          (e.0, ap (λ n. slice_get u.drivers n.owner) (sym (same_ref_is h.node node found.1)) ∙ e.1)

  -- and nothing is staged
  pub none_staged : (f : Key × Entry) → Has x.queue f → is_staged f ≡ false
  none_staged (k, Message origin user index serial offset len nodes slots handles payload) there = false_from_ne_true (is_staged (k, Message origin user index serial offset len nodes slots handles payload)) (λ odd.
      let sender = sound.stages.sender p x (k, Message origin user index serial offset len nodes slots handles payload) is_x there refl odd in
      cc (sym sender.waits ∙ waits_none sender.driver sender.doing k.index (each_rests k.origin sender.driver sender.is_driver) sender.is_open))
  none_staged (k, OwnNotice serial index) there = false_from_ne_true (is_staged (k, OwnNotice serial index)) (λ odd.
      let shape = (sound.notices.queued p x (k, OwnNotice serial index) is_x there).2 at.driver at.is_driver odd in
      cc (sym shape.0 ∙ uncommitted_none at.driver p (each_rests p at.driver at.is_driver)))
  none_staged (k, ForeignNotice node index) there = false_from_ne_true (is_staged (k, ForeignNotice node index)) (λ odd.
      let e = owner_driver k node index there in
      let shape = (sound.notices.queued p x (k, ForeignNotice node index) is_x there).3 e.0 e.1 odd in
      cc (sym shape.0 ∙ uncommitted_none e.0 p (each_rests node.owner e.0 e.1)))
  none_staged (k, ReleaseNotice serial) there = (sound.notices.queued p x (k, ReleaseNotice serial) is_x there).2

  -- what is given up is what the peer of the bus refers to
  pub gives_references : nodes_of (all_refs (flushed x (limits_after command x.limits)).dead) ≡ all_references (part_of x d)
  gives_references =
      ap (λ l. nodes_of (all_refs (queued_items x.queue l ++ held_items x.given x.handles))) none_dead
      ∙ items_refs x.queue x.given x.handles none_staged (sound.rising p x is_x) (sound.numbers.numbered p x is_x)
