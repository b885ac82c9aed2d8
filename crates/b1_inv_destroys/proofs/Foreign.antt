-- Notices of other peers' nodes, and dead records, against the record's destructions.
use Rattle.std.proofs.Common.{◌≡◌, refl, sym, ap, subst, ◌∙◌, inl, inr, ℕ, ◌<◌, Bool, true, false, cond, List, [], ◌∷◌, length, Option, Some}
use Rattle.std.specs.Prelude.{⊤}
use Rattle.std.proofs.lemmas.Option.{slice_get_within, get_or_from_slice_get}
use native.Mathlib.Omega.{arith}
use Rattle.b1_model.specs.declared.commands.Command.{Command}
use Rattle.b1_model.specs.declared.commands.Command.TheVariants as cmd
use Rattle.b1_model.specs.declared.naming.Key.{Key}
use Rattle.b1_model.specs.declared.naming.NodeRef.{NodeRef}
use Rattle.b1_model.specs.declared.naming.Opening.{Opening}
use Rattle.b1_model.specs.declared.entries.Entry.{Entry}
use Rattle.b1_model.specs.declared.entries.Entry.TheVariants.{Message, OwnNotice, ForeignNotice, ReleaseNotice}
use Rattle.b1_model.specs.declared.events.Action.{Action}
use Rattle.b1_model.specs.declared.events.Action.TheVariants as act
use Rattle.b1_model.specs.declared.events.OwedDrop.{OwedDrop}
use Rattle.b1_model.specs.declared.events.Phase.{Phase}
use Rattle.b1_model.specs.declared.events.Phase.TheVariants.{Starting, Visiting}
use Rattle.b1_model.specs.declared.parts.NodeState.TheVariants.{Dying, Destroyed}
use Rattle.b1_model.specs.Names.{is_own}
use Rattle.b1_model.specs.MachineParts.{PeerPart, DriverPart, HandleRecord, State, is_staged, is_dying, node_at, no_node}
use Rattle.b1_model.specs.MachineTables.{more_held, next_number, with_made}
use Rattle.b1_model.specs.MachineDriver.{first_action, next_action}
use Rattle.b1_model.specs.MachineEvents.{doomed_of}
use Rattle.b1_model.specs.MachineStep.{Step, opening_state, wire_made, wire_held}
use Rattle.b1_step.specs.Rights.{Has}
use Rattle.b1_inv.specs.Words.{IsPeer}
use Rattle.b1_inv.specs.Notices.{DestructionShape}
use Rattle.b1_inv.specs.Sound.{IsSound}
use Rattle.b1_inv_record.specs.Destructions.{own_ref, doomed_key, DyingIsDoomed, ForeignNoticeRight}
use Rattle.b1_inv_tools.proofs.Leaves.{peer_cases}
use Rattle.b1_inv_tools.proofs.Openings.{opening_each}
use Rattle.b1_inv_sends.proofs.StagesKept.{opening_queue}
use Rattle.b1_inv_notices.proofs.Turns.{opened, parts, going, going_doing, going_action, get_there}
use Rattle.b1_inv_record.specs.Numbers.{DestroysOwn}
use Rattle.b1_inv_destroys.proofs.Stays.{doomed_stays}
use Rattle.b1_inv_destroys.proofs.Keyed.{AllKeyed}
use Rattle.b1_inv_destroys.proofs.Dead.{AllOk, EntryKnown, Spares, event_dead, ok_made}

-- ---- a visit is of a destruction that has no stamp yet

abbrev is_visiting : Phase → Bool
is_visiting (Visiting destruction left) = true
is_visiting phase = false

abbrev VisitPhase : Phase → Action → Type 0
VisitPhase phase (act.Visit peer) = is_visiting phase ≡ true
VisitPhase phase action = ⊤

first_visit : (b : Bool) (command : Command) → VisitPhase Starting (cond b act.Local (first_action command))
first_visit true command = tt
first_visit false cmd.Disconnect = tt
first_visit false command = tt

visit_phase : (d : DriverPart) (command : Command) (phase : Phase) (owed : List OwedDrop) → VisitPhase phase (next_action (opened d command phase owed))
visit_phase d command phase (one ∷ rest) = tt
visit_phase d command Starting [] = first_visit d.shut command
visit_phase d command (Visiting destruction left) [] = refl
visit_phase d command phase [] = tt

-- the doomed nodes of a visiting phase are dying
dying_in : (peers : ℕ) (x : PeerPart) (command : Command) (phase : Phase) → is_visiting phase ≡ true → DestructionShape peers x command phase → (serial : ℕ) → Has (doomed_of phase) serial → (serial < length x.nodes) × ((node_at x serial).state ≡ Dying)
dying_in peers x command (Visiting d left) is shape serial has = shape.1.made serial has
dying_in peers x command phase is shape serial has = absurd (cc is)

-- a node of which the record has the destruction
abbrev pub IsDoomed : Opening → State → NodeRef → Type 0
IsDoomed o s node = (key : Key) × (doomed_key o s node ≡ Some key)

module _ {o : Opening} {s : State} {p : ℕ} {c : Option Command} {t : State} (sound : IsSound o s) (dying : DyingIsDoomed o s) (step : Step o s p c t) where
  own_part : (x : PeerPart) × IsPeer s p x
  own_part =
      let within = slice_get_within s.drivers p step.driver step.is_driver in
      get_there s.peers p (omega (arith, within, sound.numbered.as_many_drivers, sound.numbered.as_many_peers))

  -- a dying node isn't destroyed by the record
  undoomed : (serial : ℕ) (x : PeerPart) → IsPeer s p x → serial < length x.nodes → (node_at x serial).state ≡ Dying → IsDoomed o s (own_ref p serial) → ⊥
  undoomed serial x is low state (key, doomed) =
      let n = get_there x.nodes serial low in
      let destroyed = dying.recorded p serial x n.0 key is n.1 doomed in
      let same : (node_at x serial).state ≡ n.0.state = ap (λ z. z.state) (get_or_from_slice_get x.nodes serial n.0 no_node n.1) in
      let both : Dying ≡ Destroyed key.stamp = sym state ∙ same ∙ destroyed in
      let no : true ≡ false = ap is_dying both in
      absurd (cc no)

  visits_dying : is_visiting (parts step).phase ≡ true → (serial : ℕ) → Has (doomed_of (parts step).phase) serial → IsDoomed o s (own_ref step.driver.me serial) → ⊥
  visits_dying is serial has doomed = elim (parts step).was [
    | inr new ↦ let none : false ≡ true = sym (ap is_visiting new.1) ∙ is in absurd (cc none)
    | inl open_is ↦
        let x = own_part in
        let k = dying_in x.0.peers x.0 (parts step).command (parts step).phase is (sound.notices.shape p step.driver x.0 (going_doing step) step.is_driver x.1 open_is) serial has in
        undoomed serial x.0 x.1 k.0 k.1 (subst (λ q. IsDoomed o s (own_ref q serial)) (sound.numbered.drivers p step.driver step.is_driver) doomed)
  ]

  spares : (action : Action) → VisitPhase (parts step).phase action → Spares (IsDoomed o s) step.driver.me (doomed_of (parts step).phase) action
  spares (act.Visit peer) is = visits_dying is
  spares action is = tt

  module _ (foreign : ForeignNoticeRight o s) (keyed : AllKeyed o s) where
    known : (f : Key × Entry) → Has step.peer.queue f → is_staged f ≡ false → EntryKnown (IsDoomed o s) f.1
    known (k, Message origin user index serial offset len nodes slots handles payload) has even = tt
    known (k, OwnNotice serial index) has even = tt
    known (k, ForeignNotice node index) has even = (k, keyed step.at step.peer (k, ForeignNotice node index) step.is_peer has node refl even)
    known (k, ReleaseNotice serial) has even = tt

    before_ok : (q : ℕ) (x : PeerPart) → IsPeer s q x → AllOk (IsDoomed o s) x.handles
    before_ok q x is h has dead = (foreign.dead q x h is has dead, foreign.apart q x h is has dead)

    here_ok : AllOk (IsDoomed o s) step.new_peer.handles
    here_ok =
        subst (λ y. AllOk (IsDoomed o s) y.handles) (parts step).is_peer
        (event_dead (IsDoomed o s) o step.local.memory (going step) (going_doing step) (going_action step) step.peer
        (spares (going_action step) (visit_phase step.driver (parts step).command (parts step).phase step.driver.owed)) known (before_ok step.at step.peer step.is_peer))

    pub after_ok : (q : ℕ) (y : PeerPart) → IsPeer t q y → AllOk (IsDoomed o s) y.handles
    after_ok q y is = elim (peer_cases step q y is) [
      | inl here ↦ subst (λ z. AllOk (IsDoomed o s) z.handles) (sym here.1) here_ok
      | inr other ↦ before_ok q y other.1
    ]

    pub foreign_kept : DestroysOwn s → AllKeyed o t → ForeignNoticeRight o t
    foreign_kept own after = record {
      queued = λ q i y k node is has even. after q y (k, ForeignNotice node i) is has node refl even;
      dead = λ q y h is has dead. let k = (after_ok q y is h has dead).0 in (k.0, doomed_stays sound own step h.node k.0 k.1);
      apart = λ q y h is has dead. (after_ok q y is h has dead).1;
    }

-- ---- the opening

made_ok : (number : ℕ) (x : PeerPart) → AllOk (λ node. ⊥) x.handles → AllOk (λ node. ⊥) (wire_made number x).handles
made_ok number x all = elim (is_own number) as (λ b. AllOk (λ node. ⊥) (cond b (record x { nodes = with_made x.peers number x.nodes }) x).handles) [ true ↦ all | false ↦ all ]

held_ok : (node : NodeRef) (x : PeerPart) → AllOk (λ n. ⊥) x.handles → AllOk (λ n. ⊥) (wire_held node x).handles
held_ok node x all = ok_made (λ n. ⊥) node (more_held (next_number x.given)) (λ h is ok. ok) (λ is. absurd (cc is)) x.handles all

-- no record is dead when a bus begins
pub none_dead : (o : Opening) (q : ℕ) (x : PeerPart) → IsPeer (opening_state o) q x → (h : HandleRecord) → Has x.handles h → h.dead ≡ true → ⊥
none_dead o q x is h has dead = (opening_each (λ y. AllOk (λ node. ⊥) y.handles) made_ok (λ node dest y all. all) held_ok o (λ me spec g there. absurd there) q x is h has dead).0

pub foreign_begins : (o : Opening) → ForeignNoticeRight o (opening_state o)
foreign_begins o = record {
  queued = λ q i x k node is has even. absurd (subst (λ queue. Has queue (k, ForeignNotice node i)) (opening_queue o q x is) has);
  dead = λ q x h is has dead. absurd (none_dead o q x is h has dead);
  apart = λ q x h is has dead. absurd (none_dead o q x is h has dead);
}
