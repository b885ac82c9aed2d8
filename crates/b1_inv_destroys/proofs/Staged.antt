-- A doomed node's own notice is staged at its place until the commit at its own peer.
use Rattle.std.proofs.Common.{◌≡◌, ◌⊎◌, refl, sym, ap, subst, inl, inr, ℕ, zero, suc, ◌+◌, Bool, true, false, cond, ◌&&◌, nat_lt, List, [], ◌∷◌, ◌++◌, drop, get_or, length, Option, Some, None, Ok, Err}
use Rattle.std.specs.Prelude.{slice_get, ⊤}
use native.Mathlib.Omega.{arith}
use Rattle.b1_model.specs.declared.commands.Command.{Command}
use Rattle.b1_model.specs.declared.naming.Key.{Key}
use Rattle.b1_model.specs.declared.naming.Opening.{Opening}
use Rattle.b1_model.specs.declared.answers.Answer.TheVariants as answer
use Rattle.b1_model.specs.declared.answers.Reason.{Reason}
use Rattle.b1_model.specs.declared.answers.Refused.{Refused}
use Rattle.b1_model.specs.declared.entries.Entry.{Entry}
use Rattle.b1_model.specs.declared.entries.Entry.TheVariants.{OwnNotice}
use Rattle.b1_model.specs.declared.parts.Begun.{Begun}
use Rattle.b1_model.specs.declared.events.Action.TheVariants as act
use Rattle.b1_model.specs.declared.events.Destruction.{Destruction}
use Rattle.b1_model.specs.declared.events.Doing.{Doing}
use Rattle.b1_model.specs.declared.events.OwedDrop.{OwedDrop}
use Rattle.b1_model.specs.declared.events.Outcome.{Outcome}
use Rattle.b1_model.specs.declared.events.Outcome.TheVariants as out
use Rattle.b1_model.specs.declared.events.Phase.{Phase}
use Rattle.b1_model.specs.declared.events.Phase.TheVariants.{Starting, Staging, Unstaging, Attaching, Stamping, Syncing, Committing, Visiting, Dooming, SyncingNotices, CommittingOwn, CommittingNotices, Flushing}
use Rattle.b1_model.specs.declared.events.Sending.{Sending}
use Rattle.b1_model.specs.MachineParts.{PeerPart, DriverPart, is_release_notice}
use Rattle.b1_model.specs.MachineTables.{without}
use Rattle.b1_model.specs.MachineReceive.{with_release_notice, is_released, dropped_refs}
use Rattle.b1_model.specs.MachineDestroy.{with_own_notices, needs_notice, notice_by, visited_from}
use Rattle.b1_model.specs.MachineDriver.{accepted_from, is_place, attaching, with_slot, all_staged, staging, all_refused, unstaging, syncing, visiting, with_visit, syncing_notices, committing_notices, destroying, is_flushing, send_of, started, turn, Turn, Goes, Ends}
use Rattle.b1_model.specs.MachineEvents.{doomed_of}
use Rattle.b1_step.specs.Rights.{Has}
use Rattle.b1_step.proofs.Changed.{changes}
use Rattle.b1_step.proofs.Queues.{has_put_new, has_put_old, has_without}
use Rattle.b1_inv.specs.Words.{phase_uncommitted, staged_peers}
use Rattle.b1_inv_notices.proofs.Sets.{among_has, drop_has}
use Rattle.b1_inv_notices.proofs.Turns.{doing_in, opened, answered, OnTurn, may_end}

abbrev Queue : Type 0
Queue = List (Key × Entry)

-- ---- queues

pub own_stays : (x : PeerPart) (here : ℕ) (serials : List ℕ) (queue : Queue) (k : Key) (serial i : ℕ) → Has queue (k, OwnNotice serial i) → Has (with_own_notices x here serials queue) (k, OwnNotice serial i)
own_stays x here [] queue k serial i has = has
own_stays x here (one ∷ rest) queue k serial i has =
    own_stays x (here + 1) rest _ k serial i
    (has_put_old (record { stamp = x.clock + 1; origin = x.me; index = here }) (OwnNotice one here) (without (is_release_notice one) queue) (k, OwnNotice serial i) (has_without (is_release_notice one) queue (k, OwnNotice serial i) has refl))

pub own_there : (x : PeerPart) (here : ℕ) (serials : List ℕ) (queue : Queue) (i serial : ℕ) → slice_get serials i ≡ Some serial → Has (with_own_notices x here serials queue) (record { stamp = x.clock + 1; origin = x.me; index = here + i }, OwnNotice serial (here + i))
own_there x here [] queue i serial is = absurd (cc is)
own_there x here (one ∷ rest) queue zero serial is =
    let same : one ≡ serial = cc is in
    let place : here ≡ here + 0 = omega arith in
    subst (λ n. Has (with_own_notices x here (one ∷ rest) queue) (record { stamp = x.clock + 1; origin = x.me; index = n }, OwnNotice serial n)) place
    (subst (λ n. Has (with_own_notices x here (one ∷ rest) queue) (record { stamp = x.clock + 1; origin = x.me; index = here }, OwnNotice n here)) same
    (own_stays x (here + 1) rest _ (record { stamp = x.clock + 1; origin = x.me; index = here }) one here
    (has_put_new (record { stamp = x.clock + 1; origin = x.me; index = here }) (OwnNotice one here) (without (is_release_notice one) queue))))
own_there x here (one ∷ rest) queue (suc i) serial is =
    let place : (here + 1) + i ≡ here + suc i = omega arith in
    subst (λ n. Has (with_own_notices x here (one ∷ rest) queue) (record { stamp = x.clock + 1; origin = x.me; index = n }, OwnNotice serial n)) place
    (own_there x (here + 1) rest _ i serial is)

visit_stays : (origin here : ℕ) (serials : List ℕ) (x : PeerPart) (f : Key × Entry) → Has x.queue f → Has (visited_from origin here serials x).queue f
visit_stays origin here [] x f has = has
visit_stays origin here (serial ∷ rest) x f has = visit_stays origin (here + 1) rest _ f (one (needs_notice x (record { owner = origin; serial = serial })))
  where
    one : (b : Bool) → Has (notice_by b origin x here (record { owner = origin; serial = serial })).queue f
    one true = has_put_old _ _ x.queue f has
    one false = has

drop_stays : (b : Bool) (x : PeerPart) (serial : ℕ) (f : Key × Entry) → Has x.queue f → Has (with_release_notice b x serial).queue f
drop_stays true x serial f has = has_put_old _ _ x.queue f has
drop_stays false x serial f has = has

-- ---- what is open

abbrev staged_in : Option Doing → List ℕ
staged_in doing = elim doing [ None ↦ [] | Some one ↦ doomed_of one.phase ]

abbrev waits_in : ℕ → Option Doing → Bool
waits_in me doing = elim doing [ None ↦ false | Some one ↦ phase_uncommitted me one.phase me ]

-- an answer that commits no own notices
abbrev pub NoCommit : Phase → Outcome → Type 0
NoCommit (CommittingOwn destruction stamp) out.CommitNotices = ⊥
NoCommit (CommittingNotices destruction stamp at) out.CommitNotices = ⊥
NoCommit phase outcome = ⊤

abbrev pub BeginsAt : Outcome → ℕ → ℕ → Type 0
BeginsAt (out.BeginDestroy (Ok visit) doomed) i serial = slice_get doomed i ≡ Some serial
BeginsAt outcome i serial = ⊥

-- the node was doomed at its place and waits, or the event dooms it
abbrev pub StagedBy : ℕ → Phase → Outcome → ℕ → ℕ → Type 0
StagedBy me before outcome i serial = ((slice_get (doomed_of before) i ≡ Some serial) × (phase_uncommitted me before me ≡ true) × NoCommit before outcome) ⊎ BeginsAt outcome i serial

module _ (command : Command) (me : ℕ) (before : Phase) (outcome : Outcome) (i serial : ℕ) where
  abbrev pub WasStaged : Option Doing → Type 0
  WasStaged doing = slice_get (staged_in doing) i ≡ Some serial → waits_in me doing ≡ true → StagedBy me before outcome i serial

  abbrev Turned : Turn → Type 0
  Turned t = OnTurn command WasStaged t

  pub staged_ends : (phase : Phase) → may_end phase ≡ true → WasStaged (Some (doing_in command phase)) → WasStaged None
  staged_ends phase may h = λ at. absurd (cc at)

  none_attaching : (sending : Sending) (place slot : ℕ) → Turned (Goes (attaching sending place slot))
  none_attaching sending place slot = by (nat_lt slot (length sending.begun.with)) (nat_lt 0 (length sending.begun.with) && is_place (accepted_from (place + 1) sending.places) sending.places) (accepted_from (place + 1) sending.places)
    where
      by : (b c : Bool) (next : ℕ) → Turned (Goes (cond b (Attaching sending place slot) (cond c (Attaching sending next 0) (Stamping sending))))
      by true c next = λ at. absurd (cc at)
      by false true next = λ at. absurd (cc at)
      by false false next = λ at. absurd (cc at)

  none_staging : (begun : Begun) (places : List (Option Reason)) (collected : ℕ) → Turned (staging begun places collected)
  none_staging begun places collected = by (nat_lt (length places) (length begun.to)) (is_place (accepted_from 0 places) places)
    where
      by : (b c : Bool) → Turned (cond b (Goes (Staging begun places collected)) (cond c (Goes (attaching (all_staged begun places collected) (accepted_from 0 places) 0)) (Ends (all_refused places))))
      by true c = λ at. absurd (cc at)
      by false true = none_attaching (all_staged begun places collected) (accepted_from 0 places) 0
      by false false = λ at. absurd (cc at)

  none_unstaging : (begun : Begun) (places : List (Option Reason)) (refused : Refused) (place : ℕ) → Turned (unstaging begun places refused place)
  none_unstaging begun places refused place = elim (is_place place places) as (λ b. Turned (cond b (Goes (Unstaging begun places refused place)) (Ends (answer.Refused refused)))) [
    | true ↦ λ at. absurd (cc at)
    | false ↦ λ at. absurd (cc at)
  ]

  none_place : (r : Reason) (begun : Begun) (places : List (Option Reason)) (collected : ℕ) (go_on : Bool)
      → Turned (cond go_on (staging begun (places ++ Some r ∷ []) collected) (unstaging begun (places ++ Some r ∷ []) (record { reason = r; place = Some (length places) }) (accepted_from 0 (places ++ Some r ∷ []))))
  none_place r begun places collected true = none_staging begun (places ++ Some r ∷ []) collected
  none_place r begun places collected false = none_unstaging begun (places ++ Some r ∷ []) (record { reason = r; place = Some (length places) }) (accepted_from 0 (places ++ Some r ∷ []))

  none_syncing : (sending : Sending) (stamp place : ℕ) → Turned (Goes (syncing sending stamp place))
  none_syncing sending stamp place = elim (is_place place sending.places) as (λ b. Turned (Goes (cond b (Syncing sending stamp place) (Committing sending stamp (accepted_from 0 sending.places))))) [
    | true ↦ λ at. absurd (cc at)
    | false ↦ λ at. absurd (cc at)
  ]

  in_visiting : (d : Destruction) (left : List ℕ) → (slice_get d.doomed i ≡ Some serial → StagedBy me before outcome i serial) → Turned (Goes (visiting d left))
  in_visiting d [] from = λ at waits. from at
  in_visiting d (peer ∷ rest) from = λ at waits. from at

  in_notices : (d : Destruction) (stamp at : ℕ) → (slice_get d.doomed i ≡ Some serial → StagedBy me before outcome i serial) → Turned (Goes (syncing_notices d stamp at))
  in_notices d stamp at from = elim (nat_lt at (length d.staged)) as (λ b. Turned (Goes (cond b (SyncingNotices d stamp at) (CommittingOwn d stamp)))) [ true ↦ λ there waits. from there | false ↦ λ there waits. from there ]

  in_commits : (d : Destruction) (stamp at : ℕ) → (Has d.staged me → ⊥) → Turned (committing_notices command d stamp at)
  in_commits d stamp at others = by (nat_lt at (length d.staged)) (is_flushing command)
    where
      by : (b c : Bool) → Turned (cond b (Goes (CommittingNotices d stamp at)) (cond c (Goes (Flushing (Some stamp))) (Ends (answer.Destroyed stamp))))
      by true c = λ there waits. absurd (others (drop_has at d.staged me (among_has me (drop at d.staged) waits)))
      by false true = λ there. absurd (cc there)
      by false false = λ there. absurd (cc there)

  in_destroying : (doomed visit : List ℕ) → (slice_get doomed i ≡ Some serial → StagedBy me before outcome i serial) → Turned (Goes (destroying doomed visit))
  in_destroying [] visit from = λ at. absurd (cc at)
  in_destroying (one ∷ rest) visit from = in_visiting (record { doomed = one ∷ rest; collected = 0; staged = [] }) visit from

started_staged : (command : Command) (me : ℕ) (outcome : Outcome) (i serial : ℕ) → Turned command me Starting outcome i serial (started command outcome)
started_staged command me (out.Begin (Ok begun)) i serial = λ at. absurd (cc at)
started_staged command me (out.Begin (Err r)) i serial = λ at. absurd (cc at)
started_staged command me (out.Recv got dead) i serial = λ at. absurd (cc at)
started_staged command me (out.Release (Ok owed)) i serial = λ at. absurd (cc at)
started_staged command me (out.Release (Err r)) i serial = λ at. absurd (cc at)
started_staged command me (out.BeginDestroy (Ok visit) doomed) i serial = in_destroying command me Starting (out.BeginDestroy (Ok visit) doomed) i serial doomed visit (λ at. inr at)
started_staged command me (out.BeginDestroy (Err r) doomed) i serial = λ at. absurd (cc at)
started_staged command me (out.Local got) i serial = λ at. absurd (cc at)
started_staged command me outcome i serial = λ at. absurd (cc at)

pub turn_staged : (command : Command) (me : ℕ) (phase : Phase) (outcome : Outcome) (i serial : ℕ) → (Has (staged_peers phase) me → ⊥) → Turned command me phase outcome i serial (turn me command phase outcome)
turn_staged command me Starting outcome i serial others = started_staged command me outcome i serial
turn_staged command me (Staging begun places collected) (out.Stage (Ok clock)) i serial others = none_staging command me (Staging begun places collected) (out.Stage (Ok clock)) i serial begun (places ++ None ∷ []) _
turn_staged command me (Staging begun places collected) (out.Stage (Err r)) i serial others = none_place command me (Staging begun places collected) (out.Stage (Err r)) i serial r begun places collected (send_of command).go_on
turn_staged command me (Unstaging begun places refused place) out.Unstage i serial others = none_unstaging command me (Unstaging begun places refused place) out.Unstage i serial begun places refused (accepted_from (place + 1) places)
turn_staged command me (Attaching sending place slot) (out.Attach got) i serial others = none_attaching command me (Attaching sending place slot) (out.Attach got) i serial (with_slot sending place slot got) place (slot + 1)
turn_staged command me (Stamping sending) (out.Stamp stamp) i serial others = none_syncing command me (Stamping sending) (out.Stamp stamp) i serial sending stamp (accepted_from 0 sending.places)
turn_staged command me (Syncing sending stamp place) out.Sync i serial others = none_syncing command me (Syncing sending stamp place) out.Sync i serial sending stamp (accepted_from (place + 1) sending.places)
turn_staged command me (Committing sending stamp place) (out.Commit found) i serial others = λ at. absurd (cc at)
turn_staged command me (Visiting d left) (out.Visit got) i serial others = in_visiting command me (Visiting d left) (out.Visit got) i serial (with_visit d (get_or left 0 me) got) (drop 1 left) (λ at. inl (at, refl, tt))
turn_staged command me (Dooming d) (out.StampDestroy (Ok stamp)) i serial others = in_notices command me (Dooming d) (out.StampDestroy (Ok stamp)) i serial d stamp 0 (λ at. inl (at, refl, tt))
turn_staged command me (Dooming d) (out.StampDestroy (Err late)) i serial others = in_visiting command me (Dooming d) (out.StampDestroy (Err late)) i serial d late (λ at. inl (at, refl, tt))
turn_staged command me (SyncingNotices d stamp at) out.Sync i serial others = in_notices command me (SyncingNotices d stamp at) out.Sync i serial d stamp (at + 1) (λ there. inl (there, refl, tt))
turn_staged command me (CommittingOwn d stamp) out.CommitNotices i serial others = in_commits command me (CommittingOwn d stamp) out.CommitNotices i serial d stamp 0 others
turn_staged command me (CommittingNotices d stamp at) out.CommitNotices i serial others = in_commits command me (CommittingNotices d stamp at) out.CommitNotices i serial d stamp (at + 1) others
turn_staged command me (Flushing stamp) (out.Flush dead) i serial others = λ at. absurd (cc at)
turn_staged command me phase outcome i serial others = λ at waits. inl (at, waits, tt)

-- ---- the queue while a destruction is open

module _ (o : Opening) (memory : Bool) (d : DriverPart) (command : Command) (x : PeerPart) (i serial : ℕ) (k : Key) where
  pub queue_stays : (phase : Phase) (owed : List OwedDrop) → slice_get (doomed_of phase) i ≡ Some serial → NoCommit phase (answered o memory d command phase owed x).0 → Has x.queue (k, OwnNotice serial i) → Has (answered o memory d command phase owed x).1.queue (k, OwnNotice serial i)
  queue_stays phase (one ∷ rest) at none has = drop_stays (is_released (dropped_refs x one.node.serial one.holder one.amount one.clock) one.node.serial) (dropped_refs x one.node.serial one.holder one.amount one.clock) one.node.serial (k, OwnNotice serial i) has
  queue_stays (Visiting destruction left) [] at none has = visit_stays d.me 0 destruction.doomed x (k, OwnNotice serial i) has
  queue_stays (Dooming destruction) [] at none has = subst (λ queue. Has queue (k, OwnNotice serial i)) (sym (ap (λ y. y.queue) (changes o memory (opened d command (Dooming destruction) []) (doing_in command (Dooming destruction)) act.StampDestroy x))) has
  queue_stays (SyncingNotices destruction stamp place) [] at none has = has
  queue_stays (CommittingOwn destruction stamp) [] at none has = absurd none
  queue_stays (CommittingNotices destruction stamp place) [] at none has = absurd none
  queue_stays phase [] at none has = absurd (cc at)
