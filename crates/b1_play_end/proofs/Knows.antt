-- Every step keeps what drivers know of their dead lists: the stepping driver and its own peer.
use Rattle.std.proofs.Common.{◌≡◌, ◌≢◌, ◌⊎◌, refl, sym, ap, ◌∙◌, arith, inl, inr, subst, ℕ, ◌<◌, Bool, true, false, if◌then◌else◌, ◌&&◌, List, [], ◌∷◌, Option, Some, None, Ok, Err, Result}
use Rattle.std.proofs.lemmas.Bool.{cases_eq}
use Rattle.b1_model.specs.declared.naming.Opening.{Opening}
use Rattle.b1_model.specs.declared.answers.Answer.{Answer}
use Rattle.b1_model.specs.declared.answers.Answer.TheVariants as answer
use Rattle.b1_model.specs.declared.answers.Front.{Front}
use Rattle.b1_model.specs.declared.answers.Receipt.{Receipt}
use Rattle.b1_model.specs.declared.answers.Reason.TheVariants as reason
use Rattle.b1_model.specs.declared.commands.Command.{Command}
use Rattle.b1_model.specs.declared.commands.Command.TheVariants as cmd
use Rattle.b1_model.specs.declared.commands.SendCmd.{SendCmd}
use Rattle.b1_model.specs.declared.answers.Reason.{Reason}
use Rattle.b1_model.specs.declared.parts.Owed.{Owed}
use Rattle.b1_model.specs.MachineSend.{send_refusal}
use Rattle.b1_model.specs.declared.parts.Received.{Received}
use Rattle.b1_model.specs.declared.events.Action.{Action}
use Rattle.b1_model.specs.declared.events.Action.TheVariants as act
use Rattle.b1_model.specs.declared.events.Doing.{Doing}
use Rattle.b1_model.specs.declared.events.Outcome.{Outcome}
use Rattle.b1_model.specs.declared.events.Outcome.TheVariants as out
use Rattle.b1_model.specs.declared.events.OwedDrop.{OwedDrop}
use Rattle.b1_model.specs.declared.events.Phase.{Phase}
use Rattle.b1_model.specs.declared.events.Phase.TheVariants.{Starting, Staging, Unstaging, Attaching, Stamping, Syncing, Committing, Dropping, Reaping, Visiting, Dooming, SyncingNotices, CommittingOwn, CommittingNotices, Flushing}
use Rattle.b1_model.specs.MachineParts.{PeerPart, DriverPart}
use Rattle.b1_model.specs.MachineDriver.{Turn, Goes, turn, phase_action, next_action, first_action, send_of, peer_of, recv_answer, refused_at}
use Rattle.b1_model.specs.MachineTook.{is_await, is_waiting, is_again, turned, with_facts}
use Rattle.b1_model.specs.MachineEvents.{number_of, begin_by, destroy_by, begin_refusal, begin_serials, happens, limits_after}
use Rattle.b1_model.specs.MachineReceive.{received, received_part, has_dead, reaped_part, reaped, released}
use Rattle.b1_model.specs.MachineDestroy.{flushed}
use Rattle.b1_step.specs.Rights.{Changes}
use Rattle.b1_step.proofs.Changed.{changes}
use Rattle.b1_schedule.specs.Schedule.{removed_by}
use Rattle.b1_play_end.specs.Course.{PhaseTold, OpenTold}
use Rattle.b1_play_end.proofs.Told.{IsPlain, spared_told, reaping_told, turn_spares}
use Rattle.b1_play_end.proofs.Attempts.{removed_some}
use Rattle.b1_inv_tools.proofs.Facts.{next_of, next_owed}

-- events that leave the dead list
abbrev pub spares_dead : Action → Bool
spares_dead act.Recv = false
spares_dead act.Reap = false
spares_dead act.Flush = false
spares_dead action = true

pub dead_same : (action : Action) (x y : PeerPart) → spares_dead action ≡ true → Changes action x y → y.dead ≡ x.dead
dead_same act.Rest x y is change = ap (λ z. z.dead) change
dead_same act.Begin x y is change = ap (λ z. z.dead) change
dead_same (act.Stage peer place) x y is change = ap (λ z. z.dead) change
dead_same (act.Unstage peer place) x y is change = ap (λ z. z.dead) change
dead_same (act.Attach peer serial dest) x y is change = ap (λ z. z.dead) change
dead_same act.Stamp x y is change = ap (λ z. z.dead) change
dead_same (act.Sync peer stamp) x y is change = ap (λ z. z.dead) change
dead_same (act.Commit peer place stamp) x y is change = ap (λ z. z.dead) change
dead_same (act.CommitNotices peer stamp) x y is change = ap (λ z. z.dead) change
dead_same act.Release x y is change = ap (λ z. z.dead) change
dead_same (act.DropRefs peer serial holder k clock) x y is change = ap (λ z. z.dead) change
dead_same act.BeginDestroy x y is change = ap (λ z. z.dead) change
dead_same (act.Visit peer) x y is change = ap (λ z. z.dead) change
dead_same act.StampDestroy x y is change = ap (λ z. z.dead) change
dead_same act.Local x y is change = ap (λ z. z.dead) change
dead_same act.Recv x y is change = absurd (cc is)
dead_same act.Reap x y is change = absurd (cc is)
dead_same act.Flush x y is change = absurd (cc is)

-- an AWAIT alone waits, at a front
pub waits_await : (command : Command) (got : Answer) → is_waiting command got ≡ true → is_await command ≡ true
waits_await command got is = by_flag (is_await command) is
  where
    by_flag : (b : Bool) → (b && elim got [ answer.Refused refused ↦ is_again refused.reason | other ↦ false ]) ≡ true → b ≡ true
    by_flag true is = refl
    by_flag false is = is

begin_plain : (r : Option Reason) (memory : Bool) (c : SendCmd) (x : PeerPart) → IsPlain Starting (begin_by r memory c x).0
begin_plain (Some r) memory c x = tt
begin_plain None true c x = tt
begin_plain None false c x = tt

destroy_plain : (r : Option Reason) (doomed : List ℕ) (x : PeerPart) → IsPlain Starting (destroy_by r doomed x).0
destroy_plain (Some r) doomed x = tt
destroy_plain None doomed x = tt

module _ (e : DriverPart) (doing : Doing) where
  -- how many entries the attempt removed
  abbrev pub found_by : Bool → Result Receipt Front → ℕ → Option (Front × ℕ)
  found_by b front removed = if b then elim front [ Ok receipt ↦ None | Err f ↦ Some (f, removed) ] else None

  abbrev pub with_found : Option (Front × ℕ) → DriverPart
  with_found found = record e { attempted = elim found [ None ↦ e.attempted | Some one ↦ Some one ] }

  pub attempt_removed : (got : Received) (dead : Bool) (f : Front) → is_await doing.command ≡ true → got.front ≡ Err f → removed_by (with_facts e doing (out.Recv got dead)) ≡ got.removed
  attempt_removed got dead f await is = ap (λ b. removed_by (with_found (found_by b got.front got.removed))) await ∙ ap (λ front. removed_by (with_found (found_by true front got.removed))) is

module _ (o : Opening) (memory : Bool) (e : DriverPart) (doing : Doing) (x before after : PeerPart)
    (own : (action : Action) → next_action e ≡ action → peer_of e.me action ≡ e.me → (after ≡ (happens o memory e doing action x).1) × (before ≡ x))
    (other : (action : Action) → next_action e ≡ action → peer_of e.me action ≢ e.me → after ≡ before) where
  abbrev Knows : Action → Type 0
  Knows action = OpenTold (turned (with_facts e doing (happens o memory e doing action x).0) doing.command (turn e.me doing.command doing.phase (happens o memory e doing action x).0)) after
      (turned (with_facts e doing (happens o memory e doing action x).0) doing.command (turn e.me doing.command doing.phase (happens o memory e doing action x).0)).doing

  -- the dead list stays
  stays : (action : Action) → next_action e ≡ action → spares_dead action ≡ true → after.dead ≡ before.dead
  stays action is spares = elim (cases_eq (peer_of e.me action) e.me) [
    | inl here ↦ ap (λ z. z.dead) (own action is here).0 ∙ dead_same action x (happens o memory e doing action x).1 spares (changes o memory e doing action x) ∙ ap (λ z. z.dead) (sym (own action is here).1)
    | inr apart ↦ ap (λ z. z.dead) (other action is apart)
  ]

  -- an event that doesn't give up, of a command that doesn't either
  plain_knows : (action : Action) → next_action e ≡ action → spares_dead action ≡ true → before.dead ≡ [] → IsPlain doing.phase (happens o memory e doing action x).0 → Knows action
  plain_knows action is spares none plain =
      spared_told (with_facts e doing (happens o memory e doing action x).0) after doing.command (stays action is spares ∙ none) (turn e.me doing.command doing.phase (happens o memory e doing action x).0) (turn_spares e.me doing.command doing.phase (happens o memory e doing action x).0 plain)

  -- ---- by the phase, where nothing is owed

  -- what is known after a turn, and that a turn is another one
  abbrev KnowsBy : Outcome → Turn → Type 0
  KnowsBy outcome t = OpenTold (turned (with_facts e doing outcome) doing.command t) after (turned (with_facts e doing outcome) doing.command t).doing

  by_turn : (outcome : Outcome) (t : Turn) → turn e.me doing.command doing.phase outcome ≡ t → KnowsBy outcome t → KnowsBy outcome (turn e.me doing.command doing.phase outcome)
  by_turn outcome t is known = subst (KnowsBy outcome) (sym is) known

  recv_knows : next_action e ≡ act.Recv → doing.phase ≡ Starting → before.dead ≡ [] → e.owed ≡ [] → Knows act.Recv
  recv_knows is starts none owes_none =
      by_turn outcome (Goes (Reaping (recv_answer (received x)))) (ap (λ phase. turn e.me doing.command phase outcome) starts)
      (reaping_told (with_facts e doing outcome) after doing.command (recv_answer (received x)) (ap has_dead (sym mine.0)) removed)
    where
      outcome : Outcome
      outcome = out.Recv (received x) (has_dead (received_part x))

      mine : (after ≡ received_part x) × (before ≡ x)
      mine = own act.Recv is refl

      by_front : (front : Result Receipt Front) → front ≡ (received x).front → is_waiting doing.command (elim front [ Ok receipt ↦ answer.Got receipt | Err f ↦ refused_at (reason.Again f) None ]) ≡ true → has_dead (received_part x) ≡ true → 0 < removed_by (with_facts e doing (out.Recv (received x) (has_dead (received_part x))))
      by_front (Ok receipt) same waits told = absurd (never (is_await doing.command) waits)
        where
          never : (b : Bool) → (b && false) ≡ true → ⊥
          never true is = cc is
          never false is = cc is
      by_front (Err f) same waits told =
          omega (
            arith,
            attempt_removed e doing (received x) (has_dead (received_part x)) f (waits_await doing.command (refused_at (reason.Again f) None) waits) (sym same),
            removed_some x f (sym same) (ap (λ z. z.dead) (sym mine.1) ∙ none) told,
          )

      removed : is_waiting doing.command (recv_answer (received x)) ≡ true → (has_dead (received_part x) ≡ true) ⊎ (e.owed ≢ []) → 0 < removed_by (with_facts e doing (out.Recv (received x) (has_dead (received_part x))))
      removed waits (inl told) = by_front (received x).front refl waits told
      removed waits (inr owes) = absurd (owes owes_none)

  reap_knows : (got : Answer) → next_action e ≡ act.Reap → doing.phase ≡ Reaping got → (is_waiting doing.command got ≡ true → 0 < removed_by e) → Knows act.Reap
  reap_knows got is phase removed =
      by_turn (out.Reap (reaped x) (has_dead (reaped_part x))) (Goes (Reaping got)) (ap (λ ph. turn e.me doing.command ph (out.Reap (reaped x) (has_dead (reaped_part x)))) phase)
      (reaping_told (with_facts e doing (out.Reap (reaped x) (has_dead (reaped_part x)))) after doing.command got (ap has_dead (sym (own act.Reap is refl).0)) (λ waits more. removed waits))

  flush_knows : (stamp : Option ℕ) → next_action e ≡ act.Flush → doing.phase ≡ Flushing stamp → Knows act.Flush
  flush_knows stamp is phase =
      by_turn (out.Flush (has_dead (flushed x (limits_after doing.command x.limits)))) (Goes (Reaping (answer.Reset stamp))) (ap (λ ph. turn e.me doing.command ph (out.Flush (has_dead (flushed x (limits_after doing.command x.limits))))) phase)
      (reaping_told (with_facts e doing (out.Flush (has_dead (flushed x (limits_after doing.command x.limits))))) after doing.command (answer.Reset stamp) (ap has_dead (sym (own act.Flush is refl).0)) (λ waits more. absurd (never (is_await doing.command) waits)))
    where
      never : (b : Bool) → (b && false) ≡ true → ⊥
      never true is = cc is
      never false is = cc is

  drop_knows : (got : Answer) (one : OwedDrop) → next_action e ≡ act.DropRefs one.node.owner one.node.serial one.holder one.amount one.clock → doing.phase ≡ Reaping got → e.told ≡ has_dead before → (is_waiting doing.command got ≡ true → 0 < removed_by e) → Knows (act.DropRefs one.node.owner one.node.serial one.holder one.amount one.clock)
  drop_knows got one is phase told removed =
      by_turn out.DropRefs (Goes (Reaping got)) (ap (λ ph. turn e.me doing.command ph out.DropRefs) phase)
      (reaping_told (with_facts e doing out.DropRefs) after doing.command got (told ∙ ap {B = Bool} (λ dead. elim dead [ [] ↦ false | item ∷ rest ↦ true ]) (sym (stays (act.DropRefs one.node.owner one.node.serial one.holder one.amount one.clock) is refl))) (λ waits more. removed waits))

  -- an event of a phase that doesn't give up
  plain_at : (phase : Phase) (action : Action) → doing.phase ≡ phase → next_action e ≡ action → spares_dead action ≡ true → before.dead ≡ [] → IsPlain phase (happens o memory e doing action x).0 → Knows action
  plain_at phase action at is spares none plain = plain_knows action is spares none (subst (λ ph. IsPlain ph (happens o memory e doing action x).0) (sym at) plain)

  start_knows : (shut : Bool) (command : Command) → doing.phase ≡ Starting → doing.command ≡ command → next_action e ≡ (if shut then act.Local else first_action command) → before.dead ≡ [] → e.owed ≡ [] → Knows (if shut then act.Local else first_action command)
  start_knows true command at same is none owes = plain_at Starting act.Local at is refl none tt
  start_knows false cmd.Disconnect at same is none owes = plain_at Starting act.BeginDestroy at is refl none (destroy_plain (begin_refusal doing.command x) (begin_serials doing.command x) x)
  start_knows false cmd.Query at same is none owes = plain_at Starting act.Local at is refl none tt
  start_knows false (cmd.Limit limits) at same is none owes = plain_at Starting act.Local at is refl none tt
  start_knows false (cmd.Reset limits) at same is none owes = plain_at Starting act.BeginDestroy at is refl none (destroy_plain (begin_refusal doing.command x) (begin_serials doing.command x) x)
  start_knows false (cmd.Release number) at same is none owes = plain_at Starting act.Release at is refl none (release_plain (released x (number_of doing.command)))
    where
      release_plain : (got : Result Owed Reason) → IsPlain Starting (out.Release got)
      release_plain got = tt
  start_knows false (cmd.Destroy numbers) at same is none owes = plain_at Starting act.BeginDestroy at is refl none (destroy_plain (begin_refusal doing.command x) (begin_serials doing.command x) x)
  start_knows false (cmd.SliceRelease offset) at same is none owes = plain_at Starting act.Local at is refl none tt
  start_knows false (cmd.Send c) at same is none owes = plain_at Starting act.Begin at is refl none (begin_plain (send_refusal x (send_of doing.command)) memory (send_of doing.command) x)
  start_knows false cmd.Recv at same is none owes = recv_knows is at none owes
  start_knows false cmd.Await at same is none owes = recv_knows is at none owes

  -- by the phase, where nothing is owed
  phase_knows : (phase : Phase) → doing.phase ≡ phase → next_action e ≡ phase_action e.me e.shut doing.command phase → e.owed ≡ [] → PhaseTold e before doing.command phase → Knows (phase_action e.me e.shut doing.command phase)
  phase_knows Starting at is owes held = start_knows e.shut doing.command at refl is held owes
  phase_knows (Staging nodes places collected) at is owes held = plain_at (Staging nodes places collected) _ at is refl held tt
  phase_knows (Unstaging nodes places refused place) at is owes held = plain_at (Unstaging nodes places refused place) _ at is refl held tt
  phase_knows (Attaching sending place handle) at is owes held = plain_at (Attaching sending place handle) _ at is refl held tt
  phase_knows (Stamping sending) at is owes held = plain_at (Stamping sending) act.Stamp at is refl held tt
  phase_knows (Syncing sending stamp place) at is owes held = plain_at (Syncing sending stamp place) _ at is refl held tt
  phase_knows (Committing sending stamp place) at is owes held = plain_at (Committing sending stamp place) _ at is refl held tt
  phase_knows Dropping at is owes held = plain_at Dropping act.Rest at is refl held tt
  phase_knows (Reaping got) at is owes held = reap_knows got is at held.1
  phase_knows (Visiting d left) at is owes held = plain_at (Visiting d left) _ at is refl held tt
  phase_knows (Dooming d) at is owes held = plain_at (Dooming d) act.StampDestroy at is refl held tt
  phase_knows (SyncingNotices d stamp place) at is owes held = plain_at (SyncingNotices d stamp place) _ at is refl held tt
  phase_knows (CommittingOwn d stamp) at is owes held = plain_at (CommittingOwn d stamp) _ at is refl held tt
  phase_knows (CommittingNotices d stamp place) at is owes held = plain_at (CommittingNotices d stamp place) _ at is refl held tt
  phase_knows (Flushing stamp) at is owes held = flush_knows stamp is at

  -- a drop
  owed_knows : (phase : Phase) (one : OwedDrop) → doing.phase ≡ phase → next_action e ≡ act.DropRefs one.node.owner one.node.serial one.holder one.amount one.clock → PhaseTold e before doing.command phase → Knows (act.DropRefs one.node.owner one.node.serial one.holder one.amount one.clock)
  owed_knows (Reaping got) one at is held = drop_knows got one is at held.0 held.1
  owed_knows Starting one at is held = plain_at Starting _ at is refl held tt
  owed_knows (Staging nodes places collected) one at is held = plain_at (Staging nodes places collected) _ at is refl held tt
  owed_knows (Unstaging nodes places refused place) one at is held = plain_at (Unstaging nodes places refused place) _ at is refl held tt
  owed_knows (Attaching sending place handle) one at is held = plain_at (Attaching sending place handle) _ at is refl held tt
  owed_knows (Stamping sending) one at is held = plain_at (Stamping sending) _ at is refl held tt
  owed_knows (Syncing sending stamp place) one at is held = plain_at (Syncing sending stamp place) _ at is refl held tt
  owed_knows (Committing sending stamp place) one at is held = plain_at (Committing sending stamp place) _ at is refl held tt
  owed_knows Dropping one at is held = plain_at Dropping _ at is refl held tt
  owed_knows (Visiting d left) one at is held = plain_at (Visiting d left) _ at is refl held tt
  owed_knows (Dooming d) one at is held = plain_at (Dooming d) _ at is refl held tt
  owed_knows (SyncingNotices d stamp place) one at is held = plain_at (SyncingNotices d stamp place) _ at is refl held tt
  owed_knows (CommittingOwn d stamp) one at is held = plain_at (CommittingOwn d stamp) _ at is refl held tt
  owed_knows (CommittingNotices d stamp place) one at is held = plain_at (CommittingNotices d stamp place) _ at is refl held tt
  owed_knows (Flushing stamp) one at is held = plain_at (Flushing stamp) _ at is refl held tt

  -- after the next event the driver knows of the dead list
  pub next_knows : (owed : List OwedDrop) → e.owed ≡ owed → e.doing ≡ Some doing → PhaseTold e before doing.command doing.phase → Knows (next_action e)
  next_knows [] owes is held = let next = next_of e doing is owes in subst Knows (sym next) (phase_knows doing.phase refl next owes held)
  next_knows (one ∷ rest) owes is held = let next = next_owed e doing one rest is owes in subst Knows (sym next) (owed_knows doing.phase one refl next held)
