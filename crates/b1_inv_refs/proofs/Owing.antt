-- Which drops an event makes its driver owe, and in which phases drops are owed.
use Rattle.std.proofs.Common.{◌≡◌, ◌⊎◌, refl, sym, ◌∙◌, inl, inr, subst, ℕ, ◌+◌, Bool, true, false, cond, List, [], ◌∷◌, ◌++◌, drop, is_some, Option, Some, None, Ok, Err}
use Rattle.b1_model.specs.declared.naming.NodeRef.{NodeRef}
use Rattle.b1_model.specs.declared.naming.Opening.{Opening}
use Rattle.b1_model.specs.declared.commands.Command.{Command}
use Rattle.b1_model.specs.declared.commands.Command.TheVariants as cmd
use Rattle.b1_model.specs.declared.commands.SendCmd.{SendCmd}
use Rattle.b1_model.specs.declared.parts.Dead.{Dead}
use Rattle.b1_model.specs.declared.answers.Answer.{Answer}
use Rattle.b1_model.specs.declared.answers.Reason.{Reason}
use Rattle.b1_model.specs.declared.events.Action.TheVariants as act
use Rattle.b1_model.specs.declared.events.Outcome.{Outcome}
use Rattle.b1_model.specs.declared.events.Outcome.TheVariants as out
use Rattle.b1_model.specs.declared.events.Phase.{Phase}
use Rattle.b1_model.specs.declared.events.Phase.TheVariants.{Starting, Staging, Unstaging, Attaching, Stamping, Syncing, Committing, Dropping, Reaping, Visiting, Dooming, SyncingNotices, CommittingOwn, CommittingNotices, Flushing}
use Rattle.b1_model.specs.declared.events.OwedDrop.{OwedDrop}
use Rattle.b1_model.specs.Names.{is_given}
use Rattle.b1_model.specs.MachineParts.{PeerPart, DriverPart}
use Rattle.b1_model.specs.MachineTables.{held_node}
use Rattle.b1_model.specs.MachineSend.{send_refusal, find_stage}
use Rattle.b1_model.specs.MachineReceive.{released_by, reaped}
use Rattle.b1_model.specs.MachineDriver.{Turn, Goes, Ends, turn, phase_action, first_action, send_of, accepted_from}
use Rattle.b1_model.specs.MachineTook.{drops_of, cancelled_drops, owed_after, is_done, answer_of, goes_by, turned}
use Rattle.b1_model.specs.MachineEvents.{happens, begin_by, stage_by, destroy_by, begin_refusal, begin_serials, number_of}
use Rattle.b1_step.specs.Rights.{Has}
use Rattle.b1_inv.specs.Words.{phase_of}
use Rattle.b1_inv.specs.References.{may_owe}
use Rattle.b1_inv_refs.proofs.Amounts.{Refs}

-- ---- new drops

-- a drop that an answer makes a driver owe
abbrev pub New : ℕ → Phase → Outcome → OwedDrop → Type 0
New me phase (out.Commit false) one = Has (cancelled_drops phase) one
New me phase (out.Reap (Some item) dead) one = Has (drops_of me item.clock item.drops) one
New me phase (out.Release (Ok given)) one = Has (drops_of me given.clock ((given.node, 1) ∷ [])) one
New me phase outcome one = ⊥

has_either : (a b : List OwedDrop) (one : OwedDrop) → Has (a ++ b) one → Has a one ⊎ Has b one
has_either [] b one h = inr h
has_either (d ∷ rest) b one (inl same) = inl (inl same)
has_either (d ∷ rest) b one (inr h) = elim (has_either rest b one h) [ inl left ↦ inl (inr left) | inr right ↦ inr right ]

has_rest : (owed : List OwedDrop) (one : OwedDrop) → Has (drop 1 owed) one → Has owed one
has_rest [] one h = absurd h
has_rest (d ∷ rest) one h = inr h

-- where nothing was owed, or the answer leaves it
pub owed_has : (me : ℕ) (phase : Phase) (owed : List OwedDrop) (outcome : Outcome) (one : OwedDrop) → Has (owed_after me phase owed outcome) one → Has owed one ⊎ New me phase outcome one
owed_has me phase owed (out.Commit false) one h = has_either owed (cancelled_drops phase) one h
owed_has me phase owed (out.Commit true) one h = inl h
owed_has me phase owed (out.Reap (Some item) dead) one h = inr h
owed_has me phase owed (out.Reap None dead) one h = inl h
owed_has me phase owed (out.Release (Ok given)) one h = inr h
owed_has me phase owed (out.Release (Err r)) one h = inl h
owed_has me phase owed out.DropRefs one h = inl (has_rest owed one h)
owed_has me phase owed outcome one h = inl h

-- a drop of references is of one of them
pub drops_has : (holder clock : ℕ) (refs : Refs) (one : OwedDrop) → Has (drops_of holder clock refs) one → (r : NodeRef × ℕ) × Has refs r × (one ≡ record { node = r.0; holder = holder; amount = r.1; clock = clock })
drops_has holder clock [] one h = absurd h
drops_has holder clock (r ∷ rest) one (inl same) = (r, inl refl, same)
drops_has holder clock (r ∷ rest) one (inr h) = let k = drops_has holder clock rest one h in (k.0, inr k.1, k.2)

-- ---- phases that may owe

abbrev pub Owing : DriverPart → Type 0
Owing d = (d.owed ≡ []) ⊎ ((phase : Phase) × (phase_of d ≡ Some phase) × (may_owe phase ≡ true))

-- nothing is owed then, or the command goes on in a phase that may owe
abbrev pub OwingThen : List OwedDrop → Turn → Type 0
OwingThen owed to = (owed ≡ []) ⊎ ((phase : Phase) × (to ≡ Goes phase) × (may_owe phase ≡ true))

goes_owing : (b : Bool) (got : Option Answer) (f : DriverPart) (command : Command) (phase : Phase) (owed : List OwedDrop) → f.owed ≡ owed → is_done owed f.told phase ≡ b → may_owe phase ≡ true → Owing (goes_by b got f command phase)
goes_owing false got f command phase owed is done may = inr (phase, refl, may)
goes_owing true None f command phase owed is done may = inr (phase, refl, may)
goes_owing true (Some got) f command phase [] is done may = inl is
goes_owing true (Some got) f command phase (one ∷ rest) is done may = absurd (cc done)

pub turned_owed : (f : DriverPart) (command : Command) (to : Turn) → (turned f command to).owed ≡ f.owed
turned_owed f command (Ends got) = refl
turned_owed f command (Goes phase) = at (is_done f.owed f.told phase) (answer_of command phase)
  where
    at : (b : Bool) (got : Option Answer) → (goes_by b got f command phase).owed ≡ f.owed
    at false got = refl
    at true None = refl
    at true (Some got) = refl

pub turned_owing : (f : DriverPart) (command : Command) (to : Turn) → OwingThen f.owed to → Owing (turned f command to)
turned_owing f command to (inl none) = inl (turned_owed f command to ∙ none)
turned_owing f command to (inr (phase, is, may)) = subst (λ z. Owing (turned f command z)) (sym is) (goes_owing (is_done f.owed f.told phase) (answer_of command phase) f command phase f.owed refl refl may)

-- ---- where nothing was owed

module _ (o : Opening) (memory : Bool) (e : DriverPart) (x : PeerPart) (command : Command) where
  -- after the event of a phase
  abbrev Then : Phase → Outcome → Type 0
  Then phase outcome = OwingThen (owed_after e.me phase [] outcome) (turn e.me command phase outcome)

  begin_then : (r : Option Reason) (b : Bool) (c : SendCmd) → Then Starting (begin_by r b c x).0
  begin_then (Some r) b c = inl refl
  begin_then None true c = inl refl
  begin_then None false c = inl refl

  destroy_then : (r : Option Reason) (doomed : List ℕ) → Then Starting (destroy_by r doomed x).0
  destroy_then (Some r) doomed = inl refl
  destroy_then None doomed = inl refl

  release_then : (b : Bool) (held : Option NodeRef) (number : ℕ) → Then Starting (out.Release (released_by b held x number))
  release_then false held number = inl refl
  release_then true None number = inl refl
  release_then true (Some node) number = inr (Dropping, refl, refl)

  stage_then : (phase : Phase) (r : Option Reason) (b : Bool) (user place serial : ℕ) (payload : List ℕ) (nodes : List NodeRef) → Then phase (stage_by r b e.me user place serial payload nodes x).0
  stage_then phase (Some r) b user place serial payload nodes = inl refl
  stage_then phase None true user place serial payload nodes = inl refl
  stage_then phase None false user place serial payload nodes = inl refl

  first_then : (c : Command) → c ≡ command → Then Starting (happens o memory e (record { command = command; phase = Starting }) (first_action c) x).0
  first_then cmd.Disconnect is = destroy_then (begin_refusal command x) (begin_serials command x)
  first_then cmd.Query is = inl refl
  first_then (cmd.Limit limits) is = inl refl
  first_then (cmd.Reset limits) is = destroy_then (begin_refusal command x) (begin_serials command x)
  first_then (cmd.Release number) is = release_then (is_given (number_of command)) (held_node (number_of command) x.handles) (number_of command)
  first_then (cmd.Destroy numbers) is = destroy_then (begin_refusal command x) (begin_serials command x)
  first_then (cmd.SliceRelease offset) is = inl refl
  first_then (cmd.Send c) is = begin_then (send_refusal x (send_of command)) memory (send_of command)
  first_then cmd.Recv is = inl refl
  first_then cmd.Await is = inl refl

  start_then : (shut : Bool) → Then Starting (happens o memory e (record { command = command; phase = Starting }) (cond shut act.Local (first_action command)) x).0
  start_then true = inl refl
  start_then false = first_then command refl

  reap_then : (got : Answer) (item : Option Dead) (left : Bool) → Then (Reaping got) (out.Reap item left)
  reap_then got None left = inl refl
  reap_then got (Some item) left = inr (Reaping got, refl, refl)

  pub phase_then : (phase : Phase) → Then phase (happens o memory e (record { command = command; phase = phase }) (phase_action e.me e.shut command phase) x).0
  phase_then Starting = start_then e.shut
  phase_then (Staging begun places collected) = stage_then (Staging begun places collected) _ memory _ _ _ _ _
  phase_then (Unstaging begun places refused place) = inl refl
  phase_then (Attaching sending place j) = inl refl
  phase_then (Stamping sending) = inl refl
  phase_then (Syncing sending stamp place) = inl refl
  phase_then (Committing sending stamp place) = at (is_some (find_stage x e.me place))
    where
      at : (b : Bool) → Then (Committing sending stamp place) (out.Commit b)
      at true = inl refl
      at false = inr (Committing sending stamp (accepted_from (place + 1) sending.places), refl, refl)
  phase_then Dropping = inl refl
  phase_then (Reaping got) = reap_then got (reaped x) _
  phase_then (Visiting destruction left) = inl refl
  phase_then (Dooming destruction) = inl refl
  phase_then (SyncingNotices destruction stamp at) = inl refl
  phase_then (CommittingOwn destruction stamp) = inl refl
  phase_then (CommittingNotices destruction stamp at) = inl refl
  phase_then (Flushing stamp) = inl refl

-- a drop leaves the phase
pub drop_stays : (me : ℕ) (command : Command) (phase : Phase) → turn me command phase out.DropRefs ≡ Goes phase
drop_stays me command Starting = refl
drop_stays me command (Staging begun places collected) = refl
drop_stays me command (Unstaging begun places refused place) = refl
drop_stays me command (Attaching sending place j) = refl
drop_stays me command (Stamping sending) = refl
drop_stays me command (Syncing sending stamp place) = refl
drop_stays me command (Committing sending stamp place) = refl
drop_stays me command Dropping = refl
drop_stays me command (Reaping got) = refl
drop_stays me command (Visiting destruction left) = refl
drop_stays me command (Dooming destruction) = refl
drop_stays me command (SyncingNotices destruction stamp at) = refl
drop_stays me command (CommittingOwn destruction stamp) = refl
drop_stays me command (CommittingNotices destruction stamp at) = refl
drop_stays me command (Flushing stamp) = refl
